use Rattle.std.proofs.Common.{◌≡◌, ◌<◌, ◌+◌, ◌-◌, ◌*◌, ◌%◌, ◌^◌, ◌++◌, suc, ◌∙◌, ap, arith}
use Rattle.std.proofs.lemmas.Nat.{one_shl}
use Rattle.printed_strategy.specs.StrategyText.{bits_of}
use Rattle.strategy.proofs.printing.print_bits.Goals as goal

pub loop-at-preserved : goal.loop-at-preserved
loop-at-preserved c =
    let k = c.args.count - (c.loop-at.at + 1) in
    let test = c.loop-at-test.true in
    let few : c.args.count - 1 - c.loop-at.at < 64 = omega (arith, c.requires, test) in
    let same : c.args.count - 1 - c.loop-at.at ≡ k = omega (arith, test) in
    let next : suc k ≡ c.args.count - c.loop-at.at = omega (arith, test) in
    let weight : 1 * 2 ^ (c.args.count - 1 - c.loop-at.at) % 2 ^ 64 ≡ 2 ^ k = one_shl (c.args.count - 1 - c.loop-at.at) 64 few ∙ ap (λ z. 2 ^ z) same in
    c.in_ok-rest.ensures k weight ∙ ap (λ z. c.loop-at.text ++ bits_of z c.loop-at.rest) next ∙ c.loop-at.invariant
