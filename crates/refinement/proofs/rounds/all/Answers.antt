use Rattle.std.proofs.Common.{◌≡◌, ◌++◌, [], ◌∷◌, arith, sym, ◌∙◌, ap}
use Rattle.std.specs.List.{range_with_len}
use Rattle.refinement.proofs.Starting.{range_push}
use Rattle.refinement.proofs.rounds.all.Goals as goal

pub loop-at-preserved : goal.loop-at-preserved
loop-at-preserved c = c.in_ok-push.ensures.items ∙ ap (λ xs. xs ++ c.loop-at.at ∷ []) c.loop-at.invariant ∙ sym (range_push c.loop-at.at)

pub returns : goal.returns
returns c =
    let end : c.loop-at.at ≡ c.args.size = (let a = c.loop-at-test.false in let b = c.loop-at.auto.at-end in omega (arith, a, b)) in
    c.loop-at.invariant ∙ ap (range_with_len 0) end
