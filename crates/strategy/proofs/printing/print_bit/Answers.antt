use Rattle.std.proofs.Common.{[], ◌∷◌, ◌<◌, ◌≤◌, ◌-◌, ◌++◌, ◌∙◌, ap, subst}
use Rattle.printed_strategy.specs.StrategyText.{bits_of}
use Rattle.strategy.proofs.FieldsLemmas.{bit-low, bit-high}
use Rattle.strategy.proofs.printing.print_bit.Goals as goal

pub returns-then-number-weight : goal.returns-then-number-weight
returns-then-number-weight c k e =
    ap (λ z. z ++ bits_of k c.args.number) c.in_ok-push.ensures.ok ∙ bit-low k c.args.text.now c.args.number (subst (λ w. c.args.number < w) e c.if-number-weight.true)

pub returns : goal.returns
returns c k e =
    ap (λ z. z ++ bits_of k (c.args.number - c.args.weight)) c.in_ok-push-2.ensures.ok
    ∙ ap (λ w. (c.args.text.now ++ 49 ∷ []) ++ bits_of k (c.args.number - w)) e ∙ bit-high k c.args.text.now c.args.number (subst (λ w. w ≤ c.args.number) e c.if-number-weight.false)
