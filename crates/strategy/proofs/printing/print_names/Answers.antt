use Rattle.std.proofs.Common.{◌≡◌, ◌≤◌, ◌+◌, ◌-◌, ◌++◌, [], suc, sym, ◌∙◌, ap, arith, append_assoc}
use Rattle.std.specs.Prelude.{codes, slice_index_or}
use Rattle.strategy.specs.Listing.{spaced_from}
use Rattle.strategy.proofs.printing.print_names.Goals as goal

pub loop-at-preserved : goal.loop-at-preserved
loop-at-preserved c =
    let names = c.args.names.now.names in
    let old = c.args.text.now in
    let count = c.loop-at.at - c.args.from in
    let front = spaced_from names c.args.from count in
    let item = slice_index_or names (c.args.from + count) [] in
    let after : c.args.from ≤ c.loop-at.at = c.loop-at.auto.at in
    let place : c.args.from + count ≡ c.loop-at.at = omega (arith, after) in
    let next : c.loop-at.at + 1 - c.args.from ≡ suc count = omega (arith, after) in
    c.in_ok-push-2.ensures.ok
    ∙ ap (λ z. z ++ c.name.result.now) (c.in_ok-push.ensures.ok ∙ ap (λ z. z ++ codes " ") c.loop-at.invariant)
    ∙ ap (λ z. ((old ++ front) ++ codes " ") ++ z) (c.name.ensures ∙ ap (λ k. slice_index_or names k []) (sym place))
    ∙ ap (λ z. z ++ item) (append_assoc old front (codes " ")) ∙ append_assoc old (front ++ codes " ") item
    ∙ ap (λ z. old ++ spaced_from names c.args.from z) (sym next)
