use Rattle.std.proofs.Common.{◌<◌, ◌-◌, ◌^◌, ◌∙◌, sym, refl, length, arith}
use Rattle.choosing.proofs.Numbered.{numbered_same, numbered_push, numbered_insert}
use Rattle.choosing.proofs.below.Below.place.Goals as goal

pub returns-in-Some-clause-within : goal.returns-in-Some-clause-within
returns-in-Some-clause-within c = rw (← c.self.view_is) ((c.self.invariant.found c.args.diagram c.in-Some.at.now (sym c.in-Some.ensures.value)).0)

pub invariant_of-self : goal.invariant_of-self
invariant_of-self c = numbered_same c.self.inside _ c.self.invariant c.in_err-push.ensures.items (λ i. refl)

pub invariant_of-self-in_err-insert : goal.invariant_of-self-in_err-insert
invariant_of-self-in_err-insert c =
    let at = c.len-at.ensures ∙ c.self.inside.diagrams.ok.0 in
    let few : length c.self.inside.diagrams.items < 2 ^ 32 - 2 = omega (arith, c.if-at-ge-MOST_DIAGRAMS.false, at) in
    numbered_push c.self.inside _ c.args.diagram c.self.invariant few c.in_ok-push.ensures.items c.in_err-insert.ensures.err

pub invariant_of-self-2 : goal.invariant_of-self-2
invariant_of-self-2 c =
    let at = c.len-at.ensures ∙ c.self.inside.diagrams.ok.0 in
    let few : length c.self.inside.diagrams.items < 2 ^ 32 - 2 = omega (arith, c.if-at-ge-MOST_DIAGRAMS.false, at) in
    numbered_insert c.self.inside _ c.args.diagram c.len-at.result c.self.invariant few c.in_ok-push.ensures.items at c.in_ok-insert.ensures.updates.0
