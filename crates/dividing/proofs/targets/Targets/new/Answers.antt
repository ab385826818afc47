use Rattle.std.proofs.Common.{◌+◌, ◌∷◌, [], ◌∙◌, ap, length-append}
use Rattle.automata.specs.Table.{size_of, row_of}
use Rattle.dividing.specs.Divisions.{AreTargets}
use Rattle.dividing.proofs.DivisionLemmas.{lists_next}
use Rattle.dividing.proofs.targets.Targets.new.Goals as goal

pub loop-at-preserved : goal.loop-at-preserved
loop-at-preserved c =
    let s = c.args.store.now in
    let t = c.args.automaton.now in
    let lists = c.loop-at.lists.items in
    let list = c.in_ok-targets_of.field-0 in
    let v = c.loop-at.invariant in
    rw (c.in_ok-push.ensures.items)
    (record {
      number = length-append lists (list ∷ []) ∙ ap (λ z. z + 1) v.number;
      each = lists_next (λ xs. xs.items) (λ at xs. AreTargets s (size_of t) (row_of t at) xs) lists c.loop-at.at list v.number v.each c.in_ok-targets_of.ensures;
    })
