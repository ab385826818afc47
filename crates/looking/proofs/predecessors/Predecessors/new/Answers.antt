use Rattle.std.proofs.Common.{◌≡◌, ◌<◌, ◌∙◌, ap, arith, subst, sym, length, map}
use Rattle.std.proofs.lemmas.List.{length-map}
use Rattle.diagrams.specs.Terminals.{AreTerminals}
use Rattle.automata.specs.Table.{size_of, row_of}
use Rattle.looking.specs.Predecessors.{IsAdded}
use Rattle.looking.proofs.PredecessorLemmas.{AreListed, listed_more, terminals-within}
use Rattle.looking.proofs.predecessors.Predecessors.new.Goals as goal

pub add_to_all-requires : goal.add_to_all-requires
add_to_all-requires c =
    let s = c.args.store.now in
    let t = c.args.automaton.now in
    let at = c.loop-at.at in
    let lists = c.loop-at.lists.items in
    let targets = c.in_ok-targets.targets.items in
    let within : at < size_of t = omega (arith, c.loop-at-test.true, c.size-at-end.ensures.size) in
    let found : AreTerminals s (row_of t at) targets = subst (λ r. AreTerminals s r targets) c.row.ensures c.in_ok-targets.ensures in
    let long : length lists ≡ size_of t = sym (length-map lists (λ list. list.items)) ∙ c.loop-at.invariant.long in
    rw (c.deref.ensures.value, long) (terminals-within s (size_of t) (row_of t at) targets (c.requires at within) found)

pub loop-at-preserved : goal.loop-at-preserved
loop-at-preserved c =
    let s = c.args.store.now in
    let t = c.args.automaton.now in
    let at = c.loop-at.at in
    let old = map (λ list. list.items) c.loop-at.lists.items in
    let new = map (λ list. list.items) c.add_to_all.new.lists.items in
    let targets = c.in_ok-targets.targets.items in
    let within : at < size_of t = omega (arith, c.loop-at-test.true, c.size-at-end.ensures.size) in
    let found : AreTerminals s (row_of t at) targets = subst (λ r. AreTerminals s r targets) c.row.ensures c.in_ok-targets.ensures in
    let added : IsAdded old new targets at = subst (λ xs. IsAdded old new xs at) c.deref.ensures.value c.in_ok-add_to_all.ensures in
    listed_more s t old new at targets c.loop-at.invariant (c.requires at within) found added
