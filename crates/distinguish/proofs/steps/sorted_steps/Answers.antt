use Rattle.std.proofs.lemmas.List.Filters.{dedup_is}
use Rattle.std.proofs.lemmas.List.Kept.{Contains-dedup, Contains-from_dedup, IsStrictlySortedBy-dedup}
use Rattle.std.proofs.lemmas.List.Sorted.{Contains-permutation, IsPermutation-sym}
use Rattle.automata.specs.Table.{size_of, moves_of}
use Rattle.distinguish.specs.contracts.steps.StepEq.TheImpl.Laws as eq_laws
use Rattle.distinguish.specs.contracts.steps.StepOrd.TheImpl.Laws as ord_laws
use Rattle.distinguish.proofs.StepLemmas.{steps_moved}
use Rattle.distinguish.proofs.RoundLemmas.{step_same}
use Rattle.distinguish.proofs.steps.sorted_steps.Goals as goal

pub returns-clause-steps : goal.returns-clause-steps
returns-clause-steps c =
    let s = c.args.store.now in
    let t = c.args.automaton.now in
    let g = c.args.refinement.now in
    let is = dedup_is _ _ _ c.dedup.ensures.filtered in
    let moved = c.sort_unstable.ensures.permutation in
    steps_moved s.props (moves_of s t) g.blocks.items c.args.next.now g.words (size_of t) c.in_ok-steps.steps.items c.dedup.new.self.items
    (λ x h. rw is (Contains-dedup eq_laws.laws-law step_same _ x (Contains-permutation _ _ x moved h)))
    (λ x h. Contains-permutation _ _ x (IsPermutation-sym _ _ moved) (Contains-from_dedup _ _ x (rw is at h)))
    c.in_ok-steps.ensures

pub returns-clause-order : goal.returns-clause-order
returns-clause-order c =
    rw (dedup_is _ _ _ c.dedup.ensures.filtered) (IsStrictlySortedBy-dedup ord_laws.total-law ord_laws.matches_eq-law _ c.sort_unstable.ensures.sorted)
