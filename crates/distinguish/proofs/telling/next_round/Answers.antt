use Rattle.std.proofs.Common.{◌≡◌, ◌++◌, ◌==◌, ℕ, List, true, sym, ◌∙◌, ap, subst, arith, length, map}
use Rattle.std.proofs.lemmas.Bool.Decides.{nat_tests}
use Rattle.diagrams.proofs.Meaning.{Keeps_refl}
use Rattle.automata.specs.Table.{size_of, moves_of}
use Rattle.dividing.specs.Divisions.{AreBlockRows, IsDivision}
use Rattle.dividing.proofs.DivisionLemmas.{rows_now}
use Rattle.distinguish.specs.Columns.{AreColumns}
use Rattle.distinguish.specs.Rounds.{IsDividedByWords}
use Rattle.distinguish.specs.Steps.{word_of, AreStepsOf}
use Rattle.distinguish.proofs.NextLemmas.{words_last, next_more, next_stable, next_follow}
use Rattle.distinguish.proofs.telling.next_round.Goals as goal

empty_length : {A : Type 0} → (xs : List A) (n : ℕ) → length xs ≡ n → (n == 0) ≡ true → length xs ≡ 0
empty_length xs n e q = grind (arith, nat_tests, e, q)

pub returns-then-is_empty-clause-stable : goal.returns-then-is_empty-clause-stable
returns-then-is_empty-clause-stable c =
    let s = c.args.store.now in
    let t = c.args.automaton.now in
    let g = c.args.refinement.now in
    let next = c.in_ok-next.next.items in
    let division = subst (λ xs. IsDivision t xs next) c.deref.ensures.value c.in_ok-next.ensures in
    let steps = subst (λ xs. AreStepsOf s t g xs c.in_ok-steps.steps.items) c.deref-3.ensures.value c.in_ok-steps.ensures.steps in
    let none : length c.in_ok-steps.steps.items ≡ 0 = empty_length c.in_ok-steps.steps.items _ (sym c.in_ok-steps.steps.ok.0) (sym c.is_empty.ensures ∙ c.if-is_empty.true) in
    λ e. next_stable s s t g.blocks.items g.words g.columns.items c.args.rows.now.items next (Keeps_refl s c.props.ensures.canonical) c.requires.fits c.requires.refinement c.requires.rows division
    c.in_ok-steps.steps.items steps c.in_ok-steps.ensures.order none

pub extend-requires-clause-steps : goal.extend-requires-clause-steps
extend-requires-clause-steps c =
    let s = c.args.store.now in
    let t = c.args.automaton.now in
    let g = c.args.refinement.now in
    let next = c.in_ok-next.next.items in
    let division = subst (λ xs. IsDivision t xs next) c.deref.ensures.value c.in_ok-next.ensures in
    let steps = subst (λ xs. AreStepsOf s t g xs c.in_ok-steps.steps.items) c.deref-3.ensures.value c.in_ok-steps.ensures.steps in
    rw (c.deref-4.ensures.value)
    (next_follow s s t g.blocks.items g.words g.columns.items c.args.rows.now.items next (Keeps_refl s c.props.ensures.canonical) c.requires.fits c.requires.refinement c.requires.rows division
    c.in_ok-steps.steps.items steps)

pub returns-clause-refinement : goal.returns-clause-refinement
returns-clause-refinement c =
    let s = c.args.store.now in
    let t = c.args.automaton.now in
    let g = c.args.refinement.now in
    let next = c.in_ok-next.next.items in
    let list = c.in_ok-steps.steps.items in
    let columns = c.extend.new.columns.items in
    let division = subst (λ xs. IsDivision t xs next) c.deref.ensures.value c.in_ok-next.ensures in
    let steps = subst (λ xs. AreStepsOf s t g xs list) c.deref-3.ensures.value c.in_ok-steps.ensures.steps in
    let words : c.extend.new.words ≡ g.words ++ map (word_of g.words) list =
    c.in_ok-extend.ensures.words ∙ ap (λ xs. g.words ++ map (word_of g.words) xs) c.deref-4.ensures.value in
    let marks = subst (λ ws. AreColumns (moves_of s t) ws columns) words c.in_ok-extend.ensures.columns in
    words_last s c.renewed_rows.new.store t next c.extend.new.words columns c.in_ok-rows.ensures.keeps c.requires.fits
    (subst (λ ws. IsDividedByWords s.props (moves_of s t) next ws columns) (sym words)
    (next_more s s t g.blocks.items g.words g.columns.items c.args.rows.now.items next (Keeps_refl s c.props.ensures.canonical) c.requires.fits c.requires.refinement c.requires.rows division
    list columns steps c.in_ok-steps.ensures.order marks))

pub returns-clause-rows : goal.returns-clause-rows
returns-clause-rows c =
    let s = c.args.store.now in
    let n = c.renewed_rows.new.store in
    let t = c.args.automaton.now in
    let next = c.in_ok-next.next.items in
    let after = c.in_ok-rows.field-0.items in
    rows_now s n t next after c.in_ok-rows.ensures.keeps c.requires.fits
    (subst (λ bs. AreBlockRows s n t bs after (size_of t)) c.deref-6.ensures.value c.in_ok-rows.ensures.rows)
