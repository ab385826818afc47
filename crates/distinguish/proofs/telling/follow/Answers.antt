use Rattle.std.proofs.Common.{◌≡◌, ◌<◌, ◌∷◌, [], sym, ◌∙◌, ap, arith, length}
use Rattle.std.specs.Prelude.{slice_index_or}
use Rattle.std.proofs.lemmas.List.{get_or_read}
use Rattle.std.proofs.lemmas.Option.{get_or_from_slice_get}
use Rattle.automata.specs.Table.{moves_of}
use Rattle.distinguish.specs.Steps.{word_of}
use Rattle.distinguish.proofs.ColumnLemmas.{columns_more, column_after}
use Rattle.distinguish.proofs.telling.follow.Goals as goal

pub returns-clause-columns : goal.returns-clause-columns
returns-clause-columns c =
    let s = c.args.store.now in
    let t = c.args.automaton.now in
    let words = c.args.words.now in
    let columns = c.args.columns.now.items in
    let step = c.args.step in
    let rest : slice_index_or words step.rest [] ≡ c.item.result.now = get_or_from_slice_get words step.rest c.item.result.now [] c.item.ensures in
    let word : c.in_ok-word.word ≡ word_of words step = c.in_ok-word.ensures ∙ ap (λ w. step.letter ∷ w) (sym rest) in
    let within : step.rest < length columns = omega (arith, c.requires.columns.size, c.requires.step.rest) in
    let old = get_or_read columns step.rest c.index.result.now within c.index.ensures [] in
    rw (c.in_ok-push.ensures.ok, word, c.in_ok-push-2.ensures.items)
    (columns_more (moves_of s t) words columns (word_of words step) c.in_ok-column.column c.requires.columns
    (column_after s t words columns step c.index.result.now c.in_ok-column.column c.requires.fits c.requires.step c.requires.columns old c.in_ok-column.ensures.size c.in_ok-column.ensures.marks))
