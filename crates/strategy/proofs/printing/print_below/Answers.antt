use Rattle.std.proofs.Common.{◌≡◌, ◌<◌, ◌++◌, sym, ◌∙◌, ap, subst, arith, length, None, Some}
use Rattle.std.specs.Prelude.{OnOk, codes}
use Rattle.diagrams.specs.declared.top.Id.{Id}
use Rattle.diagrams.specs.Eval.{DependsOn, eval, id_at, letter_truth}
use Rattle.game.specs.Board.{width}
use Rattle.printed_strategy.specs.CubeLines.{function_lines}
use Rattle.printed_strategy.specs.StrategyText.{target_text, choice_text, bits_text}
use Rattle.strategy.specs.Listing.{AreTold}
use Rattle.strategy.specs.Plan.{size_of, choice_at, choice_of, target_at, answer_at}
use Rattle.strategy.proofs.NumberLemmas.{same-within}
use Rattle.strategy.proofs.FieldsLemmas.{told-round, told-move, told-answer}
use Rattle.strategy.proofs.BelowLemmas.{below-none, below-some}
use Rattle.strategy.proofs.printing.print_below.Goals as goal

pub print_list-requires-clause-told : goal.print_list-requires-clause-told
print_list-requires-clause-told c =
    let k = c.args.strategy.now in
    let at = c.args.at in
    let within : at < length k.rows.items = let e = c.requires.fits.rows in omega (arith, c.requires.at, e) in
    let same : c.index.result.now ≡ id_at k.rows.items at = c.index.ensures ∙ same-within k.rows.items at c.index.result.now (record { 0 = 0 }) within in
    subst (λ (z : Id). AreTold (λ v. target_text (target_at (size_of k) v)) (eval c.args.store.now z)) (sym same) (told-round c.args.store.now k at (c.requires.fits.each at c.requires.at))

pub print_list-requires-2-clause-told : goal.print_list-requires-2-clause-told
print_list-requires-2-clause-told c =
    let k = c.args.strategy.now in
    let at = c.args.at in
    let within : at < length k.moves.items = let e = c.requires.fits.moves in omega (arith, c.requires.at, e) in
    let same : c.index-2.result.now ≡ id_at k.moves.items at = c.index-2.ensures ∙ same-within k.moves.items at c.index-2.result.now (record { 0 = 0 }) within in
    subst (λ (z : Id). AreTold (λ v. choice_text k.partition.outputs (choice_of (choice_at k v))) (eval c.args.store.now z)) (sym same)
    (told-move c.args.store.now k at c.requires.fits.distinct (c.requires.fits.each at c.requires.at))

pub print_list-requires-in-Some-clause-over : goal.print_list-requires-in-Some-clause-over
print_list-requires-in-Some-clause-over c =
    let k = c.args.strategy.now in
    let at = c.args.at in
    let within : at < length k.answers.items = let e = c.requires.fits.answers in omega (arith, c.requires.at, e) in
    let there : answer_at k at ≡ Some c.in-Some.id = sym (c.index-3.ensures ∙ same-within k.answers.items at c.index-3.result.now None within) ∙ c.in-Some.is in
    subst (λ z. DependsOn c.args.store.now c.in-Some.id (λ v. v < z)) (sym c.shown_width.ensures) ((c.requires.fits.each at c.requires.at).table c.in-Some.id there).over

pub print_list-requires-in-Some-clause-told : goal.print_list-requires-in-Some-clause-told
print_list-requires-in-Some-clause-told c =
    let k = c.args.strategy.now in
    let at = c.args.at in
    let within : at < length k.answers.items = let e = c.requires.fits.answers in omega (arith, c.requires.at, e) in
    let there : answer_at k at ≡ Some c.in-Some.id = sym (c.index-3.ensures ∙ same-within k.answers.items at c.index-3.result.now None within) ∙ c.in-Some.is in
    told-answer c.args.store.now k.partition.inputs c.in-Some.id ((c.requires.fits.each at c.requires.at).table c.in-Some.id there).inputs

pub returns-in-None : goal.returns-in-None
returns-in-None c =
    let s = c.args.store.now in
    let k = c.args.strategy.now in
    let at = c.args.at in
    let text = c.args.text.now in
    let count = c.decision_width.result in
    let fits = c.requires.fits.each at c.requires.at in
    let in_rows : at < length k.rows.items = let e = c.requires.fits.rows in omega (arith, c.requires.at, e) in
    let in_moves : at < length k.moves.items = let e = c.requires.fits.moves in omega (arith, c.requires.at, e) in
    let in_answers : at < length k.answers.items = let e = c.requires.fits.answers in omega (arith, c.requires.at, e) in
    let row : c.index.result.now ≡ id_at k.rows.items at = c.index.ensures ∙ same-within k.rows.items at c.index.result.now (record { 0 = 0 }) in_rows in
    let move : c.index-2.result.now ≡ id_at k.moves.items at = c.index-2.ensures ∙ same-within k.moves.items at c.index-2.result.now (record { 0 = 0 }) in_moves in
    let none : answer_at k at ≡ None = sym (c.index-3.ensures ∙ same-within k.answers.items at c.index-3.result.now None in_answers) ∙ c.in-None.is in
    c.in_ok-print_list-2.ensures
    ∙ ap (λ (z : Id). c.print_list.new.text ++ function_lines (codes "move") count (λ n. choice_text k.partition.outputs (choice_of (choice_at k (eval s z (letter_truth count n)))))) move
    ∙ ap (λ z. z ++ function_lines (codes "move") count (λ n. choice_text k.partition.outputs (choice_of (choice_at k (eval s (id_at k.moves.items at) (letter_truth count n))))))
    (c.in_ok-print_list.ensures
    ∙ ap (λ (z : Id). text ++ function_lines (codes "round") (width k.partition) (λ n. target_text (target_at (size_of k) (eval s z (letter_truth (width k.partition) n))))) row)
    ∙ below-none s k at count text c.requires.goal fits none c.decision_width.ensures

pub returns-in-Some : goal.returns-in-Some
returns-in-Some c =
    let s = c.args.store.now in
    let k = c.args.strategy.now in
    let at = c.args.at in
    let text = c.args.text.now in
    let count = c.decision_width.result in
    let shown = c.shown_width.result in
    let id = c.in-Some.id in
    let fits = c.requires.fits.each at c.requires.at in
    let in_rows : at < length k.rows.items = let e = c.requires.fits.rows in omega (arith, c.requires.at, e) in
    let in_moves : at < length k.moves.items = let e = c.requires.fits.moves in omega (arith, c.requires.at, e) in
    let in_answers : at < length k.answers.items = let e = c.requires.fits.answers in omega (arith, c.requires.at, e) in
    let row : c.index.result.now ≡ id_at k.rows.items at = c.index.ensures ∙ same-within k.rows.items at c.index.result.now (record { 0 = 0 }) in_rows in
    let move : c.index-2.result.now ≡ id_at k.moves.items at = c.index-2.ensures ∙ same-within k.moves.items at c.index-2.result.now (record { 0 = 0 }) in_moves in
    let there : answer_at k at ≡ Some id = sym (c.index-3.ensures ∙ same-within k.answers.items at c.index-3.result.now None in_answers) ∙ c.in-Some.is in
    let before = c.in_ok-print_list-2.ensures
    ∙ ap (λ (z : Id). c.print_list.new.text ++ function_lines (codes "move") count (λ n. choice_text k.partition.outputs (choice_of (choice_at k (eval s z (letter_truth count n)))))) move
    ∙ ap (λ z. z ++ function_lines (codes "move") count (λ n. choice_text k.partition.outputs (choice_of (choice_at k (eval s (id_at k.moves.items at) (letter_truth count n))))))
    (c.in_ok-print_list.ensures
    ∙ ap (λ (z : Id). text ++ function_lines (codes "round") (width k.partition) (λ n. target_text (target_at (size_of k) (eval s z (letter_truth (width k.partition) n))))) row) in
    subst (λ z. OnOk c.print_list-in-Some.result (c.print_list-in-Some.new.text ≡ z))
    (ap (λ z. z ++ function_lines (codes "answer") shown (λ n. bits_text k.partition.inputs (eval s id (letter_truth shown n)))) before
    ∙ below-some s k at count shown id text c.requires.goal fits there c.decision_width.ensures c.shown_width.ensures)
    c.print_list-in-Some.ensures
