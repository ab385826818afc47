use Rattle.std.proofs.Common.{◌≡◌, ◌<◌, sym, ◌∙◌, ap, true≢false, length, arith}
use Rattle.std.specs.Prelude.{is_some}
use Rattle.diagrams.specs.declared.top.Id.{Id}
use Rattle.diagrams.specs.Eval.{eval, id_at, letter_truth}
use Rattle.strategy.specs.Plan.{choice_at, chosen_at, choice_of}
use Rattle.strategy.proofs.LetterLemmas.{chosen-by}
use Rattle.strategy.proofs.NumberLemmas.{same-within}
use Rattle.strategy.proofs.strategy.Strategy.answer.Goals as goal

pub returns-in-Some : goal.returns-in-Some
returns-in-Some c =
    let s = c.args.store.now in
    let k = c.args.self.now in
    let at = c.args.at in
    let within : at < length k.moves.items = let e = c.requires.fits.moves in omega (arith, c.requires.at, e) in
    let same : c.index.result.now ≡ id_at k.moves.items at = c.index.ensures ∙ same-within k.moves.items at c.index.result.now (record { 0 = 0 }) within in
    let whole : c.choice.result ≡ chosen_at s k at c.args.input =
    c.choice.ensures ∙ ap (choice_at k) (c.value-number.ensures ∙ ap (λ (z : Id). eval s z (letter_truth s.props c.letter_of-letter.result)) same)
    ∙ chosen-by s k c.requires.fits at c.args.input c.letter_of-letter.result c.requires.at c.letter_of-letter.ensures.same in
    ap choice_of (sym whole ∙ c.in-Some.is)

pub returns-in-None : goal.returns-in-None
returns-in-None c =
    let s = c.args.store.now in
    let k = c.args.self.now in
    let at = c.args.at in
    let within : at < length k.moves.items = let e = c.requires.fits.moves in omega (arith, c.requires.at, e) in
    let same : c.index.result.now ≡ id_at k.moves.items at = c.index.ensures ∙ same-within k.moves.items at c.index.result.now (record { 0 = 0 }) within in
    let whole : c.choice.result ≡ chosen_at s k at c.args.input =
    c.choice.ensures ∙ ap (choice_at k) (c.value-number.ensures ∙ ap (λ (z : Id). eval s z (letter_truth s.props c.letter_of-letter.result)) same)
    ∙ chosen-by s k c.requires.fits at c.args.input c.letter_of-letter.result c.requires.at c.letter_of-letter.ensures.same in
    absurd (true≢false (sym c.requires.legal ∙ ap (λ o. is_some (choice_of o)) (sym whole ∙ c.in-None.is)))
