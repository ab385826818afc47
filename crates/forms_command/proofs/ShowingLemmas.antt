-- A formula is shown in one way.
use Rattle.std.proofs.Common.{◌≡◌, ◌<◌, ℕ, List, [], ap, lit≤}
use Rattle.forms.specs.Tree.{Formula}
use Rattle.form_tokens.specs.declared.dialect.Dialect.{Dialect}
use Rattle.command_endings.specs.declared.endings.Ending.TheVariants.{Positive}
use Rattle.command_endings.specs.declared.endings.Refusal.TheVariants as refusal
use Rattle.command_endings.specs.Endings.{status_of}
use Rattle.command_endings.specs.Formulas.{IsFormula, names_of}
use Rattle.command_endings.specs.Replies.{Reply, refusing}
use Rattle.command_endings.proofs.FormulaLemmas.{one-formula, formula-or-fault}
use Rattle.forms_command.specs.Showing.{FormsAnswers, formula_refused, formula_shown, form_lines}

-- the two lines of a formula are not empty
pub form_lines-some : (names : List (List ℕ)) (f : Formula) → form_lines names f ≡ [] → ⊥
form_lines-some names f e = cc

-- a formula is shown in one way
pub one-showing : {dialect : Dialect} {text : List ℕ} {c d : Reply} → FormsAnswers dialect text c → FormsAnswers dialect text d → c ≡ d
one-showing (formula_refused {fault = x} a) (formula_refused {fault = y} b) =
    let same : x ≡ y = cc in ap (λ z. refusing (refusal.Formula z)) same
one-showing {dialect} {text} (formula_refused a) (formula_shown g b) = absurd (formula-or-fault dialect text _ _ b a)
one-showing {dialect} {text} (formula_shown f a) (formula_refused b) = absurd (formula-or-fault dialect text _ _ a b)
one-showing {dialect} {text} (formula_shown f a) (formula_shown g b) =
    ap (λ z. record { output = form_lines (names_of dialect text) z; ending = Positive }) (one-formula dialect text f g a b)

-- a text that is a formula is answered
pub shown : {dialect : Dialect} {text : List ℕ} {reply : Reply} → (f : Formula) × IsFormula dialect text f → FormsAnswers dialect text reply → status_of reply.ending < 2
shown {dialect} {text} (f, is) (formula_refused {fault = x} a) = absurd (formula-or-fault dialect text f x is a)
shown is (formula_shown g b) = lit≤ tt
