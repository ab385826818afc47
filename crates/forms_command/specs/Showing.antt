-- What `forms` says of a formula.
use Rattle.std.specs.Prelude.{ℕ, List, ◌++◌, codes, false, None}
use Rattle.forms.specs.Tree.{Formula}
use Rattle.forms.specs.Normal.{normal}
use Rattle.form_tokens.specs.declared.dialect.Dialect.{Dialect}
use Rattle.form_reader.specs.declared.fault.FormFault.{FormFault}
use Rattle.form_printer.specs.Printed.{printed}
use Rattle.command_endings.specs.declared.endings.Ending.TheVariants.{Positive}
use Rattle.command_endings.specs.declared.endings.Refusal.TheVariants as refusal
use Rattle.command_endings.specs.Replies.{Reply, refusing}
use Rattle.command_endings.specs.Tasks.{Task}
use Rattle.command_endings.specs.Formulas.{IsFormula, IsRefused, names_of}

-- the formula as it was read, and its negation normal form
abbrev pub form_lines : List (List ℕ) → Formula → List ℕ
form_lines names f = codes "form " ++ printed names f ++ codes "\nnnf " ++ printed names (normal f) ++ codes "\n"

-- the formula is refused, or its two lines are shown
pub data FormsAnswers : Dialect → List ℕ → Reply → Type 0 where
  formula_refused : {dialect : Dialect} {text : List ℕ} {fault : FormFault} →
      IsRefused dialect text fault → FormsAnswers dialect text (refusing (refusal.Formula fault))
  formula_shown : {dialect : Dialect} {text : List ℕ} (f : Formula) →
      IsFormula dialect text f → FormsAnswers dialect text (record { output = form_lines (names_of dialect text) f; ending = Positive })

-- the command as data: it reads nothing, and accepts each formula
abbrev pub forms_task : Dialect → List ℕ → Task
forms_task dialect text = record {
  file = None;
  reads = false;
  to_end = false;
  streams = false;
  may_read = λ contents. ⊥;
  accepts = λ files rest. (f : Formula) × IsFormula dialect text f;
  answers = λ files rest. FormsAnswers dialect text;
}
