-- A text is one formula, or it is refused.
use Rattle.std.proofs.Common.{◌≡◌, ℕ, false, List, [], Ok, ap, refl}
use Rattle.forms.specs.Tree.{Formula}
use Rattle.form_tokens.specs.declared.dialect.Dialect.{Dialect}
use Rattle.form_reader.specs.declared.fault.FormFault.{FormFault}
use Rattle.form_reader.specs.declared.fault.FormFault.TheVariants as form
use Rattle.form_reader.specs.Blames.{Blames}
use Rattle.form_reader.specs.Machine.{Due}
use Rattle.form_reader.specs.Outcome.{outcome, stage_of}
use Rattle.form_tokens.specs.Spelling.{lexemes}
use Rattle.form_reader.proofs.Outcomes.{outcome-only, outcome-first_fault, fault_of}
use Rattle.command_endings.specs.Formulas.{IsFormula, IsRefused, EndsAtFormula, fault_ending}

reads : (dialect : Dialect) (text : List ℕ) (f : Formula) → IsFormula dialect text f → outcome false (stage_of [] 0 (Due [])) (lexemes dialect text) ≡ Ok f
reads dialect text f a = outcome-only false [] (lexemes dialect text) f a

-- a text is one formula
pub one-formula : (dialect : Dialect) (text : List ℕ) (f g : Formula) → IsFormula dialect text f → IsFormula dialect text g → f ≡ g
one-formula dialect text f g a b = let p = reads dialect text f a in let q = reads dialect text g b in cc

-- a formula's text is not refused
pub formula-or-fault : (dialect : Dialect) (text : List ℕ) (f : Formula) (fault : FormFault) → IsFormula dialect text f → IsRefused dialect text fault → ⊥
formula-or-fault dialect text f fault a b =
    let none = ap fault_of (reads dialect text f a) in
    let first = outcome-first_fault false (stage_of [] 0 (Due [])) (lexemes dialect text) tt in
    cc

-- a refusal of the reader of formulas is one of the run
pub ends-at-formula : (dialect : Dialect) (text : List ℕ) (fault : FormFault) → Blames fault (IsRefused dialect text fault) → EndsAtFormula dialect text (fault_ending fault)
ends-at-formula dialect text (form.BadByte at) h = (form.BadByte at, refl, h)
ends-at-formula dialect text (form.Unexpected at) h = (form.Unexpected at, refl, h)
ends-at-formula dialect text form.Unfinished h = (form.Unfinished, refl, h)
ends-at-formula dialect text (form.TooDeep at) h = (form.TooDeep at, refl, h)
ends-at-formula dialect text (form.TooManyTokens at) h = (form.TooManyTokens at, refl, h)
ends-at-formula dialect text (form.TooManyNames at) h = (form.TooManyNames at, refl, h)
ends-at-formula dialect text (form.Undeclared at) h = (form.Undeclared at, refl, h)
ends-at-formula dialect text form.Memory h = tt
