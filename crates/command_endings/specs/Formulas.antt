-- The formula that a text is, and what reading it says of a run.
use Rattle.std.specs.Prelude.{◌≡◌, ℕ, List, [], Some, false}
use Rattle.forms.specs.Tree.{Formula}
use Rattle.form_tokens.specs.declared.dialect.Dialect.{Dialect}
use Rattle.form_reader.specs.declared.fault.FormFault.{FormFault}
use Rattle.form_reader.specs.declared.fault.FormFault.TheVariants as form
use Rattle.form_tokens.specs.Names.{Table}
use Rattle.form_reader.specs.Reading.{IsFormulaOf, refusal as first_refusal, names_of as names_after}
use Rattle.command_endings.specs.declared.endings.Ending.{Ending}
use Rattle.command_endings.specs.declared.endings.Ending.TheVariants.{Refused, NoMemory}
use Rattle.command_endings.specs.declared.endings.Refusal.TheVariants as refusal

-- a table that has no names yet and takes new ones
abbrev pub no_names : Table
no_names = record { names = []; closed = false }

-- the text is a formula over names of its own
abbrev pub IsFormula : Dialect → List ℕ → Formula → Type 0
IsFormula dialect text f = IsFormulaOf dialect no_names text f

-- the names of the formula in order of first use
abbrev pub names_of : Dialect → List ℕ → List (List ℕ)
names_of dialect text = names_after dialect no_names text

-- the text is refused as a formula
abbrev pub IsRefused : Dialect → List ℕ → FormFault → Type 0
IsRefused dialect text fault = first_refusal dialect no_names text ≡ Some fault

-- reading a formula ends a run: a refusal at its place, or want of memory
abbrev pub fault_ending : FormFault → Ending
fault_ending form.Memory = NoMemory
fault_ending fault = Refused (refusal.Formula fault)

-- what reading a formula says of how the run ends
abbrev pub EndsAtFormula : Dialect → List ℕ → Ending → Type 0
EndsAtFormula dialect text (Refused r) = (fault : FormFault) × (r ≡ refusal.Formula fault) × IsRefused dialect text fault
EndsAtFormula dialect text NoMemory = Unit {0}
EndsAtFormula dialect text ending = ⊥
