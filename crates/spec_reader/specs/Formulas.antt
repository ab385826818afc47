-- Formulas one after the other, and their conjunction.
use Rattle.std.specs.Prelude.{ℕ, List, [], ◌∷◌, Option, Some, None}
use Rattle.forms.specs.Tree.{Formula, And}
use Rattle.form_tokens.specs.declared.dialect.Dialect.{Dialect}
use Rattle.form_tokens.specs.Names.{Table}
use Rattle.form_reader.specs.declared.fault.FormFault.{FormFault}
use Rattle.form_reader.specs.declared.fault.FormFault.TheVariants as form_faults
use Rattle.form_reader.specs.Reading.{IsFormulaOf}

-- the texts are those of the formulas, one for one
abbrev pub AreFormulasOf : Dialect → Table → List (List ℕ) → List Formula → Type 0
AreFormulasOf d names [] [] = Unit {0}
AreFormulasOf d names [] (f ∷ fs) = ⊥
AreFormulasOf d names (text ∷ texts) [] = ⊥
AreFormulasOf d names (text ∷ texts) (f ∷ fs) = IsFormulaOf d names text f × AreFormulasOf d names texts fs

-- a formula and the conjunction of those behind it
abbrev pub and_of : Formula → Option Formula → Formula
and_of f None = f
and_of f (Some g) = And f g

-- the conjunction of formulas, nested to the right; of none there is none
abbrev pub conjunction_of : List Formula → Option Formula
conjunction_of [] = None
conjunction_of (f ∷ fs) = Some (and_of f (conjunction_of fs))

-- the place of a fault, and 0 where it has none
abbrev pub place_of : FormFault → ℕ
place_of (form_faults.BadByte at) = at
place_of (form_faults.Unexpected at) = at
place_of (form_faults.TooDeep at) = at
place_of (form_faults.TooManyTokens at) = at
place_of (form_faults.TooManyNames at) = at
place_of (form_faults.Undeclared at) = at
place_of e = 0
