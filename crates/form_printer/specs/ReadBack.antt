-- When a text is read back as a formula.
use Rattle.std.specs.Prelude.{◌≡◌, ◌≤◌, ◌<◌, ℕ, List, true, length}
use Rattle.forms.specs.Tree.{Formula}
use Rattle.forms.specs.Proper.{IsProper}
use Rattle.form_tokens.specs.declared.dialect.Dialect.{Dialect}
use Rattle.form_tokens.specs.Names.{Table, AreNames, is_listed, number_of}
use Rattle.form_tokens.specs.Spelling.{lexemes}
use Rattle.form_reader.specs.Admitted.{start, is_shallow}
use Rattle.form_reader.specs.Faults.{most_tokens}
use Rattle.form_reader.specs.Reading.{IsFormulaOf, tokens_of}
use Rattle.form_printer.specs.Printed.{name_of, printed}
use Rattle.form_printer.specs.Dialects.{IsOfDialect}

-- each name has the same number among the others
abbrev pub AreNumberedIn : List (List ℕ) → List (List ℕ) → Type 0
AreNumberedIn ns others = (i : ℕ) → i < length ns → (is_listed others (name_of ns i) ≡ true) × (number_of others (name_of ns i) ≡ i)

-- the text has no more tokens than a reader takes, and at none of them do too many items wait
pub record IsWithinLimits (d : Dialect) (names : Table) (text : List ℕ) : Type 0 where
  pub few : length (lexemes d text) ≤ most_tokens
  pub shallow : is_shallow start (tokens_of d names text) ≡ true

-- within the limits, the text is that of the formula in each dialect whose operators the formula has
abbrev pub ReadsBack : Table → List ℕ → Formula → Type 0
ReadsBack names text f = (d : Dialect) → IsOfDialect d f → IsWithinLimits d names text → IsFormulaOf d names text f

-- a printed text is read back by its names, and by any table in which each of them has the same number
abbrev pub PrintedReadsBack : Type 0
PrintedReadsBack = (ns : List (List ℕ)) (names : Table) (f : Formula) → AreNames ns → AreNumberedIn ns names.names → IsProper (length ns) f → ReadsBack names (printed ns f) f

-- in its own table each name has the number by which it is printed
abbrev pub NamesAreNumbered : Type 0
NamesAreNumbered = (ns : List (List ℕ)) → AreNames ns → AreNumberedIn ns ns
