-- The limit of a formula's classes, how a run ends at it, and the formulas that are within it.
use Rattle.std.specs.Prelude.{ℕ, Bool, false, suc, ◌<◌, ◌≤◌, List, length}
use Rattle.forms.specs.Tree.{Formula}
use Rattle.forms.specs.Parts.{parts}
use Rattle.form_tokens.specs.declared.dialect.Dialect.{Dialect}
use Rattle.translate.specs.Counting.{IsWithin}
use Rattle.translate.specs.declared.fault.TranslateFault.{TranslateFault}
use Rattle.translate.specs.declared.fault.TranslateFault.TheVariants.{TooMany, Memory}
use Rattle.command_endings.specs.declared.endings.Concern.{Concern}
use Rattle.command_endings.specs.declared.endings.Ending.{Ending}
use Rattle.command_endings.specs.declared.endings.Ending.TheVariants.{Refused, NoMemory}
use Rattle.command_endings.specs.declared.endings.Refusal.TheVariants as refusal
use Rattle.command_endings.specs.Formulas.{IsFormula, names_of}

-- the most classes that a part or the whole of a formula of the command line may have
abbrev pub most_classes : ℕ
most_classes = 1024

-- how a run ends where this formula has no automaton within the limit, or memory is out
abbrev pub ending_at_limit : Concern → ℕ → TranslateFault → Ending
ending_at_limit concern limit (TooMany part count) = Refused (refusal.TooMany concern part count limit)
ending_at_limit concern limit Memory = NoMemory

-- every part of a formula over these names, and last the whole, of which the empty word may be one, is within the limit
abbrev pub AreWithin : ℕ → Bool → List (List ℕ) → Formula → Type 0
AreWithin limit empty names f = (k : ℕ) → 0 < k → k ≤ suc (length (parts f)) → IsWithin (length names) f empty limit k

-- the same of a formula of the command line: within the limit of the program, and the empty word is no trace
abbrev pub AreFew : List (List ℕ) → Formula → Type 0
AreFew names f = AreWithin most_classes false names f

-- the text is a formula that is within the limit
abbrev pub IsFormulaWithinLimit : Dialect → List ℕ → Type 0
IsFormulaWithinLimit dialect text = (f : Formula) × IsFormula dialect text f × AreFew (names_of dialect text) f
