-- What `translate` says of a formula.
use Rattle.std.specs.Prelude.{◌≡◌, ℕ, false, ◌≤◌, List, All, length, None}
use Rattle.forms.specs.Tree.{Formula}
use Rattle.forms.specs.Word.{Word, IsOver}
use Rattle.forms.specs.Equivalence.{HasClassCount}
use Rattle.forms.specs.Satisfaction.{meets}
use Rattle.form_tokens.specs.declared.dialect.Dialect.{Dialect}
use Rattle.form_reader.specs.declared.fault.FormFault.{FormFault}
use Rattle.automata.specs.Moves.{Moves}
use Rattle.minimise.specs.Minimal.{IsLeastFor, IsOnlyFor}
use Rattle.translate.specs.Counting.{AreCounts, IsFirstOver}
use Rattle.distinguish.specs.Telling.{IsTellingList}
use Rattle.command_endings.specs.declared.endings.Concern.TheVariants as concern
use Rattle.command_endings.specs.declared.endings.Ending.TheVariants.{Positive}
use Rattle.command_endings.specs.declared.endings.Refusal.TheVariants as refusal
use Rattle.command_endings.specs.Replies.{Reply, refusing}
use Rattle.command_endings.specs.Tasks.{Task}
use Rattle.command_endings.specs.Formulas.{IsFormula, IsRefused, names_of}
use Rattle.class_limit.specs.Limits.{most_classes, IsFormulaWithinLimit}
use Rattle.translate_command.specs.AutomatonText.{ListsMoves, automaton_text}

-- The text of a formula's automaton: the class counts of its parts and of its whole, the least automaton of its
-- traces, numbered by least words, so that the first location is 0, and the words that tell its locations apart.
pub record IsTranslation (names : List (List ℕ)) (f : Formula) (text : List ℕ) : Type 0 where
  pub counts : List ℕ
  pub counted : AreCounts (length names) f counts
  pub within : All (λ count. count ≤ most_classes) counts
  pub automaton : Moves
  pub least : IsLeastFor (length names) automaton (λ w. meets (length names) f w)
  pub whole_count : HasClassCount (length names) (λ w. meets (length names) f w) automaton.size
  pub small : automaton.size ≤ most_classes
  pub words : List Word
  pub telling : IsTellingList (length names) automaton words
  pub table : List ℕ
  pub lists : ListsMoves (length names) automaton table
  pub whole : text ≡ automaton_text names f counts automaton.size table words

-- Two texts agree but for the lines of parts: their automata have one size, the same table and the same words that tell
-- locations apart.
pub record AgreeButForParts (names : List (List ℕ)) (f g : Formula) (text other : List ℕ) (t : IsTranslation names f text) (u : IsTranslation names g other) : Type 0 where
  pub size : t.automaton.size ≡ u.automaton.size
  pub table : t.table ≡ u.table
  pub words : t.words ≡ u.words

-- What is printed is fixed by the traces: the automaton is the same for every formula over these names with the same
-- traces, none of these traces is smaller, and the texts of two such formulas agree but for the lines of parts.
pub record IsOnlyTranslation (names : List (List ℕ)) (f : Formula) (text : List ℕ) (t : IsTranslation names f text) : Type 0 where
  pub automaton : IsOnlyFor (length names) t.automaton (λ w. meets (length names) f w)
  pub others : (g : Formula) (other : List ℕ) (u : IsTranslation names g other)
      → ((w : Word) → IsOver (length names) w → meets (length names) f w ≡ meets (length names) g w) → AgreeButForParts names f g text other t u

-- in the order of refusals: the formula, the limit
pub data TranslateAnswers : Dialect → List ℕ → Reply → Type 0 where
  formula_refused : {dialect : Dialect} {text : List ℕ} {fault : FormFault} →
      IsRefused dialect text fault → TranslateAnswers dialect text (refusing (refusal.Formula fault))
  too_many : {dialect : Dialect} {text : List ℕ} {part count : ℕ} (f : Formula) →
      IsFormula dialect text f → IsFirstOver (length (names_of dialect text)) f false most_classes part count →
      TranslateAnswers dialect text (refusing (refusal.TooMany concern.Formula part count most_classes))
  translated : {dialect : Dialect} {text output : List ℕ} (f : Formula) →
      IsFormula dialect text f → IsTranslation (names_of dialect text) f output →
      TranslateAnswers dialect text (record { output = output; ending = Positive })

-- the command as data: it reads nothing, and accepts each formula that is within the limit
abbrev pub translate_task : Dialect → List ℕ → Task
translate_task dialect text = record {
  file = None;
  reads = false;
  to_end = false;
  streams = false;
  may_read = λ contents. ⊥;
  accepts = λ files rest. IsFormulaWithinLimit dialect text;
  answers = λ files rest. TranslateAnswers dialect text;
}
