-- Tables of answers.
use Rattle.std.specs.Prelude.{◌≡◌, ◌<◌, ◌≤◌, ◌^◌, ℕ, suc, Bool, true, false, List, length, slice_index, slice_index_or, Option, Some, None}
use Rattle.diagrams.specs.declared.top.Id.{Id}
use Rattle.diagrams.specs.declared.work.Op.TheVariants.{Least}
use Rattle.diagrams.specs.Tree.{Assignment}
use Rattle.diagrams.specs.Eval.{Diagrams, eval, id_at, letter_truth, DependsOn}
use Rattle.diagrams.specs.Live.{IsLive}
use Rattle.diagrams.specs.Folded.{IsExtreme}
use Rattle.diagrams.specs.Picked.{IsLeastNumber}
use Rattle.diagrams.specs.Kept.{AllKept}
use Rattle.diagrams.specs.Transformed.{IsTransformed, IsTableItem, same_id, item_value}
use Rattle.attractor.specs.Graph.{number_at}
use Rattle.forms.specs.Word.{Word}
use Rattle.game.specs.Board.{IsOutput, width}
use Rattle.game.specs.Following.{RefutesWithin}
use Rattle.game.specs.Histories.{Aims, histories}
use Rattle.forms.specs.declared.partition.Partition.{Partition}
use Rattle.forms.specs.declared.partition.Mover.TheVariants.{Agent, Environment}
use Rattle.game.specs.Marks.{IsAnswer}
use Rattle.game.specs.Arena.{Locations, locations, LeadsTo}
use Rattle.layers.specs.declared.folding.Below.TheVariants.{Item}
use Rattle.layers.specs.Folding.{IsRightFor}
use Rattle.layers.specs.HistoryNumbers.{history_answers}
use Rattle.adversarial.specs.declared.answering.Answering.{Answering}

-- 1 where there is no rank, and else 0
abbrev pub unranked_code : Option ℕ → ℕ
unranked_code None = 1
unranked_code (Some n) = 0

-- the codes of so many ranks
pub record AreCodes (ranks : List (Option ℕ)) (table : List ℕ) (count : ℕ) : Type 0 where
  pub size : length table ≡ count
  pub each : (k : ℕ) → k < count → slice_index table k ≡ unranked_code (number_at ranks k)

-- the codes of all ranks, and 0 for illegal rounds
pub record AreUnranked (ranks : List (Option ℕ)) (table : List ℕ) : Type 0 where
  pub size : length table ≡ suc (length ranks)
  pub each : (k : ℕ) → k < length ranks → slice_index table k ≡ unranked_code (number_at ranks k)
  pub end : slice_index table (length ranks) ≡ 0

-- the least number with which g is 1: agent first of the variables from `before` on, environment first of those before it,
-- where the others don't matter
abbrev pub IsAnswerValue : Bool → ℕ → ℕ → (Assignment → ℕ) → Assignment → ℕ → Type 0
IsAnswerValue true before props g a x = IsLeastNumber before props g a x
IsAnswerValue false before props g a x = (f : Assignment → ℕ) × ((b : Assignment) → IsExtreme Least before props g b (f b)) × IsLeastNumber 0 before f a x

-- the diagram's value is as P asks at each assignment
pub record HasValues (n : Diagrams) (id : Id) (P : Assignment → ℕ → Type 0) : Type 0 where
  pub live : IsLive n id
  pub value : (a : Assignment) → P a (eval n id a)

-- a location with a rank has no table; without one it has one, made of its row
abbrev pub IsChosen : Diagrams → Diagrams → Bool → ℕ → List ℕ → Id → Option ℕ → Option Id → Type 0
IsChosen s n first before table row (Some k) o = o ≡ None
IsChosen s n first before table row None o = (id : Id) × (o ≡ Some id) × HasValues n id (IsAnswerValue first before s.props (item_value s table row))

-- what was found for the rows so far is right
pub record IsRightSoFar (s : Diagrams) (inputs : ℕ) (table : List ℕ) (answering : Answering) : Type 0 where
  pub folding : IsRightFor s Item inputs table answering.folding
  pub coded : AllKept same_id (IsTransformed s (IsTableItem table)) answering.coded

-- the table of a location, where there is one
abbrev pub table_at : List (Option Id) → ℕ → Option Id
table_at tables k = slice_index_or tables k None

-- the tables of so many locations
pub record AreChosen (s n : Diagrams) (first : Bool) (before : ℕ) (table : List ℕ) (rows : List Id) (ranks : List (Option ℕ)) (tables : List (Option Id)) (count : ℕ) : Type 0 where
  pub size : length tables ≡ count
  pub each : (at : ℕ) → at < count → IsChosen s n first before table (id_at rows at) (number_at ranks at) (table_at tables at)

-- exactly the locations without a rank have a table, and its value at each output is the answer
pub record AreAnswers (n : Diagrams) (s : Partition) (duty : Bool) (m : Locations) (rank : ℕ → Option ℕ) (tables : List (Option Id)) : Type 0 where
  pub size : length tables ≡ m.size
  pub won : (at k : ℕ) → at < m.size → rank at ≡ Some k → table_at tables at ≡ None
  pub answers : (at : ℕ) → at < m.size → rank at ≡ None
      → (id : Id) × (table_at tables at ≡ Some id) × IsLive n id × ((y : ℕ) → IsOutput s y → IsAnswer (locations s duty m) at y (eval n id (letter_truth s.outputs y)))

-- what a diagram answers to what the environment is shown
abbrev pub read_table : Diagrams → Partition → Option Id → Option (ℕ → ℕ)
read_table n s None = None
read_table n s (Some id) = Some (λ y. eval n id (letter_truth s.outputs y))

-- what the tables answer at a location
abbrev pub answers_of : Diagrams → Partition → List (Option Id) → ℕ → Option (ℕ → ℕ)
answers_of n s tables at = read_table n s (table_at tables at)

-- where there is no rank, the answers put off the goal for every number of rounds
abbrev pub Refute : Diagrams → Partition → Bool → Locations → (ℕ → Option ℕ) → List (Option Id) → Type 0
Refute n s duty m rank tables = (k at : ℕ) → at < m.size → rank at ≡ None → RefutesWithin (locations s duty m) (answers_of n s tables) k at

-- each history that leads to a location without a rank has these answers, which put off the goal for every number of rounds
pub record AnswerHistories (n : Diagrams) (s : Aims) (m : Locations) (rank : ℕ → Option ℕ) (tables : List (Option Id)) : Type 0 where
  pub answers : (h : Word) (at : ℕ) → LeadsTo (width s.parts) m h at → rank at ≡ None
      → (id : Id) × (table_at tables at ≡ Some id) × ((y : ℕ) → IsOutput s.parts y → IsAnswer (histories s) h y (eval n id (letter_truth s.parts.outputs y)))
  pub refutes : (h : Word) (at : ℕ) → LeadsTo (width s.parts) m h at → rank at ≡ None
      → (k : ℕ) → RefutesWithin (histories s) (history_answers m (answers_of n s.parts tables)) k h

-- how many propositions the environment is shown before it answers: agent first the outputs, environment first none
abbrev pub shown_count : Partition → ℕ
shown_count s = elim s.first [ Agent ↦ s.outputs | Environment ↦ 0 ]

-- the diagram goes by what the environment is shown alone, and its terminals are inputs
pub record IsAnswerDiagram (n : Diagrams) (s : Partition) (id : Id) : Type 0 where
  pub live : IsLive n id
  pub over : DependsOn n id (λ v. v < shown_count s)
  pub inputs : (a : Assignment) → eval n id a < 2 ^ s.inputs

-- each table is such a diagram
abbrev pub AreAnswerDiagrams : Diagrams → Partition → List (Option Id) → Type 0
AreAnswerDiagrams n s tables = (at : ℕ) (id : Id) → at < length tables → table_at tables at ≡ Some id → IsAnswerDiagram n s id
