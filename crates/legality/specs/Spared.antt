-- Rows of which letters are led away, as they are made.
use Rattle.std.specs.Prelude.{◌≡◌, ◌≢◌, ◌<◌, ◌+◌, ◌^◌, ◌⊎◌, ℕ, List, length, slice_index, Option, Some, None}
use Rattle.diagrams.specs.declared.top.Id.{Id}
use Rattle.diagrams.specs.Tree.{Assignment}
use Rattle.diagrams.specs.Eval.{Diagrams, eval, DependsOn, letter_truth, id_at}
use Rattle.diagrams.specs.Live.{IsLive}
use Rattle.attractor.specs.Graph.{number_at}
use Rattle.automata.specs.Table.{Table, mark_of, row_of}
use Rattle.game.specs.Board.{Partition, Agent, Environment, width, input_of}

-- 0 for a rank, and 1 for none
abbrev pub spare_mark : Option ℕ → ℕ
spare_mark None = 1
spare_mark (Some n) = 0

-- the table has the marks of the first so many ranks
pub record AreSpareMarks (ranks : List (Option ℕ)) (table : List ℕ) (count : ℕ) : Type 0 where
  pub size : length table ≡ count
  pub item : (at : ℕ) → at < count → slice_index table at ≡ spare_mark (number_at ranks at)

-- what is given to the letter isn't 0: agent first to itself, environment first to each letter of its input
abbrev pub IsSpared : Partition → (ℕ → ℕ) → ℕ → Type 0
IsSpared s item a = elim s.first [
  | Agent ↦ item a ≢ 0
  | Environment ↦ (b : ℕ) → b < 2 ^ width s → input_of s b ≡ input_of s a → item b ≢ 0
]

-- how many propositions tell whether a letter is spared: agent first all, environment first the inputs
abbrev pub telling_count : Partition → ℕ
telling_count s = elim s.first [ Agent ↦ s.inputs + s.outputs | Environment ↦ s.inputs ]

-- in n the row is that of s, but leads to the sink at each letter that isn't spared by the table
pub record IsRestrictedRow (p : Partition) (s n : Diagrams) (table : List ℕ) (sink : ℕ) (row id : Id) : Type 0 where
  pub live : IsLive n id
  pub letters : DependsOn n id (λ v. v < n.props)
  pub targets : (a : Assignment) → (eval n id a ≡ eval s row a) ⊎ (eval n id a ≡ sink)
  pub value : (a : ℕ) → a < 2 ^ width p
      → (IsSpared p (λ b. slice_index table (eval s row (letter_truth (width p) b))) a × (eval n id (letter_truth (width p) a) ≡ eval s row (letter_truth (width p) a)))
      ⊎ ((¬ IsSpared p (λ b. slice_index table (eval s row (letter_truth (width p) b))) a) × (eval n id (letter_truth (width p) a) ≡ sink))

-- the first so many locations have their marks and restricted rows
pub record AreRestricted (p : Partition) (s n : Diagrams) (t : Table) (table marks : List ℕ) (rows : List Id) (sink count : ℕ) : Type 0 where
  pub marks_count : length marks ≡ count
  pub rows_count : length rows ≡ count
  pub mark : (at : ℕ) → at < count → slice_index marks at ≡ mark_of t at
  pub row : (at : ℕ) → at < count → IsRestrictedRow p s n table sink (row_of t at) (id_at rows at)
