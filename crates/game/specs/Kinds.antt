-- Automata whose marks tell the kind of each history, and the arena that is left of one.
use Rattle.std.specs.Prelude.{◌≡◌, ◌<◌, ◌^◌, ◌==◌, ℕ, false}
use Rattle.forms.specs.Word.{Word, IsOver}
use Rattle.automata.specs.Moves.{Moves, mark_after}
use Rattle.game.specs.Board.{width}
use Rattle.game.specs.Histories.{Aims, Kind, Running, Broken, Met, Past, Illegal, HasKind}
use Rattle.game.specs.Arena.{Locations}

-- The number of a kind. Of what a history is just now, illegal, with the duty broken, or with the goal met, the greatest
-- number tells its kind.
abbrev pub kind_number : Kind → ℕ
kind_number Running = 0
kind_number Met = 1
kind_number Broken = 2
kind_number Illegal = 3
kind_number Past = 4

-- the mark after each word is the number of the kind that the history has
abbrev pub TellsKinds : Aims → Moves → Type 0
TellsKinds s m = (w : Word) → IsOver (width s.parts) w → (k : Kind) × HasKind s w k × (mark_after m m.first w ≡ kind_number k)

-- Each location of the arena is one of m with a lower mark than 3, in the same order, and each of those is one of the arena.
-- Before the goal a letter leads to the same location, or to none where m has another mark.
pub record IsLeftOf (p : ℕ) (m : Moves) (arena : Locations) : Type 0 where
  pub of : ℕ → ℕ
  pub some : 0 < arena.size
  pub first : of 0 ≡ m.first
  pub within : (i : ℕ) → i < arena.size → of i < m.size
  pub live : (i : ℕ) → i < arena.size → m.mark (of i) < 3
  pub order : (i j : ℕ) → i < j → j < arena.size → of i < of j
  pub onto : (at : ℕ) → at < m.size → m.mark at < 3 → (i : ℕ) × (i < arena.size) × (of i ≡ at)
  pub goal : (i : ℕ) → i < arena.size → arena.is_goal i ≡ (m.mark (of i) == 1)
  pub broken : (i : ℕ) → i < arena.size → arena.is_broken i ≡ (m.mark (of i) == 2)
  pub goes : (i a : ℕ) → i < arena.size → (m.mark (of i) == 1) ≡ false → a < 2 ^ p → m.mark (m.next (of i) a) < 3
      → (arena.next i a < arena.size) × (of (arena.next i a) ≡ m.next (of i) a)
  pub stops : (i a : ℕ) → i < arena.size → (m.mark (of i) == 1) ≡ false → a < 2 ^ p → arena.next i a < arena.size → m.mark (m.next (of i) a) < 3
