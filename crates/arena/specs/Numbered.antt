-- Live locations of an automaton, counted from the first.
use Rattle.std.specs.Prelude.{false, ◌≡◌, ◌<◌, ◌==◌, ◌^◌, ℕ, zero, suc, List, slice_index, length, nat_lt, if◌then◌else◌}
use Rattle.automata.specs.Moves.{Moves}
use Rattle.game.specs.Arena.{Locations}

-- how many of the first n locations have a mark below 3
abbrev pub live_below : (ℕ → ℕ) → ℕ → ℕ
live_below mark zero = 0
live_below mark (suc n) = if nat_lt (mark n) 3 then suc (live_below mark n) else live_below mark n

-- each location with a mark below 3 has its number among them, and each other one how many these are
pub record AreNumbers (mark : ℕ → ℕ) (size : ℕ) (table : List ℕ) : Type 0 where
  pub count_is : length table ≡ size
  pub live : (at : ℕ) → at < size → mark at < 3 → slice_index table at ≡ live_below mark at
  pub other : (at : ℕ) → at < size → (mark at < 3 → ⊥) → slice_index table at ≡ live_below mark size

-- the arena has these locations, and goes by the table but from a goal
pub record IsByTable (p : ℕ) (m : Moves) (table : List ℕ) (arena : Locations) : Type 0 where
  pub size : arena.size ≡ live_below m.mark m.size
  pub goal : (at : ℕ) → at < m.size → m.mark at < 3 → arena.is_goal (live_below m.mark at) ≡ (m.mark at == 1)
  pub broken : (at : ℕ) → at < m.size → m.mark at < 3 → arena.is_broken (live_below m.mark at) ≡ (m.mark at == 2)
  pub next : (at a : ℕ) → at < m.size → m.mark at < 3 → (m.mark at == 1) ≡ false → a < 2 ^ p → arena.next (live_below m.mark at) a ≡ slice_index table (m.next at a)

-- the same for the first so many locations
pub record AreNumbersSoFar (mark : ℕ → ℕ) (size count : ℕ) (table : List ℕ) (next : ℕ) : Type 0 where
  pub count_is : length table ≡ count
  pub next_is : next ≡ live_below mark count
  pub live : (at : ℕ) → at < count → mark at < 3 → slice_index table at ≡ live_below mark at
  pub other : (at : ℕ) → at < count → (mark at < 3 → ⊥) → slice_index table at ≡ size
