-- What a deterministic automaton does, whatever its store: where words lead, and the marks there.
use Rattle.std.specs.Prelude.{◌≡◌, ◌≢◌, ◌<◌, ◌^◌, ◌==◌, ℕ, Bool, [], ◌∷◌}
use Rattle.forms.specs.Word.{Word, IsOver}

-- so many locations, the first one, the mark of each, and the location to which each letter leads from it
pub record Moves : Type 0 where
  pub size : ℕ
  pub first : ℕ
  pub mark : ℕ → ℕ
  pub next : ℕ → ℕ → ℕ

-- the location to which a word leads
abbrev pub location_after : Moves → ℕ → Word → ℕ
location_after m at [] = at
location_after m at (a ∷ w) = location_after m (m.next at a) w

-- the mark after a word
abbrev pub mark_after : Moves → ℕ → Word → ℕ
mark_after m at w = m.mark (location_after m at w)

-- the word leads from the first location to one with the mark 1
abbrev pub accepts : Moves → Word → Bool
accepts m w = mark_after m m.first w == 1

-- the two have the same mark after each word over p propositions
abbrev pub HaveSameMarksOver : ℕ → Moves → Moves → Type 0
HaveSameMarksOver p m n = (w : Word) → IsOver p w → mark_after m m.first w ≡ mark_after n n.first w

-- the two have the same mark after every list of numbers
abbrev pub HaveSameMarks : Moves → Moves → Type 0
HaveSameMarks m n = (w : Word) → mark_after m m.first w ≡ mark_after n n.first w

-- the first location is one, and letters lead from locations to locations
pub record IsClosed (p : ℕ) (m : Moves) : Type 0 where
  pub first : m.first < m.size
  pub next : (at a : ℕ) → at < m.size → a < 2 ^ p → m.next at a < m.size

-- some word leads from the first location to this one
pub record IsReached (p : ℕ) (m : Moves) (at : ℕ) : Type 0 where
  pub word : Word
  pub over : IsOver p word
  pub leads : location_after m m.first word ≡ at

-- some word leads from the two locations to different marks
pub record AreDistinguished (p : ℕ) (m : Moves) (i j : ℕ) : Type 0 where
  pub word : Word
  pub over : IsOver p word
  pub differ : mark_after m i word ≢ mark_after m j word
