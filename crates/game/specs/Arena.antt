-- Arenas: what their locations are, and which histories lead to them.
use Rattle.std.specs.Prelude.{◌≡◌, ◌<◌, ◌^◌, ◌↔◌, ℕ, [], ◌∷◌, Bool, true, false, Option, Some, None, nat_lt, if◌then◌else◌}
use Rattle.game.specs.Board.{Board, Partition, Agent, Environment, width, input_of}
use Rattle.forms.specs.Word.{Word, IsOver}
use Rattle.forms.specs.Shortlex.{comes_before}
use Rattle.game.specs.Histories.{Aims, IsViolated, IsDone, IsLive, ShareLocation}

-- so many locations; where a letter leads, which is no location where the round is illegal; where the goal is met and where
-- the duty was broken
pub record Locations : Type 0 where
  pub size : ℕ
  pub next : ℕ → ℕ → ℕ
  pub is_goal : ℕ → Bool
  pub is_broken : ℕ → Bool

-- a decision: agent first the empty one, environment first an input whose rounds are legal
abbrev pub IsDecisionThere : Partition → Locations → ℕ → ℕ → Type 0
IsDecisionThere s m at x = elim s.first [
  | Agent ↦ x ≡ 0
  | Environment ↦ (x < 2 ^ s.inputs) × ((a : ℕ) → a < 2 ^ width s → input_of s a ≡ x → m.next at a < m.size)
]

-- the game on the locations of an arena
abbrev pub locations : (s : Partition) → Bool → Locations → Board s
locations s has_duty m = record {
  Place = ℕ;
  after = m.next;
  IsMet = λ at. m.is_goal at ≡ true;
  IsBroken = λ at. m.is_broken at ≡ true;
  IsLegal = λ at a. m.next at a < m.size;
  IsDecision = IsDecisionThere s m;
  has_duty = has_duty;
}

-- the location after a word; none past a goal or an illegal round
abbrev pub location_from : Locations → ℕ → Word → Option ℕ
location_from m at [] = Some at
location_from m at (a ∷ w) = if m.is_goal at then None else (if nat_lt (m.next at a) m.size then location_from m (m.next at a) w else None)

-- the word leads from location 0 to this one
pub record LeadsTo (p : ℕ) (m : Locations) (w : Word) (at : ℕ) : Type 0 where
  pub over : IsOver p w
  pub leads : location_from m 0 w ≡ Some at

-- the word leads to the location, and no word that comes before it does
pub record IsLeastHistory (p : ℕ) (m : Locations) (at : ℕ) (w : Word) : Type 0 where
  pub leads : LeadsTo p m w at
  pub least : (v : Word) → LeadsTo p m v at → comes_before v w ≡ false

-- each location has a word, and of two locations the lower has the least word that comes first
pub record AreNumbered (p : ℕ) (m : Locations) : Type 0 where
  pub some : 0 < m.size
  pub word : ℕ → Word
  pub least : (at : ℕ) → at < m.size → IsLeastHistory p m at (word at)
  pub order : (i j : ℕ) → i < j → j < m.size → comes_before (word i) (word j) ≡ true

-- The locations are those of the live histories: a history leads to one exactly where it is live, two lead to one exactly
-- where they share it, and its marks are what its histories say. They are numbered by their least histories.
pub record IsArenaOf (s : Aims) (m : Locations) : Type 0 where
  pub live : (h : Word) → IsOver (width s.parts) h → IsLive s h ↔ ((at : ℕ) × LeadsTo (width s.parts) m h at)
  pub shared : (u v : Word) (i j : ℕ) → LeadsTo (width s.parts) m u i → LeadsTo (width s.parts) m v j → (i ≡ j) ↔ ShareLocation s u v
  pub goal : (h : Word) (at : ℕ) → LeadsTo (width s.parts) m h at → (m.is_goal at ≡ true) ↔ IsDone s h
  pub broken : (h : Word) (at : ℕ) → LeadsTo (width s.parts) m h at → (m.is_broken at ≡ true) ↔ IsViolated s.duty h
  pub numbered : AreNumbered (width s.parts) m
