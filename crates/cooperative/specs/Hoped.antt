-- Where there is hope the goal can be met.
use Rattle.std.specs.Prelude.{◌≡◌, ◌<◌, ◌^◌, ◌⊎◌, ℕ, zero, suc, Bool, Option, Some, None}
use Rattle.forms.specs.Word.{Word, IsOver}
use Rattle.forms.specs.declared.partition.Partition.{Partition}
use Rattle.game.specs.Board.{width}
use Rattle.game.specs.Winning.{IsWinnable, ReachesWithin, CanMeetWithin}
use Rattle.game.specs.Histories.{Aims, histories, one_more, IsLegalHistory, IsLegalRound, IsDecisionAt, IsDone}
use Rattle.game.specs.Arena.{Locations, locations, LeadsTo}
use Rattle.arena.specs.Building.{GoesOnLegally}

-- from a location some legal rounds meet the goal exactly where it has a distance, and no more of them than that
pub record MeetsByDistance (s : Partition) (duty : Bool) (m : Locations) (distance : ℕ → Option ℕ) : Type 0 where
  pub met : (at n : ℕ) → at < m.size → distance at ≡ Some n → CanMeetWithin (locations s duty m) n at
  pub never : (at : ℕ) → at < m.size → distance at ≡ None → (n : ℕ) → ¬ CanMeetWithin (locations s duty m) n at

-- the same from the histories that lead to it
pub record HistoriesMeet (s : Aims) (m : Locations) (distance : ℕ → Option ℕ) : Type 0 where
  pub met : (h : Word) (at n : ℕ) → LeadsTo (width s.parts) m h at → distance at ≡ Some n → CanMeetWithin (histories s) n h
  pub never : (h : Word) (at : ℕ) → LeadsTo (width s.parts) m h at → distance at ≡ None → (n : ℕ) → ¬ CanMeetWithin (histories s) n h

-- it is decided whether each decision can be won, at h and after fewer than n legal rounds, as long as the goal isn't met
abbrev pub IsDecidedWithin : Aims → ℕ → Word → Type 0
IsDecidedWithin s zero h = Unit {0}
IsDecidedWithin s (suc n) h = ¬ IsDone s h
    → ((x : ℕ) → IsDecisionAt s h x → IsWinnable (histories s) h x ⊎ (¬ IsWinnable (histories s) h x))
    × ((a : ℕ) → a < 2 ^ width s.parts → IsLegalRound s h a → IsDecidedWithin s n (one_more h a))

-- From each legal history, past a goal too, what can be hoped for within so many rounds as many legal rounds can meet; and where
-- no number of rounds leaves hope, no legal rounds meet the goal. Where it is decided which decisions on the way can be won, legal
-- rounds that meet the goal leave hope within some number.
pub record LegalHistoriesMeet (s : Aims) : Type 0 where
  pub met : (h : Word) (n : ℕ) → IsOver (width s.parts) h → IsLegalHistory s h → ReachesWithin (histories s) n h → CanMeetWithin (histories s) n h
  pub never : (h : Word) → IsOver (width s.parts) h → IsLegalHistory s h → ((k : ℕ) → ¬ ReachesWithin (histories s) k h) → (n : ℕ) → ¬ CanMeetWithin (histories s) n h
  pub some : (h : Word) (n : ℕ) → IsOver (width s.parts) h → IsLegalHistory s h → IsDecidedWithin s n h → CanMeetWithin (histories s) n h → (k : ℕ) × ReachesWithin (histories s) k h

-- so it is of each specification whose game can be played on legal histories
abbrev pub HopeIsPossibility : Type 0
HopeIsPossibility = (s : Aims) → GoesOnLegally s → LegalHistoriesMeet s
