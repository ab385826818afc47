-- What becomes of the duty where the goal is out of reach.
use Rattle.std.specs.Prelude.{◌≡◌, ◌<◌, ◌⊎◌, ◌↔◌, ℕ, Bool, List, length, slice_index_or, Option, Some, None, IsSome}
use Rattle.attractor.specs.Graph.{number_at}
use Rattle.forms.specs.Word.{Word}
use Rattle.forms.specs.declared.partition.Partition.{Partition}
use Rattle.game.specs.Board.{IsLeastNumber, width}
use Rattle.game.specs.Winning.{FailsDutyWithin}
use Rattle.game.specs.Marks.{CanKeepDuty}
use Rattle.game.specs.Following.{HoldsDutyWithin}
use Rattle.game.specs.Histories.{Aims, histories, IsDecisionAt}
use Rattle.game.specs.Arena.{Locations, locations, LeadsTo, IsDecisionThere}
use Rattle.layers.specs.Keeping.{KeepsDutyAlong}
use Rattle.cooperative.specs.declared.loss.Loss.{Loss}
use Rattle.cooperative.specs.declared.loss.Loss.TheVariants.{Held, In}

-- a number of rounds is a loss, no number none
abbrev pub loss_of : Option ℕ → Loss
loss_of None = Held
loss_of (Some n) = In n

-- where there is a rank or a distance, nothing is said
abbrev pub loss_where : Option ℕ → Option ℕ → Option ℕ → Option Loss
loss_where (Some k) distance number = None
loss_where None (Some j) number = None
loss_where None None number = Some (loss_of number)

-- what is said of a location
abbrev pub loss_at : List (Option Loss) → ℕ → Option Loss
loss_at losses at = slice_index_or losses at None

-- so many locations' losses
pub record AreListed (ranks distances numbers : List (Option ℕ)) (losses : List (Option Loss)) (count : ℕ) : Type 0 where
  pub size : length losses ≡ count
  pub each : (at : ℕ) → at < count → loss_at losses at ≡ loss_where (number_at ranks at) (number_at distances at) (number_at numbers at)

-- the loss says when P holds: for no number where it is held, and else from the least number on
abbrev pub IsLoss : (ℕ → Type 0) → Loss → Type 0
IsLoss P Held = (k : ℕ) → ¬ P k
IsLoss P (In n) = IsLeastNumber P n

-- Nothing is said exactly where there is a rank or a distance. Elsewhere the duty is kept or lost as is said, and numbers are
-- below the number of locations. Where it is held, each decision has an output after which it can still be kept, and moves after
-- which it can, along the plays that follow them, keep it for as many rounds.
pub record AreKeptOrLost (s : Partition) (duty : Bool) (m : Locations) (rank distance : ℕ → Option ℕ) (losses : List (Option Loss)) : Type 0 where
  pub size : length losses ≡ m.size
  pub none : (at : ℕ) → at < m.size → (loss_at losses at ≡ None) ↔ (IsSome (rank at) ⊎ IsSome (distance at))
  pub right : (at : ℕ) (loss : Loss) → at < m.size → loss_at losses at ≡ Some loss → IsLoss (λ n. FailsDutyWithin (locations s duty m) n at) loss
  pub below : (at n : ℕ) → at < m.size → loss_at losses at ≡ Some (In n) → n < m.size
  pub kept : (at x : ℕ) → at < m.size → loss_at losses at ≡ Some Held → IsDecisionThere s m at x → CanKeepDuty (locations s duty m) at x
  pub holds : (move : ℕ → ℕ → ℕ) (at n : ℕ) → at < m.size → loss_at losses at ≡ Some Held → KeepsDutyAlong (locations s duty m) move n at
      → HoldsDutyWithin (locations s duty m) move n at

-- the same of each history that leads to a location, by what is said there
pub record AreHistoryLosses (s : Aims) (m : Locations) (losses : List (Option Loss)) : Type 0 where
  pub right : (h : Word) (at : ℕ) (loss : Loss) → LeadsTo (width s.parts) m h at → loss_at losses at ≡ Some loss → IsLoss (λ n. FailsDutyWithin (histories s) n h) loss
  pub kept : (h : Word) (at x : ℕ) → LeadsTo (width s.parts) m h at → loss_at losses at ≡ Some Held → IsDecisionAt s h x → CanKeepDuty (histories s) h x
  pub holds : (move : Word → ℕ → ℕ) (h : Word) (at n : ℕ) → LeadsTo (width s.parts) m h at → loss_at losses at ≡ Some Held → KeepsDutyAlong (histories s) move n h
      → HoldsDutyWithin (histories s) move n h
