-- The marks and moves of decisions by numbers of the places to which their rounds lead, which is how they are computed.
use Rattle.std.specs.Prelude.{◌≡◌, ◌≤◌, ℕ, suc, true, false, Option, Some, None}
use Rattle.game.specs.Board.{Agent, Environment, IsLetter, Partition, Board, EachLeads, SomeLeads, IsOutput, IsLeastNumber}
use Rattle.game.specs.Numbers.{IsLeastOrNone}
use Rattle.game.specs.Winning.{WinsWithin, ReachesWithin, FailsDutyWithin}
use Rattle.game.specs.Marks.{Mark, Goal, Win, Pending, Lost, Held, LostIn, IsOutOfReach, IsLeastOutput}

-- there is a number, and it is at most k
abbrev pub IsAtMost : Option ℕ → ℕ → Type 0
IsAtMost None k = ⊥
IsAtMost (Some n) k = n ≤ k

-- Numbers of places: within how many rounds each is won, comes near the goal, and, where both are out of reach, fails the
-- duty.
pub record AreNumbers {s : Partition} (b : Board s) (In : b.Place → Type 0) (ranks distances losses : b.Place → Option ℕ) : Type 0 where
  pub rank : (g : b.Place) → In g → IsLeastOrNone (λ k. WinsWithin b k g) (ranks g)
  pub distance : (g : b.Place) → In g → IsLeastOrNone (λ k. ReachesWithin b k g) (distances g)
  pub loss : (g : b.Place) → In g → IsOutOfReach b g → IsLeastOrNone (λ k. FailsDutyWithin b k g) (losses g)

-- each legal round with the decision and the output leads to a number of at most k
abbrev pub AllAtMost : {s : Partition} (b : Board s) → (b.Place → Option ℕ) → b.Place → ℕ → ℕ → ℕ → Type 0
AllAtMost b number h x y k = EachLeads b (λ g. IsAtMost (number g) k) h x y

-- some legal round does
abbrev pub SomeAtMost : {s : Partition} (b : Board s) → (b.Place → Option ℕ) → b.Place → ℕ → ℕ → ℕ → Type 0
SomeAtMost b number h x y k = SomeLeads b (λ g. IsAtMost (number g) k) h x y

-- each leads to a place without a number
abbrev pub AllWithout : {s : Partition} (b : Board s) → (b.Place → Option ℕ) → b.Place → ℕ → ℕ → Type 0
AllWithout b number h x y = EachLeads b (λ g. number g ≡ None) h x y

-- some output has P
abbrev pub SomeOutput : Partition → (ℕ → Type 0) → Type 0
SomeOutput s P = (y : ℕ) × IsOutput s y × P y

abbrev pub EachOutput : Partition → (ℕ → Type 0) → Type 0
EachOutput s P = (y : ℕ) → IsOutput s y → P y

-- the least greatest rank of an output, and the least distance
abbrev pub IsBestRank : {s : Partition} (b : Board s) → (b.Place → Option ℕ) → b.Place → ℕ → Option ℕ → Type 0
IsBestRank {s = s} b ranks h x = IsLeastOrNone (λ k. SomeOutput s (λ y. AllAtMost b ranks h x y k))

abbrev pub IsBestDistance : {s : Partition} (b : Board s) → (b.Place → Option ℕ) → b.Place → ℕ → Option ℕ → Type 0
IsBestDistance {s = s} b distances h x = IsLeastOrNone (λ k. SomeOutput s (λ y. SomeAtMost b distances h x y k))

-- The mark and the output of a decision, by the numbers of the places after its rounds.
pub data IsChosen {s : Partition} (b : Board s) (ranks distances losses : b.Place → Option ℕ) (h : b.Place) (x : ℕ) : Mark → ℕ → Type 0 where
  won : {n y : ℕ} → IsBestRank b ranks h x (Some n) → IsLeastOutput s (λ z. AllAtMost b ranks h x z n) y → IsChosen b ranks distances losses h x (Win (suc n)) y
  pending : {n y : ℕ} → IsBestRank b ranks h x None → IsBestDistance b distances h x (Some n) → IsLeastOutput s (λ z. SomeAtMost b distances h x z n) y →
      IsChosen b ranks distances losses h x (Pending (suc n)) y
  lost : IsBestRank b ranks h x None → IsBestDistance b distances h x None → b.has_duty ≡ false → IsChosen b ranks distances losses h x Lost 0
  held : {y : ℕ} → IsBestRank b ranks h x None → IsBestDistance b distances h x None → b.has_duty ≡ true → IsLeastOutput s (λ z. AllWithout b losses h x z) y →
      IsChosen b ranks distances losses h x Held y
  lost_in : {n : ℕ} → IsBestRank b ranks h x None → IsBestDistance b distances h x None → b.has_duty ≡ true → ¬ SomeOutput s (λ y. AllWithout b losses h x y) →
      IsLeastNumber (λ k. EachOutput s (λ y. SomeAtMost b losses h x y k)) n → IsChosen b ranks distances losses h x (LostIn (suc n)) 0

-- the mark of a place, by its numbers
abbrev pub IsMarkedBy : {s : Partition} (b : Board s) → (ranks distances losses : b.Place → Option ℕ) → b.Place → Mark → Type 0
IsMarkedBy b ranks distances losses h Goal = b.IsMet h
IsMarkedBy b ranks distances losses h (Win n) = (¬ b.IsMet h) × (ranks h ≡ Some n)
IsMarkedBy b ranks distances losses h (Pending n) = (ranks h ≡ None) × (distances h ≡ Some n)
IsMarkedBy b ranks distances losses h Lost = (b.has_duty ≡ false) × (ranks h ≡ None) × (distances h ≡ None)
IsMarkedBy b ranks distances losses h Held = (b.has_duty ≡ true) × (ranks h ≡ None) × (distances h ≡ None) × (losses h ≡ None)
IsMarkedBy b ranks distances losses h (LostIn n) = (b.has_duty ≡ true) × (ranks h ≡ None) × (distances h ≡ None) × (losses h ≡ Some n)

-- the letter with this input and this output is legal and leads to a place without a rank
abbrev pub LeadsToNone : {s : Partition} (b : Board s) → (b.Place → Option ℕ) → b.Place → ℕ → ℕ → Type 0
LeadsToNone {s = s} b ranks h x y = (a : ℕ) × IsLetter s x y a × b.IsLegal h a × (ranks (b.after h a) ≡ None)

-- the printed answer, by ranks
abbrev pub IsAnswerBy : {s : Partition} (b : Board s) → (b.Place → Option ℕ) → b.Place → ℕ → ℕ → Type 0
IsAnswerBy {s = s} b ranks h y x = elim s.first [
  | Agent ↦ IsLeastNumber (λ z. LeadsToNone b ranks h z y) x
  | Environment ↦ IsLeastNumber (λ z. (y : ℕ) → IsOutput s y → LeadsToNone b ranks h z y) x
]
