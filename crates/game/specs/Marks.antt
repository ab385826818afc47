-- Marks of places and of decisions, the printed moves and answers.
use Rattle.std.specs.Prelude.{◌≡◌, ◌<◌, ℕ, zero, suc, true, false}
use Rattle.game.specs.Board.{Partition, Agent, Environment, Board, SomeLeads, IsOutput, IsLetter, IsLeastNumber}
use Rattle.game.specs.Winning.{WinsWithin, MoveWinsWithin, DecisionWinsWithin, ReachesWithin, DecisionReachesWithin, FailsDutyWithin, DecisionFailsDutyWithin, KeepsDuty}

-- the goal is met; it is won, or to be hoped for, within so many rounds; it is lost, where there is no duty; where there
-- is one, it is kept for good, or broken within so many rounds
pub data Mark : Type 0 where
  Goal : Mark
  Win : ℕ → Mark
  Pending : ℕ → Mark
  Lost : Mark
  Held : Mark
  LostIn : ℕ → Mark

-- no number wins, and none leaves hope
abbrev pub IsOutOfReach : {s : Partition} (b : Board s) → b.Place → Type 0
IsOutOfReach b h = ((k : ℕ) → ¬ WinsWithin b k h) × ((k : ℕ) → ¬ ReachesWithin b k h)

-- the mark of a place
abbrev pub HasMark : {s : Partition} (b : Board s) → b.Place → Mark → Type 0
HasMark b h Goal = b.IsMet h
HasMark b h (Win n) = (¬ b.IsMet h) × IsLeastNumber (λ k. WinsWithin b k h) n
HasMark b h (Pending n) = ((k : ℕ) → ¬ WinsWithin b k h) × IsLeastNumber (λ k. ReachesWithin b k h) n
HasMark b h Lost = (b.has_duty ≡ false) × IsOutOfReach b h
HasMark b h Held = (b.has_duty ≡ true) × IsOutOfReach b h × ((k : ℕ) → ¬ FailsDutyWithin b k h)
HasMark b h (LostIn n) = (b.has_duty ≡ true) × IsOutOfReach b h × IsLeastNumber (λ k. FailsDutyWithin b k h) n

-- no number wins from the decision, and none leaves hope
abbrev pub IsDecisionOutOfReach : {s : Partition} (b : Board s) → b.Place → ℕ → Type 0
IsDecisionOutOfReach b h x = ((k : ℕ) → ¬ DecisionWinsWithin b k h x) × ((k : ℕ) → ¬ DecisionReachesWithin b k h x)

-- some output to the decision keeps the duty
abbrev pub CanKeepDuty : {s : Partition} (b : Board s) → b.Place → ℕ → Type 0
CanKeepDuty {s = s} b h x = (y : ℕ) × IsOutput s y × KeepsDuty b h x y

-- the mark of a decision
abbrev pub HasDecisionMark : {s : Partition} (b : Board s) → b.Place → ℕ → Mark → Type 0
HasDecisionMark b h x Goal = ⊥
HasDecisionMark b h x (Win n) = IsLeastNumber (λ k. DecisionWinsWithin b k h x) n
HasDecisionMark b h x (Pending n) = ((k : ℕ) → ¬ DecisionWinsWithin b k h x) × IsLeastNumber (λ k. DecisionReachesWithin b k h x) n
HasDecisionMark b h x Lost = (b.has_duty ≡ false) × IsDecisionOutOfReach b h x
HasDecisionMark b h x Held = (b.has_duty ≡ true) × IsDecisionOutOfReach b h x × CanKeepDuty b h x
HasDecisionMark b h x (LostIn n) = (b.has_duty ≡ true) × IsDecisionOutOfReach b h x × (¬ CanKeepDuty b h x)
    × IsLeastNumber (λ k. DecisionFailsDutyWithin b k h x) n

-- y is the least output with P
pub record IsLeastOutput (s : Partition) (P : ℕ → Type 0) (y : ℕ) : Type 0 where
  pub output : IsOutput s y
  pub least : IsLeastNumber P y

-- the printed move for a decision with this mark
abbrev pub IsMove : {s : Partition} (b : Board s) → b.Place → ℕ → Mark → ℕ → Type 0
IsMove {s = s} b h x (Win n) y = IsLeastOutput s (λ z. MoveWinsWithin b n h x z) y
IsMove b h x (Pending zero) y = ⊥
IsMove {s = s} b h x (Pending (suc n)) y = IsLeastOutput s (λ z. SomeLeads b (ReachesWithin b n) h x z) y
IsMove {s = s} b h x Held y = IsLeastOutput s (λ z. KeepsDuty b h x z) y
IsMove b h x Goal y = ⊥
IsMove b h x Lost y = y ≡ 0
IsMove b h x (LostIn n) y = y ≡ 0

-- the letter with this input and this output is legal and leads to where no number wins
abbrev pub Evades : {s : Partition} (b : Board s) → b.Place → ℕ → ℕ → Type 0
Evades {s = s} b h x y = (a : ℕ) × IsLetter s x y a × b.IsLegal h a × ((k : ℕ) → ¬ WinsWithin b k (b.after h a))

-- the printed answer to an output: agent first the least input that evades it, environment first the least that evades all
abbrev pub IsAnswer : {s : Partition} (b : Board s) → b.Place → ℕ → ℕ → Type 0
IsAnswer {s = s} b h y x = elim s.first [
  | Agent ↦ IsLeastNumber (λ z. Evades b h z y) x
  | Environment ↦ IsLeastNumber (λ z. (y : ℕ) → IsOutput s y → Evades b h z y) x
]

-- the number of the mark, where it has one, is below n
abbrev pub HasNumberBelow : ℕ → Mark → Type 0
HasNumberBelow n (Win k) = k < n
HasNumberBelow n (Pending k) = k < n
HasNumberBelow n (LostIn k) = k < n
HasNumberBelow n m = Unit {0}
