-- What the agent can force, what it can hope for, and what the environment can break.
use Rattle.std.specs.Prelude.{◌<◌, ◌^◌, ◌⊎◌, ℕ, zero, suc}
use Rattle.game.specs.Board.{Partition, Board, EachLeads, SomeLeads, IsOutput, width}

-- the agent can meet the goal within n rounds: to each decision it has an output after which it can within one less
abbrev pub WinsWithin : {s : Partition} (b : Board s) → ℕ → b.Place → Type 0
WinsWithin b zero h = b.IsMet h
WinsWithin {s = s} b (suc n) h = b.IsMet h ⊎ ((x : ℕ) → b.IsDecision h x → (y : ℕ) × IsOutput s y × EachLeads b (WinsWithin b n) h x y)

-- after the output y to the decision x the agent can meet the goal within n rounds, this one counted
abbrev pub MoveWinsWithin : {s : Partition} (b : Board s) → ℕ → b.Place → ℕ → ℕ → Type 0
MoveWinsWithin b zero h x y = ⊥
MoveWinsWithin b (suc n) h x y = EachLeads b (WinsWithin b n) h x y

-- some output to the decision wins within n rounds
abbrev pub DecisionWinsWithin : {s : Partition} (b : Board s) → ℕ → b.Place → ℕ → Type 0
DecisionWinsWithin {s = s} b n h x = (y : ℕ) × IsOutput s y × MoveWinsWithin b n h x y

-- some output to the decision wins within some number of rounds
abbrev pub IsWinnable : {s : Partition} (b : Board s) → b.Place → ℕ → Type 0
IsWinnable b h x = (n : ℕ) × DecisionWinsWithin b n h x

-- the decision is won within n + 1 rounds; or it can't be won, and some legal round with it leads into P
abbrev pub WinsOrLeads : {s : Partition} (b : Board s) → ℕ → (b.Place → Type 0) → b.Place → ℕ → Type 0
WinsOrLeads {s = s} b n P h x = DecisionWinsWithin b (suc n) h x ⊎ ((¬ IsWinnable b h x) × (y : ℕ) × IsOutput s y × SomeLeads b P h x y)

-- the goal can still be met within n rounds by an agent that wins where it can. This is no plain distance: a decision that
-- can be won counts by its winning moves alone.
abbrev pub ReachesWithin : {s : Partition} (b : Board s) → ℕ → b.Place → Type 0
ReachesWithin b zero h = b.IsMet h
ReachesWithin b (suc n) h = b.IsMet h ⊎ ((x : ℕ) × b.IsDecision h x × WinsOrLeads b n (ReachesWithin b n) h x)

-- the same from a decision
abbrev pub DecisionReachesWithin : {s : Partition} (b : Board s) → ℕ → b.Place → ℕ → Type 0
DecisionReachesWithin b zero h x = ⊥
DecisionReachesWithin b (suc n) h x = WinsOrLeads b n (ReachesWithin b n) h x

-- at most n legal rounds lead to where the goal is met
abbrev pub CanMeetWithin : {s : Partition} (b : Board s) → ℕ → b.Place → Type 0
CanMeetWithin b zero h = b.IsMet h
CanMeetWithin {s = s} b (suc n) h = b.IsMet h ⊎ ((a : ℕ) × (a < 2 ^ width s) × b.IsLegal h a × CanMeetWithin b n (b.after h a))

-- at most n legal rounds, the first with this decision, lead to where the goal is met
abbrev pub CanMeetFrom : {s : Partition} (b : Board s) → ℕ → b.Place → ℕ → Type 0
CanMeetFrom b zero h x = ⊥
CanMeetFrom {s = s} b (suc n) h x = (y : ℕ) × IsOutput s y × SomeLeads b (CanMeetWithin b n) h x y

-- whatever the output to the decision, some legal round with both leads into P
abbrev pub EachOutputMayLead : {s : Partition} (b : Board s) → (b.Place → Type 0) → b.Place → ℕ → Type 0
EachOutputMayLead {s = s} b P h x = (y : ℕ) → IsOutput s y → SomeLeads b P h x y

-- the environment can break the duty within n rounds: by some decision, whatever the output. A goal on the way ends nothing.
abbrev pub FailsDutyWithin : {s : Partition} (b : Board s) → ℕ → b.Place → Type 0
FailsDutyWithin b zero h = b.IsBroken h
FailsDutyWithin b (suc n) h = b.IsBroken h ⊎ ((x : ℕ) × b.IsDecision h x × EachOutputMayLead b (FailsDutyWithin b n) h x)

-- the same from a decision
abbrev pub DecisionFailsDutyWithin : {s : Partition} (b : Board s) → ℕ → b.Place → ℕ → Type 0
DecisionFailsDutyWithin b zero h x = ⊥
DecisionFailsDutyWithin b (suc n) h x = EachOutputMayLead b (FailsDutyWithin b n) h x

-- no legal round with the decision and this output lets the environment break the duty
abbrev pub KeepsDuty : {s : Partition} (b : Board s) → b.Place → ℕ → ℕ → Type 0
KeepsDuty b h x y = EachLeads b (λ g. (k : ℕ) → ¬ FailsDutyWithin b k g) h x y
