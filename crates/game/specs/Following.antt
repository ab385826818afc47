-- What the moves and answers of a strategy do on a board.
use Rattle.std.specs.Prelude.{◌⊎◌, ℕ, zero, suc, Option, IsSome, MatchOption}
use Rattle.game.specs.Board.{Partition, Board, EachLeads, SomeLeads, IsOutput, IsLetter, shown}

-- the output that a strategy gives to a decision at a place
abbrev pub Moves : {s : Partition} → Board s → Type 0
Moves b = b.Place → ℕ → ℕ

-- the input that the environment gives to what it is shown at a place, where it has a table of answers: agent first to each
-- output, environment first one input whatever the output
abbrev pub Answers : {s : Partition} → Board s → Type 0
Answers b = b.Place → Option (ℕ → ℕ)

-- the moves meet the goal within n rounds, whatever the environment does
abbrev pub ForcesWithin : {s : Partition} (b : Board s) → Moves b → ℕ → b.Place → Type 0
ForcesWithin b move zero h = b.IsMet h
ForcesWithin b move (suc n) h = b.IsMet h ⊎ ((x : ℕ) → b.IsDecision h x → EachLeads b (ForcesWithin b move n) h x (move h x))

-- the same from a decision
abbrev pub ForcesFrom : {s : Partition} (b : Board s) → Moves b → ℕ → b.Place → ℕ → Type 0
ForcesFrom b move zero h x = ⊥
ForcesFrom b move (suc n) h x = EachLeads b (ForcesWithin b move n) h x (move h x)

-- under the moves some legal play meets the goal within n rounds
abbrev pub LeavesOpenWithin : {s : Partition} (b : Board s) → Moves b → ℕ → b.Place → Type 0
LeavesOpenWithin b move zero h = b.IsMet h
LeavesOpenWithin b move (suc n) h = b.IsMet h ⊎ ((x : ℕ) × b.IsDecision h x × SomeLeads b (LeavesOpenWithin b move n) h x (move h x))

-- the same from a decision
abbrev pub LeavesOpenFrom : {s : Partition} (b : Board s) → Moves b → ℕ → b.Place → ℕ → Type 0
LeavesOpenFrom b move zero h x = ⊥
LeavesOpenFrom b move (suc n) h x = SomeLeads b (LeavesOpenWithin b move n) h x (move h x)

-- the moves keep the duty for n rounds, whatever the environment does. A goal on the way ends nothing.
abbrev pub HoldsDutyWithin : {s : Partition} (b : Board s) → Moves b → ℕ → b.Place → Type 0
HoldsDutyWithin b move zero h = ¬ b.IsBroken h
HoldsDutyWithin b move (suc n) h = (¬ b.IsBroken h) × ((x : ℕ) → b.IsDecision h x → EachLeads b (HoldsDutyWithin b move n) h x (move h x))

-- the same where the first round has this decision
abbrev pub HoldsDutyFrom : {s : Partition} (b : Board s) → Moves b → ℕ → b.Place → ℕ → Type 0
HoldsDutyFrom b move zero h x = ¬ b.IsBroken h
HoldsDutyFrom b move (suc n) h x = (¬ b.IsBroken h) × EachLeads b (HoldsDutyWithin b move n) h x (move h x)

-- the environment's answers put off the goal for n rounds, whatever the agent plays: the place has answers, and each makes
-- a legal round that leads to where this holds for one round less
abbrev pub RefutesWithin : {s : Partition} (b : Board s) → Answers b → ℕ → b.Place → Type 0
RefutesWithin b answer zero h = (¬ b.IsMet h) × IsSome (answer h)
RefutesWithin {s = s} b answer (suc n) h = (¬ b.IsMet h) × MatchOption (answer h) ⊥ (λ input. (y : ℕ) → IsOutput s y
    → (a : ℕ) × IsLetter s (input (shown s y)) y a × b.IsLegal h a × RefutesWithin b answer n (b.after h a))
