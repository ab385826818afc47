-- What the laws of the game ask of a board, and what they give of moves that go by marks.
use Rattle.std.specs.Prelude.{◌<◌, ◌^◌, ◌⊎◌, ℕ}
use Rattle.game.specs.Board.{Partition, Board, width}
use Rattle.game.specs.Following.{Moves, ForcesWithin, ForcesFrom, LeavesOpenWithin, LeavesOpenFrom, HoldsDutyWithin, HoldsDutyFrom}
use Rattle.game.specs.Marks.{Mark, Win, Pending, Held, HasDecisionMark, IsMove}
use Rattle.game.specs.Playable.{IsPlayable}

-- Places at which the game can be played, where it is told whether the goal is met, and until then a legal round keeps a
-- broken duty broken.
pub record GoesOn {s : Partition} (b : Board s) (In : b.Place → Type 0) : Type 0 where
  pub playable : IsPlayable b In
  pub met : (h : b.Place) → In h → b.IsMet h ⊎ (¬ b.IsMet h)
  pub broken : (h : b.Place) (a : ℕ) → In h → ¬ b.IsMet h → a < 2 ^ width s → b.IsLegal h a → b.IsBroken h → b.IsBroken (b.after h a)

-- each decision has a mark, and the move is that of the mark
abbrev pub GoByMarks : {s : Partition} (b : Board s) → (b.Place → Type 0) → Moves b → Type 0
GoByMarks b In move = (h : b.Place) (x : ℕ) → In h → ¬ b.IsMet h → b.IsDecision h x → (m : Mark) × HasDecisionMark b h x m × IsMove b h x m (move h x)

-- what the moves give at a place with this mark
abbrev pub Keeps : {s : Partition} (b : Board s) → Moves b → b.Place → Mark → Type 0
Keeps b move h (Win n) = ForcesWithin b move n h
Keeps b move h (Pending n) = LeavesOpenWithin b move n h
Keeps b move h Held = (n : ℕ) → HoldsDutyWithin b move n h
Keeps b move h m = Unit {0}

-- what they give from a decision with this mark
abbrev pub KeepsFrom : {s : Partition} (b : Board s) → Moves b → b.Place → ℕ → Mark → Type 0
KeepsFrom b move h x (Win n) = ForcesFrom b move n h x
KeepsFrom b move h x (Pending n) = LeavesOpenFrom b move n h x
KeepsFrom b move h x Held = (n : ℕ) → HoldsDutyFrom b move n h x
KeepsFrom b move h x m = Unit {0}
