-- A simulation carries what is said of the duty, where no legal rounds meet the goal. Past a goal nothing is related, and the
-- duty goes on there.
use Rattle.std.proofs.Common.{◌≡◌, ◌<◌, ◌^◌, ℕ, zero, suc, inl, inr, subst}
use Rattle.game.specs.Board.{Partition, Board, width, IsRound, EachLeads}
use Rattle.game.specs.Winning.{CanMeetWithin, FailsDutyWithin, DecisionFailsDutyWithin, KeepsDuty}
use Rattle.game.specs.Following.{Moves, HoldsDutyWithin, HoldsDutyFrom}
use Rattle.game.specs.Simulates.{Simulates}
use Rattle.game.proofs.Simulation.{turned, each_leads, some_leads, can_meet}

-- no legal rounds lead to where the goal is met
abbrev pub NeverMet : {s : Partition} (b : Board s) → b.Place → Type 0
NeverMet b h = (k : ℕ) → ¬ CanMeetWithin b k h

-- nor do they after a legal round
pub never_after : {s : Partition} (b : Board s) (h : b.Place) → NeverMet b h → (a : ℕ) → a < 2 ^ width s → b.IsLegal h a → NeverMet b (b.after h a)
never_after b h never a k l n w = never (suc n) (inr (a, k, l, w))

-- nor from the place as seen from the other board
pub never_there : {s : Partition} (b c : Board s) (R : b.Place → c.Place → Type 0) → Simulates b c R
    → (h : b.Place) (g : c.Place) → R h g → NeverMet b h → NeverMet c g
never_there b c R sim h g r never k w = never k (can_meet c b (λ g h. R h g) (turned b c R sim) k g h r w)

-- breaking the duty within n rounds
pub fails_duty : {s : Partition} (b c : Board s) (R : b.Place → c.Place → Type 0) → Simulates b c R
    → (n : ℕ) (h : b.Place) (g : c.Place) → R h g → NeverMet b h → FailsDutyWithin b n h → FailsDutyWithin c n g
fails_duty b c R sim zero h g r never w = (sim.broken h g r).0 w
fails_duty b c R sim (suc n) h g r never (inl w) = inl ((sim.broken h g r).0 w)
fails_duty b c R sim (suc n) h g r never (inr (x, d, w)) =
    inr (
      x,
      (sim.decision h g r (never zero) x).0 d,
      λ y o. some_leads b c R (FailsDutyWithin b n) (FailsDutyWithin c n) sim h g r (never zero) x y
          (λ a k l q. fails_duty b c R sim n (b.after h a) (c.after g a) q (never_after b h never a k.letter l)) (w y o),
    )

-- after no legal round with the decision can the goal be met
abbrev pub NeverMetFrom : {s : Partition} (b : Board s) → b.Place → ℕ → Type 0
NeverMetFrom {s = s} b h x = (y a : ℕ) → IsRound s x y a → b.IsLegal h a → NeverMet b (b.after h a)

-- nor from the place as seen from the other board
pub never_from_there : {s : Partition} (b c : Board s) (R : b.Place → c.Place → Type 0) → Simulates b c R
    → (h : b.Place) (g : c.Place) → R h g → ¬ b.IsMet h → (x : ℕ) → NeverMetFrom b h x → NeverMetFrom c g x
never_from_there b c R sim h g r unmet x never y a k l =
    let l' = (sim.legal h g r unmet a k.letter).1 l in
    never_there b c R sim (b.after h a) (c.after g a) (sim.kept h g r unmet a k.letter l') (never y a k l')

-- breaking it from a decision
pub decision_fails_duty : {s : Partition} (b c : Board s) (R : b.Place → c.Place → Type 0) → Simulates b c R
    → (n : ℕ) (h : b.Place) (g : c.Place) → R h g → ¬ b.IsMet h → (x : ℕ) → NeverMetFrom b h x → DecisionFailsDutyWithin b n h x → DecisionFailsDutyWithin c n g x
decision_fails_duty b c R sim zero h g r unmet x never w = w
decision_fails_duty b c R sim (suc n) h g r unmet x never w = λ y o.
    some_leads b c R (FailsDutyWithin b n) (FailsDutyWithin c n) sim h g r unmet x y
    (λ a k l q. fails_duty b c R sim n (b.after h a) (c.after g a) q (never y a k l)) (w y o)

-- keeping it by an output
pub keeps_duty : {s : Partition} (b c : Board s) (R : b.Place → c.Place → Type 0) → Simulates b c R
    → (h : b.Place) (g : c.Place) → R h g → ¬ b.IsMet h → (x : ℕ) → NeverMetFrom b h x → (y : ℕ) → KeepsDuty b h x y → KeepsDuty c g x y
keeps_duty b c R sim h g r unmet x never y w =
    each_leads b c R (λ h. (k : ℕ) → ¬ FailsDutyWithin b k h) (λ g. (k : ℕ) → ¬ FailsDutyWithin c k g) sim h g r unmet x y
    (λ a k l q keeps i f. keeps i (fails_duty c b (λ g h. R h g) (turned b c R sim) i (c.after g a) (b.after h a) q
    (never_there b c R sim (b.after h a) (c.after g a) q (never y a k l)) f)) w

-- the two strategies give one output to a decision at related places
abbrev pub HaveSameMoves : {s : Partition} (b c : Board s) → (b.Place → c.Place → Type 0) → Moves b → Moves c → Type 0
HaveSameMoves b c R move other = (h : b.Place) (g : c.Place) → R h g → ¬ b.IsMet h → (x : ℕ) → b.IsDecision h x → move h x ≡ other g x

-- keeping the duty by moves for n rounds
pub holds_duty : {s : Partition} (b c : Board s) (R : b.Place → c.Place → Type 0) (move : Moves b) (other : Moves c) → Simulates b c R → HaveSameMoves b c R move other
    → (n : ℕ) (h : b.Place) (g : c.Place) → R h g → NeverMet b h → HoldsDutyWithin b move n h → HoldsDutyWithin c other n g
holds_duty b c R move other sim same zero h g r never w = λ e. w ((sim.broken h g r).1 e)
holds_duty b c R move other sim same (suc n) h g r never (whole, w) = (
  λ e. whole ((sim.broken h g r).1 e),
  λ x d. let d' = (sim.decision h g r (never zero) x).1 d in
      subst (EachLeads c (HoldsDutyWithin c other n) g x) (same h g r (never zero) x d')
      (each_leads b c R (HoldsDutyWithin b move n) (HoldsDutyWithin c other n) sim h g r (never zero) x (move h x)
      (λ a k l q. holds_duty b c R move other sim same n (b.after h a) (c.after g a) q (never_after b h never a k.letter l)) (w x d')),
)

-- the same from a decision
pub holds_duty_from : {s : Partition} (b c : Board s) (R : b.Place → c.Place → Type 0) (move : Moves b) (other : Moves c) → Simulates b c R → HaveSameMoves b c R move other
    → (n : ℕ) (h : b.Place) (g : c.Place) → R h g → ¬ b.IsMet h → (x : ℕ) → b.IsDecision h x → NeverMetFrom b h x → HoldsDutyFrom b move n h x → HoldsDutyFrom c other n g x
holds_duty_from b c R move other sim same zero h g r unmet x d never w = λ e. w ((sim.broken h g r).1 e)
holds_duty_from b c R move other sim same (suc n) h g r unmet x d never (whole, w) = (
  λ e. whole ((sim.broken h g r).1 e),
  subst (EachLeads c (HoldsDutyWithin c other n) g x) (same h g r unmet x d)
      (each_leads b c R (HoldsDutyWithin b move n) (HoldsDutyWithin c other n) sim h g r unmet x (move h x)
      (λ a k l q. holds_duty b c R move other sim same n (b.after h a) (c.after g a) q (never (move h x) a k l)) w),
)
