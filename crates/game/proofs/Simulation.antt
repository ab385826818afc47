-- A simulation carries each notion of the game from one board to the other, and so back.
use Rattle.std.proofs.Common.{ℕ, zero, suc, inl, inr, sym}
use Rattle.game.specs.Board.{Partition, Board, EachLeads, SomeLeads, IsRound}
use Rattle.game.specs.Winning.{WinsWithin, MoveWinsWithin, DecisionWinsWithin, IsWinnable, WinsOrLeads, ReachesWithin, DecisionReachesWithin, CanMeetWithin}
use Rattle.game.specs.Simulates.{Simulates}

-- the same relation, seen from the other board
pub turned : {s : Partition} (b c : Board s) (R : b.Place → c.Place → Type 0) → Simulates b c R → Simulates c b (λ g h. R h g)
turned b c R sim =
    let back : (g : c.Place) (h : b.Place) → R h g → ¬ c.IsMet g → ¬ b.IsMet h = λ g h r unmet m. unmet ((sim.met h g r).0 m) in
    record {
      duty = sym sim.duty;
      decided = λ g h r. elim (sim.decided h g r) [ inl m ↦ inl ((sim.met h g r).0 m) | inr unmet ↦ inr (λ m. unmet ((sim.met h g r).1 m)) ];
      met = λ g h r. let e = sim.met h g r in (e.1, e.0);
      broken = λ g h r. let e = sim.broken h g r in (e.1, e.0);
      decision = λ g h r unmet x. let e = sim.decision h g r (back g h r unmet) x in (e.1, e.0);
      legal = λ g h r unmet a k. let e = sim.legal h g r (back g h r unmet) a k in (e.1, e.0);
      kept = λ g h r unmet a k l. sim.kept h g r (back g h r unmet) a k ((sim.legal h g r (back g h r unmet) a k).1 l);
    }

-- each round leads from one of two related places as from the other
pub each_leads : {s : Partition} (b c : Board s) (R : b.Place → c.Place → Type 0) (P : b.Place → Type 0) (Q : c.Place → Type 0) → Simulates b c R
    → (h : b.Place) (g : c.Place) → R h g → ¬ b.IsMet h
    → (x y : ℕ) → ((a : ℕ) → IsRound s x y a → b.IsLegal h a → R (b.after h a) (c.after g a) → P (b.after h a) → Q (c.after g a))
    → EachLeads b P h x y → EachLeads c Q g x y
each_leads b c R P Q sim h g r unmet x y step each a round legal =
    let l = (sim.legal h g r unmet a round.letter).1 legal in
    step a round l (sim.kept h g r unmet a round.letter l) (each a round l)

-- and so does some round
pub some_leads : {s : Partition} (b c : Board s) (R : b.Place → c.Place → Type 0) (P : b.Place → Type 0) (Q : c.Place → Type 0) → Simulates b c R
    → (h : b.Place) (g : c.Place) → R h g → ¬ b.IsMet h
    → (x y : ℕ) → ((a : ℕ) → IsRound s x y a → b.IsLegal h a → R (b.after h a) (c.after g a) → P (b.after h a) → Q (c.after g a))
    → SomeLeads b P h x y → SomeLeads c Q g x y
some_leads b c R P Q sim h g r unmet x y step (a, round, l, p) =
    (a, round, (sim.legal h g r unmet a round.letter).0 l, step a round l (sim.kept h g r unmet a round.letter l) p)

-- winning within n rounds
pub wins : {s : Partition} (b c : Board s) (R : b.Place → c.Place → Type 0) → Simulates b c R
    → (n : ℕ) (h : b.Place) (g : c.Place) → R h g → WinsWithin b n h → WinsWithin c n g
wins b c R sim zero h g r w = (sim.met h g r).0 w
wins b c R sim (suc n) h g r (inl m) = inl ((sim.met h g r).0 m)
wins b c R sim (suc n) h g r (inr w) =
    elim (sim.decided h g r) [
      | inl m ↦ inl ((sim.met h g r).0 m)
      | inr unmet ↦ inr (λ x d. let v = w x ((sim.decision h g r unmet x).1 d) in (
        v.0,
        v.1,
        each_leads b c R (WinsWithin b n) (WinsWithin c n) sim h g r unmet x v.0
            (λ a k l s. wins b c R sim n (b.after h a) (c.after g a) s) v.2,
      ))
    ]

-- winning by a move within n rounds
pub move_wins : {s : Partition} (b c : Board s) (R : b.Place → c.Place → Type 0) → Simulates b c R
    → (n : ℕ) (h : b.Place) (g : c.Place) → R h g → ¬ b.IsMet h → (x y : ℕ) → MoveWinsWithin b n h x y → MoveWinsWithin c n g x y
move_wins b c R sim zero h g r unmet x y w = w
move_wins b c R sim (suc n) h g r unmet x y w =
    each_leads b c R (WinsWithin b n) (WinsWithin c n) sim h g r unmet x y (λ a k l s. wins b c R sim n (b.after h a) (c.after g a) s) w

-- winning from a decision within n rounds
pub decision_wins : {s : Partition} (b c : Board s) (R : b.Place → c.Place → Type 0) → Simulates b c R
    → (n : ℕ) (h : b.Place) (g : c.Place) → R h g → ¬ b.IsMet h → (x : ℕ) → DecisionWinsWithin b n h x → DecisionWinsWithin c n g x
decision_wins b c R sim n h g r unmet x (y, o, w) = (y, o, move_wins b c R sim n h g r unmet x y w)

-- winning from a decision
pub winnable : {s : Partition} (b c : Board s) (R : b.Place → c.Place → Type 0) → Simulates b c R
    → (h : b.Place) (g : c.Place) → R h g → ¬ b.IsMet h → (x : ℕ) → IsWinnable b h x → IsWinnable c g x
winnable b c R sim h g r unmet x (n, w) = (n, decision_wins b c R sim n h g r unmet x w)

-- a place that is not met, seen from the other board
pub not_met : {s : Partition} (b c : Board s) (R : b.Place → c.Place → Type 0) → Simulates b c R
    → (h : b.Place) (g : c.Place) → R h g → ¬ b.IsMet h → ¬ c.IsMet g
not_met b c R sim h g r unmet m = unmet ((sim.met h g r).1 m)

-- a decision that is won, or can't be and leads on
pub wins_or_leads : {s : Partition} (b c : Board s) (R : b.Place → c.Place → Type 0) (P : b.Place → Type 0) (Q : c.Place → Type 0) → Simulates b c R
    → (n : ℕ) (h : b.Place) (g : c.Place) → R h g → ¬ b.IsMet h
    → (x : ℕ) → ((y a : ℕ) → IsRound s x y a → b.IsLegal h a → R (b.after h a) (c.after g a) → P (b.after h a) → Q (c.after g a))
    → WinsOrLeads b n P h x → WinsOrLeads c n Q g x
wins_or_leads b c R P Q sim n h g r unmet x step (inl w) = inl (decision_wins b c R sim (suc n) h g r unmet x w)
wins_or_leads b c R P Q sim n h g r unmet x step (inr (never, y, o, l)) =
    inr (
      λ w. never (winnable c b (λ g h. R h g) (turned b c R sim) g h r (not_met b c R sim h g r unmet) x w),
      y,
      o,
      some_leads b c R P Q sim h g r unmet x y (step y) l,
    )

-- hope within n rounds
pub reaches : {s : Partition} (b c : Board s) (R : b.Place → c.Place → Type 0) → Simulates b c R
    → (n : ℕ) (h : b.Place) (g : c.Place) → R h g → ReachesWithin b n h → ReachesWithin c n g
reaches b c R sim zero h g r w = (sim.met h g r).0 w
reaches b c R sim (suc n) h g r (inl m) = inl ((sim.met h g r).0 m)
reaches b c R sim (suc n) h g r (inr (x, d, w)) =
    elim (sim.decided h g r) [
      | inl m ↦ inl ((sim.met h g r).0 m)
      | inr unmet ↦ inr (
        x,
        (sim.decision h g r unmet x).0 d,
        wins_or_leads b c R (ReachesWithin b n) (ReachesWithin c n) sim n h g r unmet x
            (λ y a k l s. reaches b c R sim n (b.after h a) (c.after g a) s) w,
      )
    ]

-- hope from a decision within n rounds
pub decision_reaches : {s : Partition} (b c : Board s) (R : b.Place → c.Place → Type 0) → Simulates b c R
    → (n : ℕ) (h : b.Place) (g : c.Place) → R h g → ¬ b.IsMet h → (x : ℕ) → DecisionReachesWithin b n h x → DecisionReachesWithin c n g x
decision_reaches b c R sim zero h g r unmet x w = w
decision_reaches b c R sim (suc n) h g r unmet x w =
    wins_or_leads b c R (ReachesWithin b n) (ReachesWithin c n) sim n h g r unmet x
    (λ y a k l s. reaches b c R sim n (b.after h a) (c.after g a) s) w

-- meeting the goal by at most n legal rounds
pub can_meet : {s : Partition} (b c : Board s) (R : b.Place → c.Place → Type 0) → Simulates b c R
    → (n : ℕ) (h : b.Place) (g : c.Place) → R h g → CanMeetWithin b n h → CanMeetWithin c n g
can_meet b c R sim zero h g r w = (sim.met h g r).0 w
can_meet b c R sim (suc n) h g r (inl m) = inl ((sim.met h g r).0 m)
can_meet b c R sim (suc n) h g r (inr (a, k, l, w)) =
    elim (sim.decided h g r) [
      | inl m ↦ inl ((sim.met h g r).0 m)
      | inr unmet ↦ inr (a, k, (sim.legal h g r unmet a k).0 l, can_meet b c R sim n (b.after h a) (c.after g a) (sim.kept h g r unmet a k l) w)
    ]
