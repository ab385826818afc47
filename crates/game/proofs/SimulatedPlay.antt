-- A simulation carries what moves and answers do.
use Rattle.std.proofs.Common.{◌≡◌, ℕ, zero, suc, inl, inr, subst, IsSome, MatchOption, Option, Some, None}
use Rattle.game.specs.Board.{Partition, Board, IsOutput, IsLetter, EachLeads, SomeLeads, shown}
use Rattle.game.specs.Following.{Moves, Answers, ForcesWithin, ForcesFrom, LeavesOpenWithin, LeavesOpenFrom, RefutesWithin}
use Rattle.game.specs.Simulates.{Simulates}
use Rattle.game.proofs.Simulation.{each_leads, some_leads, not_met}
use Rattle.game.proofs.SimulatedDuty.{HaveSameMoves}

-- meeting the goal by moves within n rounds
pub forces : {s : Partition} (b c : Board s) (R : b.Place → c.Place → Type 0) (move : Moves b) (other : Moves c) → Simulates b c R → HaveSameMoves b c R move other
    → (n : ℕ) (h : b.Place) (g : c.Place) → R h g → ForcesWithin b move n h → ForcesWithin c other n g
forces b c R move other sim same zero h g r w = (sim.met h g r).0 w
forces b c R move other sim same (suc n) h g r (inl m) = inl ((sim.met h g r).0 m)
forces b c R move other sim same (suc n) h g r (inr w) =
    elim (sim.decided h g r) [
      | inl m ↦ inl ((sim.met h g r).0 m)
      | inr unmet ↦ inr (λ x d. let d' = (sim.decision h g r unmet x).1 d in
          subst (EachLeads c (ForcesWithin c other n) g x) (same h g r unmet x d')
          (each_leads b c R (ForcesWithin b move n) (ForcesWithin c other n) sim h g r unmet x (move h x)
          (λ a k l s. forces b c R move other sim same n (b.after h a) (c.after g a) s) (w x d')))
    ]

-- the same from a decision
pub forces_from : {s : Partition} (b c : Board s) (R : b.Place → c.Place → Type 0) (move : Moves b) (other : Moves c) → Simulates b c R → HaveSameMoves b c R move other
    → (n : ℕ) (h : b.Place) (g : c.Place) → R h g → ¬ b.IsMet h → (x : ℕ) → b.IsDecision h x → ForcesFrom b move n h x → ForcesFrom c other n g x
forces_from b c R move other sim same zero h g r unmet x d w = w
forces_from b c R move other sim same (suc n) h g r unmet x d w =
    subst (EachLeads c (ForcesWithin c other n) g x) (same h g r unmet x d)
    (each_leads b c R (ForcesWithin b move n) (ForcesWithin c other n) sim h g r unmet x (move h x)
    (λ a k l s. forces b c R move other sim same n (b.after h a) (c.after g a) s) w)

-- leaving the goal open within n rounds
pub leaves_open : {s : Partition} (b c : Board s) (R : b.Place → c.Place → Type 0) (move : Moves b) (other : Moves c) → Simulates b c R → HaveSameMoves b c R move other
    → (n : ℕ) (h : b.Place) (g : c.Place) → R h g → LeavesOpenWithin b move n h → LeavesOpenWithin c other n g
leaves_open b c R move other sim same zero h g r w = (sim.met h g r).0 w
leaves_open b c R move other sim same (suc n) h g r (inl m) = inl ((sim.met h g r).0 m)
leaves_open b c R move other sim same (suc n) h g r (inr (x, d, w)) =
    elim (sim.decided h g r) [
      | inl m ↦ inl ((sim.met h g r).0 m)
      | inr unmet ↦ inr (
        x,
        (sim.decision h g r unmet x).0 d,
        subst (SomeLeads c (LeavesOpenWithin c other n) g x) (same h g r unmet x d)
            (some_leads b c R (LeavesOpenWithin b move n) (LeavesOpenWithin c other n) sim h g r unmet x (move h x)
            (λ a k l s. leaves_open b c R move other sim same n (b.after h a) (c.after g a) s) w),
      )
    ]

-- the same from a decision
pub leaves_open_from : {s : Partition} (b c : Board s) (R : b.Place → c.Place → Type 0) (move : Moves b) (other : Moves c) → Simulates b c R → HaveSameMoves b c R move other
    → (n : ℕ) (h : b.Place) (g : c.Place) → R h g → ¬ b.IsMet h → (x : ℕ) → b.IsDecision h x → LeavesOpenFrom b move n h x → LeavesOpenFrom c other n g x
leaves_open_from b c R move other sim same zero h g r unmet x d w = w
leaves_open_from b c R move other sim same (suc n) h g r unmet x d w =
    subst (SomeLeads c (LeavesOpenWithin c other n) g x) (same h g r unmet x d)
    (some_leads b c R (LeavesOpenWithin b move n) (LeavesOpenWithin c other n) sim h g r unmet x (move h x)
    (λ a k l s. leaves_open b c R move other sim same n (b.after h a) (c.after g a) s) w)

-- the two environments have one table of answers at related places
abbrev pub HaveSameAnswers : {s : Partition} (b c : Board s) → (b.Place → c.Place → Type 0) → Answers b → Answers c → Type 0
HaveSameAnswers b c R answer other = (h : b.Place) (g : c.Place) → R h g → ¬ b.IsMet h → answer h ≡ other g

-- what a table of answers gives, taken on to another claim
refutes_on : (o : Option (ℕ → ℕ)) (P Q : (ℕ → ℕ) → Type 0) → ((f : ℕ → ℕ) → P f → Q f) → MatchOption o ⊥ P → MatchOption o ⊥ Q
refutes_on None P Q step w = w
refutes_on (Some f) P Q step w = step f w

-- putting off the goal for n rounds
pub refutes : {s : Partition} (b c : Board s) (R : b.Place → c.Place → Type 0) (answer : Answers b) (other : Answers c) → Simulates b c R
    → HaveSameAnswers b c R answer other → (n : ℕ) (h : b.Place) (g : c.Place) → R h g → RefutesWithin b answer n h → RefutesWithin c other n g
refutes b c R answer other sim same zero h g r (unmet, w) =
    (not_met b c R sim h g r unmet, subst (λ o. IsSome o) (same h g r unmet) w)
refutes {s = s} b c R answer other sim same (suc n) h g r (unmet, w) =
    let P : (ℕ → ℕ) → Type 0 = λ input. (y : ℕ) → IsOutput s y → (a : ℕ) × IsLetter s (input (shown s y)) y a × b.IsLegal h a × RefutesWithin b answer n (b.after h a) in
    let Q : (ℕ → ℕ) → Type 0 = λ input. (y : ℕ) → IsOutput s y → (a : ℕ) × IsLetter s (input (shown s y)) y a × c.IsLegal g a × RefutesWithin c other n (c.after g a) in (
      not_met b c R sim h g r unmet,
      subst (λ o. MatchOption o ⊥ Q) (same h g r unmet)
          (refutes_on (answer h) P Q (λ input p y o. let q = p y o in (
            q.0,
            q.1,
            (sim.legal h g r unmet q.0 q.1.letter).0 q.2,
            refutes b c R answer other sim same n (b.after h q.0) (c.after g q.0) (sim.kept h g r unmet q.0 q.1.letter q.2) q.3,
          )) w),
    )
