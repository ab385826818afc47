-- Marks and moves by the numbers of the places after a round are those of the definition.
use Rattle.std.proofs.Common.{◌≡◌, ◌<◌, ◌^◌, ℕ, zero, suc, refl, sym, subst, inl, inr, arith, Option, Some, None}
use Rattle.std.proofs.lemmas.Bool.{cases_lt}
use Rattle.std.proofs.lemmas.Option.{none-some, same_Some}
use Rattle.game.specs.Board.{Mover, Agent, Environment, Partition, Board, SomeLeads, IsOutput, IsRound, IsLeastNumber}
use Rattle.game.specs.Numbers.{IsLeastOrNone}
use Rattle.game.specs.Winning.{WinsWithin, MoveWinsWithin, DecisionWinsWithin, ReachesWithin, DecisionReachesWithin, IsWinnable, FailsDutyWithin, KeepsDuty, DecisionFailsDutyWithin}
use Rattle.game.specs.Marks.{Mark, Goal, Win, Pending, Lost, Held, LostIn, HasMark, HasDecisionMark, IsMove, IsDecisionOutOfReach, IsOutOfReach, IsLeastOutput, Evades, IsAnswer}
use Rattle.game.specs.Playing.{GoesOn}
use Rattle.game.specs.Values.{IsAtMost, IsMarkedBy, LeadsToNone, IsAnswerBy, AreNumbers, AllAtMost, SomeAtMost, AllWithout, SomeOutput, EachOutput, IsBestRank, IsBestDistance, IsChosen, won, pending, lost, held, lost_in}
use Rattle.game.proofs.SimulatedMarks.{least_same}
use Rattle.game.proofs.Hope.{winning_is_hope}
use Rattle.game.proofs.LeastLemmas.{upwards}
use Rattle.game.proofs.WinningLemmas.{wins-suc, reaches-suc, fails-suc}

-- a least number is at most k exactly where k has P, P passing to greater numbers
pub at_most-has : (P : ℕ → Type 0) → ((k : ℕ) → P k → P (suc k)) → (o : Option ℕ) (k : ℕ) → IsLeastOrNone P o → IsAtMost o k → P k
at_most-has P up None k l a = absurd a
at_most-has P up (Some n) k l a = upwards P up n k a l.holds

pub has-at_most : (P : ℕ → Type 0) (o : Option ℕ) (k : ℕ) → IsLeastOrNone P o → P k → IsAtMost o k
has-at_most P None k l p = l k p
has-at_most P (Some n) k l p =
    elim (cases_lt k n) [
      | inl h ↦ absurd (l.least k h p)
      | inr h ↦ h
    ]

pub none-never : (P : ℕ → Type 0) (o : Option ℕ) → IsLeastOrNone P o → o ≡ None → (k : ℕ) → ¬ P k
none-never P None l e = l
none-never P (Some n) l e = absurd (none-some n (sym e))

pub never-none : (P : ℕ → Type 0) (o : Option ℕ) → IsLeastOrNone P o → ((k : ℕ) → ¬ P k) → o ≡ None
never-none P None l c = refl
never-none P (Some n) l c = absurd (c n l.holds)

-- a least number, one more
suc-least : (P Q : ℕ → Type 0) → (¬ Q 0) → ((k : ℕ) → P k → Q (suc k)) → ((k : ℕ) → Q (suc k) → P k) → (n : ℕ) → IsLeastNumber P n → IsLeastNumber Q (suc n)
suc-least P Q none to from n l = record { holds = to n l.holds; least = less }
  where
    less : (k : ℕ) → k < suc n → ¬ Q k
    less zero h q = none q
    less (suc k) h q = l.least k (omega (arith, h)) (from k q)

suc-never : (P Q : ℕ → Type 0) → (¬ Q 0) → ((k : ℕ) → Q (suc k) → P k) → ((k : ℕ) → ¬ P k) → (k : ℕ) → ¬ Q k
suc-never P Q none from never zero q = none q
suc-never P Q none from never (suc k) q = never k (from k q)

-- the least output with one property is that with an equivalent one
output-like : (s : Partition) (P Q : ℕ → Type 0) → ((y : ℕ) → P y → Q y) → ((y : ℕ) → Q y → P y) → (y : ℕ) → IsLeastOutput s P y → IsLeastOutput s Q y
output-like s P Q to from y l = record { output = l.output; least = record { holds = to y l.least.holds; least = λ k h q. l.least.least k h (from k q) } }

module _ {s : Partition} (b : Board s) (In : b.Place → Type 0) (on : GoesOn b In) (ranks distances losses : b.Place → Option ℕ) (numbers : AreNumbers b In ranks distances losses)
    (h : b.Place) (x : ℕ) (here : In h) (unmet : ¬ b.IsMet h) (decides : b.IsDecision h x) where
  next : (a y : ℕ) → IsRound s x y a → b.IsLegal h a → In (b.after h a)
  next a y r l = on.playable.kept h here unmet a r.letter l

  wins-by : (y k : ℕ) → AllAtMost b ranks h x y k → MoveWinsWithin b (suc k) h x y
  wins-by y k all = λ a r l. at_most-has (λ i. WinsWithin b i (b.after h a)) (λ i. wins-suc b i (b.after h a)) _ k (numbers.rank (b.after h a) (next a y r l)) (all a r l)

  by-wins : (y k : ℕ) → MoveWinsWithin b (suc k) h x y → AllAtMost b ranks h x y k
  by-wins y k w = λ a r l. has-at_most (λ i. WinsWithin b i (b.after h a)) _ k (numbers.rank (b.after h a) (next a y r l)) (w a r l)

  reaches-by : (y k : ℕ) → SomeAtMost b distances h x y k → SomeLeads b (ReachesWithin b k) h x y
  reaches-by y k (a, r, l, w) = (a, r, l, at_most-has (λ i. ReachesWithin b i (b.after h a)) (λ i. reaches-suc b i (b.after h a)) _ k (numbers.distance (b.after h a) (next a y r l)) w)

  by-reaches : (y k : ℕ) → SomeLeads b (ReachesWithin b k) h x y → SomeAtMost b distances h x y k
  by-reaches y k (a, r, l, w) = (a, r, l, has-at_most (λ i. ReachesWithin b i (b.after h a)) _ k (numbers.distance (b.after h a) (next a y r l)) w)

  never-wins : IsBestRank b ranks h x None → (k : ℕ) → ¬ DecisionWinsWithin b k h x
  never-wins none = suc-never (λ k. SomeOutput s (λ y. AllAtMost b ranks h x y k)) (λ k. DecisionWinsWithin b k h x) (λ w. w.2) (λ k w. (w.0, w.1, by-wins w.0 k w.2)) none

  not-winnable : IsBestRank b ranks h x None → ¬ IsWinnable b h x
  not-winnable none w = never-wins none w.0 w.1

  near-by : IsBestRank b ranks h x None → (k : ℕ) → DecisionReachesWithin b (suc k) h x → SomeOutput s (λ y. SomeAtMost b distances h x y k)
  near-by none k (inl w) = absurd (never-wins none (suc k) w)
  near-by none k (inr w) = (w.1, w.2, by-reaches w.1 k w.3)

  never-near : IsBestRank b ranks h x None → IsBestDistance b distances h x None → (k : ℕ) → ¬ DecisionReachesWithin b k h x
  never-near none far = suc-never (λ k. SomeOutput s (λ y. SomeAtMost b distances h x y k)) (λ k. DecisionReachesWithin b k h x) (λ w. w) (near-by none) far

  out : IsBestRank b ranks h x None → IsBestDistance b distances h x None → IsDecisionOutOfReach b h x
  out none far = (never-wins none, never-near none far)

  -- after a decision that is out of reach all places are
  out-next : IsDecisionOutOfReach b h x → (a y : ℕ) → IsOutput s y → IsRound s x y a → b.IsLegal h a → IsOutOfReach b (b.after h a)
  out-next o a y w r l =
      let none : ¬ IsWinnable b h x = λ z. o.0 z.0 z.1 in
      let never : (k : ℕ) → ¬ ReachesWithin b k (b.after h a) = λ k z. o.1 (suc k) (inr (none, y, w, (a, r, l, z))) in
      (λ k z. never k (winning_is_hope b In on.playable on.met k (b.after h a) (next a y r l) z), never)

  keeps-by : IsDecisionOutOfReach b h x → (y : ℕ) → IsOutput s y → AllWithout b losses h x y → KeepsDuty b h x y
  keeps-by o y w all = λ a r l. none-never (λ k. FailsDutyWithin b k (b.after h a)) _ (numbers.loss (b.after h a) (next a y r l) (out-next o a y w r l)) (all a r l)

  by-keeps : IsDecisionOutOfReach b h x → (y : ℕ) → IsOutput s y → KeepsDuty b h x y → AllWithout b losses h x y
  by-keeps o y w keeps = λ a r l. never-none (λ k. FailsDutyWithin b k (b.after h a)) _ (numbers.loss (b.after h a) (next a y r l) (out-next o a y w r l)) (keeps a r l)

  fails-by : IsDecisionOutOfReach b h x → (k : ℕ) → EachOutput s (λ y. SomeAtMost b losses h x y k) → DecisionFailsDutyWithin b (suc k) h x
  fails-by o k each y w =
      let s = each y w in
      (s.0, s.1, s.2, at_most-has (λ i. FailsDutyWithin b i (b.after h s.0)) (λ i. fails-suc b i (b.after h s.0)) _ k (numbers.loss (b.after h s.0) (next s.0 y s.1 s.2) (out-next o s.0 y w s.1 s.2)) s.3)

  by-fails : IsDecisionOutOfReach b h x → (k : ℕ) → DecisionFailsDutyWithin b (suc k) h x → EachOutput s (λ y. SomeAtMost b losses h x y k)
  by-fails o k f y w =
      let s = f y w in
      (s.0, s.1, s.2, has-at_most (λ i. FailsDutyWithin b i (b.after h s.0)) _ k (numbers.loss (b.after h s.0) (next s.0 y s.1 s.2) (out-next o s.0 y w s.1 s.2)) s.3)

  held-like : IsDecisionOutOfReach b h x → (y : ℕ) → IsLeastOutput s (λ z. AllWithout b losses h x z) y → IsLeastOutput s (λ z. KeepsDuty b h x z) y
  held-like o y l = record { output = l.output; least = record { holds = keeps-by o y l.output l.least.holds; least = λ k less q. l.least.least k less (by-keeps o k (omega (arith, less, l.output)) q) } }

  -- what is chosen has the mark of the decision, and is the move
  pub chosen-right : (m : Mark) (y : ℕ) → IsChosen b ranks distances losses h x m y → HasDecisionMark b h x m × IsMove b h x m y
  chosen-right m y (won {n = n} best least) = (
    suc-least (λ k. SomeOutput s (λ z. AllAtMost b ranks h x z k)) (λ k. DecisionWinsWithin b k h x) (λ w. w.2)
        (λ k w. (w.0, w.1, wins-by w.0 k w.2)) (λ k w. (w.0, w.1, by-wins w.0 k w.2)) n best,
    output-like s (λ z. AllAtMost b ranks h x z n) (λ z. MoveWinsWithin b (suc n) h x z) (λ z. wins-by z n) (λ z. by-wins z n) y least,
  )
  chosen-right m y (pending {n = n} none best least) = (
    (
      never-wins none,
      suc-least (λ k. SomeOutput s (λ z. SomeAtMost b distances h x z k)) (λ k. DecisionReachesWithin b k h x) (λ w. w)
          (λ k w. inr (not-winnable none, w.0, w.1, reaches-by w.0 k w.2)) (near-by none) n best,
    ),
    output-like s (λ z. SomeAtMost b distances h x z n) (λ z. SomeLeads b (ReachesWithin b n) h x z) (λ z. reaches-by z n) (λ z. by-reaches z n) y least,
  )
  chosen-right m y (lost none far c) = ((c, out none far), refl)
  chosen-right m y (held none far duty least) =
      let o = out none far in
      ((duty, o, (y, least.output, keeps-by o y least.output least.least.holds)), held-like o y least)
  chosen-right m y (lost_in {n = n} none far duty c best) =
      let o = out none far in (
        (
          duty,
          o,
          λ w. c (w.0, w.1, by-keeps o w.0 w.1 w.2),
          suc-least (λ k. EachOutput s (λ z. SomeAtMost b losses h x z k)) (λ k. DecisionFailsDutyWithin b k h x) (λ w. w) (fails-by o) (by-fails o) n best,
        ),
        refl,
      )

-- a least number is the one that is there
least-is : (P : ℕ → Type 0) (o : Option ℕ) (n : ℕ) → IsLeastOrNone P o → o ≡ Some n → IsLeastNumber P n
least-is P None n l e = absurd (none-some n e)
least-is P (Some k) n l e = subst (λ z. IsLeastNumber P z) (same_Some k n e) l

module _ {s : Partition} (b : Board s) (In : b.Place → Type 0) (on : GoesOn b In) (ranks distances losses : b.Place → Option ℕ) (numbers : AreNumbers b In ranks distances losses) where
  -- the mark by the numbers is the mark
  pub marked-right : (h : b.Place) → In h → (m : Mark) → IsMarkedBy b ranks distances losses h m → HasMark b h m
  marked-right h i Goal w = w
  marked-right h i (Win n) w = (w.0, least-is (λ k. WinsWithin b k h) (ranks h) n (numbers.rank h i) w.1)
  marked-right h i (Pending n) w =
      (none-never (λ k. WinsWithin b k h) (ranks h) (numbers.rank h i) w.0, least-is (λ k. ReachesWithin b k h) (distances h) n (numbers.distance h i) w.1)
  marked-right h i Lost w =
      (w.0, (none-never (λ k. WinsWithin b k h) (ranks h) (numbers.rank h i) w.1, none-never (λ k. ReachesWithin b k h) (distances h) (numbers.distance h i) w.2))
  marked-right h i Held w =
      let out : IsOutOfReach b h = (none-never (λ k. WinsWithin b k h) (ranks h) (numbers.rank h i) w.1, none-never (λ k. ReachesWithin b k h) (distances h) (numbers.distance h i) w.2) in
      (w.0, out, none-never (λ k. FailsDutyWithin b k h) (losses h) (numbers.loss h i out) w.3)
  marked-right h i (LostIn n) w =
      let out : IsOutOfReach b h = (none-never (λ k. WinsWithin b k h) (ranks h) (numbers.rank h i) w.1, none-never (λ k. ReachesWithin b k h) (distances h) (numbers.distance h i) w.2) in
      (w.0, out, least-is (λ k. FailsDutyWithin b k h) (losses h) n (numbers.loss h i out) w.3)

  evades-by : (h : b.Place) → In h → ¬ b.IsMet h → (x y : ℕ) → LeadsToNone b ranks h x y → Evades b h x y
  evades-by h i unmet x y (a, q, l, e) =
      (a, q, l, none-never (λ k. WinsWithin b k (b.after h a)) (ranks (b.after h a)) (numbers.rank (b.after h a) (on.playable.kept h i unmet a q.letter l)) e)

  by-evades : (h : b.Place) → In h → ¬ b.IsMet h → (x y : ℕ) → Evades b h x y → LeadsToNone b ranks h x y
  by-evades h i unmet x y (a, q, l, never) =
      (a, q, l, never-none (λ k. WinsWithin b k (b.after h a)) (ranks (b.after h a)) (numbers.rank (b.after h a) (on.playable.kept h i unmet a q.letter l)) never)

answer-by : (d : Mover) (i o : ℕ) (b : Board (record { first = d; inputs = i; outputs = o })) (ranks : b.Place → Option ℕ) (h : b.Place)
    → ((x y : ℕ) → LeadsToNone b ranks h x y → Evades b h x y) → ((x y : ℕ) → Evades b h x y → LeadsToNone b ranks h x y) → (y x : ℕ) → IsAnswerBy b ranks h y x → IsAnswer b h y x
answer-by Agent i o b ranks h to back y x w = least_same (λ z. LeadsToNone b ranks h z y) (λ z. Evades b h z y) x (λ z. to z y) (λ z. back z y) w
answer-by Environment i o b ranks h to back y x w =
    least_same (λ z. (y : ℕ) → y < 2 ^ o → LeadsToNone b ranks h z y) (λ z. (y : ℕ) → y < 2 ^ o → Evades b h z y) x (λ z p y k. to z y (p y k)) (λ z q y k. back z y (q y k)) w

-- the answer by ranks is the answer
pub answer-right : {s : Partition} (b : Board s) (In : b.Place → Type 0) → GoesOn b In → (ranks distances losses : b.Place → Option ℕ) → AreNumbers b In ranks distances losses
    → (h : b.Place) → In h → ¬ b.IsMet h → (y x : ℕ) → IsAnswerBy b ranks h y x → IsAnswer b h y x
answer-right {s = s} b In on ranks distances losses numbers h i unmet y x w =
    answer-by s.first s.inputs s.outputs b ranks h (evades-by b In on ranks distances losses numbers h i unmet) (by-evades b In on ranks distances losses numbers h i unmet) y x w
