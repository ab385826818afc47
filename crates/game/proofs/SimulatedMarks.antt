-- A simulation carries marks, printed moves and printed answers.
use Rattle.std.proofs.Common.{◌<◌, ◌^◌, ℕ, zero, suc, sym, ◌∙◌}
use Rattle.game.specs.Board.{Mover, Agent, Environment, Partition, Board, SomeLeads, IsLeastNumber}
use Rattle.game.specs.Winning.{WinsWithin, MoveWinsWithin, DecisionWinsWithin, ReachesWithin, DecisionReachesWithin, FailsDutyWithin, DecisionFailsDutyWithin, KeepsDuty}
use Rattle.game.specs.Marks.{Mark, Goal, Win, Pending, Lost, Held, LostIn, HasMark, HasDecisionMark, IsMove, IsOutOfReach, IsDecisionOutOfReach, CanKeepDuty, IsLeastOutput, Evades, IsAnswer}
use Rattle.game.specs.Simulates.{Simulates}
use Rattle.game.proofs.Simulation.{turned, not_met, some_leads, wins, move_wins, decision_wins, reaches, decision_reaches}
use Rattle.game.proofs.SimulatedDuty.{NeverMet, NeverMetFrom, never_there, never_from_there, fails_duty, decision_fails_duty, keeps_duty}

-- a least number of one claim is that of a claim that says the same
pub least_same : (P Q : ℕ → Type 0) (n : ℕ) → ((k : ℕ) → P k → Q k) → ((k : ℕ) → Q k → P k) → IsLeastNumber P n → IsLeastNumber Q n
least_same P Q n to back l = record { holds = to n l.holds; least = λ k h q. l.least k h (back k q) }

-- what no number has in one, none has in the other
none_same : (P Q : ℕ → Type 0) → ((k : ℕ) → Q k → P k) → ((k : ℕ) → ¬ P k) → (k : ℕ) → ¬ Q k
none_same P Q back none k q = none k (back k q)

-- the related place is out of reach too
out_of_reach : {s : Partition} (b c : Board s) (R : b.Place → c.Place → Type 0) → Simulates b c R
    → (h : b.Place) (g : c.Place) → R h g → IsOutOfReach b h → IsOutOfReach c g
out_of_reach b c R sim h g r (lost, hopeless) =
    let S : c.Place → b.Place → Type 0 = λ g h. R h g in
    let back = turned b c R sim in
    (λ k w. lost k (wins c b S back k g h r w), λ k w. hopeless k (reaches c b S back k g h r w))

-- the mark of a place is that of a related place
pub mark : {s : Partition} (b c : Board s) (R : b.Place → c.Place → Type 0) → Simulates b c R
    → (h : b.Place) (g : c.Place) → R h g → (((k : ℕ) → ¬ ReachesWithin b k h) → NeverMet b h) → (m : Mark) → HasMark b h m → HasMark c g m
mark b c R sim h g r never Goal m = (sim.met h g r).0 m
mark b c R sim h g r never (Win n) (unmet, l) =
    let S : c.Place → b.Place → Type 0 = λ g h. R h g in (
      not_met b c R sim h g r unmet,
      least_same (λ k. WinsWithin b k h) (λ k. WinsWithin c k g) n (λ k. wins b c R sim k h g r) (λ k. wins c b S (turned b c R sim) k g h r) l,
    )
mark b c R sim h g r never (Pending n) (lost, l) =
    let S : c.Place → b.Place → Type 0 = λ g h. R h g in (
      λ k w. lost k (wins c b S (turned b c R sim) k g h r w),
      least_same (λ k. ReachesWithin b k h) (λ k. ReachesWithin c k g) n (λ k. reaches b c R sim k h g r) (λ k. reaches c b S (turned b c R sim) k g h r) l,
    )
mark b c R sim h g r never Lost (none, out) = (sym sim.duty ∙ none, out_of_reach b c R sim h g r out)
mark b c R sim h g r never Held (some, out, holds) =
    let S : c.Place → b.Place → Type 0 = λ g h. R h g in (
      sym sim.duty ∙ some,
      out_of_reach b c R sim h g r out,
      λ k w. holds k (fails_duty c b S (turned b c R sim) k g h r (never_there b c R sim h g r (never out.1)) w),
    )
mark b c R sim h g r never (LostIn n) (some, out, l) =
    let S : c.Place → b.Place → Type 0 = λ g h. R h g in (
      sym sim.duty ∙ some,
      out_of_reach b c R sim h g r out,
      least_same (λ k. FailsDutyWithin b k h) (λ k. FailsDutyWithin c k g) n (λ k. fails_duty b c R sim k h g r (never out.1))
          (λ k. fails_duty c b S (turned b c R sim) k g h r (never_there b c R sim h g r (never out.1))) l,
    )

-- the decision is out of reach too
decision_out_of_reach : {s : Partition} (b c : Board s) (R : b.Place → c.Place → Type 0) → Simulates b c R
    → (h : b.Place) (g : c.Place) → R h g → ¬ b.IsMet h → (x : ℕ) → IsDecisionOutOfReach b h x → IsDecisionOutOfReach c g x
decision_out_of_reach b c R sim h g r unmet x (lost, hopeless) =
    let S : c.Place → b.Place → Type 0 = λ g h. R h g in
    let back = turned b c R sim in
    let there = not_met b c R sim h g r unmet in
    (λ k w. lost k (decision_wins c b S back k g h r there x w), λ k w. hopeless k (decision_reaches c b S back k g h r there x w))

-- keeping the duty by some output
can_keep_duty : {s : Partition} (b c : Board s) (R : b.Place → c.Place → Type 0) → Simulates b c R
    → (h : b.Place) (g : c.Place) → R h g → ¬ b.IsMet h → (x : ℕ) → NeverMetFrom b h x → CanKeepDuty b h x → CanKeepDuty c g x
can_keep_duty b c R sim h g r unmet x never (y, o, w) = (y, o, keeps_duty b c R sim h g r unmet x never y w)

-- the mark of a decision is that of the decision at a related place
pub decision_mark : {s : Partition} (b c : Board s) (R : b.Place → c.Place → Type 0) → Simulates b c R
    → (h : b.Place) (g : c.Place) → R h g → ¬ b.IsMet h → (x : ℕ) → (IsDecisionOutOfReach b h x → NeverMetFrom b h x)
    → (m : Mark) → HasDecisionMark b h x m → HasDecisionMark c g x m
decision_mark b c R sim h g r unmet x never Goal w = w
decision_mark b c R sim h g r unmet x never (Win n) l =
    let S : c.Place → b.Place → Type 0 = λ g h. R h g in
    least_same (λ k. DecisionWinsWithin b k h x) (λ k. DecisionWinsWithin c k g x) n (λ k. decision_wins b c R sim k h g r unmet x)
    (λ k. decision_wins c b S (turned b c R sim) k g h r (not_met b c R sim h g r unmet) x) l
decision_mark b c R sim h g r unmet x never (Pending n) (lost, l) =
    let S : c.Place → b.Place → Type 0 = λ g h. R h g in
    let there = not_met b c R sim h g r unmet in (
      λ k w. lost k (decision_wins c b S (turned b c R sim) k g h r there x w),
      least_same (λ k. DecisionReachesWithin b k h x) (λ k. DecisionReachesWithin c k g x) n (λ k. decision_reaches b c R sim k h g r unmet x)
          (λ k. decision_reaches c b S (turned b c R sim) k g h r there x) l,
    )
decision_mark b c R sim h g r unmet x never Lost (none, out) = (sym sim.duty ∙ none, decision_out_of_reach b c R sim h g r unmet x out)
decision_mark b c R sim h g r unmet x never Held (some, out, keeps) =
    (sym sim.duty ∙ some, decision_out_of_reach b c R sim h g r unmet x out, can_keep_duty b c R sim h g r unmet x (never out) keeps)
decision_mark b c R sim h g r unmet x never (LostIn n) (some, out, loses, l) =
    let S : c.Place → b.Place → Type 0 = λ g h. R h g in
    let there = not_met b c R sim h g r unmet in
    let never_there = never_from_there b c R sim h g r unmet x (never out) in (
      sym sim.duty ∙ some,
      decision_out_of_reach b c R sim h g r unmet x out,
      λ keeps. loses (can_keep_duty c b S (turned b c R sim) g h r there x never_there keeps),
      least_same (λ k. DecisionFailsDutyWithin b k h x) (λ k. DecisionFailsDutyWithin c k g x) n (λ k. decision_fails_duty b c R sim k h g r unmet x (never out))
          (λ k. decision_fails_duty c b S (turned b c R sim) k g h r there x never_there) l,
    )

-- some round with an output leads to hope, at a related place too
hopes : {s : Partition} (b c : Board s) (R : b.Place → c.Place → Type 0) → Simulates b c R
    → (n : ℕ) (h : b.Place) (g : c.Place) → R h g → ¬ b.IsMet h → (x y : ℕ) → SomeLeads b (ReachesWithin b n) h x y → SomeLeads c (ReachesWithin c n) g x y
hopes b c R sim n h g r unmet x y w =
    some_leads b c R (ReachesWithin b n) (ReachesWithin c n) sim h g r unmet x y (λ a k l q. reaches b c R sim n (b.after h a) (c.after g a) q) w

-- a least output of one claim is that of a claim that says the same
least_output_same : (s : Partition) (P Q : ℕ → Type 0) (n : ℕ) → ((k : ℕ) → P k → Q k) → ((k : ℕ) → Q k → P k) → IsLeastOutput s P n → IsLeastOutput s Q n
least_output_same s P Q n to back l = record { output = l.output; least = least_same P Q n to back l.least }

-- the printed move is that at a related place
pub printed_move : {s : Partition} (b c : Board s) (R : b.Place → c.Place → Type 0) → Simulates b c R
    → (h : b.Place) (g : c.Place) → R h g → ¬ b.IsMet h → (x : ℕ) → (IsDecisionOutOfReach b h x → NeverMetFrom b h x)
    → (m : Mark) → HasDecisionMark b h x m → (y : ℕ) → IsMove b h x m y → IsMove c g x m y
printed_move b c R sim h g r unmet x never Goal marked y w = w
printed_move {s = s} b c R sim h g r unmet x never (Win n) marked y w =
    let S : c.Place → b.Place → Type 0 = λ g h. R h g in
    least_output_same s (λ z. MoveWinsWithin b n h x z) (λ z. MoveWinsWithin c n g x z) y (λ z. move_wins b c R sim n h g r unmet x z)
    (λ z. move_wins c b S (turned b c R sim) n g h r (not_met b c R sim h g r unmet) x z) w
printed_move b c R sim h g r unmet x never (Pending zero) marked y w = w
printed_move {s = s} b c R sim h g r unmet x never (Pending (suc n)) marked y w =
    let S : c.Place → b.Place → Type 0 = λ g h. R h g in
    least_output_same s (λ z. SomeLeads b (ReachesWithin b n) h x z) (λ z. SomeLeads c (ReachesWithin c n) g x z) y (λ z. hopes b c R sim n h g r unmet x z)
    (λ z. hopes c b S (turned b c R sim) n g h r (not_met b c R sim h g r unmet) x z) w
printed_move {s = s} b c R sim h g r unmet x never Held marked y w =
    let S : c.Place → b.Place → Type 0 = λ g h. R h g in
    least_output_same s (λ z. KeepsDuty b h x z) (λ z. KeepsDuty c g x z) y (λ z. keeps_duty b c R sim h g r unmet x (never marked.1) z)
    (λ z. keeps_duty c b S (turned b c R sim) g h r (not_met b c R sim h g r unmet) x (never_from_there b c R sim h g r unmet x (never marked.1)) z) w
printed_move b c R sim h g r unmet x never Lost marked y w = w
printed_move b c R sim h g r unmet x never (LostIn n) marked y w = w

-- an input that evades an output, at a related place too
evades : {s : Partition} (b c : Board s) (R : b.Place → c.Place → Type 0) → Simulates b c R
    → (h : b.Place) (g : c.Place) → R h g → ¬ b.IsMet h → (x y : ℕ) → Evades b h x y → Evades c g x y
evades b c R sim h g r unmet x y (a, letter, l, lost) =
    let S : c.Place → b.Place → Type 0 = λ g h. R h g in (
      a,
      letter,
      (sim.legal h g r unmet a letter.letter).0 l,
      λ k w. lost k (wins c b S (turned b c R sim) k (c.after g a) (b.after h a) (sim.kept h g r unmet a letter.letter l) w),
    )

-- the printed answer is that at a related place
printed_answer_by : (m : Mover) (i o : ℕ) (b c : Board (record { first = m; inputs = i; outputs = o })) (h : b.Place) (g : c.Place)
    → ((x y : ℕ) → Evades b h x y → Evades c g x y) → ((x y : ℕ) → Evades c g x y → Evades b h x y) → (y x : ℕ) → IsAnswer b h y x → IsAnswer c g y x
printed_answer_by Agent i o b c h g to back y x w = least_same (λ z. Evades b h z y) (λ z. Evades c g z y) x (λ z. to z y) (λ z. back z y) w
printed_answer_by Environment i o b c h g to back y x w =
    least_same (λ z. (y : ℕ) → y < 2 ^ o → Evades b h z y) (λ z. (y : ℕ) → y < 2 ^ o → Evades c g z y) x (λ z p y k. to z y (p y k)) (λ z q y k. back z y (q y k)) w

pub printed_answer : {s : Partition} (b c : Board s) (R : b.Place → c.Place → Type 0) → Simulates b c R
    → (h : b.Place) (g : c.Place) → R h g → ¬ b.IsMet h → (y x : ℕ) → IsAnswer b h y x → IsAnswer c g y x
printed_answer {s = s} b c R sim h g r unmet y x w =
    let S : c.Place → b.Place → Type 0 = λ g h. R h g in
    printed_answer_by s.first s.inputs s.outputs b c h g (evades b c R sim h g r unmet)
    (evades c b S (turned b c R sim) g h r (not_met b c R sim h g r unmet)) y x w
