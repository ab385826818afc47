-- What is computed on an arena is the printed strategy.
use Rattle.std.proofs.Common.{◌≡◌, ◌<◌, ℕ, [], sym, subst, inl, inr, false, Option, Some, None}
use Rattle.std.proofs.lemmas.Bool.{cases_Bool}
use Rattle.game.specs.Board.{Partition, Board, width}
use Rattle.game.specs.Marks.{Mark, Goal, Win, Pending, Lost, Held, LostIn}
use Rattle.game.specs.Histories.{Aims, IsKeepable, is_given}
use Rattle.game.specs.Arena.{Locations, locations, IsArenaOf}
use Rattle.game.specs.Playing.{GoesOn}
use Rattle.printed_strategy.specs.Strategy.{Strategy, Choice}
use Rattle.printed_strategy.specs.Printed.{IsVerdict, IsChoiceFor, AreAnswers, AreAnswersFor, IsPrintedFor}
use Rattle.game.specs.Values.{IsMarkedBy}
use Rattle.printed_strategy.specs.Planned.{IsPlanOn, IsChosenFor, IsComputedOn}
use Rattle.play_laws.proofs.ValueLemmas.{chosen-right, marked-right, answer-right}
use Rattle.automata.proofs.Words.{over-nil}
use Rattle.game.specs.Same.{Claims, aims_with, Agree}
use Rattle.game.proofs.SameLemmas.{arena_same, keepable_same, duty_same}
use Rattle.play_laws.proofs.ArenaGoesOn.{arena_goes_on}
use Rattle.printed_strategy.proofs.ArenaPlans.{printed_from_arena}

module _ (s : Aims) (m : Locations) (arena : IsArenaOf s m) (keep : IsKeepable s []) (ranks distances losses : ℕ → Option ℕ) (t : Strategy)
    (made : IsComputedOn s.parts (is_given s.duty) m ranks distances losses t) where
  abbrev board : Board s.parts
  board = locations s.parts (is_given s.duty) m

  on : GoesOn board (λ at. at < m.size)
  on = arena_goes_on s m arena keep

  no-goal : (at : ℕ) → ¬ board.IsMet at → m.is_goal at ≡ false
  no-goal at unmet = elim (cases_Bool (m.is_goal at)) [ inl e ↦ absurd (unmet e) | inr e ↦ e ]

  choice-right : (at x : ℕ) → at < m.size → ¬ board.IsMet at → (o : Option Choice) → IsChosenFor board ranks distances losses at x o → IsChoiceFor board at x o
  choice-right at x l unmet None w = w
  choice-right at x l unmet (Some c) w =
      let r = chosen-right board (λ at. at < m.size) on ranks distances losses made.numbers at x l unmet w.0 c.mark c.output w.1 in
      (w.0, r.0, r.1)

  table : (at : ℕ) → at < m.size → ¬ board.IsMet at → ranks at ≡ None → AreAnswers board at (t.answers at)
  table at l unmet none =
      let w = made.answers at l (no-goal at unmet) none in
      subst (λ o. AreAnswers board at o) (sym w.1) (λ y shows.
      answer-right board (λ at. at < m.size) on ranks distances losses made.numbers at l unmet y (w.0 y) (w.2 y shows))

  answers-right : (at : ℕ) → at < m.size → ¬ board.IsMet at → (k : Mark) → IsMarkedBy board ranks distances losses at k → AreAnswersFor board at k (t.answers at)
  answers-right at l unmet Goal w = tt
  answers-right at l unmet (Win n) w = made.unanswered at n l (no-goal at unmet) w.1
  answers-right at l unmet (Pending n) w = table at l unmet w.0
  answers-right at l unmet Lost w = table at l unmet w.1
  answers-right at l unmet Held w = table at l unmet w.1
  answers-right at l unmet (LostIn n) w = table at l unmet w.1

  -- it is right on the arena
  pub computed_is_planned : IsPlanOn s.parts (is_given s.duty) m t
  computed_is_planned = record {
    parts = made.parts;
    duty = made.duty;
    verdict = subst (λ o. IsVerdict board 0 o) (sym made.verdict) (made.numbers.rank 0 arena.numbered.some);
    size = made.size;
    target = made.target;
    right = λ at l. record {
      mark = marked-right board (λ at. at < m.size) on ranks distances losses made.numbers at l (t.mark at) (made.mark at l);
      choice = λ unmet x k. choice-right at x l unmet (t.choice at x) (made.choice at x l (no-goal at unmet) k);
      answers = λ unmet. answers-right at l unmet (t.mark at) (made.mark at l);
    };
  }

  -- so it is the printed strategy
  pub printed_from_numbers : IsPrintedFor s t
  printed_from_numbers = printed_from_arena s m arena t computed_is_planned keep

-- What is computed on the arena of some claims is the printed strategy of claims that agree with them on all words over the
-- propositions: those of automata, and those of the formulas that they were made of.
pub printed_for_claims : (parts : Partition) (c d : Claims) → Agree (width parts) c d → (m : Locations) → IsArenaOf (aims_with parts c) m → IsKeepable (aims_with parts c) []
    → (ranks distances losses : ℕ → Option ℕ) (t : Strategy) → IsComputedOn parts (is_given c.duty) m ranks distances losses t → IsPrintedFor (aims_with parts d) t
printed_for_claims parts c d agree m arena keep ranks distances losses t made =
    printed_from_numbers (aims_with parts d) m (arena_same parts c d m agree arena)
    (keepable_same parts c d agree [] (over-nil (width parts)) keep) ranks distances losses t
    (subst (λ b. IsComputedOn parts b m ranks distances losses t) (duty_same (width parts) c.duty d.duty agree.duty) made)
