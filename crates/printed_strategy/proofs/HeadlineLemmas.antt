-- The printed strategy keeps what it prints.
use Rattle.std.proofs.Common.{◌≡◌, ◌<◌, ◌^◌, ℕ, [], ◌∷◌, ◌++◌, refl, sym, ◌∙◌, ap, subst, inl, Option, Some, None}
use Rattle.std.specs.Prelude.{IsSome}
use Rattle.std.proofs.lemmas.Bool.{false≢true}
use Rattle.std.proofs.lemmas.Option.{none-some}
use Rattle.std.proofs.lemmas.List.Elements.{All-nil}
use Rattle.forms.specs.Word.{Word}
use Rattle.game.specs.Board.{Board, Mover, Agent, Environment, Partition, width, IsOutput, IsLeastNumber, shown}
use Rattle.game.specs.Winning.{WinsWithin, DecisionReachesWithin, CanMeetWithin, CanMeetFrom}
use Rattle.game.specs.Marks.{Mark, Goal, Win, Pending, Lost, Held, LostIn, HasMark, HasDecisionMark, IsOutOfReach, Evades}
use Rattle.game.specs.Histories.{Aims, histories, IsHistory, IsKeepable, IsDone, IsRunning}
use Rattle.printed_strategy.specs.Strategy.{Strategy, Choice, location_after, choice_from, move_at, answers_from, answers_at}
use Rattle.printed_strategy.specs.Printed.{IsPrintedFor, IsChoiceFor, AreAnswersFor, AreAnswers, IsVerdict}
use Rattle.printed_strategy.specs.Headline.{Follows, IsRefuted, Promises, PromisesFrom, KeepsPromises}
use Rattle.game.specs.Playing.{GoesOn, Keeps, KeepsFrom}
use Rattle.printed_strategy.proofs.LocationLemmas.{place, place-some}
use Rattle.game.proofs.HistoryLemmas.{live_unmet}
use Rattle.game.proofs.Hope.{winning_is_meeting, winning_is_meeting_from, hope_is_meeting, hope_is_meeting_from}
use Rattle.play_laws.proofs.MarkedPlay.{keeps-mark, keeps-mark_from, forces-won}
use Rattle.play_laws.proofs.Possible.{near-can, near-can_from, refutes-never}
use Rattle.play_laws.proofs.HistoriesGoOn.{decision-choice}
use Rattle.printed_strategy.proofs.NumberLemmas.{few_numbers}
use Rattle.printed_strategy.proofs.Located.{Located, located-right, histories_go_on, moves_go_by_marks}

append-empty : (h : Word) → h ≡ h ++ []
append-empty [] = refl
append-empty (a ∷ h) = ap (λ z. a ∷ z) (append-empty h)

-- and hasn't met the goal
pub running-unmet : (s : Aims) (h : Word) → IsRunning s h → ¬ IsDone s h
running-unmet s h r = r.1 h [] (append-empty h)

-- printed answers evade
evading_by : (d : Mover) (i o : ℕ) (b : Board (record { first = d; inputs = i; outputs = o })) (h : b.Place) (f : ℕ → ℕ) → AreAnswers b h (Some f)
    → (y : ℕ) → y < 2 ^ o → Evades b h (f (shown (record { first = d; inputs = i; outputs = o }) y)) y
evading_by Agent i o b h f right y small = (right y small).holds
evading_by Environment i o b h f right y small = (right 0 refl).holds y small

evading : {s : Partition} (b : Board s) (h : b.Place) (f : ℕ → ℕ) → AreAnswers b h (Some f) → (y : ℕ) → IsOutput s y → Evades b h (f (shown s y)) y
evading {s = s} b h f right y small = evading_by s.first s.inputs s.outputs b h f right y small

-- there is a table where no number wins
table-some : {s : Partition} (b : Board s) (h : b.Place) (o : Option (ℕ → ℕ)) → AreAnswers b h o → (f : ℕ → ℕ) × (o ≡ Some f) × AreAnswers b h (Some f)
table-some b h None a = absurd a
table-some b h (Some f) a = (f, refl, a)

answered : {s : Partition} (b : Board s) (h : b.Place) (m : Mark) (o : Option (ℕ → ℕ)) → HasMark b h m → ((k : ℕ) → ¬ WinsWithin b k h) → AreAnswersFor b h m o
    → (f : ℕ → ℕ) × (o ≡ Some f) × AreAnswers b h (Some f)
answered b h Goal o w never a = absurd (never 0 w)
answered b h (Win n) o w never a = absurd (never n w.1.holds)
answered b h (Pending n) o w never a = table-some b h o a
answered b h Lost o w never a = table-some b h o a
answered b h Held o w never a = table-some b h o a
answered b h (LostIn n) o w never a = table-some b h o a

module _ (s : Aims) (t : Strategy) (p : IsPrintedFor s t) (keep : IsKeepable s []) where
  on_here : GoesOn (histories s) (Located s t)
  on_here = histories_go_on s t p.locations keep

  -- a running history has a location
  located : (h : Word) → IsHistory s h → IsRunning s h → Located s t h
  located h o r = (o, (p.locations.live h o).1 (inl r))

  pub located-start : Located s t []
  located-start = (All-nil (λ a. a < 2 ^ width s.parts), refl)

  answers-at : (o : Option ℕ) → IsSome o → answers_from t o ≡ t.answers (place o)
  answers-at None e = absurd (false≢true e)
  answers-at (Some at) e = refl

  right-answers : (h : Word) → Located s t h → ((k : ℕ) → ¬ WinsWithin (histories s) k h)
      → (f : ℕ → ℕ) × (answers_at t h ≡ Some f) × ((y : ℕ) → IsOutput s.parts y → Evades (histories s) h (f (shown s.parts y)) y)
  right-answers h l never =
      let at = place (location_after t h) in
      let r = located-right s t p h l in
      let a = answered (histories s) h (t.mark at) (t.answers at) r.mark never (r.answers (never 0)) in (
        a.0,
        answers-at (location_after t h) l.1 ∙ a.1,
        evading (histories s) h a.0 a.2,
      )

  -- where no number of rounds wins, the printed answers refute each
  pub refuted : (h : Word) → Located s t h → ((k : ℕ) → ¬ WinsWithin (histories s) k h) → IsRefuted (histories s) (answers_at t) h
  refuted h l never = (never, λ k. refutes-never (histories s) (Located s t) (answers_at t) on_here right-answers k h l never)

  kept : (h : Word) (m : Mark) → Located s t h → HasMark (histories s) h m → Keeps (histories s) (move_at t) h m
  kept h m l w = keeps-mark (histories s) (Located s t) (move_at t) on_here (moves_go_by_marks s t p) h m l w

  no_can : (h : Word) → Located s t h → IsOutOfReach (histories s) h → (k : ℕ) → ¬ CanMeetWithin (histories s) k h
  no_can h l out k w =
      let z = near-can (histories s) (Located s t) (move_at t) on_here (moves_go_by_marks s t p) k h l w in
      out.1 z.0 z.1

  promised : (h : Word) (m : Mark) → Located s t h → ¬ IsDone s h → HasMark (histories s) h m → Promises (histories s) (move_at t) (answers_at t) h m
  promised h Goal l u w = absurd (u w)
  promised h (Win n) l u w = (w.1, kept h (Win n) l w, winning_is_meeting (histories s) (Located s t) on_here.playable on_here.met n h l w.1.holds)
  promised h (Pending n) l u w = (refuted h l w.0, kept h (Pending n) l w, hope_is_meeting (histories s) (Located s t) on_here.playable on_here.met n h l w.1.holds)
  promised h Lost l u w = (refuted h l w.1.0, no_can h l w.1)
  promised h Held l u w = (refuted h l w.1.0, no_can h l w.1, kept h Held l w)
  promised h (LostIn n) l u w = (refuted h l w.1.0, no_can h l w.1, w.2)

  no_can_from : (h : Word) (x : ℕ) → Located s t h → ¬ IsDone s h → (histories s).IsDecision h x
      → ((k : ℕ) → ¬ DecisionReachesWithin (histories s) k h x) → (k : ℕ) → ¬ CanMeetFrom (histories s) k h x
  no_can_from h x l u d never k w =
      let z = near-can_from (histories s) (Located s t) (move_at t) on_here (moves_go_by_marks s t p) k h x l u d w in
      never z.0 z.1

  kept_from : (h : Word) (x : ℕ) (m : Mark) → Located s t h → ¬ IsDone s h → (histories s).IsDecision h x → HasDecisionMark (histories s) h x m
      → KeepsFrom (histories s) (move_at t) h x m
  kept_from h x m l u d w =
      keeps-mark_from (histories s) (Located s t) (move_at t) on_here (moves_go_by_marks s t p) h x m l u d w

  promised_from : (h : Word) (x : ℕ) (m : Mark) → Located s t h → ¬ IsDone s h → (histories s).IsDecision h x → HasDecisionMark (histories s) h x m
      → PromisesFrom (histories s) (move_at t) h x m
  promised_from h x Goal l u d w = absurd w
  promised_from h x (Win n) l u d w = (w, kept_from h x (Win n) l u d w, winning_is_meeting_from (histories s) (Located s t) on_here.playable on_here.met n h x l u d w.holds)
  promised_from h x (Pending n) l u d w = (λ z. w.0 z.0 z.1, kept_from h x (Pending n) l u d w, hope_is_meeting_from (histories s) (Located s t) on_here.playable on_here.met n h x l u d w.1.holds)
  promised_from h x Lost l u d w = (λ z. w.1.0 z.0 z.1, no_can_from h x l u d w.1.1)
  promised_from h x Held l u d w = (λ z. w.1.0 z.0 z.1, no_can_from h x l u d w.1.1, kept_from h x Held l u d w)
  promised_from h x (LostIn n) l u d w = (λ z. w.1.0 z.0 z.1, no_can_from h x l u d w.1.1)

  chosen_from : (h : Word) (x : ℕ) (o q : Option Choice) → q ≡ o → Located s t h → ¬ IsDone s h → (histories s).IsDecision h x → IsChoiceFor (histories s) h x o
      → (c : Choice) × (q ≡ Some c) × PromisesFrom (histories s) (move_at t) h x c.mark
  chosen_from h x None q e l u d w = absurd (w d)
  chosen_from h x (Some c) q e l u d w = (c, e, promised_from h x c.mark l u d w.1)

  choice-at : (o : Option ℕ) (x : ℕ) → IsSome o → choice_from t o x ≡ t.choice (place o) x
  choice-at None x e = absurd (false≢true e)
  choice-at (Some at) x e = refl

  verdict-least : (o : Option ℕ) (n : ℕ) → o ≡ Some n → IsVerdict (histories s) [] o → IsLeastNumber (λ k. WinsWithin (histories s) k []) n
  verdict-least None n e v = absurd (none-some n e)
  verdict-least (Some k) n e v = let same : k ≡ n = cc in subst (λ z. IsLeastNumber (λ k. WinsWithin (histories s) k []) z) same v

  verdict-never : (o : Option ℕ) → o ≡ None → IsVerdict (histories s) [] o → (k : ℕ) → ¬ WinsWithin (histories s) k []
  verdict-never None e v = v
  verdict-never (Some k) e v = absurd (none-some k (sym e))

  -- the headline
  pub keeps_promises : KeepsPromises s t
  keeps_promises = record {
    marks = λ h o r.
        let l = located h o r in
        let at = place (location_after t h) in
        (at, place-some (location_after t h) l.1, promised h (t.mark at) l (running-unmet s h r) (located-right s t p h l).mark);
    decisions = λ h x o r d.
        let l = located h o r in
        let at = place (location_after t h) in
        let u = running-unmet s h r in
        chosen_from h x (t.choice at x) (choice_from t (location_after t h) x) (choice-at (location_after t h) x l.1) l u d
        ((located-right s t p h l).choice u x (decision-choice s h x d));
    realisable = λ n e.
        let w = verdict-least t.verdict n e p.verdict in
        (w, forces-won (histories s) (Located s t) (move_at t) on_here (moves_go_by_marks s t p) n [] located-start w.holds);
    unrealisable = λ e. refuted [] located-start (verdict-never t.verdict e p.verdict);
    numbers = few_numbers s t p keep located-start;
  }

-- a history that follows the strategy and doesn't meet the goal is running
pub following-promised : (s : Aims) (t : Strategy) → KeepsPromises s t → (h : Word) → IsHistory s h → Follows s t h → ¬ IsDone s h
    → (at : ℕ) × (location_after t h ≡ Some at) × Promises (histories s) (move_at t) (answers_at t) h (t.mark at)
following-promised s t keeps h o (live, plays) unmet = keeps.marks h o (live_unmet s h live unmet)
