-- A specification has one printed strategy.
use Rattle.std.proofs.Common.{◌≡◌, ◌<◌, ◌^◌, ℕ, [], ◌∷◌, ◌++◌, refl, sym, ◌∙◌, ap, subst, false, Option, Some, None}
use Rattle.std.proofs.lemmas.Bool.{true≢false}
use Rattle.forms.specs.Word.{Word}
use Rattle.game.specs.Board.{Board, Partition, Mover, Agent, Environment, width, IsChoice, IsShown}
use Rattle.game.specs.Winning.{WinsWithin}
use Rattle.game.specs.Marks.{Mark, Goal, Win, Pending, Lost, Held, LostIn, HasMark, IsMove, Evades, IsAnswer}
use Rattle.game.specs.Histories.{Aims, histories, IsDone}
use Rattle.automata.proofs.Words.{over-push}
use Rattle.printed_strategy.specs.Strategy.{Strategy, Choice, step, is_goal}
use Rattle.printed_strategy.specs.Printed.{IsPrintedFor, IsRightAt, IsVerdict, IsChoiceFor, AreAnswersFor, AreAnswers, answer_in, AreTheSame, IsOnlyPrintedFor}
use Rattle.game.proofs.LeastLemmas.{one_least}
use Rattle.play_laws.proofs.OneMark.{one_mark, one_decision_mark, one_move}
use Rattle.printed_strategy.proofs.LocationLemmas.{location_after-push, both_lead, one_place, no_more, same_size}

-- a place whose mark isn't that of a met goal doesn't meet it
pub unmet : {s : Partition} (b : Board s) (h : b.Place) (m : Mark) → HasMark b h m → is_goal m ≡ false → ¬ b.IsMet h
unmet b h Goal w e = absurd (true≢false e)
unmet b h (Win n) w e = w.0
unmet b h (Pending n) w e = λ met. w.0 0 met
unmet b h Lost w e = λ met. w.1.0 0 met
unmet b h Held w e = λ met. w.1.0 0 met
unmet b h (LostIn n) w e = λ met. w.1.0 0 met

one_verdict : (s : Aims) (o q : Option ℕ) → IsVerdict (histories s) [] o → IsVerdict (histories s) [] q → o ≡ q
one_verdict s None None v w = refl
one_verdict s None (Some n) v w = absurd (v n w.holds)
one_verdict s (Some n) None v w = absurd (w n v.holds)
one_verdict s (Some n) (Some k) v w = ap Some (one_least (λ i. WinsWithin (histories s) i []) n k v w)

one_choice : (s : Aims) (h : Word) (x : ℕ) (o q : Option Choice) → IsChoiceFor (histories s) h x o → IsChoiceFor (histories s) h x q → o ≡ q
one_choice s h x None None v w = refl
one_choice s h x None (Some c) v w = absurd (v w.0)
one_choice s h x (Some c) None v w = absurd (w v.0)
one_choice s h x (Some c) (Some d) v w =
    let b = histories s in
    let e : c.mark ≡ d.mark = one_decision_mark b h x c.mark d.mark v.1 w.1 in
    let f : c.output ≡ d.output = one_move b h x d.mark c.output d.output (subst (λ m. IsMove b h x m c.output) e v.2) w.2 in
    ap (λ m. Some (record { mark = m; output = c.output })) e ∙ ap (λ y. Some (record { mark = d.mark; output = y })) f

-- a place has one answer
one_answer-by : (d : Mover) (i o : ℕ) (b : Board (record { first = d; inputs = i; outputs = o })) (h : b.Place) (y x z : ℕ) → IsAnswer b h y x → IsAnswer b h y z → x ≡ z
one_answer-by Agent i o b h y x z v w = one_least (λ k. Evades b h k y) x z v w
one_answer-by Environment i o b h y x z v w = one_least (λ k. (y : ℕ) → y < 2 ^ o → Evades b h k y) x z v w

one_answer : {s : Partition} (b : Board s) (h : b.Place) (y x z : ℕ) → IsAnswer b h y x → IsAnswer b h y z → x ≡ z
one_answer {s = s} b h y x z v w = one_answer-by s.first s.inputs s.outputs b h y x z v w

one_answers : {s : Partition} (b : Board s) (h : b.Place) (y : ℕ) (f g : Option (ℕ → ℕ)) → IsShown s y → AreAnswers b h f → AreAnswers b h g → answer_in f y ≡ answer_in g y
one_answers b h y None g shows v w = absurd v
one_answers b h y (Some f) None shows v w = absurd w
one_answers b h y (Some f) (Some g) shows v w = ap Some (one_answer b h y (f y) (g y) (v y shows) (w y shows))

one_table : {s : Partition} (b : Board s) (h : b.Place) (m : Mark) (y : ℕ) (f g : Option (ℕ → ℕ)) → is_goal m ≡ false → IsShown s y → AreAnswersFor b h m f → AreAnswersFor b h m g
    → answer_in f y ≡ answer_in g y
one_table b h Goal y f g e shows v w = absurd (true≢false e)
one_table b h (Win n) y f g e shows v w = ap (λ z. answer_in z y) (v ∙ sym w)
one_table b h (Pending n) y f g e shows v w = one_answers b h y f g shows v w
one_table b h Lost y f g e shows v w = one_answers b h y f g shows v w
one_table b h Held y f g e shows v w = one_answers b h y f g shows v w
one_table b h (LostIn n) y f g e shows v w = one_answers b h y f g shows v w

step-on : (t : Strategy) (at c : ℕ) → is_goal (t.mark at) ≡ false → step t at c ≡ t.target at c
step-on t at c e = rw e refl

module _ (s : Aims) (t u : Strategy) (p : IsPrintedFor s t) (q : IsPrintedFor s u) where
  -- what is right of a location of one, and of the same one of the other, at one history
  here : (at : ℕ) → at < t.size → IsRightAt (histories s) t (p.locations.word at) at
  here at l = p.right (p.locations.word at) at (p.locations.least at l).over (p.locations.least at l).leads

  there : (at : ℕ) → at < t.size → IsRightAt (histories s) u (p.locations.word at) at
  there at l = q.right (p.locations.word at) at (p.locations.least at l).over (both_lead s t u p.locations q.locations at l)

  same_mark : (at : ℕ) → at < t.size → t.mark at ≡ u.mark at
  same_mark at l = one_mark (histories s) (p.locations.word at) (t.mark at) (u.mark at) (here at l).mark (there at l).mark

  open_here : (at : ℕ) → at < t.size → is_goal (t.mark at) ≡ false → ¬ IsDone s (p.locations.word at)
  open_here at l e = unmet (histories s) (p.locations.word at) (t.mark at) (here at l).mark e

  same_target : (at c : ℕ) → at < t.size → is_goal (t.mark at) ≡ false → c < 2 ^ width s.parts → t.target at c ≡ u.target at c
  same_target at c l e k =
      let w = p.locations.word at in
      let x = p.locations.least at l in
      let one = one_place s t u p.locations q.locations (w ++ c ∷ []) (over-push (width s.parts) w c x.over k) in
      sym (location_after-push t w c at x.leads ∙ step-on t at c e)
      ∙ one
      ∙ location_after-push u w c at (both_lead s t u p.locations q.locations at l) ∙ step-on u at c (ap is_goal (sym (same_mark at l)) ∙ e)

  same_choice : (at x : ℕ) → at < t.size → is_goal (t.mark at) ≡ false → IsChoice s.parts x → t.choice at x ≡ u.choice at x
  same_choice at x l e k =
      let open_ = open_here at l e in
      one_choice s (p.locations.word at) x (t.choice at x) (u.choice at x) ((here at l).choice open_ x k) ((there at l).choice open_ x k)

  same_answer : (at y : ℕ) → at < t.size → is_goal (t.mark at) ≡ false → IsShown s.parts y → answer_in (t.answers at) y ≡ answer_in (u.answers at) y
  same_answer at y l e shows =
      let open_ = open_here at l e in
      let P : Mark → Type 0 = λ m. AreAnswersFor (histories s) (p.locations.word at) m (u.answers at) in
      one_table (histories s) (p.locations.word at) (t.mark at) y (t.answers at) (u.answers at) e shows
      ((here at l).answers open_) (subst P (sym (same_mark at l)) ((there at l).answers open_))

  -- two printed strategies of a specification are the same
  pub one_printed : AreTheSame t u
  one_printed =
      let R : Partition → Type 0 = λ d. (at c : ℕ) → at < t.size → is_goal (t.mark at) ≡ false → c < 2 ^ width d → t.target at c ≡ u.target at c in
      let C : Partition → Type 0 = λ d. (at x : ℕ) → at < t.size → is_goal (t.mark at) ≡ false → IsChoice d x → t.choice at x ≡ u.choice at x in
      let A : Partition → Type 0 = λ d. (at y : ℕ) → at < t.size → is_goal (t.mark at) ≡ false → IsShown d y → answer_in (t.answers at) y ≡ answer_in (u.answers at) y in
      record {
        parts = p.parts ∙ sym q.parts;
        duty = p.duty ∙ sym q.duty;
        verdict = one_verdict s t.verdict u.verdict p.verdict q.verdict;
        size = same_size t.size u.size (no_more s t u p.locations q.locations) (no_more s u t q.locations p.locations);
        mark = same_mark;
        target = subst R (sym p.parts) same_target;
        choice = subst C (sym p.parts) same_choice;
        answer = subst A (sym p.parts) same_answer;
      }

-- every printed strategy of the specification is this one
pub only_printed : (s : Aims) (t : Strategy) → IsPrintedFor s t → IsOnlyPrintedFor s t
only_printed s t p u q = one_printed s u t q p
