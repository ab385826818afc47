-- A strategy that is right on the board of an arena is the printed one of the specification.
use Rattle.std.proofs.Common.{◌≡◌, ◌<◌, ◌^◌, ◌↔◌, ℕ, suc, [], ◌∷◌, refl, sym, ◌∙◌, ap, subst, inr, Bool, true, false, Option, Some, None, nat_lt, if◌then◌else◌}
use Rattle.std.proofs.lemmas.Bool.{ltb-true}
use Rattle.std.proofs.lemmas.Option.{same_Some}
use Rattle.std.proofs.lemmas.List.Elements.{All-nil, All-head, All-tail}
use Rattle.forms.specs.Word.{Word, IsOver}
use Rattle.game.specs.Board.{Partition, Board, width}
use Rattle.game.specs.Winning.{WinsWithin, ReachesWithin}
use Rattle.game.specs.Marks.{Mark, Goal, Win, Pending, Lost, Held, LostIn, HasMark, IsDecisionOutOfReach}
use Rattle.game.specs.Histories.{Aims, histories, IsHistory, IsDone, IsKeepable, ShareLocation, is_given, one_more}
use Rattle.game.specs.Arena.{Locations, locations, location_from as location_on, LeadsTo, IsArenaOf}
use Rattle.game.specs.Simulates.{Simulates}
use Rattle.game.proofs.Rounds.{output_small}
use Rattle.game.proofs.Simulation.{turned, not_met, wins, reaches}
use Rattle.game.proofs.SimulatedDuty.{NeverMet, NeverMetFrom, never_there}
use Rattle.game.proofs.SimulatedMarks.{least_same, mark, decision_mark, printed_move, printed_answer}
use Rattle.game.proofs.Hope.{out_of_reach_is_never_met}
use Rattle.game.proofs.HistoryLemmas.{done_or_not}
use Rattle.game.proofs.ArenaLemmas.{arena_simulates, walk-within}
use Rattle.printed_strategy.specs.Strategy.{Strategy, Choice, is_goal, step, location_from, location_after}
use Rattle.printed_strategy.specs.Printed.{IsVerdict, HasLocations, IsChoiceFor, AreAnswers, AreAnswersFor, IsRightAt, IsPrintedFor}
use Rattle.printed_strategy.specs.Planned.{target_on, IsPlanOn}
use Rattle.printed_strategy.proofs.LocationLemmas.{place, place-some, is_some-by}
use Rattle.printed_strategy.proofs.Located.{Located, histories_go_on}

other : (g : Bool) → ¬ (g ≡ true) → false ≡ g
other true c = absurd (c refl)
other false c = refl

-- a mark is that of a met goal exactly where the location is a goal
goal-by : (p : Partition) (d : Bool) (m : Locations) (at : ℕ) (k : Mark) → HasMark (locations p d m) at k → is_goal k ≡ m.is_goal at
goal-by p d m at Goal w = sym w
goal-by p d m at (Win n) w = other (m.is_goal at) w.0
goal-by p d m at (Pending n) w = other (m.is_goal at) (w.0 0)
goal-by p d m at Lost w = other (m.is_goal at) (w.1.0 0)
goal-by p d m at Held w = other (m.is_goal at) (w.1.0 0)
goal-by p d m at (LostIn n) w = other (m.is_goal at) (w.1.0 0)

module _ (s : Aims) (m : Locations) (arena : IsArenaOf s m) (t : Strategy) (plan : IsPlanOn s.parts (is_given s.duty) m t) where
  goal-same : (at : ℕ) → at < m.size → is_goal (t.mark at) ≡ m.is_goal at
  goal-same at l = goal-by s.parts (is_given s.duty) m at (t.mark at) (plan.right at l).mark

  -- the strategy and the arena lead to one location
  step-walk : (at a : ℕ) (w : Word) (g l : Bool) → is_goal (t.mark at) ≡ g → nat_lt (m.next at a) m.size ≡ l
      → (g ≡ false → t.target at a ≡ target_on m at a)
      → (m.next at a < m.size → location_from t (Some (m.next at a)) w ≡ location_on m (m.next at a) w)
      → location_from t (step t at a) w ≡ (if g then None else (if l then location_on m (m.next at a) w else None))
  step-walk at a w true l e f target later = ap (λ z. location_from t (if z then None else t.target at a) w) e
  step-walk at a w false false e f target later =
      ap (λ z. location_from t (if z then None else t.target at a) w) e
      ∙ ap (λ z. location_from t z w) (target refl)
      ∙ ap (λ z. location_from t (if z then Some (m.next at a) else None) w) f
  step-walk at a w false true e f target later =
      ap (λ z. location_from t (if z then None else t.target at a) w) e
      ∙ ap (λ z. location_from t z w) (target refl)
      ∙ ap (λ z. location_from t (if z then Some (m.next at a) else None) w) f
      ∙ later (ltb-true (m.next at a) m.size f)

  walks : (at : ℕ) (w : Word) → at < m.size → IsOver (width s.parts) w → location_from t (Some at) w ≡ location_on m at w
  walks at [] l o = refl
  walks at (a ∷ w) l o =
      let small : a < 2 ^ width s.parts = All-head (λ z. z < 2 ^ width s.parts) a w o in
      let rest : IsOver (width s.parts) w = All-tail (λ z. z < 2 ^ width s.parts) a w o in
      step-walk at a w (m.is_goal at) (nat_lt (m.next at a) m.size) (goal-same at l) refl
      (λ unmet. plan.target at a l unmet small) (λ k. walks (m.next at a) w k rest)

  pub to_there : (h : Word) (at : ℕ) → IsHistory s h → location_after t h ≡ Some at → LeadsTo (width s.parts) m h at
  to_there h at o e = record { over = o; leads = sym (walks 0 h arena.numbered.some o) ∙ e }

  pub from_there : (h : Word) (at : ℕ) → LeadsTo (width s.parts) m h at → location_after t h ≡ Some at
  from_there h at x = walks 0 h arena.numbered.some x.over ∙ x.leads

  there-within : (h : Word) (at : ℕ) → LeadsTo (width s.parts) m h at → at < m.size
  there-within h at x = walk-within m 0 at h arena.numbered.some x.leads

  same-locations : (u v : Word) (x : (i : ℕ) × LeadsTo (width s.parts) m u i) (y : (j : ℕ) × LeadsTo (width s.parts) m v j)
      → (location_after t u ≡ location_after t v) ↔ ShareLocation s u v
  same-locations u v x y =
      let e = from_there u x.0 x.1 in
      let f = from_there v y.0 y.1 in
      let shared = arena.shared u v x.0 y.0 x.1 y.1 in
      (λ q. shared.0 (same_Some x.0 y.0 (sym e ∙ q ∙ f)), λ share. e ∙ ap Some (shared.1 share) ∙ sym f)

  -- its locations are those of live histories
  pub locations_from_arena : HasLocations s t
  locations_from_arena = record {
    live = λ h o. (
      (λ some. (arena.live h o).1 (place (location_after t h), to_there h (place (location_after t h)) o (place-some (location_after t h) some))),
      (λ live. let x = (arena.live h o).0 live in is_some-by (location_after t h) x.0 (from_there h x.0 x.1)),
    );
    within = λ h at o e. subst (λ z. at < z) (sym plan.size) (there-within h at (to_there h at o e));
    same = λ u v o p lu lv. same-locations u v ((arena.live u o).0 lu) ((arena.live v p).0 lv);
    word = arena.numbered.word;
    least = λ at l.
        let x = arena.numbered.least at (subst (λ z. at < z) plan.size l) in
        record {
          over = x.leads.over;
          leads = from_there (arena.numbered.word at) at x.leads;
          least = λ u o e. x.least u (to_there u at o e);
        };
    order = λ i j h k. arena.numbered.order i j h (subst (λ z. j < z) plan.size k);
  }

  module _ (keep : IsKeepable s []) where
    abbrev here : Board s.parts
    here = histories s

    abbrev there : Board s.parts
    there = locations s.parts (is_given s.duty) m

    abbrev Leads : Word → ℕ → Type 0
    Leads h at = LeadsTo (width s.parts) m h at

    abbrev Back : ℕ → Word → Type 0
    Back at h = LeadsTo (width s.parts) m h at

    simulates : Simulates here there Leads
    simulates = arena_simulates s m arena

    back : Simulates there here Back
    back = turned here there Leads simulates

    -- what is out of reach on the arena can't be met there
    never_at : (h : Word) (at : ℕ) → Leads h at → ((k : ℕ) → ¬ ReachesWithin there k at) → NeverMet there at
    never_at h at r none =
        let far : (k : ℕ) → ¬ ReachesWithin here k h = λ k w. none k (reaches here there Leads simulates k h at r w) in
        let located : Located s t h = (r.over, is_some-by (location_after t h) at (from_there h at r)) in
        never_there here there Leads simulates h at r
        (out_of_reach_is_never_met here (Located s t) (histories_go_on s t locations_from_arena keep).playable (λ g l. done_or_not s g) h located far)

    never_from : (h : Word) (at : ℕ) → Leads h at → ¬ IsDone s h → (x : ℕ) → IsDecisionOutOfReach there at x → NeverMetFrom there at x
    never_from h at r unmet x out y a k l =
        let legal = (simulates.legal h at r unmet a k.letter).1 l in
        let output : y < 2 ^ s.parts.outputs = subst (λ z. z < 2 ^ s.parts.outputs) k.output (output_small s.parts a k.letter) in
        never_at (one_more h a) (m.next at a) (simulates.kept h at r unmet a k.letter legal)
        (λ n w. out.1 (suc n) (inr ((λ v. out.0 v.0 v.1), y, output, (a, k, l, w))))

    choice_here : (h : Word) (at : ℕ) → Leads h at → ¬ IsDone s h → (x : ℕ) (o : Option Choice) → IsChoiceFor there at x o → IsChoiceFor here h x o
    choice_here h at r unmet x None w = λ d. w ((simulates.decision h at r unmet x).0 d)
    choice_here h at r unmet x (Some c) w =
        let far = not_met here there Leads simulates h at r unmet in (
          (simulates.decision h at r unmet x).1 w.0,
          decision_mark there here Back back at h r far x (never_from h at r unmet x) c.mark w.1,
          printed_move there here Back back at h r far x (never_from h at r unmet x) c.mark w.1 c.output w.2,
        )

    table_here : (h : Word) (at : ℕ) → Leads h at → ¬ IsDone s h → (o : Option (ℕ → ℕ)) → AreAnswers there at o → AreAnswers here h o
    table_here h at r unmet None w = w
    table_here h at r unmet (Some f) w = λ y shows.
        printed_answer there here Back back at h r (not_met here there Leads simulates h at r unmet) y (f y) (w y shows)

    answers_here : (h : Word) (at : ℕ) → Leads h at → ¬ IsDone s h → (k : Mark) (o : Option (ℕ → ℕ)) → AreAnswersFor there at k o → AreAnswersFor here h k o
    answers_here h at r unmet Goal o w = w
    answers_here h at r unmet (Win n) o w = w
    answers_here h at r unmet (Pending n) o w = table_here h at r unmet o w
    answers_here h at r unmet Lost o w = table_here h at r unmet o w
    answers_here h at r unmet Held o w = table_here h at r unmet o w
    answers_here h at r unmet (LostIn n) o w = table_here h at r unmet o w

    -- what is right at a location is right at each of its histories
    right_here : (h : Word) (at : ℕ) → Leads h at → IsRightAt there t at at → IsRightAt here t h at
    right_here h at r w =
        record {
          mark = mark there here Back back at h r (never_at h at r) (t.mark at) w.mark;
          choice = λ unmet x k. choice_here h at r unmet x (t.choice at x) (w.choice (not_met here there Leads simulates h at r unmet) x k);
          answers = λ unmet. answers_here h at r unmet (t.mark at) (t.answers at) (w.answers (not_met here there Leads simulates h at r unmet));
        }

    verdict_here : (o : Option ℕ) → Leads [] 0 → IsVerdict there 0 o → IsVerdict here [] o
    verdict_here None r w = λ k v. w k (wins here there Leads simulates k [] 0 r v)
    verdict_here (Some n) r w =
        least_same (λ k. WinsWithin there k 0) (λ k. WinsWithin here k []) n
        (λ k. wins there here Back back k 0 [] r) (λ k. wins here there Leads simulates k [] 0 r) w

    -- it is the printed strategy
    pub printed_from_arena : IsPrintedFor s t
    printed_from_arena = record {
      parts = plan.parts;
      duty = plan.duty;
      verdict = verdict_here t.verdict (record { over = All-nil (λ a. a < 2 ^ width s.parts); leads = refl }) plan.verdict;
      locations = locations_from_arena;
      right = λ h at o e.
          let x = to_there h at o e in
          right_here h at x (plan.right at (there-within h at x));
    }
