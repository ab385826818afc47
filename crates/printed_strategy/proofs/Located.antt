-- Histories that have a location in a strategy: the game goes on at them, and the printed moves go by the marks.
use Rattle.std.proofs.Common.{◌≡◌, ℕ, [], refl, sym, ◌∙◌, subst, inl, inr, ◌⊎◌, Option, Some, None}
use Rattle.std.specs.Prelude.{IsSome}
use Rattle.std.proofs.lemmas.Bool.{false≢true}
use Rattle.std.proofs.lemmas.Option.{none-some}
use Rattle.forms.specs.Word.{Word}
use Rattle.game.specs.Marks.{Mark, HasDecisionMark, IsMove}
use Rattle.game.specs.Histories.{Aims, histories, IsHistory, IsKeepable, IsLive, IsLiveHistory}
use Rattle.game.specs.Playing.{GoesOn, GoByMarks}
use Rattle.play_laws.proofs.HistoriesGoOn.{decision-choice, goes_on_same, live_go_on}
use Rattle.printed_strategy.specs.Strategy.{Strategy, Choice, location_after, choice_from, output_of_choice, move_at}
use Rattle.printed_strategy.specs.Printed.{HasLocations, IsPrintedFor, IsRightAt, IsChoiceFor}
use Rattle.printed_strategy.proofs.LocationLemmas.{place, place-some, is_some-by}

-- a history that has a location
abbrev pub Located : Aims → Strategy → Word → Type 0
Located s t h = IsHistory s h × IsSome (location_after t h)

module _ (s : Aims) (t : Strategy) (p : HasLocations s t) where
  live-by : (h : Word) → IsHistory s h → (o : Option ℕ) → location_after t h ≡ o → IsLive s h ⊎ (¬ IsLive s h)
  live-by h over None e = inr (λ live. none-some _ (sym e ∙ place-some (location_after t h) ((p.live h over).1 live)))
  live-by h over (Some at) e = inl ((p.live h over).0 (is_some-by _ at e))

  -- the game goes on at histories that have a location
  pub histories_go_on : IsKeepable s [] → GoesOn (histories s) (Located s t)
  histories_go_on keep =
      goes_on_same (histories s) (IsLiveHistory s) (Located s t) (λ h l. (l.0, (p.live h l.0).1 l.1)) (λ h l. (l.0, (p.live h l.0).0 l.1))
      (live_go_on s (λ h over. live-by h over (location_after t h) refl) keep)

choice-some : (t : Strategy) (o : Option ℕ) (x : ℕ) → IsSome o → choice_from t o x ≡ t.choice (place o) x
choice-some t None x e = absurd (false≢true e)
choice-some t (Some at) x e = refl

module _ (s : Aims) (t : Strategy) (p : IsPrintedFor s t) where
  pub located-right : (h : Word) → Located s t h → IsRightAt (histories s) t h (place (location_after t h))
  located-right h l = p.right h (place (location_after t h)) l.0 (place-some (location_after t h) l.1)

  marked-by : (h : Word) (x : ℕ) (o : Option Choice) → IsChoiceFor (histories s) h x o → (histories s).IsDecision h x
      → (m : Mark) × HasDecisionMark (histories s) h x m × IsMove (histories s) h x m (output_of_choice o)
  marked-by h x None w d = absurd (w d)
  marked-by h x (Some c) w d = (c.mark, w.1, w.2)

  -- its moves go by the marks
  pub moves_go_by_marks : GoByMarks (histories s) (Located s t) (move_at t)
  moves_go_by_marks h x l u d =
      let at = place (location_after t h) in
      let w = marked-by h x (t.choice at x) ((located-right h l).choice u x (decision-choice s h x d)) d in
      (w.0, w.1, subst (λ z. IsMove (histories s) h x w.0 (output_of_choice z)) (sym (choice-some t (location_after t h) x l.1)) w.2)
