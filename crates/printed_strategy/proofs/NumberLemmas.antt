-- Numbers of a printed strategy are few.
use Rattle.std.proofs.Common.{◌<◌, ℕ, [], subst}
use Rattle.game.specs.Board.{IsChoice}
use Rattle.game.specs.Histories.{Aims, histories, IsKeepable}
use Rattle.game.specs.Playing.{GoesOn}
use Rattle.play_laws.proofs.NumberBounds.{AreMarked, number_small, won-small, decision_number_small}
use Rattle.printed_strategy.specs.Strategy.{Strategy, location_after}
use Rattle.printed_strategy.specs.Printed.{IsPrintedFor, IsVerdict, IsChoiceFor, IsRightAt}
use Rattle.printed_strategy.specs.Headline.{HasFewNumbers}
use Rattle.printed_strategy.proofs.LocationLemmas.{place, place-some, is_some-by}
use Rattle.printed_strategy.proofs.Located.{Located, located-right, histories_go_on}
use Rattle.printed_strategy.proofs.OnePrinted.{unmet}

module _ (s : Aims) (t : Strategy) (p : IsPrintedFor s t) (keep : IsKeepable s []) (start : Located s t []) where
  -- what is right of a location stands at its least history
  at-word : (at : ℕ) → at < t.size → IsRightAt (histories s) t (p.locations.word at) at
  at-word at l = let x = p.locations.least at l in p.right (p.locations.word at) at x.over x.leads

  word-located : (at : ℕ) → at < t.size → Located s t (p.locations.word at)
  word-located at l = let x = p.locations.least at l in (x.over, is_some-by (location_after t (p.locations.word at)) at x.leads)

  marked : AreMarked (histories s) (Located s t) t.size t.mark
  marked = record {
    place = λ h. place (location_after t h);
    small = λ h l. p.locations.within h (place (location_after t h)) l.0 (place-some (location_after t h) l.1);
    right = λ h l. (located-right s t p h l).mark;
    some = λ at l. (p.locations.word at, word-located at l, (at-word at l).mark);
  }

  on : GoesOn (histories s) (Located s t)
  on = histories_go_on s t p.locations keep

  pub few_numbers : HasFewNumbers t
  few_numbers = record {
    locations = number_small (histories s) (Located s t) on t.size t.mark marked;
    decisions = λ at x c l open_ k e.
        let h = p.locations.word at in
        let r = at-word at l in
        let u = unmet (histories s) h (t.mark at) r.mark open_ in
        let w = subst (λ o. IsChoiceFor (histories s) h x o) e (r.choice u x (subst (λ d. IsChoice d x) p.parts k)) in
        decision_number_small (histories s) (Located s t) on t.size t.mark marked h x c.mark (word-located at l) u w.0 w.1;
    verdict = λ n e. won-small (histories s) (Located s t) on t.size t.mark marked [] n start (subst (λ o. IsVerdict (histories s) [] o) e p.verdict);
  }
