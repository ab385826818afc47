-- Specifications whose goal the empty history meets: their printed strategy has one location. One of them asks for an output in
-- each round, which the empty trace satisfies.
use Rattle.std.proofs.Common.{◌≡◌, ◌<◌, ◌^◌, ◌↔◌, ℕ, [], ◌∷◌, refl, sym, ◌∙◌, ap, subst, arith, inl, inr, Bool, true, false, Some, None, if◌then◌else◌}
use Rattle.std.specs.Prelude.{IsSome, codes}
use Rattle.std.specs.Fmt.{digits}
use Rattle.std.proofs.lemmas.Bool.{false≢true}
use Rattle.std.proofs.lemmas.Option.{none-some}
use Rattle.std.proofs.lemmas.List.Elements.{All-nil}
use Rattle.forms.specs.Word.{Word, Claim}
use Rattle.forms.specs.Shortlex.{comes_before}
use Rattle.forms.proofs.ShortlexLemmas.{before-not_itself}
use Rattle.game.specs.Board.{Agent, Partition, width}
use Rattle.game.specs.Marks.{Goal}
use Rattle.game.specs.Histories.{Aims, IsDone, IsLive, IsMetFirst, ShareLocation, Kind, Met, Past, HasKind}
use Rattle.game.proofs.HistoryLemmas.{legal-nil, empty_prefix}
use Rattle.printed_strategy.specs.Strategy.{Strategy, location_after}
use Rattle.printed_strategy.specs.Printed.{IsPrintedFor}
use Rattle.printed_strategy.specs.CubeLines.{lines_of}
use Rattle.printed_strategy.specs.StrategyText.{strategy_text}
use Rattle.facts_of_games.proofs.SharedFacts.{asks}

-- this goal alone
abbrev asked : Partition → Claim → Aims
asked parts goal = record { parts = parts; goal = goal; assumed = None; duty = None }

abbrev nothing_to_do : Partition → Strategy
nothing_to_do parts = record {
  parts = parts;
  has_duty = false;
  verdict = Some 0;
  size = 1;
  mark = λ at. Goal;
  target = λ at a. None;
  choice = λ at x. None;
  answers = λ at. None;
}

cons-some : (a : ℕ) (w : Word) → a ∷ w ≡ [] → ⊥
cons-some a w e = cc

module _ (parts : Partition) (goal : Claim) (met : goal [] ≡ true) where
  done : IsDone (asked parts goal) []
  done = (λ v. v, met)

  empty-met : IsMetFirst (asked parts goal) []
  empty-met = (legal-nil (asked parts goal), done, λ u v e some. absurd (some (empty_prefix u v e).1))

  longer-dead : (a : ℕ) (h : Word) → IsLive (asked parts goal) (a ∷ h) → ⊥
  longer-dead a h (inl run) = run.1 [] (a ∷ h) refl done
  longer-dead a h (inr first) = first.2 [] (a ∷ h) refl (cons-some a h) done

  located : (h : Word) (at : ℕ) → location_after (nothing_to_do parts) h ≡ Some at → (h ≡ []) × (at ≡ 0)
  located [] at e = (refl, cc)
  located (a ∷ h) at e = absurd (none-some at e)

  live-located : (h : Word) → IsSome (location_after (nothing_to_do parts) h) ↔ IsLive (asked parts goal) h
  live-located [] = (λ s. inr empty-met, λ l. refl)
  live-located (a ∷ h) = (λ s. absurd (false≢true s), λ l. absurd (longer-dead a h l))

  -- the kind of what follows the empty history
  kind-of : (w : Word) → (k : Kind) × HasKind (asked parts goal) w k × HasKind (asked parts goal) w k
  kind-of [] = (Met, empty-met, empty-met)
  kind-of (a ∷ w) =
      let past : HasKind (asked parts goal) (a ∷ w) Past = ([], a ∷ w, refl, cons-some a w, empty-met) in
      (Past, past, past)

  same-located : (u v : Word) → IsLive (asked parts goal) u → IsLive (asked parts goal) v
      → (location_after (nothing_to_do parts) u ≡ location_after (nothing_to_do parts) v) ↔ ShareLocation (asked parts goal) u v
  same-located [] [] a b = (λ e. (λ w o. kind-of w), λ e. refl)
  same-located [] (c ∷ v) a b = absurd (longer-dead c v b)
  same-located (c ∷ u) v a b = absurd (longer-dead c u a)

  done-at : (h : Word) (at : ℕ) → location_after (nothing_to_do parts) h ≡ Some at → IsDone (asked parts goal) h
  done-at h at e = subst (λ z. IsDone (asked parts goal) z) (sym (located h at e).0) done

  -- the printed strategy of a goal that is met at once has one location
  pub nothing_is_printed : IsPrintedFor (asked parts goal) (nothing_to_do parts)
  nothing_is_printed = record {
    parts = refl;
    duty = refl;
    verdict = record { holds = done; least = λ k l w. omega (arith, l) };
    locations = record {
      live = λ h o. live-located h;
      within = λ h at o e. let z = (located h at e).1 in omega (arith, z);
      same = λ u v o p a b. same-located u v a b;
      word = λ at. [];
      least = λ at l. record {
        over = All-nil (λ a. a < 2 ^ width parts);
        leads = let z : 0 ≡ at = omega (arith, l) in ap Some z;
        least = λ u o e. ap (λ z. comes_before z []) (located u at e).0 ∙ before-not_itself [];
      };
      order = λ i j h k. absurd (omega (arith, h, k));
    };
    right = λ h at o e. record {
      mark = done-at h at e;
      choice = λ c. absurd (c (done-at h at e));
      answers = λ c. absurd (c (done-at h at e));
    };
  }

-- an output in each round, agent first
abbrev each_asks : Word → Bool
each_asks [] = true
each_asks (a ∷ w) = if asks a then each_asks w else false

abbrev agent_first : Partition
agent_first = record { first = Agent; inputs = 1; outputs = 1 }

always_is_printed : IsPrintedFor (asked agent_first each_asks) (nothing_to_do agent_first)
always_is_printed = nothing_is_printed agent_first each_asks refl

-- its text
always_text : strategy_text (codes "g" ∷ codes "r" ∷ []) (nothing_to_do agent_first)
    ≡ codes "strategy 1\nverdict realisable 0\nfirst agent\ninputs r\noutputs g\nlocations 1\nlocation 0 goal\nend\n"
unfolding strategy_text lines_of digits
always_text = refl
