-- Numbers that solve the equation of distances are the distances; and where they are none, no legal rounds meet the goal.
use Rattle.std.proofs.Common.{◌≡◌, ℕ, zero, suc, ◌<◌, ◌^◌, ◌+◌, ◌⊎◌, inl, inr, refl, sym, subst, arith, Bool, true, false, Option, None}
use Rattle.std.specs.Prelude.{◌↔◌}
use Rattle.game.specs.Board.{decision_of}
use Rattle.forms.specs.declared.partition.Partition.{Partition}
use Rattle.forms.specs.declared.partition.Mover.{Mover}
use Rattle.forms.specs.declared.partition.Mover.TheVariants.{Agent, Environment}
use Rattle.game.specs.Winning.{IsWinnable, ReachesWithin, CanMeetWithin}
use Rattle.game.specs.Arena.{Locations, locations, IsDecisionThere}
use Rattle.attractor.specs.Minimax.{IsWithin}
use Rattle.game.specs.Numbers.{IsLeastOrNone}
use Rattle.layers.specs.Ranked.{AreDistances, IsPlayableArena, GoesByInput}
use Rattle.layers.specs.Distances.{AreWon, AreHoped}
use Rattle.layers.proofs.Least.{least_from}
use Rattle.attractor.proofs.SettlingLemmas.{option_cases}
use Rattle.layers.proofs.Meeting.{can_reaches}
use Rattle.game.proofs.Hope.{hope_is_meeting}
use Rattle.layers.proofs.Rounds.{first_less}

module _ (s : Partition) (duty : Bool) (m : Locations) (won : ℕ → ℕ → Option ℕ) (w : AreWon s duty m won) where
  -- a decision without a number can't be won
  none_winnable : (at x : ℕ) → at < m.size → IsDecisionThere s m at x → won at x ≡ None → ¬ IsWinnable (locations s duty m) at x
  none_winnable at x h d e (zero, (y, o, f)) = f
  none_winnable at x h d e (suc n, p) = subst (IsWithin n) e ((w at x n h d).0 p)

  winnable_none : (at x : ℕ) → at < m.size → IsDecisionThere s m at x → ¬ IsWinnable (locations s duty m) at x → won at x ≡ None
  winnable_none at x h d f = elim (option_cases (won at x)) [
    | inl e ↦ e
    | inr e ↦ absurd (f (suc e.0, (w at x e.0 h d).1 (rw e.1 (omega arith))))
  ]

  -- each decision can be won or can't
  pub decided : (at x : ℕ) → at < m.size → IsDecisionThere s m at x → IsWinnable (locations s duty m) at x ⊎ (¬ IsWinnable (locations s duty m) at x)
  decided at x h d = elim (option_cases (won at x)) [
    | inl e ↦ inr (none_winnable at x h d e)
    | inr e ↦ inl (suc e.0, (w at x e.0 h d).1 (rw e.1 (omega arith)))
  ]

  module _ (distance : ℕ → Option ℕ) (hoped : AreHoped s duty m won distance) where
    reaches_within : (n at : ℕ) → at < m.size → ReachesWithin (locations s duty m) n at ↔ IsWithin n (distance at)
    reaches_within zero at h = hoped.first at h
    reaches_within (suc n) at h =
        let q = hoped.later at n h in (
          λ r. q.0 (elim r [
            | inl e ↦ inl e
            | inr t ↦ inr (
              t.0,
              t.1,
              elim t.2 [
                | inl p ↦ inl ((w at t.0 n h t.1).0 p)
                | inr p ↦ inr (winnable_none at t.0 h t.1 p.0, p.1, p.2, (p.3.0, p.3.1, p.3.2, (reaches_within n (m.next at p.3.0) p.3.2).0 p.3.3))
              ],
            )
          ]),
          λ r. elim (q.1 r) [
            | inl e ↦ inl e
            | inr t ↦ inr (
              t.0,
              t.1,
              elim t.2 [
                | inl p ↦ inl ((w at t.0 n h t.1).1 p)
                | inr p ↦ inr (none_winnable at t.0 h t.1 p.0, p.1, p.2, (p.3.0, p.3.1, p.3.2, (reaches_within n (m.next at p.3.0) p.3.2).1 p.3.3))
              ],
            )
          ],
        )

    -- numbers that solve the equation are the distances
    pub hoped_distances : AreDistances s duty m distance
    hoped_distances at h = least_from (λ n. ReachesWithin (locations s duty m) n at) (distance at) (λ n. (reaches_within n at h).0) (λ n. (reaches_within n at h).1)

-- a letter to a location belongs to a decision
pub decision_there : (f : Mover) (i o : ℕ) (m : Locations) (at a : ℕ) → at < m.size → GoesByInput (record { first = f; inputs = i; outputs = o }) m → a < 2 ^ (i + o) → m.next at a < m.size
    → IsDecisionThere (record { first = f; inputs = i; outputs = o }) m at (decision_of (record { first = f; inputs = i; outputs = o }) a)
decision_there Agent i o m at a h even l g = refl
decision_there Environment i o m at a h even l g = (first_less i o a l, λ c k e. even at a c h l k (sym e) g)

truth_or_not : (b : Bool) → (b ≡ true) ⊎ (b ≡ true → ⊥)
truth_or_not true = inl refl
truth_or_not false = inr (λ e. absurd (cc))

-- a location meets the goal or doesn't
pub met_or_not : (s : Partition) (duty : Bool) (m : Locations) (at : ℕ) → at < m.size → (locations s duty m).IsMet at ⊎ (¬ (locations s duty m).IsMet at)
met_or_not s duty m at h = truth_or_not (m.is_goal at)

module _ (s : Partition) (duty : Bool) (m : Locations) (won : ℕ → ℕ → Option ℕ) (w : AreWon s duty m won) (g : IsPlayableArena s duty m) where
  -- what can be met is to be hoped for
  pub can_hope : (n at : ℕ) → at < m.size → CanMeetWithin (locations s duty m) n at → (k : ℕ) × ReachesWithin (locations s duty m) k at
  can_hope n at h c = can_reaches (locations s duty m) (λ k. k < m.size) g (met_or_not s duty m) (λ k x i d. decided s duty m won w k x i d) n at h c

  -- what is to be hoped for can be met
  pub hope_can : (n at : ℕ) → at < m.size → ReachesWithin (locations s duty m) n at → CanMeetWithin (locations s duty m) n at
  hope_can n at h r = hope_is_meeting (locations s duty m) (λ k. k < m.size) g (met_or_not s duty m) n at h r
