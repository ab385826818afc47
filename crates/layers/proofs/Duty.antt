-- Where the duty can be kept: each decision has a move after which it still can, and such moves keep it; and decisions after which
-- it can't lose it within few rounds.
use Rattle.std.proofs.Common.{◌≡◌, ◌<◌, ◌≤◌, ◌+◌, ◌-◌, ◌^◌, ◌⊎◌, ℕ, zero, suc, inl, inr, refl, arith, subst, Bool, List, Option, Some, None}
use Rattle.std.proofs.lemmas.Bool.{cases_lt, cases_eq}
use Rattle.attractor.proofs.SettlingLemmas.{option_cases}
use Rattle.game.specs.Board.{Board, width, IsOutput, IsRound, decision_of, output_of, IsLeastNumber, EachLeads}
use Rattle.forms.specs.declared.partition.Partition.{Partition}
use Rattle.game.specs.Winning.{FailsDutyWithin, DecisionFailsDutyWithin, KeepsDuty}
use Rattle.game.specs.Following.{Moves, HoldsDutyWithin}
use Rattle.game.specs.Marks.{CanKeepDuty}
use Rattle.game.specs.Arena.{Locations, locations, IsDecisionThere}
use Rattle.game.specs.Numbers.{IsLeastOrNone}
use Rattle.layers.specs.Keeping.{KeepsDutyAlong}
use Rattle.layers.proofs.Layers.{fails_lasts}
use Rattle.layers.proofs.Search.{find}
use Rattle.layers.proofs.Least.{within_from, holds_from, some_number, within_is}
use Rattle.layers.proofs.MoreBounds.{loss_less}

-- no number of rounds breaks the duty
abbrev pub IsKept : {s : Partition} (b : Board s) → b.Place → Type 0
IsKept b h = (k : ℕ) → ¬ FailsDutyWithin b k h

-- moves after which the duty can still be kept keep it
pub holds_along : {s : Partition} (b : Board s) (move : Moves b) (n : ℕ) (h : b.Place) → IsKept b h → KeepsDutyAlong b move n h → HoldsDutyWithin b move n h
holds_along b move zero h f along = f zero
holds_along b move (suc n) h f along =
    (λ m. f zero m, λ x d a r l. let c = along x d in holds_along b move n (b.after h a) (c.0 a r l) (c.1 a r l))

module _ (s : Partition) (duty : Bool) (m : Locations) (loss : ℕ → Option ℕ) (c : (at : ℕ) → at < m.size → IsLeastOrNone (λ n. FailsDutyWithin (locations s duty m) n at) (loss at)) where
  -- the round leads to where the duty can be broken
  IsLostBy : ℕ → ℕ → ℕ → ℕ → Type 0
  IsLostBy at x y a = (a < 2 ^ width s) × (decision_of s a ≡ x) × (output_of s a ≡ y) × (m.next at a < m.size) × ((k : ℕ) × (loss (m.next at a) ≡ Some k))

  lost_or_not : (at x y a : ℕ) → a < 2 ^ width s → IsLostBy at x y a ⊎ (¬ IsLostBy at x y a)
  unfolding IsLostBy
  lost_or_not at x y a h =
      elim (cases_eq (decision_of s a) x) [
        | inr differs ↦ inr (λ q. differs q.1)
        | inl d ↦ elim (cases_eq (output_of s a) y) [
          | inr differs ↦ inr (λ q. differs q.2)
          | inl o ↦ elim (cases_lt (m.next at a) m.size) [
            | inr far ↦ inr (λ q. let l = q.3 in absurd (omega arith))
            | inl l ↦ elim (option_cases (loss (m.next at a))) [
              | inl none ↦ inr (λ q. let e : None ≡ Some q.4.0 = subst (λ v. v ≡ Some q.4.0) none q.4.1 in absurd (cc))
              | inr some ↦ inl (h, d, o, l, (some.0, some.1))
            ]
          ]
        ]
      ]

  -- some round with the output does
  IsLostWith : ℕ → ℕ → ℕ → Type 0
  IsLostWith at x y = (a : ℕ) × (a < 2 ^ width s) × IsLostBy at x y a

  lost_with_or_not : (at x y : ℕ) → IsLostWith at x y ⊎ (¬ IsLostWith at x y)
  unfolding IsLostWith
  lost_with_or_not at x y =
      elim (find (IsLostBy at x y) (2 ^ width s) (lost_or_not at x y)) [
        | inl f ↦ inl f
        | inr none ↦ inr (λ q. none q.0 q.1 q.2)
      ]

  -- where no round with the output does, the output keeps the duty
  keeps_by : (at x y : ℕ) → ¬ IsLostWith at x y → KeepsDuty (locations s duty m) at x y
  unfolding IsLostWith IsLostBy
  keeps_by at x y none a r l =
      elim (option_cases (loss (m.next at a))) [
        | inl e ↦ subst (λ v. IsLeastOrNone (λ n. FailsDutyWithin (locations s duty m) n (m.next at a)) v) e (c (m.next at a) l)
        | inr some ↦ absurd (none (a, r.letter, (r.letter, r.decision, r.output, l, (some.0, some.1))))
      ]

  -- where one does, the duty is broken after it within fewer rounds than there are locations
  lost_within : (at x y j : ℕ) → suc j ≡ m.size → IsLostWith at x y
      → (a : ℕ) × IsRound s x y a × (m.next at a < m.size) × FailsDutyWithin (locations s duty m) j (m.next at a)
  unfolding IsLostWith IsLostBy
  lost_within at x y j e q =
      let a = q.0 in
      let w = q.2 in
      let k = w.4.0 in
      let less = loss_less s duty m loss c (m.next at a) k w.3 w.4.1 in (
        a,
        record { letter = w.0; decision = w.1; output = w.2 },
        w.3,
        holds_from (λ n. FailsDutyWithin (locations s duty m) n (m.next at a)) (fails_lasts (locations s duty m) (m.next at a)) (loss (m.next at a)) (c (m.next at a) w.3) j
            (within_is j k (loss (m.next at a)) w.4.1 (omega arith)),
      )

  -- where the duty can be kept, each decision has an output after which it still can
  pub can_keep : (at x : ℕ) → at < m.size → IsKept (locations s duty m) at → IsDecisionThere s m at x → CanKeepDuty (locations s duty m) at x
  unfolding IsLostWith
  can_keep at x h kept d =
      elim (find (λ y. ¬ IsLostWith at x y) (2 ^ s.outputs) (λ y l. elim (lost_with_or_not at x y) [ inl q ↦ inr (λ never. never q) | inr never ↦ inl never ])) [
        | inl f ↦ (f.0, f.1, keeps_by at x f.0 f.2)
        | inr all ↦
            let j = m.size - 1 in
            let e : suc j ≡ m.size = omega arith in
            absurd (kept (suc j) (inr (
              x,
              d,
              λ y o. elim (lost_with_or_not at x y) [
                | inl q ↦ lost_within at x y j e q
                | inr never ↦ absurd (all y o never)
              ],
            )))
      ]

  -- the least number of rounds within which the duty is broken from a decision is at most the number of locations
  pub decision_loss_few : (at x n : ℕ) → at < m.size → IsLeastNumber (λ k. DecisionFailsDutyWithin (locations s duty m) k at x) n → n ≤ m.size
  decision_loss_few at x zero h least = omega arith
  decision_loss_few at x (suc n) h least =
      elim (cases_lt m.size (suc n)) [
        | inr few ↦ few
        | inl less ↦
            let j = m.size - 1 in
            let e : suc j ≡ m.size = omega arith in
            let f = least.holds in
            absurd (least.least m.size less (subst (λ z. DecisionFailsDutyWithin (locations s duty m) z at x) e (λ y o.
            let q = f y o in
            let v = within_from (λ k. FailsDutyWithin (locations s duty m) k (m.next at q.0)) (loss (m.next at q.0)) (c (m.next at q.0) q.2) n q.3 in
            let k = some_number n (loss (m.next at q.0)) v in
            let l = loss_less s duty m loss c (m.next at q.0) k.0 q.2 k.1 in (
              q.0,
              q.1,
              q.2,
              holds_from (λ i. FailsDutyWithin (locations s duty m) i (m.next at q.0)) (fails_lasts (locations s duty m) (m.next at q.0)) (loss (m.next at q.0)) (c (m.next at q.0) q.2) j
                  (within_is j k.0 (loss (m.next at q.0)) k.1 (omega arith)),
            ))))
      ]
