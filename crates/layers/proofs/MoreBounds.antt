-- Distances of locations that aren't won, numbers of decisions, and losses are few.
use Rattle.std.proofs.Common.{◌≡◌, ℕ, zero, suc, ◌<◌, ◌≤◌, ◌+◌, ◌-◌, ◌^◌, inl, inr, arith, refl, sym, ◌∙◌, ap, subst, Bool, true, Option, Some, None}
use Rattle.std.proofs.lemmas.Nat.{pow_pos}
use Rattle.std.proofs.lemmas.Bool.{cases_lt}
use Rattle.game.specs.Board.{IsRound, IsLeastNumber}
use Rattle.forms.specs.declared.partition.Partition.{Partition}
use Rattle.game.specs.Winning.{WinsWithin, DecisionWinsWithin, IsWinnable, WinsOrLeads, ReachesWithin, DecisionReachesWithin, FailsDutyWithin}
use Rattle.game.specs.Arena.{Locations, locations, IsDecisionThere}
use Rattle.attractor.specs.Minimax.{IsWithin}
use Rattle.game.specs.Numbers.{IsLeastOrNone}
use Rattle.layers.specs.Ranked.{AreRanks, AreDistances, IsPlayableArena, GoesByInput}
use Rattle.layers.specs.Distances.{AreWon}
use Rattle.layers.specs.Decisions.{first_some}
use Rattle.layers.proofs.Layers.{wins_lasts, fails_lasts, reaches_lasts}
use Rattle.layers.proofs.Search.{some_or_none}
use Rattle.layers.proofs.Least.{within_from, holds_from, is_number, number_is, within_less, some_number, within_is}
use Rattle.attractor.proofs.SettlingLemmas.{option_cases}
use Rattle.layers.proofs.Bounds.{IsTaken, taken_few, taken_down, taken_all, skip, rank_less}
use Rattle.layers.proofs.Meeting.{wins_reaches}
use Rattle.layers.proofs.DistanceLemmas.{met_or_not}

-- where a number implies its predecessor, a number below the size is each
abbrev pub GoesDown : ℕ → (ℕ → Option ℕ) → Type 0
GoesDown size label = (k : ℕ) → IsTaken size label (suc k) → IsTaken size label k

taken_each : (size : ℕ) (label : ℕ → Option ℕ) → GoesDown size label → (k d : ℕ) → IsTaken size label (k + d) → IsTaken size label k
taken_each size label down k zero t = let e : k + 0 ≡ k = omega arith in subst (IsTaken size label) e t
taken_each size label down k (suc d) t = let e : k + suc d ≡ suc (k + d) = omega arith in taken_each size label down k d (down (k + d) (subst (IsTaken size label) e t))

-- numbers that go down are below the size
pub down_less : (size : ℕ) (label : ℕ → Option ℕ) → GoesDown size label → (n : ℕ) → IsTaken size label n → n < size
down_less size label down n t =
    let all : (k : ℕ) → k < suc n → IsTaken size label (0 + k) = λ k l.
    let q : n ≡ k + (n - k) = omega arith in
    let z : k ≡ 0 + k = omega arith in
    subst (IsTaken size label) z (taken_each size label down k (n - k) (subst (IsTaken size label) q t)) in
    let f = taken_few size label 0 (suc n) all in
    omega arith

-- the number of a decision that can be won is at most the number of locations
pub decision_few : (s : Partition) (duty : Bool) (m : Locations) (rank : ℕ → Option ℕ) → AreRanks s duty m rank → IsPlayableArena s duty m → (at x n : ℕ) → at < m.size
    → IsLeastNumber (λ k. DecisionWinsWithin (locations s duty m) k at x) n → n ≤ m.size
decision_few s duty m rank r g at x zero h least = omega arith
decision_few s duty m rank r g at x (suc zero) h least = omega arith
decision_few s duty m rank r g at x (suc (suc j)) h least =
    elim (some_or_none (λ c. is_number (suc j) (rank c)) m.size) [
      | inl k ↦ let l = rank_less s duty m rank r g k.0 (suc j) k.1 (number_is (suc j) (rank k.0) k.2) in omega arith
      | inr f ↦ let w = least.holds in absurd (least.least (suc j) (omega arith) (w.0, w.1, λ a t l. skip s duty m rank r j f (m.next at a) l (w.2 a t l)))
    ]

module _ (s : Partition) (duty : Bool) (m : Locations) (rank : ℕ → Option ℕ) (r : AreRanks s duty m rank) (won : ℕ → ℕ → Option ℕ) (w : AreWon s duty m won) (g : IsPlayableArena s duty m) where
  -- the number of a decision before the goal is some location's rank
  pub decision_taken : (at x k : ℕ) → at < m.size → (m.is_goal at ≡ true → ⊥) → IsDecisionThere s m at x → won at x ≡ Some k → IsTaken m.size rank k
  decision_taken at x zero h unmet d e =
      let p = (w at x zero h d).1 (within_is zero zero (won at x) e (omega arith)) in
      let o = g.goes_on at h unmet x p.0 d p.1 in
      let v = within_from (λ j. WinsWithin (locations s duty m) j (m.next at o.0)) (rank (m.next at o.0)) (r (m.next at o.0) o.2) zero (p.2 o.0 o.1 o.2) in
      let k = some_number zero (rank (m.next at o.0)) v in
      let z : k.0 ≡ 0 = let l = k.2 in omega arith in
      (m.next at o.0, o.2, k.1 ∙ ap (λ j. Some j) z)
  decision_taken at x (suc j) h unmet d e =
      elim (some_or_none (λ c. is_number (suc j) (rank c)) m.size) [
        | inl k ↦ (k.0, k.1, number_is (suc j) (rank k.0) k.2)
        | inr f ↦
            let p = (w at x (suc j) h d).1 (within_is (suc j) (suc j) (won at x) e (omega arith)) in
            let q : DecisionWinsWithin (locations s duty m) (suc j) at x = (p.0, p.1, λ a t l. skip s duty m rank r j f (m.next at a) l (p.2 a t l)) in
            let v : IsWithin j (Some (suc j)) = subst (IsWithin j) e ((w at x j h d).0 q) in
            absurd (omega arith)
      ]

  module _ (distance : ℕ → Option ℕ) (c : AreDistances s duty m distance) where
    -- the rank, or else the distance
    label : ℕ → Option ℕ
    label at = first_some (rank at) (distance at)

    label_ranked : (at k : ℕ) → rank at ≡ Some k → label at ≡ Some k
    unfolding label
    label_ranked at k e = rw e refl

    label_open : (at : ℕ) → rank at ≡ None → label at ≡ distance at
    unfolding label
    label_open at e = rw e refl

    taken_label : (k : ℕ) → IsTaken m.size rank k → IsTaken m.size label k
    taken_label k t = (t.0, t.1, label_ranked t.0 k t.2)

    rank_goes : (k j : ℕ) → k ≤ j → IsTaken m.size rank j → IsTaken m.size label k
    rank_goes k j l t = let q : j ≡ k + (j - k) = omega arith in taken_label k (taken_all s duty m rank r g k (j - k) (subst (IsTaken m.size rank) q t))

    -- a distance is a label, of that location or of another
    hope_taken : (to k : ℕ) → to < m.size → distance to ≡ Some k → IsTaken m.size label k
    hope_taken to k h q =
        elim (option_cases (rank to)) [
          | inl e ↦ (to, h, label_open to e ∙ q)
          | inr e ↦
              let v = holds_from (λ n. WinsWithin (locations s duty m) n to) (wins_lasts (locations s duty m) to) (rank to) (r to h) e.0 (within_is e.0 e.0 (rank to) e.1 (omega arith)) in
              let u = wins_reaches (locations s duty m) (λ i. i < m.size) g (met_or_not s duty m) e.0 to h v in
              let b : IsWithin e.0 (Some k) = subst (IsWithin e.0) q (within_from (λ n. ReachesWithin (locations s duty m) n to) (distance to) (c to h) e.0 u) in
              rank_goes k e.0 (omega arith) (to, h, e.1)
        ]

    open_down : (at k : ℕ) → at < m.size → IsLeastNumber (λ n. ReachesWithin (locations s duty m) n at) (suc k) → IsTaken m.size label k
    open_down at k h least =
        elim least.holds [
          | inl e ↦ absurd (least.least zero (omega arith) e)
          | inr t ↦ elim t.2 [
            | inl p ↦
                let j = some_number k (won at t.0) ((w at t.0 k h t.1).0 p) in
                let l = j.2 in
                elim (cases_lt j.0 k) [
                  | inl less ↦ absurd (least.least (suc j.0) (omega arith) (inr (t.0, t.1, inl ((w at t.0 j.0 h t.1).1 (within_is j.0 j.0 (won at t.0) j.1 (omega arith))))))
                  | inr no_less ↦ let z : j.0 ≡ k = omega arith in taken_label k (decision_taken at t.0 k h (λ i. least.least zero (omega arith) i) t.1 (j.1 ∙ ap (λ i. Some i) z))
                ]
            | inr p ↦
                let a = p.3.0 in
                let to = m.next at p.3.0 in
                let j = some_number k (distance to) (within_from (λ n. ReachesWithin (locations s duty m) n to) (distance to) (c to p.3.2) k p.3.3) in
                let l = j.2 in
                elim (cases_lt j.0 k) [
                  | inl less ↦
                      let v = holds_from (λ n. ReachesWithin (locations s duty m) n to) (reaches_lasts (locations s duty m) to) (distance to) (c to p.3.2) j.0 (within_is j.0 j.0 (distance to) j.1 (omega arith)) in
                      absurd (least.least (suc j.0) (omega arith) (inr (t.0, t.1, inr (p.0, p.1, p.2, (a, p.3.1, p.3.2, v)))))
                  | inr no_less ↦
                      let z : j.0 ≡ k = omega arith in
                      hope_taken to k p.3.2 (j.1 ∙ ap (λ i. Some i) z)
                ]
          ]
        ]

    label_down : GoesDown m.size label
    label_down k t =
        elim (option_cases (rank t.0)) [
          | inl e ↦
              let q : distance t.0 ≡ Some (suc k) = sym (label_open t.0 e) ∙ t.2 in
              open_down t.0 k t.1 (subst (λ v. IsLeastOrNone (λ n. ReachesWithin (locations s duty m) n t.0) v) q (c t.0 t.1))
          | inr e ↦
              let q : Some e.0 ≡ Some (suc k) = sym (label_ranked t.0 e.0 e.1) ∙ t.2 in
              let z : e.0 ≡ suc k = cc in
              taken_label k (taken_down s duty m rank r g k (t.0, t.1, e.1 ∙ ap (λ i. Some i) z))
        ]

    -- the distance of a location that isn't won is below the number of locations
    pub distance_less : (at n : ℕ) → at < m.size → rank at ≡ None → distance at ≡ Some n → n < m.size
    distance_less at n h e q = down_less m.size label label_down n (at, h, label_open at e ∙ q)

    -- each distance is at most the number of locations
    pub distance_most : (at n : ℕ) → at < m.size → distance at ≡ Some n → n < m.size
    distance_most at n h q = down_less m.size label label_down n (hope_taken at n h q)

    -- the hope of a decision that can't be won is at most the number of locations
    pub decision_hope_few : (at x n : ℕ) → at < m.size → ¬ IsWinnable (locations s duty m) at x → IsLeastNumber (λ k. DecisionReachesWithin (locations s duty m) k at x) n → n ≤ m.size
    decision_hope_few at x zero h f least = omega arith
    decision_hope_few at x (suc k) h f least = hope_few k at x h f least.least least.holds
      where
        hope_few : (k at x : ℕ) → at < m.size → ¬ IsWinnable (locations s duty m) at x → ((j : ℕ) → j < suc k → ¬ DecisionReachesWithin (locations s duty m) j at x)
            → WinsOrLeads (locations s duty m) k (ReachesWithin (locations s duty m) k) at x → suc k ≤ m.size
        hope_few k at x h f least (inl p) = absurd (f (suc k, p))
        hope_few k at x h f least (inr (w, y, o, (a, round, l, v))) =
            let to = m.next at a in
            let j = some_number k (distance to) (within_from (λ n. ReachesWithin (locations s duty m) n to) (distance to) (c to l) k v) in
            let b = j.2 in
            elim (cases_lt j.0 k) [
              | inl less ↦
                  let u = holds_from (λ n. ReachesWithin (locations s duty m) n to) (reaches_lasts (locations s duty m) to) (distance to) (c to l) j.0 (within_is j.0 j.0 (distance to) j.1 (omega arith)) in
                  absurd (least (suc j.0) (omega arith) (inr (w, y, o, (a, round, l, u))))
              | inr no_less ↦
                  let z : j.0 ≡ k = omega arith in
                  let d = down_less m.size label label_down k (hope_taken to k l (j.1 ∙ ap (λ i. Some i) z)) in
                  omega arith
            ]

module _ (s : Partition) (duty : Bool) (m : Locations) (loss : ℕ → Option ℕ) (c : (at : ℕ) → at < m.size → IsLeastOrNone (λ n. FailsDutyWithin (locations s duty m) n at) (loss at)) where
  fails_in : (n at : ℕ) → at < m.size → FailsDutyWithin (locations s duty m) n at → IsWithin n (loss at)
  fails_in n at h f = within_from (λ k. FailsDutyWithin (locations s duty m) k at) (loss at) (c at h) n f

  fails_out : (n at : ℕ) → at < m.size → IsWithin n (loss at) → FailsDutyWithin (locations s duty m) n at
  fails_out n at h v = holds_from (λ k. FailsDutyWithin (locations s duty m) k at) (fails_lasts (locations s duty m) at) (loss at) (c at h) n v

  loss_down : GoesDown m.size loss
  loss_down k t =
      let at = t.0 in
      let least : IsLeastNumber (λ n. FailsDutyWithin (locations s duty m) n at) (suc k) = subst (λ v. IsLeastOrNone (λ n. FailsDutyWithin (locations s duty m) n at) v) t.2 (c at t.1) in
      elim least.holds [
        | inl e ↦ absurd (least.least zero (omega arith) e)
        | inr f ↦ lower k at least.least f
      ]
    where
      lower : (k at : ℕ) → ((j : ℕ) → j < suc k → ¬ FailsDutyWithin (locations s duty m) j at)
          → (x : ℕ) × IsDecisionThere s m at x × ((y : ℕ) → y < 2 ^ s.outputs → (a : ℕ) × IsRound s x y a × (m.next at a < m.size) × FailsDutyWithin (locations s duty m) k (m.next at a)) → IsTaken m.size loss k
      lower zero at least f =
          let q = f.2 0 (pow_pos s.outputs) in
          let j = some_number zero (loss (m.next at q.0)) (fails_in zero (m.next at q.0) q.2 q.3) in
          let z : j.0 ≡ 0 = let l = j.2 in omega arith in
          (m.next at q.0, q.2, j.1 ∙ ap (λ i. Some i) z)
      lower (suc k) at least f =
          elim (some_or_none (λ i. is_number (suc k) (loss i)) m.size) [
            | inl j ↦ (j.0, j.1, number_is (suc k) (loss j.0) j.2)
            | inr none ↦ absurd (least (suc k) (omega arith) (inr (
              f.0,
              f.1,
              λ y o. let q = f.2 y o in (
                q.0,
                q.1,
                q.2,
                fails_out k (m.next at q.0) q.2 (within_less k (loss (m.next at q.0)) (fails_in (suc k) (m.next at q.0) q.2 q.3) (none (m.next at q.0) q.2)),
              ),
            )))
          ]

  -- losses are below the number of locations
  pub loss_less : (at n : ℕ) → at < m.size → loss at ≡ Some n → n < m.size
  loss_less at n h e = down_less m.size loss loss_down n (at, h, e)
