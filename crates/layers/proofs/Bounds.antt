-- Ranks are few: each lesser number is some location's rank.
use Rattle.std.proofs.Common.{◌≡◌, ◌≢◌, ℕ, zero, suc, ◌<◌, ◌≤◌, ◌+◌, ◌-◌, inl, inr, arith, sym, ◌∙◌, ap, subst, Bool, true, false, Option, Some}
use Rattle.game.specs.Board.{IsLeastNumber}
use Rattle.forms.specs.declared.partition.Partition.{Partition}
use Rattle.game.specs.Winning.{WinsWithin}
use Rattle.game.specs.Arena.{Locations, locations}
use Rattle.game.specs.Numbers.{IsLeastOrNone}
use Rattle.layers.specs.Ranked.{AreRanks, IsPlayableArena}
use Rattle.layers.proofs.Layers.{wins_lasts}
use Rattle.layers.proofs.Search.{some_or_none, found, found_passes}
use Rattle.layers.proofs.Least.{within_from, holds_from, is_number, number_is, number_test, within_less, some_number, within_is}
use Rattle.automata.proofs.Pigeon.{no_more_than}

-- some location has the number
abbrev pub IsTaken : ℕ → (ℕ → Option ℕ) → ℕ → Type 0
IsTaken size rank n = (at : ℕ) × (at < size) × (rank at ≡ Some n)

-- so many numbers in a row that are all taken are at most as many as there are locations
pub taken_few : (size : ℕ) (rank : ℕ → Option ℕ) (from n : ℕ) → ((k : ℕ) → k < n → IsTaken size rank (from + k)) → n ≤ size
taken_few size rank from n f = no_more_than size n (λ k. found (λ at. is_number (from + k) (rank at)) size) (λ k h. (holder k h).0) apart
  where
    holder : (k : ℕ) → k < n → (found (λ at. is_number (from + k) (rank at)) size < size) × (is_number (from + k) (rank (found (λ at. is_number (from + k) (rank at)) size)) ≡ true)
    holder k h = let t = f k h in found_passes (λ at. is_number (from + k) (rank at)) size t.0 t.1 (number_test (from + k) (rank t.0) t.2)

    apart : (i j : ℕ) → i < j → j < n → found (λ at. is_number (from + i) (rank at)) size ≢ found (λ at. is_number (from + j) (rank at)) size
    apart i j h l e =
        let p = number_is (from + i) _ (holder i (omega arith)).1 in
        let q = number_is (from + j) _ (holder j l).1 in
        let same : Some (from + i) ≡ Some (from + j) = sym p ∙ ap rank e ∙ q in
        let z : from + i ≡ from + j = cc in
        absurd (omega arith)

module _ (s : Partition) (duty : Bool) (m : Locations) (rank : ℕ → Option ℕ) (r : AreRanks s duty m rank) where
  wins : ℕ → ℕ → Type 0
  wins n at = WinsWithin (locations s duty m) n at

  -- where no location has the rank n + 1, one round more wins no more
  pub skip : (n : ℕ) → ((at : ℕ) → at < m.size → is_number (suc n) (rank at) ≡ false) → (at : ℕ) → at < m.size → WinsWithin (locations s duty m) (suc n) at → WinsWithin (locations s duty m) n at
  skip n f at h w =
      holds_from (λ k. WinsWithin (locations s duty m) k at) (wins_lasts (locations s duty m) at) (rank at) (r at h) n
      (within_less n (rank at) (within_from (λ k. WinsWithin (locations s duty m) k at) (rank at) (r at h) (suc n) w) (f at h))

  skip_two : (n : ℕ) → ((at : ℕ) → at < m.size → is_number (suc n) (rank at) ≡ false) → (at : ℕ) → at < m.size → WinsWithin (locations s duty m) (suc (suc n)) at → WinsWithin (locations s duty m) (suc n) at
  skip_two n f at h (inl e) = inl e
  skip_two n f at h (inr w) = inr (λ x d. let p = w x d in (p.0, p.1, λ a q l. skip n f (m.next at a) l (p.2 a q l)))

  -- below each rank but the first lies a rank
  taken_below : (n : ℕ) → IsTaken m.size rank (suc (suc n)) → IsTaken m.size rank (suc n)
  taken_below n t =
      elim (some_or_none (λ at. is_number (suc n) (rank at)) m.size) [
        | inl k ↦ (k.0, k.1, number_is (suc n) (rank k.0) k.2)
        | inr f ↦
            let at = t.0 in
            let least : IsLeastNumber (λ k. WinsWithin (locations s duty m) k at) (suc (suc n)) = subst (λ v. IsLeastOrNone (λ k. WinsWithin (locations s duty m) k at) v) t.2 (r at t.1) in
            absurd (least.least (suc n) (omega arith) (skip_two n f at t.1 least.holds))
      ]

  -- a first round wins only where some location meets the goal
  taken_first : IsPlayableArena s duty m → IsTaken m.size rank (suc zero) → IsTaken m.size rank zero
  taken_first g t =
      let at = t.0 in
      let least : IsLeastNumber (λ k. WinsWithin (locations s duty m) k at) (suc zero) = subst (λ v. IsLeastOrNone (λ k. WinsWithin (locations s duty m) k at) v) t.2 (r at t.1) in
      elim least.holds [
        | inl e ↦ absurd (least.least zero (omega arith) e)
        | inr w ↦
            let unmet : m.is_goal at ≡ true → ⊥ = λ e. least.least zero (omega arith) e in
            let d = g.decides at t.1 unmet in
            let p = w d.0 d.1 in
            let o = g.goes_on at t.1 unmet d.0 p.0 d.1 p.1 in
            let in_0 = within_from (λ k. WinsWithin (locations s duty m) k (m.next at o.0)) (rank (m.next at o.0)) (r (m.next at o.0) o.2) zero (p.2 o.0 o.1 o.2) in
            let k = some_number zero (rank (m.next at o.0)) in_0 in
            let z : k.0 ≡ 0 = let l = k.2 in omega arith in
            (m.next at o.0, o.2, k.1 ∙ ap (λ j. Some j) z)
      ]

  pub taken_down : IsPlayableArena s duty m → (n : ℕ) → IsTaken m.size rank (suc n) → IsTaken m.size rank n
  taken_down g zero t = taken_first g t
  taken_down g (suc n) t = taken_below n t

  pub taken_all : IsPlayableArena s duty m → (n d : ℕ) → IsTaken m.size rank (n + d) → IsTaken m.size rank n
  taken_all g n zero t = let e : n + 0 ≡ n = omega arith in subst (IsTaken m.size rank) e t
  taken_all g n (suc d) t = let e : n + suc d ≡ suc (n + d) = omega arith in taken_all g n d (taken_down g (n + d) (subst (IsTaken m.size rank) e t))

  -- each rank is below the number of locations
  pub rank_less : IsPlayableArena s duty m → (at n : ℕ) → at < m.size → rank at ≡ Some n → n < m.size
  rank_less g at n h e =
      let all : (k : ℕ) → k < suc n → IsTaken m.size rank (0 + k) = λ k l.
      let q : k + (n - k) ≡ n = omega arith in
      let z : k ≡ 0 + k = omega arith in
      subst (IsTaken m.size rank) z (taken_all g k (n - k) (at, h, e ∙ ap (λ j. Some j) (sym q))) in
      let f = taken_few m.size rank 0 (suc n) all in
      omega arith

  taken_rest : (n d : ℕ) → IsTaken m.size rank (suc n + d) → IsTaken m.size rank (suc n)
  taken_rest n zero t = let e : suc n + 0 ≡ suc n = omega arith in subst (IsTaken m.size rank) e t
  taken_rest n (suc d) t =
      let e : suc n + suc d ≡ suc (suc (n + d)) = omega arith in
      let q : suc (n + d) ≡ suc n + d = omega arith in
      taken_rest n d (subst (IsTaken m.size rank) q (taken_below (n + d) (subst (IsTaken m.size rank) e t)))

  -- without any premise each rank is at most that number
  pub rank_most : (at n : ℕ) → at < m.size → rank at ≡ Some n → n ≤ m.size
  rank_most at n h e =
      let all : (k : ℕ) → k < n → IsTaken m.size rank (1 + k) = λ k l.
      let q : suc k + (n - suc k) ≡ n = omega arith in
      let z : suc k ≡ 1 + k = omega arith in
      subst (IsTaken m.size rank) z (taken_rest k (n - suc k) (at, h, e ∙ ap (λ j. Some j) (sym q))) in
      taken_few m.size rank 1 n all

  -- where no number up to the size wins, none does
  pub none_beyond : (at : ℕ) → at < m.size → ¬ WinsWithin (locations s duty m) m.size at → (n : ℕ) → ¬ WinsWithin (locations s duty m) n at
  none_beyond at h f n w =
      let k = some_number n (rank at) (within_from (λ k. WinsWithin (locations s duty m) k at) (rank at) (r at h) n w) in
      f (holds_from (λ j. WinsWithin (locations s duty m) j at) (wins_lasts (locations s duty m) at) (rank at) (r at h) m.size (within_is m.size k.0 (rank at) k.1 (rank_most at k.0 h k.1)))
