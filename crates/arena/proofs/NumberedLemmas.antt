-- What is left of an automaton by a table of the numbers of its live locations.
use Rattle.std.proofs.Common.{◌≡◌, ◌<◌, ◌≤◌, ◌⊎◌, ◌+◌, ◌++◌, [], ◌∷◌, length, length-append, ℕ, zero, suc, List, inl, inr, sym, ◌∙◌, ap, subst, arith, nat_lt, if◌then◌else◌}
use Rattle.std.proofs.lemmas.Bool.{cases_Bool, cases_lt, lt-ltb, ltb-true}
use Rattle.automata.specs.Moves.{Moves, IsClosed}
use Rattle.game.specs.Arena.{Locations}
use Rattle.game.specs.Kinds.{IsLeftOf}
use Rattle.std.proofs.lemmas.List.{get_or_append_left, get_or_at}
use Rattle.arena.specs.Numbered.{live_below, AreNumbers, IsByTable, AreNumbersSoFar}

pub live_more : (mark : ℕ → ℕ) (n : ℕ) → mark n < 3 → live_below mark (suc n) ≡ suc (live_below mark n)
live_more mark n h = ap (λ b. if b then suc (live_below mark n) else live_below mark n) (lt-ltb (mark n) 3 h)

pub live_same : (mark : ℕ → ℕ) (n : ℕ) → (mark n < 3 → ⊥) → live_below mark (suc n) ≡ live_below mark n
live_same mark n h =
    elim (cases_Bool (nat_lt (mark n) 3)) [
      | inl t ↦ absurd (h (ltb-true (mark n) 3 t))
      | inr f ↦ ap (λ b. if b then suc (live_below mark n) else live_below mark n) f
    ]

pub live_or_not : (mark : ℕ → ℕ) (n : ℕ) → (mark n < 3) ⊎ (mark n < 3 → ⊥)
live_or_not mark n = elim (cases_lt (mark n) 3) [ inl l ↦ inl l | inr l ↦ inr (λ h. omega arith) ]

live_step : (mark : ℕ → ℕ) (n : ℕ) → live_below mark n ≤ live_below mark (suc n)
live_step mark n = elim (live_or_not mark n) [ inl l ↦ let e = live_more mark n l in omega arith | inr l ↦ let e = live_same mark n l in omega arith ]

-- more locations have no fewer live ones
pub live_mono : (mark : ℕ → ℕ) (n k : ℕ) → n ≤ k → live_below mark n ≤ live_below mark k
live_mono mark n zero h = let e : n ≡ 0 = omega arith in subst (λ z. live_below mark z ≤ live_below mark 0) (sym e) (omega arith)
live_mono mark n (suc k) h =
    elim (cases_lt n (suc k)) [
      | inl l ↦ let r = live_mono mark n k (omega arith) in let q = live_step mark k in omega arith
      | inr l ↦ let e : n ≡ suc k = omega arith in subst (λ z. live_below mark z ≤ live_below mark (suc k)) (sym e) (omega arith)
    ]

-- a live location has a number below those of later ones
pub live_less : (mark : ℕ → ℕ) (at n : ℕ) → mark at < 3 → at < n → live_below mark at < live_below mark n
live_less mark at n h l = let e = live_more mark at h in let r = live_mono mark (suc at) n (omega arith) in omega arith

-- and no other live location has it
pub live_once : (mark : ℕ → ℕ) (i j : ℕ) → mark i < 3 → mark j < 3 → live_below mark i ≡ live_below mark j → i ≡ j
live_once mark i j h k e =
    elim (cases_lt i j) [
      | inl l ↦ let r = live_less mark i j h l in absurd (omega arith)
      | inr l ↦ elim (cases_lt j i) [ inl l' ↦ let r = live_less mark j i k l' in absurd (omega arith) | inr l' ↦ omega arith ]
    ]

-- the live location of a number
pub record LiveAt (mark : ℕ → ℕ) (n i : ℕ) : Type 0 where
  pub at : ℕ
  pub within : at < n
  pub live : mark at < 3
  pub number : live_below mark at ≡ i

pub live_at : (mark : ℕ → ℕ) (n i : ℕ) → i < live_below mark n → LiveAt mark n i
live_at mark zero i h = absurd (omega arith)
live_at mark (suc n) i h =
    elim (cases_lt i (live_below mark n)) [
      | inl l ↦ let r = live_at mark n i l in record { at = r.at; within = let w = r.within in omega arith; live = r.live; number = r.number }
      | inr l ↦ elim (live_or_not mark n) [
        | inl live ↦ let e = live_more mark n live in record { at = n; within = omega arith; live = live; number = omega arith }
        | inr no_live ↦ let e = live_same mark n no_live in absurd (omega arith)
      ]
    ]

-- the location of a number, or 0
number_of : (mark : ℕ → ℕ) (n i : ℕ) → (i < live_below mark n) ⊎ (live_below mark n ≤ i) → ℕ
number_of mark n i (inl l) = (live_at mark n i l).at
number_of mark n i (inr l) = 0

record IsNumber (mark : ℕ → ℕ) (n i at : ℕ) : Type 0 where
  within : at < n
  live : mark at < 3
  number : live_below mark at ≡ i

is_number : (mark : ℕ → ℕ) (n i : ℕ) (d : (i < live_below mark n) ⊎ (live_below mark n ≤ i)) → i < live_below mark n → IsNumber mark n i (number_of mark n i d)
unfolding number_of
is_number mark n i (inl l) h = let r = live_at mark n i l in record { within = r.within; live = r.live; number = r.number }
is_number mark n i (inr l) h = absurd (omega arith)

pub left_by_table : (p : ℕ) (m : Moves) (table : List ℕ) (arena : Locations) → IsClosed p m → m.first ≡ 0 → m.mark 0 < 3 → AreNumbers m.mark m.size table → IsByTable p m table arena → IsLeftOf p m arena
left_by_table p m table arena closed first0 live0 numbers by =
    let n = m.size in
    let of : ℕ → ℕ = λ i. number_of m.mark n i (cases_lt i (live_below m.mark n)) in
    let is : (i : ℕ) → i < arena.size → IsNumber m.mark n i (of i) = λ i h. is_number m.mark n i (cases_lt i (live_below m.mark n)) (subst (λ z. i < z) by.size h) in
    let some : 0 < arena.size = let e = by.size in let f = closed.first in let r = live_less m.mark 0 n live0 (omega arith) in omega arith in
    record {
      of = of;
      some = some;
      first = let r = is 0 some in live_once m.mark (of 0) m.first r.live (subst (λ z. m.mark z < 3) (sym first0) live0) (r.number ∙ sym (ap (live_below m.mark) first0));
      within = λ i h. (is i h).within;
      live = λ i h. (is i h).live;
      order = λ i j l h.
          let k : i < arena.size = omega arith in
          let a = is i k in
          let b = is j h in
          elim (cases_lt (of i) (of j)) [ inl q ↦ q | inr q ↦ let r = live_mono m.mark (of j) (of i) q in let x = a.number in let y = b.number in absurd (omega arith) ];
      onto = λ at h live.
          let e = by.size in
          let r = live_less m.mark at n live h in
          let k : live_below m.mark at < arena.size = omega arith in
          let q = is (live_below m.mark at) k in
          (live_below m.mark at, k, live_once m.mark (of (live_below m.mark at)) at q.live live q.number);
      goal = λ i h. let r = is i h in ap arena.is_goal (sym r.number) ∙ by.goal (of i) r.within r.live;
      broken = λ i h. let r = is i h in ap arena.is_broken (sym r.number) ∙ by.broken (of i) r.within r.live;
      goes = λ i a h no_goal k live.
          let r = is i h in
          let to = closed.next (of i) a r.within k in
          let e : arena.next i a ≡ live_below m.mark (m.next (of i) a) = ap (λ z. arena.next z a) (sym r.number) ∙ by.next (of i) a r.within r.live no_goal k ∙ numbers.live (m.next (of i) a) to live in
          let l = live_less m.mark (m.next (of i) a) n live to in
          let s = by.size in
          let w : arena.next i a < arena.size = omega arith in
          let q = is (arena.next i a) w in
          (w, live_once m.mark (of (arena.next i a)) (m.next (of i) a) q.live live (q.number ∙ e));
      stops = λ i a h no_goal k w.
          let r = is i h in
          let to = closed.next (of i) a r.within k in
          elim (live_or_not m.mark (m.next (of i) a)) [
            | inl l ↦ l
            | inr l ↦
                let e : arena.next i a ≡ live_below m.mark n = ap (λ z. arena.next z a) (sym r.number) ∙ by.next (of i) a r.within r.live no_goal k ∙ numbers.other (m.next (of i) a) to l in
                let s = by.size in
                absurd (omega arith)
          ];
    }

-- no more are live than there are
pub live_few : (mark : ℕ → ℕ) (n : ℕ) → live_below mark n ≤ n
live_few mark zero = omega arith
live_few mark (suc n) = let r = live_few mark n in elim (live_or_not mark n) [ inl l ↦ let e = live_more mark n l in omega arith | inr l ↦ let e = live_same mark n l in omega arith ]

pub live_next : (mark : ℕ → ℕ) (n count : ℕ) → count ≡ live_below mark n → mark n < 3 → count + 1 ≡ live_below mark (n + 1)
live_next mark n count e h = let s : suc n ≡ n + 1 = omega arith in let f = live_more mark n h in let g = ap (live_below mark) s in omega arith

pub live_stays : (mark : ℕ → ℕ) (n count : ℕ) → count ≡ live_below mark n → 3 ≤ mark n → count ≡ live_below mark (n + 1)
live_stays mark n count e h = let s : suc n ≡ n + 1 = omega arith in let f = live_same mark n (λ l. omega arith) in let g = ap (live_below mark) s in omega arith

pub below_or_last : (i n : ℕ) → i < n + 1 → (i < n) ⊎ (i ≡ n)
below_or_last i n h = elim (cases_lt i n) [ inl l ↦ inl l | inr l ↦ inr (omega arith) ]

-- one more number
pub numbers_live : (mark : ℕ → ℕ) (size at : ℕ) (table : List ℕ) (next : ℕ) → AreNumbersSoFar mark size at table next → mark at < 3 → AreNumbersSoFar mark size (at + 1) (table ++ next ∷ []) (next + 1)
numbers_live mark size at table next r h =
    let l : length (table ++ next ∷ []) ≡ length table + 1 = length-append table (next ∷ []) in
    let c = r.count_is in
    record {
      count_is = omega arith;
      next_is = live_next mark at next r.next_is h;
      live = λ i k m. elim (below_or_last i at k) [ inl j ↦ get_or_append_left table (next ∷ []) 0 i (omega arith) ∙ r.live i j m | inr e ↦ get_or_at table next [] 0 i (c ∙ sym e) ∙ r.next_is ∙ ap (live_below mark) (sym e) ];
      other = λ i k m. elim (below_or_last i at k) [ inl j ↦ get_or_append_left table (next ∷ []) 0 i (omega arith) ∙ r.other i j m | inr e ↦ absurd (m (subst (λ z. mark z < 3) (sym e) h)) ];
    }

pub numbers_other : (mark : ℕ → ℕ) (size at : ℕ) (table : List ℕ) (next : ℕ) → AreNumbersSoFar mark size at table next → 3 ≤ mark at → AreNumbersSoFar mark size (at + 1) (table ++ size ∷ []) next
numbers_other mark size at table next r h =
    let l : length (table ++ size ∷ []) ≡ length table + 1 = length-append table (size ∷ []) in
    let c = r.count_is in
    record {
      count_is = omega arith;
      next_is = live_stays mark at next r.next_is h;
      live = λ i k m. elim (below_or_last i at k) [ inl j ↦ get_or_append_left table (size ∷ []) 0 i (omega arith) ∙ r.live i j m | inr e ↦ let q : mark at < 3 = subst (λ z. mark z < 3) e m in absurd (omega arith) ];
      other = λ i k m. elim (below_or_last i at k) [ inl j ↦ get_or_append_left table (size ∷ []) 0 i (omega arith) ∙ r.other i j m | inr e ↦ get_or_at table size [] 0 i (c ∙ sym e) ];
    }
