-- Numbers that variables spell.
use Rattle.std.proofs.Common.{◌≡◌, ◌<◌, ◌≤◌, ◌+◌, ◌-◌, ◌^◌, ℕ, zero, suc, refl, ◌∙◌, ap, arith, inl, inr, Bool, true, false, if◌then◌else◌}
use Rattle.std.proofs.lemmas.Bool.{cases_lt}
use Rattle.diagrams.specs.Tree.{Assignment, put}
use Rattle.diagrams.proofs.Canon.{put-same, put-above}
use Rattle.choosing.specs.Numbers.{number_at}

-- assignments that agree from v on spell the same
pub number-same : (a b : Assignment) (v n : ℕ) → ((w : ℕ) → v ≤ w → a w ≡ b w) → number_at a v n ≡ number_at b v n
number-same a b v zero e = refl
number-same a b v (suc n) e =
    ap (λ z. (if z then 2 ^ n else 0) + number_at a (suc v) n) (e v (omega arith))
    ∙ ap (λ z. (if b v then 2 ^ n else 0) + z) (number-same a b (suc v) n (λ w l. e w (omega (arith, l))))

-- a variable before them changes nothing
pub number-put : (a : Assignment) (v n : ℕ) (b : Bool) → number_at (put a v b) (suc v) n ≡ number_at a (suc v) n
number-put a v n b = number-same (put a v b) a (suc v) n (λ w l. put-above a v b w (omega (arith, l)))

-- the first variable false, or true
pub number-low : (a : Assignment) (v n : ℕ) → number_at (put a v false) v (suc n) ≡ number_at a (suc v) n
number-low a v n =
    ap (λ z. (if z then 2 ^ n else 0) + number_at (put a v false) (suc v) n) (put-same a v false)
    ∙ ap (λ z. 0 + z) (number-put a v n false) ∙ omega arith

pub number-high : (a : Assignment) (v n : ℕ) → number_at (put a v true) v (suc n) ≡ 2 ^ n + number_at a (suc v) n
number-high a v n =
    ap (λ z. (if z then 2 ^ n else 0) + number_at (put a v true) (suc v) n) (put-same a v true)
    ∙ ap (λ z. 2 ^ n + z) (number-put a v n true)

pub number-less : (a : Assignment) (v n : ℕ) → number_at a v n < 2 ^ n
number-less a v zero = omega arith
number-less a v (suc n) =
    let h = number-less a (suc v) n in
    elim (a v) as (λ b. (if b then 2 ^ n else 0) + number_at a (suc v) n < 2 ^ suc n) [ true ↦ omega (arith, h) | false ↦ omega (arith, h) ]

-- each number is spelt
pub spelling : (v n m : ℕ) → m < 2 ^ n → (a : Assignment) × (number_at a v n ≡ m)
spelling v zero m l = (λ w. false, omega (arith, l))
spelling v (suc n) m l =
    elim (cases_lt m (2 ^ n)) [
      | inl k ↦ let r = spelling (suc v) n m k in (put r.0 v false, number-low r.0 v n ∙ r.1)
      | inr k ↦
          let h : m - 2 ^ n < 2 ^ n = omega (arith, l, k) in
          let r = spelling (suc v) n (m - 2 ^ n) h in
          (put r.0 v true, number-high r.0 v n ∙ ap (λ z. 2 ^ n + z) r.1 ∙ omega (arith, k))
    ]
