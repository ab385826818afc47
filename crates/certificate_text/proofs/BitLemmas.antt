-- Bits read one by one.
use Rattle.std.proofs.Common.{◌≡◌, ◌≢◌, ◌<◌, ◌≤◌, ◌^◌, ◌+◌, ◌-◌, ◌*◌, ◌⊎◌, if◌then◌else◌, inl, inr, ℕ, zero, suc, List, [], ◌∷◌, ◌++◌, take, length, get_or, refl, sym, ap, subst, ◌∙◌, arith, add-one}
use Rattle.std.proofs.lemmas.List.{take_more}
use Rattle.std.proofs.lemmas.Bool.{cases_eq, cases_lt, lt-ltb, le-ltb}
use Rattle.std.proofs.Math.Nat.{pow-suc}
use Rattle.std.proofs.Math.Seq.{take-length}
use Rattle.printed_strategy.specs.StrategyText.{bits_of, bits_text}
use Rattle.certificate_text.specs.Digits.{SpeltSoFar}

-- the first bit, and the bits behind it
bits-low : (k n : ℕ) → n < 2 ^ k → bits_of (suc k) n ≡ 48 ∷ bits_of k n
bits-low k n h = ap (λ z. if z then 48 ∷ bits_of k n else 49 ∷ bits_of k (n - 2 ^ k)) (lt-ltb n (2 ^ k) h)

bits-high : (k n : ℕ) → 2 ^ k ≤ n → bits_of (suc k) n ≡ 49 ∷ bits_of k (n - 2 ^ k)
bits-high k n h = ap (λ z. if z then 48 ∷ bits_of k n else 49 ∷ bits_of k (n - 2 ^ k)) (le-ltb n (2 ^ k) h)

length-bits : (k n : ℕ) → length (bits_of k n) ≡ k
length-bits zero n = refl
length-bits (suc k) n = elim (cases_lt n (2 ^ k)) [
  | inl l ↦ ap length (bits-low k n l) ∙ ap suc (length-bits k n)
  | inr g ↦ ap length (bits-high k n g) ∙ ap suc (length-bits k (n - 2 ^ k))
]

last_bit : (b : ℕ) → b < 2 → bits_of 1 b ≡ (48 + b) ∷ []
last_bit b h = elim (cases_eq b 0) [
  | inl e ↦ ap (λ (z : ℕ). bits_of 1 z) e ∙ ap (λ (z : ℕ). (48 + z) ∷ []) (sym e)
  | inr ne ↦ let e : b ≡ 1 = omega arith in ap (λ (z : ℕ). bits_of 1 z) e ∙ ap (λ (z : ℕ). (48 + z) ∷ []) (sym e)
]

twice_less : (k n b : ℕ) → n < 2 ^ k → b < 2 → n * 2 + b < 2 ^ suc k
twice_less k n b h l = let p = pow-suc 2 k in omega (arith, h, l, p)

twice_rest : (k n b : ℕ) → 2 ^ k ≤ n → n * 2 + b - 2 ^ suc k ≡ (n - 2 ^ k) * 2 + b
twice_rest k n b h = let p = pow-suc 2 k in omega (arith, h, p)

-- one bit more at the end
pub bits-more : (k n b : ℕ) → n < 2 ^ k → b < 2 → bits_of (suc k) (n * 2 + b) ≡ bits_of k n ++ (48 + b) ∷ []
bits-more zero n b l h = let e : n * 2 + b ≡ b = omega (arith, l) in ap (λ (z : ℕ). bits_of 1 z) e ∙ last_bit b h
bits-more (suc k) n b l h = elim (cases_lt n (2 ^ k)) [
  | inl low ↦ bits-low (suc k) (n * 2 + b) (twice_less k n b low h) ∙ ap (λ (z : List ℕ). 48 ∷ z) (bits-more k n b low h)
      ∙ sym (ap (λ (z : List ℕ). z ++ (48 + b) ∷ []) (bits-low k n low))
  | inr high ↦
      let p = pow-suc 2 k in
      let rest : n - 2 ^ k < 2 ^ k = omega (arith, l, high, p) in
      let some : 2 ^ suc k ≤ n * 2 + b = omega (arith, high, p) in
      bits-high (suc k) (n * 2 + b) some
      ∙ ap (λ (z : ℕ). 49 ∷ bits_of (suc k) z) (twice_rest k n b high)
      ∙ ap (λ (z : List ℕ). 49 ∷ z) (bits-more k (n - 2 ^ k) b rest h)
      ∙ sym (ap (λ (z : List ℕ). z ++ (48 + b) ∷ []) (bits-high k n high))
]

pub spelt_none : (text : List ℕ) → SpeltSoFar text 0 0
spelt_none text = record { small = omega arith; spelt = refl }

pub spelt_more : (text : List ℕ) (i n b : ℕ) → i < length text → get_or text i 0 ≡ 48 + b → b < 2 → SpeltSoFar text i n → SpeltSoFar text (i + 1) (n * 2 + b)
spelt_more text i n b l e h r =
    let one = take_more text i 0 l in
    let p = pow-suc 2 i in
    let s = r.small in
    record {
      small = let q : 2 ^ (i + 1) ≡ 2 ^ i * 2 = rw add-one p in omega (arith, q, s);
      spelt = one ∙ ap (λ (z : List ℕ). z ++ get_or text i 0 ∷ []) r.spelt ∙ ap (λ (z : ℕ). bits_of i n ++ z ∷ []) e ∙ sym (bits-more i n b s h)
          ∙ ap (λ (z : ℕ). bits_of z (n * 2 + b)) (sym (add-one i));
    }

-- bits of which there are some are printed as they are
pub bits_of_some : (k n : ℕ) → 0 < k → bits_text k n ≡ bits_of k n
bits_of_some zero n h = absurd (omega arith)
bits_of_some (suc k) n h = refl

pub spelt_all : (text : List ℕ) (k n : ℕ) → 0 < k → length text ≡ k → SpeltSoFar text k n → text ≡ bits_text k n
spelt_all text k n h l r = sym (take-length text) ∙ ap (λ (z : ℕ). take z text) l ∙ r.spelt ∙ sym (bits_of_some k n h)

-- another length, or another byte, spells nothing
pub no_other_length : (text : List ℕ) (k n : ℕ) → 0 < k → length text ≢ k → text ≢ bits_text k n
no_other_length text k n h l e = l (ap length (e ∙ bits_of_some k n h) ∙ length-bits k n)

-- a byte of a text with one byte before it
bit_behind : (c : ℕ) (rest text : List ℕ) (i : ℕ) → (c ≡ 48) ⊎ (c ≡ 49) → text ≡ c ∷ rest → ((j : ℕ) → i ≡ suc j → (get_or rest j 0 ≡ 48) ⊎ (get_or rest j 0 ≡ 49))
    → (get_or text i 0 ≡ 48) ⊎ (get_or text i 0 ≡ 49)
bit_behind c rest text zero first e more = let P : List ℕ → Type 0 = λ z. (get_or z 0 0 ≡ 48) ⊎ (get_or z 0 0 ≡ 49) in subst P (sym e) first
bit_behind c rest text (suc j) first e more = let P : List ℕ → Type 0 = λ z. (get_or z (suc j) 0 ≡ 48) ⊎ (get_or z (suc j) 0 ≡ 49) in subst P (sym e) (more j refl)

bit_is : (n k i : ℕ) → i < k → (get_or (bits_of k n) i 0 ≡ 48) ⊎ (get_or (bits_of k n) i 0 ≡ 49)
bit_is n zero i h = absurd (omega arith)
bit_is n (suc k) i h = elim (cases_lt n (2 ^ k)) [
  | inl l ↦ bit_behind 48 (bits_of k n) (bits_of (suc k) n) i (inl refl) (bits-low k n l) (λ j e. bit_is n k j (omega (arith, h, e)))
  | inr g ↦ bit_behind 49 (bits_of k (n - 2 ^ k)) (bits_of (suc k) n) i (inr refl) (bits-high k n g) (λ j e. bit_is (n - 2 ^ k) k j (omega (arith, h, e)))
]

pub no_other_bit : (text : List ℕ) (k n i : ℕ) → 0 < k → i < k → get_or text i 0 ≢ 48 → get_or text i 0 ≢ 49 → text ≢ bits_text k n
no_other_bit text k n i h l zero_ one_ e =
    let f : get_or text i 0 ≡ get_or (bits_of k n) i 0 = ap (λ (z : List ℕ). get_or z i 0) (e ∙ bits_of_some k n h) in
    elim (bit_is n k i l) [
      | inl z ↦ zero_ (f ∙ z)
      | inr o ↦ one_ (f ∙ o)
    ]
