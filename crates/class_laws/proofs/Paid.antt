-- How often locations move.
use Rattle.std.proofs.Common.{◌≡◌, ◌<◌, ◌≤◌, ◌+◌, ◌*◌, ◌^◌, ◌==◌, ℕ, zero, suc, true, false, List, [], ◌∷◌, refl, sym, ap, subst, arith, inl, inr, length, if◌then◌else◌}
use Rattle.std.proofs.lemmas.Bool.{cases_eq, cases_Bool, cases_lt, eq-eqb, ne_eqb, false≢true}
use Rattle.std.proofs.Math.Nat.{mul-le-mul_left, mul_left_comm, mul_comm, mul-one, suc-mul}
use Rattle.std.proofs.Math.Pow.{pow_mono}
use Rattle.std.proofs.lemmas.Grind.{pow_more}
use Rattle.linked_blocks.specs.Lists.{holds, list_of, block_in, IsOnce, HoldEach}
use Rattle.linked_blocks.proofs.LinkLemmas.{holds-head, holds-tail, holds-cases, lacks-cons}
use Rattle.class_laws.specs.Classes.{sum_to, IsPaid, HasFewMoves}

-- one location costs one more
abbrev pub bump : ℕ → (ℕ → ℕ) → ℕ → ℕ
bump at f x = if x == at then f x + 1 else f x

-- each location of the list costs one more
abbrev pub bumped : List ℕ → (ℕ → ℕ) → ℕ → ℕ
bumped [] f = f
bumped (x ∷ xs) f = bump x (bumped xs f)

sum-bump_past : (n at : ℕ) (f : ℕ → ℕ) → n ≤ at → sum_to n (bump at f) ≡ sum_to n f
sum-bump_past zero at f h = refl
sum-bump_past (suc n) at f h = rw (sum-bump_past n at f (omega (arith, h)), ne_eqb n at (λ e. absurd (omega (arith, e, h)))) refl

sum-bump : (n at : ℕ) (f : ℕ → ℕ) → at < n → sum_to n (bump at f) ≡ sum_to n f + 1
sum-bump zero at f h = absurd (omega (arith, h))
sum-bump (suc n) at f h = elim (cases_eq n at) [
  | inl e ↦ rw (sum-bump_past n at f (omega (arith, e)), eq-eqb n at e) (omega arith)
  | inr d ↦ let r = sum-bump n at f (omega (arith, h, d)) in rw (r, ne_eqb n at d) (omega arith)
]

pub sum-bumped : (n : ℕ) (xs : List ℕ) (f : ℕ → ℕ) → ((x : ℕ) → holds xs x ≡ true → x < n) → sum_to n (bumped xs f) ≡ sum_to n f + length xs
sum-bumped n [] f h = omega arith
sum-bumped n (x ∷ xs) f h =
    let r = sum-bumped n xs f (λ y i. h y (holds-tail x y xs i)) in
    let s = sum-bump n x (bumped xs f) (h x (holds-head x xs)) in
    omega (arith, r, s)

pub bumped-lacks : (xs : List ℕ) (f : ℕ → ℕ) (x : ℕ) → holds xs x ≡ false → bumped xs f x ≡ f x
bumped-lacks [] f x h = refl
bumped-lacks (y ∷ xs) f x h = let c = lacks-cons y x xs h in rw (ne_eqb x y (λ e. c.0 (sym e))) (bumped-lacks xs f x c.1)

pub bumped-holds : (xs : List ℕ) (f : ℕ → ℕ) (x : ℕ) → IsOnce xs → holds xs x ≡ true → bumped xs f x ≡ f x + 1
bumped-holds [] f x o h = absurd (false≢true h)
bumped-holds (y ∷ xs) f x o h = elim (cases_eq x y) [
  | inl e ↦ rw (eq-eqb x y e) (ap (λ z. z + 1) (bumped-lacks xs f x (subst (λ z. holds xs z ≡ false) (sym e) o.0)))
  | inr n ↦ rw (ne_eqb x y n) (bumped-holds xs f x o.1 (elim (holds-cases y x xs h) [
    | inl e ↦ absurd (n (sym e))
    | inr t ↦ t
  ]))
]

half_pays : (a b q n : ℕ) → a * 2 ≤ b → b * q ≤ n → a * (q * 2) ≤ n
half_pays a b q n h l =
    let x = mul-le-mul_left q h in
    let y = mul_left_comm q a 2 in
    let z = mul_comm q b in
    omega (arith, x, y, z, l)

same_pays : (a b q n : ℕ) → a ≤ b → b * q ≤ n → a * q ≤ n
same_pays a b q n h l =
    let x = mul-le-mul_left q h in
    let y = mul_comm q a in
    let z = mul_comm q b in
    omega (arith, x, y, z, l)

-- a list that holds something is not empty
pub holds-some : (xs : List ℕ) (x : ℕ) → holds xs x ≡ true → 0 < length xs
holds-some [] x h = absurd (false≢true h)
holds-some (y ∷ xs) x h = omega arith

-- a location whose block halves costs one more
pub paid_more : (size moves after : ℕ) (old new : List (List ℕ)) (moving : List ℕ) → IsPaid size old moves → IsOnce moving
    → ((x : ℕ) → holds moving x ≡ true → (x < size) × (length (list_of new (block_in new x)) * 2 ≤ length (list_of old (block_in old x))))
    → ((x : ℕ) → x < size → holds moving x ≡ false → length (list_of new (block_in new x)) ≤ length (list_of old (block_in old x)))
    → after ≡ moves + length moving → IsPaid size new after
paid_more size moves after old new moving p once halved kept e = record {
  cost = bumped moving p.cost;
  small = λ x h. elim (cases_Bool (holds moving x)) [
    | inl t ↦
        let c = bumped-holds moving p.cost x once t in
        let a = (halved x t).1 in
        let b = p.small x h in
        rw (c, pow_more 2 (p.cost x)) (half_pays _ _ (2 ^ p.cost x) size a b)
    | inr f ↦
        let c = bumped-lacks moving p.cost x f in
        let a = kept x h f in
        let b = p.small x h in
        rw (c) (same_pays _ _ (2 ^ p.cost x) size a b)
  ];
  sum = let s = sum-bumped size moving p.cost (λ x t. (halved x t).0) in let b = p.sum in omega (arith, s, b, e);
}

-- nothing has moved yet
pub paid_none : (size : ℕ) (lists : List (List ℕ)) → ((x : ℕ) → x < size → length (list_of lists (block_in lists x)) ≤ size) → IsPaid size lists 0
paid_none size lists h = record { cost = λ _. 0; small = λ x l. let a = h x l in rw (mul-one (length (list_of lists (block_in lists x)))) a; sum = omega arith }

sum-below : (n d : ℕ) (f : ℕ → ℕ) → ((x : ℕ) → x < n → f x ≤ d) → sum_to n f ≤ n * d
sum-below zero d f h = omega arith
sum-below (suc n) d f h = let r = sum-below n d f (λ x l. h x (omega (arith, l))) in let s = h n (omega arith) in let m = suc-mul n d in omega (arith, r, s, m)

-- so there are few moves
pub paid_few : (size : ℕ) (lists : List (List ℕ)) (moves : ℕ) → HoldEach size lists → IsPaid size lists moves → HasFewMoves size moves
paid_few size lists moves e p d h =
    let b : sum_to size p.cost ≤ size * d = sum-below size d p.cost (λ x l. elim (cases_lt (p.cost x) d) [
      | inl m ↦ omega (arith, m)
      | inr m ↦
          let k = length (list_of lists (block_in lists x)) in
          let q = 2 ^ p.cost x in
          let some : 0 < k = holds-some (list_of lists (block_in lists x)) x (e.there x l).1 in
          let up : 2 ^ d ≤ q = pow_mono m in
          let many : q * 1 ≤ q * k = mul-le-mul_left q some in
          let one = mul-one q in
          let swap = mul_comm q k in
          let small : k * q ≤ size = p.small x l in
          absurd (omega (arith, up, many, one, swap, small, h))
    ]) in
    let s = p.sum in
    omega (arith, b, s)
