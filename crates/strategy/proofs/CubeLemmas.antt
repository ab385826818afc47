-- The cubes of a diagram's function are the lines of the function on numbers.
use Rattle.std.proofs.Common.{◌≡◌, ◌+◌, ◌^◌, ◌++◌, ℕ, zero, suc, List, [], ◌∷◌, refl, sym, ◌∙◌, ap, arith, inl, inr, Bool, true, false, map}
use Rattle.std.specs.Prelude.{if◌then◌else◌}
use Rattle.std.specs.Str.{bytes_eq}
use Rattle.std.proofs.lemmas.Bool.{cases_lt, and_parts, and_from, false_from_ne_true}
use Rattle.std.proofs.lemmas.Slice.Eq.{bytes_eq-Decides}
use Rattle.diagrams.specs.Tree.{Assignment, put}
use Rattle.diagrams.specs.declared.cubes.Cube.{Cube}
use Rattle.diagrams.specs.Cubes.{IsFree, lead as lead_cube, AreCubesOf}
use Rattle.printed_strategy.specs.CubeLines.{lead, agree, upper, lines_of}
use Rattle.printed_strategy.proofs.CubeFacts.{AgreeBelow}
use Rattle.choosing.specs.Numbers.{number_at}
use Rattle.strategy.specs.Listing.{line_for, AreTold}
use Rattle.choosing.proofs.NumberLemmas.{number-low, number-high, number-less, spelling}

pub agree-true : (n : ℕ) (f g : ℕ → List ℕ) → agree n f g ≡ true → AgreeBelow n f g
agree-true zero f g e a l = absurd (omega (arith, l))
agree-true (suc n) f g e a l =
    let p = and_parts (agree n f g) (bytes_eq (f n) (g n)) e in
    elim (cases_lt a n) [
      | inl k ↦ agree-true n f g p.0 a k
      | inr k ↦
          let same : n ≡ a = omega (arith, l, k) in
          ap f (sym same) ∙ (bytes_eq-Decides (f n) (g n)).0 p.1 ∙ ap g same
    ]

pub true-agree : (n : ℕ) (f g : ℕ → List ℕ) → AgreeBelow n f g → agree n f g ≡ true
true-agree zero f g e = refl
true-agree (suc n) f g e =
    and_from (agree n f g) (bytes_eq (f n) (g n)) (true-agree n f g (λ a l. e a (omega (arith, l)))) ((bytes_eq-Decides (f n) (g n)).1 (e n (omega arith)))

-- a character in front, before or after the fields are put in
map-lead : (fields : ℕ → List ℕ) (c : ℕ) (cubes : List Cube) → map (line_for fields) (map (lead_cube c) cubes) ≡ map (lead c) (map (line_for fields) cubes)
map-lead fields c [] = refl
map-lead fields c (cube ∷ cubes) = ap (λ z. line_for fields (lead_cube c cube) ∷ z) (map-lead fields c cubes)

map-append : (fields : ℕ → List ℕ) (xs ys : List Cube) → map (line_for fields) (xs ++ ys) ≡ map (line_for fields) xs ++ map (line_for fields) ys
map-append fields [] ys = refl
map-append fields (x ∷ xs) ys = ap (λ z. line_for fields x ∷ z) (map-append fields xs ys)

-- the fields of the function's values are the function's on the numbers of n variables from v on
abbrev pub IsLinked : (ℕ → List ℕ) → ℕ → ℕ → (Assignment → ℕ) → (ℕ → List ℕ) → Type 0
IsLinked fields v n h f = (a : Assignment) → f (number_at a v n) ≡ fields (h a)

-- the link where the first variable is false, and where it is true
link-low : (fields : ℕ → List ℕ) (v n : ℕ) (h : Assignment → ℕ) (f : ℕ → List ℕ) → IsLinked fields v (suc n) h f → IsLinked fields (suc v) n (λ a. h (put a v false)) f
link-low fields v n h f link a = ap f (sym (number-low a v n)) ∙ link (put a v false)

link-high : (fields : ℕ → List ℕ) (v n : ℕ) (h : Assignment → ℕ) (f : ℕ → List ℕ) → IsLinked fields v (suc n) h f → IsLinked fields (suc v) n (λ a. h (put a v true)) (upper n f)
link-high fields v n h f link a = ap f (sym (number-high a v n)) ∙ link (put a v true)

-- a function that doesn't depend on the first variable
free-agree : (fields : ℕ → List ℕ) (v n : ℕ) (h : Assignment → ℕ) (f : ℕ → List ℕ) → IsLinked fields v (suc n) h f → IsFree h v → AgreeBelow (2 ^ n) f (upper n f)
free-agree fields v n h f link free m l =
    let r = spelling (suc v) n m l in
    ap f (sym r.1) ∙ link-low fields v n h f link r.0 ∙ ap fields (free r.0) ∙ sym (link-high fields v n h f link r.0) ∙ ap (upper n f) r.1

agree-free : (fields : ℕ → List ℕ) (v n : ℕ) (h : Assignment → ℕ) (f : ℕ → List ℕ) → IsLinked fields v (suc n) h f → AreTold fields h → AgreeBelow (2 ^ n) f (upper n f) → IsFree h v
agree-free fields v n h f link told same a =
    told (put a v false) (put a v true)
    (sym (link-low fields v n h f link a) ∙ same (number_at a (suc v) n) (number-less a (suc v) n) ∙ link-high fields v n h f link a)

link-rest : (fields : ℕ → List ℕ) (v n : ℕ) (h : Assignment → ℕ) (f : ℕ → List ℕ) → IsLinked fields v (suc n) h f → IsFree h v → (a : Assignment) (b : Bool) → a v ≡ b
    → f (number_at a (suc v) n) ≡ fields (h a)
link-rest fields v n h f link free a false e =
    let number : number_at a v (suc n) ≡ number_at a (suc v) n = ap (λ z. (if z then 2 ^ n else 0) + number_at a (suc v) n) e ∙ omega arith in
    ap f (sym number) ∙ link a
link-rest fields v n h f link free a true e =
    let number : number_at a v (suc n) ≡ 2 ^ n + number_at a (suc v) n = ap (λ z. (if z then 2 ^ n else 0) + number_at a (suc v) n) e in
    free-agree fields v n h f link free (number_at a (suc v) n) (number-less a (suc v) n) ∙ ap f (sym number) ∙ link a

-- the cubes of a function, with fields, are the lines of the function on numbers
pub cubes-lines : (fields : ℕ → List ℕ) (n v : ℕ) (h : Assignment → ℕ) (f : ℕ → List ℕ) → IsLinked fields v n h f → AreTold fields h
    → (cubes : List Cube) → AreCubesOf n v h cubes → map (line_for fields) cubes ≡ lines_of n f
unfolding lines_of
cubes-lines fields zero v h f link told cubes are =
    let a : Assignment = λ w. false in
    ap (map (line_for fields)) (are a) ∙ ap (λ z. record { pattern = []; fields = z } ∷ []) (sym (link a))
cubes-lines fields (suc n) v h f link told cubes (inl (free, rest, are, is)) =
    let test : agree (2 ^ n) f (upper n f) ≡ true = true-agree (2 ^ n) f (upper n f) (free-agree fields v n h f link free) in
    ap (map (line_for fields)) is ∙ map-lead fields 45 rest
    ∙ ap (map (lead 45)) (cubes-lines fields n (suc v) h f (λ a. link-rest fields v n h f link free a (a v) refl) told rest are)
    ∙ sym (ap (λ z. if z then map (lead 45) (lines_of n f) else map (lead 48) (lines_of n f) ++ map (lead 49) (lines_of n (upper n f))) test)
cubes-lines fields (suc n) v h f link told cubes (inr (own, lo, hi, low, high, is)) =
    let test : agree (2 ^ n) f (upper n f) ≡ false =
    false_from_ne_true (agree (2 ^ n) f (upper n f)) (λ e. own (agree-free fields v n h f link told (agree-true (2 ^ n) f (upper n f) e))) in
    ap (map (line_for fields)) is ∙ map-append fields (map (lead_cube 48) lo) (map (lead_cube 49) hi)
    ∙ ap (λ z. z ++ map (line_for fields) (map (lead_cube 49) hi)) (map-lead fields 48 lo)
    ∙ ap (λ z. map (lead 48) (map (line_for fields) lo) ++ z) (map-lead fields 49 hi)
    ∙ ap (λ z. map (lead 48) z ++ map (lead 49) (map (line_for fields) hi))
    (cubes-lines fields n (suc v) (λ a. h (put a v false)) f (link-low fields v n h f link) (λ a b. told (put a v false) (put b v false)) lo low)
    ∙ ap (λ z. map (lead 48) (lines_of n f) ++ map (lead 49) z)
    (cubes-lines fields n (suc v) (λ a. h (put a v true)) (upper n f) (link-high fields v n h f link) (λ a b. told (put a v true) (put b v true)) hi high)
    ∙ sym (ap (λ z. if z then map (lead 45) (lines_of n f) else map (lead 48) (lines_of n f) ++ map (lead 49) (lines_of n (upper n f))) test)
