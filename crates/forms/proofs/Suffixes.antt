-- The suffixes of a word, and tests on them as facts.
use Rattle.std.proofs.Common.{◌≡◌, [], ◌∷◌, refl, inl, inr, true, ◌⊎◌}
use Rattle.std.proofs.lemmas.Bool.{and_parts, and_from, or_cases, or_left, or_right, eqb-true, eq-eqb}
use Rattle.forms.specs.Word.{Word, Claim, IsSuffix, whole, later, same, some_suffix, every_suffix}

-- a suffix of a suffix is a suffix
pub IsSuffix-trans : {u v w : Word} → IsSuffix u v → IsSuffix v w → IsSuffix u w
IsSuffix-trans e whole = e
IsSuffix-trans e (later d) = later (IsSuffix-trans e d)

-- where the test for some suffix holds, there is a suffix that has the claim
pub some_suffix-find : (f : Claim) (u : Word) → some_suffix f u ≡ true → (v : Word) × IsSuffix v u × (f v ≡ true)
some_suffix-find f [] h = ([], whole, h)
some_suffix-find f (a ∷ w) h = go (λ e. some_suffix-find f w e) (or_cases _ _ h)
  where
    go : (some_suffix f w ≡ true → (v : Word) × IsSuffix v w × (f v ≡ true)) → (f (a ∷ w) ≡ true) ⊎ (some_suffix f w ≡ true) → (v : Word) × IsSuffix v (a ∷ w) × (f v ≡ true)
    go further (inl e) = (a ∷ w, whole, e)
    go further (inr e) = let r = further e in (r.0, later r.1, r.2)

-- the test for some suffix holds if the whole word has the claim
pub some_suffix-whole : (f : Claim) (u : Word) → f u ≡ true → some_suffix f u ≡ true
some_suffix-whole f [] e = e
some_suffix-whole f (a ∷ w) e = or_left _ _ e

-- the test for some suffix holds if a suffix has the claim
pub some_suffix-from : (f : Claim) {u v : Word} → IsSuffix v u → f v ≡ true → some_suffix f u ≡ true
some_suffix-from f {u} whole e = some_suffix-whole f u e
some_suffix-from f (later {v} {w} {a} d) e = or_right (f (a ∷ w)) _ (some_suffix-from f d e)

-- each word is found to be the same as itself
pub same-refl : (u : Word) → same u u ≡ true
same-refl [] = refl
same-refl (a ∷ u) = and_from _ _ (eq-eqb a a refl) (same-refl u)

-- words that are found to be the same are equal
pub same-true : (u v : Word) → same u v ≡ true → u ≡ v
same-true [] [] h = refl
same-true [] (b ∷ v) h = cc
same-true (a ∷ u) [] h = cc
same-true (a ∷ u) (b ∷ v) h =
    let p = and_parts _ _ h in
    let e : a ≡ b = eqb-true a b p.0 in
    let d : u ≡ v = same-true u v p.1 in
    cc

every_suffix-whole : (f : Claim) (u : Word) → every_suffix f u ≡ true → f u ≡ true
every_suffix-whole f [] h = h
every_suffix-whole f (a ∷ w) h = (and_parts _ _ h).0

-- where the test for every suffix holds, each suffix has the claim
pub every_suffix-at : (f : Claim) {u v : Word} → IsSuffix v u → every_suffix f u ≡ true → f v ≡ true
every_suffix-at f {u} whole h = every_suffix-whole f u h
every_suffix-at f (later d) h = every_suffix-at f d (and_parts _ _ h).1

-- the test for every suffix holds if each suffix has the claim
pub every_suffix-from : (f : Claim) (u : Word) → ((v : Word) → IsSuffix v u → f v ≡ true) → every_suffix f u ≡ true
every_suffix-from f [] h = h [] whole
every_suffix-from f (a ∷ w) h = and_from _ _ (h (a ∷ w) whole) (every_suffix-from f w (λ v d. h v (later d)))
