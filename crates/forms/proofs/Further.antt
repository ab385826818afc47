-- Where a path leads, split into the word itself and its shorter ends.
use Rattle.std.proofs.Common.{◌≡◌, ℕ, suc, ◌<◌, ◌≤◌, [], ◌∷◌, length, refl, sym, ◌∙◌, ap, subst, inl, inr, arith, Bool, true, false, ◌⊎◌, nat_lt}
use Rattle.std.specs.Prelude.{◌&&◌, ◌||◌, not}
use Rattle.std.specs.Cmp.{both_ways}
use Rattle.std.proofs.lemmas.Bool.{and_parts, and_from, and_left, and_right, or_cases, or_left, or_right, lt-ltb, le-ltb, false_from_ne_true}
use Rattle.forms.specs.Word.{Word, Claim, IsSuffix, whole, later, same, some_suffix, every_suffix}
use Rattle.forms.specs.Paths.{WordRelation, reaches, reaches_further, one_step, star}
use Rattle.forms.proofs.Suffixes.{same-refl, same-true}
use Rattle.forms.proofs.Duals.{not-or}
use Rattle.forms.proofs.Leads.{IsInward, reaches-find, reaches-from, reaches-step, reaches-test, reaches-choice, reaches-seq, reaches-star, star-unrolled}

-- a suffix is no longer than the word
pub IsSuffix-length : {v w : Word} → IsSuffix v w → length v ≤ length w
IsSuffix-length whole = omega arith
IsSuffix-length (later e) = omega (arith, IsSuffix-length e)

-- an end is the word itself or a shorter one
pub IsSuffix-cases : {v w : Word} → IsSuffix v w → (v ≡ w) ⊎ (length v < length w)
IsSuffix-cases whole = inl refl
IsSuffix-cases (later e) = inr (omega (arith, IsSuffix-length e))

not_shorter : (u : Word) → nat_lt (length u) (length u) ≡ false
not_shorter u = le-ltb (length u) (length u) (omega arith)

-- claims that agree on the ends of the word are reached alike
pub reaches-agree : (q : WordRelation) (f g : Claim) (u : Word) → ((v : Word) → IsSuffix v u → f v ≡ g v) → reaches q f u ≡ reaches q g u
reaches-agree q f g u h = both_ways _ _
    (λ e. let r = reaches-find q f u e in reaches-from q g u r.0 r.1 r.2 (sym (h r.0 r.1) ∙ r.3))
    (λ e. let r = reaches-find q g u e in reaches-from q f u r.0 r.1 r.2 (h r.0 r.1 ∙ r.3))

-- a claim is reached further on, or the relation stays at the word and the claim holds there
pub reaches-split : (q : WordRelation) (k : Claim) (u : Word) → reaches q k u ≡ (reaches_further q k u || q u u && k u)
unfolding reaches_further
reaches-split q k u = both_ways _ _ split join
  where
    split : reaches q k u ≡ true → (reaches q (λ m. nat_lt (length m) (length u) && k m) u || q u u && k u) ≡ true
    split h =
        let r = reaches-find q k u h in
        elim (IsSuffix-cases r.1) [
          | inl e ↦ (let P : Word → Type 0 = λ x. (q u x && k x) ≡ true in or_right (reaches q (λ m. nat_lt (length m) (length u) && k m) u) _ (subst P e (and_from _ _ r.2 r.3)))
          | inr l ↦ or_left _ _ (reaches-from q (λ m. nat_lt (length m) (length u) && k m) u r.0 r.1 r.2 (and_from _ _ (lt-ltb _ _ l) r.3))
        ]

    join : (reaches q (λ m. nat_lt (length m) (length u) && k m) u || q u u && k u) ≡ true → reaches q k u ≡ true
    join h = elim (or_cases _ _ h) [
      | inl e ↦ (let r = reaches-find q (λ m. nat_lt (length m) (length u) && k m) u e in reaches-from q k u r.0 r.1 r.2 (and_parts _ _ r.3).1)
      | inr e ↦ (let p = and_parts _ _ e in reaches-from q k u u whole p.0 p.1)
    ]

-- below the word u, whether an end is shorter than u needs no test
shorter-agree : (q r : WordRelation) (k : Claim) (u : Word)
    → reaches q (λ m. nat_lt (length m) (length u) && reaches r (λ n. nat_lt (length n) (length u) && k n) m) u
    ≡ reaches q (λ m. nat_lt (length m) (length u) && reaches r k m) u
shorter-agree q r k u =
    reaches-agree q (λ m. nat_lt (length m) (length u) && reaches r (λ n. nat_lt (length n) (length u) && k n) m)
    (λ m. nat_lt (length m) (length u) && reaches r k m) u (λ m e. at_end m (IsSuffix-cases e))
  where
    at_end : (m : Word) → (m ≡ u) ⊎ (length m < length u)
        → (nat_lt (length m) (length u) && reaches r (λ n. nat_lt (length n) (length u) && k n) m) ≡ (nat_lt (length m) (length u) && reaches r k m)
    at_end m (inl e) =
        let no : nat_lt (length m) (length u) ≡ false = rw e (not_shorter u) in
        rw no refl
    at_end m (inr l) =
        ap (λ b. nat_lt (length m) (length u) && b)
        (reaches-agree r (λ n. nat_lt (length n) (length u) && k n) k m
        (λ v d. let yes : nat_lt (length v) (length u) ≡ true = lt-ltb _ _ (omega (arith, IsSuffix-length d)) in rw yes refl))

-- a step reaches a claim further on where its own claim holds and the other one holds a letter later
pub reaches_further-step : (f k : Claim) (a : ℕ) (w : Word) → reaches_further (one_step f) k (a ∷ w) ≡ (f (a ∷ w) && k w)
unfolding reaches_further
reaches_further-step f k a w =
    let yes : nat_lt (length w) (length (a ∷ w)) ≡ true = lt-ltb (length w) (suc (length w)) (omega arith) in
    reaches-step f (λ m. nat_lt (length m) (length (a ∷ w)) && k m) a w ∙ ap (λ b. f (a ∷ w) && (b && k w)) yes

-- a test never leads further
pub reaches_further-test : (f k : Claim) (u : Word) → reaches_further (λ u v. same u v && f u) k u ≡ false
unfolding reaches_further
reaches_further-test f k u =
    reaches-test f (λ m. nat_lt (length m) (length u) && k m) u
    ∙ ap (λ b. f u && (b && k u)) (not_shorter u) ∙ and_right (f u) false refl

-- a choice leads further where one of its two relations does
pub reaches_further-choice : (q r : WordRelation) (k : Claim) (u : Word) → reaches_further (λ u v. q u v || r u v) k u ≡ (reaches_further q k u || reaches_further r k u)
unfolding reaches_further
reaches_further-choice q r k u = reaches-choice q r (λ m. nat_lt (length m) (length u) && k m) u

-- a sequence leads further by its first relation, or stays by it and leads further by its second
pub reaches_further-seq : (q r : WordRelation) (k : Claim) → IsInward r → (u : Word)
    → reaches_further (λ u v. reaches q (λ m. r m v) u) k u ≡ (reaches_further q (λ m. reaches r k m) u || q u u && reaches_further r k u)
unfolding reaches_further
reaches_further-seq q r k inward u =
    let below : Claim = λ m. nat_lt (length m) (length u) && k m in
    reaches-seq q r below inward u ∙ reaches-split q (λ m. reaches r below m) u
    ∙ ap (λ b. b || q u u && reaches r below u) (shorter-agree q r k u)

-- a star leads further by its first turn
pub reaches_further-star : (q : WordRelation) (k : Claim) (u : Word) → reaches_further (star q) k u ≡ reaches_further q (λ m. reaches (star q) k m) u
unfolding reaches_further
reaches_further-star q k u =
    reaches-star q (λ m. nat_lt (length m) (length u) && k m) u
    ∙ ap (λ b. (b && k u) || reaches q (λ m. nat_lt (length m) (length u) && reaches (star q) (λ n. nat_lt (length n) (length u) && k n) m) u) (not_shorter u)
    ∙ shorter-agree q (star q) k u

-- a step never stays where it is
pub stays-step : (f : Claim) (u : Word) → one_step f u u ≡ false
stays-step f [] = refl
stays-step f (a ∷ w) = and_left _ _ (false_from_ne_true (same w (a ∷ w)) (λ h. let e : w ≡ a ∷ w = same-true w (a ∷ w) h in omega (arith, ap length e)))

-- a test stays where its claim holds
pub stays-test : (f : Claim) (u : Word) → (same u u && f u) ≡ f u
stays-test f u = rw (same-refl u) refl

-- a sequence stays where both of its relations stay
pub stays-seq : (q r : WordRelation) → IsInward r → (u : Word) → reaches q (λ m. r m u) u ≡ (q u u && r u u)
stays-seq q r inward u = both_ways _ _ split join
  where
    split : reaches q (λ m. r m u) u ≡ true → (q u u && r u u) ≡ true
    split h =
        let t = reaches-find q (λ m. r m u) u h in
        elim (IsSuffix-cases t.1) [
          | inl e ↦ (let P : Word → Type 0 = λ x. (q u x && r x u) ≡ true in subst P e (and_from _ _ t.2 t.3))
          | inr l ↦ absurd (omega (arith, IsSuffix-length (inward t.0 u t.3)))
        ]

    join : (q u u && r u u) ≡ true → reaches q (λ m. r m u) u ≡ true
    join h = let p = and_parts _ _ h in reaches-from q (λ m. r m u) u u whole p.0 p.1

-- nothing leads further from the empty word
pub reaches_further-empty : (q : WordRelation) (k : Claim) → reaches_further q k [] ≡ false
unfolding reaches_further reaches
reaches_further-empty q k = and_right (q [] []) false refl

-- a star stays at every word
pub stays-star : (q : WordRelation) (u : Word) → star q u u ≡ true
stays-star q u = star-unrolled q u u ∙ or_left _ _ (same-refl u)

-- what a star reaches, from where it leads further
pub reaches-star_split : (q : WordRelation) (k : Claim) (u : Word) → reaches (star q) k u ≡ (reaches_further (star q) k u || k u)
reaches-star_split q k u = reaches-split (star q) k u ∙ ap (λ b. reaches_further (star q) k u || b && k u) (stays-star q u)

-- every end that the relation leads to has f, unless it leads to one that lacks f
pub not-reaches : (q : WordRelation) (f : Claim) (u : Word) → not (reaches q (λ v. not (f v)) u) ≡ every_suffix (λ v. not (q u v) || f v) u
unfolding reaches
not-reaches q f u = go (q u) u
  where
    one : (a b : Bool) → not (a && not b) ≡ (not a || b)
    one true true = refl
    one true false = refl
    one false b = refl

    go : (g : Claim) (w : Word) → not (some_suffix (λ v. g v && not (f v)) w) ≡ every_suffix (λ v. not (g v) || f v) w
    go g [] = one (g []) (f [])
    go g (a ∷ w) = sym (not-or (g (a ∷ w) && not (f (a ∷ w))) (some_suffix (λ v. g v && not (f v)) w)) ∙ rw (one (g (a ∷ w)) (f (a ∷ w)), go g w) refl
