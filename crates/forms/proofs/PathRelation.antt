-- The path relation, and what diamonds and boxes say of it, as facts.
use Rattle.std.proofs.Common.{◌≡◌, ℕ, zero, suc, ◌<◌, [], ◌∷◌, length, refl, sym, ◌∙◌, ap, subst, inl, inr, Bool, true, false, ◌⊎◌, nat_lt}
use Rattle.std.specs.Prelude.{◌&&◌, ◌||◌, not}
use Rattle.std.proofs.lemmas.Bool.{and_parts, and_from, or_cases, or_left, or_right, ltb-true, lt-ltb}
use Rattle.forms.specs.Word.{Word, Claim, same, some_suffix}
use Rattle.forms.specs.Paths.{WordRelation, turns, star}
use Rattle.forms.specs.Tree.{Program, Step, Star}
use Rattle.forms.specs.Satisfaction.{sat, goes}
use Rattle.forms.specs.PathLaws.{DiamondHolds, BoxHolds, StepGoes, TestGoes, SeqGoes, StarGoes, GoesToSuffixes, IsReflexive, IsTransitive, IsIncludedIn, StarIsClosure}
use Rattle.forms.proofs.Suffixes.{some_suffix-find, some_suffix-from, every_suffix-at, every_suffix-from, same-refl, same-true}
use Rattle.forms.proofs.Leads.{reaches-find, reaches-from, star-unrolled, IsInward-goes}
use Rattle.forms.proofs.Further.{IsSuffix-cases}

-- a path leads from a word to its suffixes alone
pub goes_to_suffixes : GoesToSuffixes
goes_to_suffixes p r u v h = IsInward-goes p r u v h

-- a diamond holds where its path leads to some suffix on which its formula holds
pub diamond_holds : DiamondHolds
diamond_holds p r f u = (
  λ h. reaches-find (λ m n. goes p r m n) (λ v. sat p f v) u h,
  λ (v, d, e, k). reaches-from (λ m n. goes p r m n) (λ v. sat p f v) u v d e k,
)

implies : (x y : Bool) → (not x || y) ≡ true → x ≡ true → y ≡ true
implies true y h e = h
implies false y h e = cc

implied : (x y : Bool) → (x ≡ true → y ≡ true) → (not x || y) ≡ true
implied true y h = h refl
implied false y h = refl

-- a box holds where its formula holds on every suffix that its path leads to
pub box_holds : BoxHolds
box_holds p r f u = (
  λ h v d e. implies _ _ (every_suffix-at (λ v. not (goes p r u v) || sat p f v) d h) e,
  λ h. every_suffix-from (λ v. not (goes p r u v) || sat p f v) u (λ v d. implied _ _ (h v d)),
)

-- a step reads one letter, where its formula holds before it
pub step_goes : StepGoes
step_goes p g u v = (forth u, back u)
  where
    forth : (u : Word) → goes p (Step g) u v ≡ true → ((a : ℕ) × (u ≡ a ∷ v)) × (sat p g u ≡ true)
    forth [] h = cc
    forth (a ∷ w) h =
        let k = and_parts _ _ h in
        ((a, ap (λ x. a ∷ x) (same-true w v k.0)), k.1)

    back : (u : Word) → ((a : ℕ) × (u ≡ a ∷ v)) × (sat p g u ≡ true) → goes p (Step g) u v ≡ true
    back u ((a, e), h) =
        let P : Word → Type 0 = λ x. goes p (Step g) x v ≡ true in
        subst P (sym e) (and_from _ _ (same-refl v) (let Q : Word → Type 0 = λ x. sat p g x ≡ true in subst Q e h))

-- a test stays where it is, where its formula holds
pub test_goes : TestGoes
test_goes p g u v = (
  λ h. (let k = and_parts _ _ h in (sym (same-true u v k.0), k.1)),
  λ (e, h). and_from _ _ (let P : Word → Type 0 = λ x. same u x ≡ true in subst P (sym e) (same-refl u)) h,
)

-- a sequence goes by some suffix, to which the first path goes and from which the second does
pub seq_goes : SeqGoes
seq_goes p q r u v = (
  λ h. reaches-find (λ m n. goes p q m n) (λ m. goes p r m v) u h,
  λ (m, d, e, k). reaches-from (λ m n. goes p q m n) (λ m. goes p r m v) u m d e k,
)

-- one turn leads to the shorter word m, from which the star goes on
abbrev turn : ℕ → Program → Word → Word → Claim
turn p q u v m = nat_lt (length m) (length u) && (goes p q u m && star (goes p q) m v)

-- a star stays where it is, or one turn leads to a shorter word from which the star goes on
pub star_goes : StarGoes
star_goes p q u v = (forth, back)
  where
    forth : star (goes p q) u v ≡ true → (v ≡ u) ⊎ ((m : Word) × (length m < length u) × (goes p q u m ≡ true) × (star (goes p q) m v ≡ true))
    forth h =
        let e : (same u v || some_suffix (turn p q u v) u) ≡ true = sym (star-unrolled (goes p q) u v) ∙ h in
        elim (or_cases _ _ e) [
          | inl d ↦ inl (sym (same-true u v d))
          | inr d ↦
              let r = some_suffix-find (turn p q u v) u d in
              let p = and_parts _ _ r.2 in
              let s = and_parts _ _ p.1 in
              inr (r.0, ltb-true _ _ p.0, s.0, s.1)
        ]

    back : (v ≡ u) ⊎ ((m : Word) × (length m < length u) × (goes p q u m ≡ true) × (star (goes p q) m v ≡ true)) → star (goes p q) u v ≡ true
    back (inl e) = star-unrolled (goes p q) u v ∙ or_left _ _ (let P : Word → Type 0 = λ x. same u x ≡ true in subst P (sym e) (same-refl u))
    back (inr (m, l, h, k)) =
        star-unrolled (goes p q) u v
        ∙ or_right (same u v) _ (some_suffix-from (turn p q u v) (IsInward-goes p q u m h) (and_from _ _ (lt-ltb _ _ l) (and_from _ _ h k)))

-- what a relation relates in some turns, each reflexive and transitive relation around it does
turns-least : (n : ℕ) (q s : WordRelation) → IsReflexive s → IsTransitive s → IsIncludedIn q s → (u v : Word) → turns n q u v ≡ true → s u v ≡ true
turns-least zero q s r t i u v h = let P : Word → Type 0 = λ x. s u x ≡ true in subst P (same-true u v h) (r u)
turns-least (suc n) q s r t i u v h = go (λ m k. turns-least n q s r t i m v k) (or_cases _ _ h)
  where
    go : ((m : Word) → turns n q m v ≡ true → s m v ≡ true)
        → (same u v ≡ true) ⊎ (some_suffix (λ m. nat_lt (length m) (length u) && (q u m && turns n q m v)) u ≡ true) → s u v ≡ true
    go further (inl e) = let P : Word → Type 0 = λ x. s u x ≡ true in subst P (same-true u v e) (r u)
    go further (inr e) =
        let f = some_suffix-find (λ m. nat_lt (length m) (length u) && (q u m && turns n q m v)) u e in
        let p = and_parts _ _ (and_parts _ _ f.2).1 in
        t u f.0 v (i u f.0 p.0) (further f.0 p.1)

-- some turns and then a star are a star
turns-then_star : (n p : ℕ) (q : Program) (u m v : Word) → turns n (goes p q) u m ≡ true → goes p (Star q) m v ≡ true → goes p (Star q) u v ≡ true
turns-then_star zero p q u m v h k = let P : Word → Type 0 = λ x. goes p (Star q) x v ≡ true in subst P (sym (same-true u m h)) k
turns-then_star (suc n) p q u m v h k = go (λ x l. turns-then_star n p q x m v l k) (or_cases _ _ h)
  where
    go : ((x : Word) → turns n (goes p q) x m ≡ true → goes p (Star q) x v ≡ true)
        → (same u m ≡ true) ⊎ (some_suffix (λ x. nat_lt (length x) (length u) && (goes p q u x && turns n (goes p q) x m)) u ≡ true) → goes p (Star q) u v ≡ true
    go further (inl e) = let P : Word → Type 0 = λ x. goes p (Star q) x v ≡ true in subst P (sym (same-true u m e)) k
    go further (inr e) =
        let f = some_suffix-find (λ x. nat_lt (length x) (length u) && (goes p q u x && turns n (goes p q) x m)) u e in
        let a = and_parts _ _ f.2 in
        let b = and_parts _ _ a.1 in
        (star_goes p q u v).1 (inr (f.0, ltb-true _ _ a.0, b.0, further f.0 b.1))

-- a star is the reflexive and transitive closure of its path
pub star_is_closure : StarIsClosure
star_is_closure p q = record {
  reflexive = λ u. (star_goes p q u u).1 (inl refl);
  transitive = λ u m v h k. turns-then_star (length u) p q u m v h k;
  within = λ u v h. elim (IsSuffix-cases (IsInward-goes p q u v h)) [
    | inl e ↦ (star_goes p q u v).1 (inl e)
    | inr l ↦ (star_goes p q u v).1 (inr (v, l, h, (star_goes p q v v).1 (inl refl)))
  ];
  least = λ s r t i u v h. turns-least (length u) (goes p q) s r t i u v h;
}
