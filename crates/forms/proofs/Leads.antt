-- Where a path leads, law by law.
use Rattle.std.proofs.Common.{◌≡◌, ℕ, zero, suc, ◌<◌, ◌≤◌, [], ◌∷◌, length, sym, ◌∙◌, subst, inl, inr, arith, true, ◌⊎◌, nat_lt}
use Rattle.std.specs.Prelude.{◌&&◌, ◌||◌}
use Rattle.std.specs.Cmp.{both_ways}
use Rattle.std.proofs.lemmas.Bool.{and_parts, and_from, or_cases, or_left, or_right, ltb-true}
use Rattle.forms.specs.Word.{Word, Claim, IsSuffix, whole, later, same, some_suffix}
use Rattle.forms.specs.Paths.{WordRelation, reaches, one_step, turns, star}
use Rattle.forms.specs.Tree.{Program, Step, Test, Choice, Seq, Star}
use Rattle.forms.specs.Satisfaction.{goes}
use Rattle.forms.proofs.Suffixes.{IsSuffix-trans, some_suffix-find, some_suffix-from, same-refl, same-true}

-- a relation that leads to ends alone
abbrev pub IsInward : WordRelation → Type 0
IsInward q = (u v : Word) → q u v ≡ true → IsSuffix v u

-- where a claim is reached, there is a suffix that the relation leads to and that has the claim
pub reaches-find : (q : WordRelation) (k : Claim) (u : Word) → reaches q k u ≡ true → (v : Word) × IsSuffix v u × (q u v ≡ true) × (k v ≡ true)
unfolding reaches
reaches-find q k u h =
    let r = some_suffix-find (λ v. q u v && k v) u h in
    let p = and_parts _ _ r.2 in
    (r.0, r.1, p.0, p.1)

-- a claim is reached if the relation leads to some suffix that has it
pub reaches-from : (q : WordRelation) (k : Claim) (u v : Word) → IsSuffix v u → q u v ≡ true → k v ≡ true → reaches q k u ≡ true
unfolding reaches
reaches-from q k u v d e f = some_suffix-from (λ v. q u v && k v) d (and_from _ _ e f)

-- a step reaches a claim where its own claim holds and the other one holds a letter later
pub reaches-step : (f k : Claim) (a : ℕ) (w : Word) → reaches (one_step f) k (a ∷ w) ≡ (f (a ∷ w) && k w)
reaches-step f k a w = both_ways _ _
    (λ h. let r = reaches-find (one_step f) k (a ∷ w) h in
    let p = and_parts _ _ r.2 in
    let e : w ≡ r.0 = same-true w r.0 p.0 in
    let P : Word → Type 0 = λ v. k v ≡ true in
    and_from _ _ p.1 (subst P (sym e) r.3))
    (λ h. let p = and_parts _ _ h in
    reaches-from (one_step f) k (a ∷ w) w (later whole) (and_from _ _ (same-refl w) p.0) p.1)

-- a test reaches a claim where its own claim and the other one both hold
pub reaches-test : (f k : Claim) (u : Word) → reaches (λ u v. same u v && f u) k u ≡ (f u && k u)
reaches-test f k u = both_ways _ _
    (λ h. let r = reaches-find (λ u v. same u v && f u) k u h in
    let p = and_parts _ _ r.2 in
    let e : u ≡ r.0 = same-true u r.0 p.0 in
    let P : Word → Type 0 = λ v. k v ≡ true in
    and_from _ _ p.1 (subst P (sym e) r.3))
    (λ h. let p = and_parts _ _ h in
    reaches-from (λ u v. same u v && f u) k u u whole (and_from _ _ (same-refl u) p.0) p.1)

-- a choice reaches a claim where one of its two relations does
pub reaches-choice : (q r : WordRelation) (k : Claim) (u : Word) → reaches (λ u v. q u v || r u v) k u ≡ (reaches q k u || reaches r k u)
reaches-choice q r k u = both_ways _ _ split join
  where
    split : reaches (λ u v. q u v || r u v) k u ≡ true → (reaches q k u || reaches r k u) ≡ true
    split h =
        let t = reaches-find (λ u v. q u v || r u v) k u h in
        elim (or_cases _ _ t.2) [
          | inl e ↦ or_left _ _ (reaches-from q k u t.0 t.1 e t.3)
          | inr e ↦ or_right (reaches q k u) _ (reaches-from r k u t.0 t.1 e t.3)
        ]

    join : (reaches q k u || reaches r k u) ≡ true → reaches (λ u v. q u v || r u v) k u ≡ true
    join h = elim (or_cases _ _ h) [
      | inl e ↦ (let t = reaches-find q k u e in reaches-from (λ u v. q u v || r u v) k u t.0 t.1 (or_left _ _ t.2) t.3)
      | inr e ↦ (let t = reaches-find r k u e in reaches-from (λ u v. q u v || r u v) k u t.0 t.1 (or_right (q u t.0) _ t.2) t.3)
    ]

-- a sequence reaches a claim where its first relation leads to a word from which its second reaches it
pub reaches-seq : (q r : WordRelation) (k : Claim) → IsInward r → (u : Word) → reaches (λ u v. reaches q (λ m. r m v) u) k u ≡ reaches q (λ m. reaches r k m) u
reaches-seq q r k inward u = both_ways _ _
    (λ h. let s = reaches-find (λ u v. reaches q (λ m. r m v) u) k u h in
    let t = reaches-find q (λ m. r m s.0) u s.2 in
    reaches-from q (λ m. reaches r k m) u t.0 t.1 t.2 (reaches-from r k t.0 s.0 (inward t.0 s.0 t.3) t.3 s.3))
    (λ h. let s = reaches-find q (λ m. reaches r k m) u h in
    let t = reaches-find r k s.0 s.3 in
    reaches-from (λ u v. reaches q (λ m. r m v) u) k u t.0 (IsSuffix-trans t.1 s.1)
    (reaches-from q (λ m. r m t.0) u s.0 s.1 s.2 t.2) t.3)

-- turns of a relation lead to suffixes alone
pub IsInward-turns : (n : ℕ) (q : WordRelation) → IsInward (turns n q)
IsInward-turns zero q u v h = let P : Word → Type 0 = λ x. IsSuffix x u in subst P (same-true u v h) whole
IsInward-turns (suc n) q u v h = go (IsInward-turns n q) (or_cases _ _ h)
  where
    go : IsInward (turns n q) → (same u v ≡ true) ⊎ (some_suffix (λ m. nat_lt (length m) (length u) && (q u m && turns n q m v)) u ≡ true) → IsSuffix v u
    go further (inl e) = let P : Word → Type 0 = λ x. IsSuffix x u in subst P (same-true u v e) whole
    go further (inr e) =
        let r = some_suffix-find (λ m. nat_lt (length m) (length u) && (q u m && turns n q m v)) u e in
        let p = and_parts _ _ r.2 in
        let s = and_parts _ _ p.1 in
        IsSuffix-trans (further r.0 v s.1) r.1

-- as many turns as the word has letters are enough
pub turns-enough : (n m : ℕ) (q : WordRelation) (u v : Word) → length u ≤ m → turns n q u v ≡ true → turns m q u v ≡ true
turns-enough zero zero q u v b h = h
turns-enough zero (suc m) q u v b h = or_left _ _ h
turns-enough (suc n) m q u v b h = go m b (λ k w c. turns-enough n k q w v c) (or_cases _ _ h)
  where
    go : (m : ℕ) → length u ≤ m → ((k : ℕ) (w : Word) → length w ≤ k → turns n q w v ≡ true → turns k q w v ≡ true)
        → (same u v ≡ true) ⊎ (some_suffix (λ x. nat_lt (length x) (length u) && (q u x && turns n q x v)) u ≡ true) → turns m q u v ≡ true
    go zero b further (inl e) = e
    go (suc m) b further (inl e) = or_left _ _ e
    go zero b further (inr e) =
        let r = some_suffix-find (λ x. nat_lt (length x) (length u) && (q u x && turns n q x v)) u e in
        let p : (nat_lt (length r.0) (length u) ≡ true) × ((q u r.0 && turns n q r.0 v) ≡ true) = and_parts _ _ r.2 in
        let below : length r.0 < length u = ltb-true _ _ p.0 in
        absurd (omega arith)
    go (suc m) b further (inr e) =
        let r = some_suffix-find (λ x. nat_lt (length x) (length u) && (q u x && turns n q x v)) u e in
        let p : (nat_lt (length r.0) (length u) ≡ true) × ((q u r.0 && turns n q r.0 v) ≡ true) = and_parts _ _ r.2 in
        let s : (q u r.0 ≡ true) × (turns n q r.0 v ≡ true) = and_parts _ _ p.1 in
        let below : length r.0 < length u = ltb-true _ _ p.0 in
        let fits : length r.0 ≤ m = omega arith in
        or_right (same u v) _ (some_suffix-from (λ x. nat_lt (length x) (length u) && (q u x && turns m q x v)) r.1
        (and_from _ _ p.0 (and_from _ _ s.0 (further m r.0 fits s.1))))

-- a star leads to suffixes alone
pub IsInward-star : (q : WordRelation) → IsInward (star q)
IsInward-star q u v h = IsInward-turns (length u) q u v h

-- v is u, or a turn that takes a letter leads to where v is reached
pub star-unrolled : (q : WordRelation) (u v : Word) → star q u v ≡ (same u v || some_suffix (λ m. nat_lt (length m) (length u) && (q u m && star q m v)) u)
star-unrolled q u v = both_ways _ _
    (λ h. elim (or_cases _ _ (turns-enough (length u) (suc (length u)) q u v (omega arith) h)) [
      | inl e ↦ or_left _ _ e
      | inr e ↦ (let r = some_suffix-find (λ m. nat_lt (length m) (length u) && (q u m && turns (length u) q m v)) u e in
          let p = and_parts _ _ r.2 in
          let s = and_parts _ _ p.1 in
          or_right (same u v) _ (some_suffix-from (λ m. nat_lt (length m) (length u) && (q u m && star q m v)) r.1
          (and_from _ _ p.0 (and_from _ _ s.0 (turns-enough (length u) (length r.0) q r.0 v (omega arith) s.1)))))
    ])
    (λ h. turns-enough (suc (length u)) (length u) q u v (omega arith) (elim (or_cases _ _ h) [
      | inl e ↦ or_left _ _ e
      | inr e ↦ (let r = some_suffix-find (λ m. nat_lt (length m) (length u) && (q u m && star q m v)) u e in
          let p = and_parts _ _ r.2 in
          let s = and_parts _ _ p.1 in
          let below : length r.0 < length u = ltb-true _ _ p.0 in
          or_right (same u v) _ (some_suffix-from (λ m. nat_lt (length m) (length u) && (q u m && turns (length u) q m v)) r.1
          (and_from _ _ p.0 (and_from _ _ s.0 (turns-enough (length r.0) (length u) q r.0 v (omega arith) s.1)))))
    ]))

-- the claim at the word itself, or beyond one turn that takes a letter
pub reaches-star : (q : WordRelation) (k : Claim) (u : Word) → reaches (star q) k u ≡ (k u || reaches q (λ m. nat_lt (length m) (length u) && reaches (star q) k m) u)
reaches-star q k u = both_ways _ _ split join
  where
    split : reaches (star q) k u ≡ true → (k u || reaches q (λ m. nat_lt (length m) (length u) && reaches (star q) k m) u) ≡ true
    split h =
        let r = reaches-find (star q) k u h in
        let e : (same u r.0 || some_suffix (λ m. nat_lt (length m) (length u) && (q u m && star q m r.0)) u) ≡ true = sym (star-unrolled q u r.0) ∙ r.2 in
        elim (or_cases _ _ e) [
          | inl d ↦ (let P : Word → Type 0 = λ x. k x ≡ true in or_left _ _ (subst P (sym (same-true u r.0 d)) r.3))
          | inr d ↦ (let t = some_suffix-find (λ m. nat_lt (length m) (length u) && (q u m && star q m r.0)) u d in
              let p = and_parts _ _ t.2 in
              let s = and_parts _ _ p.1 in
              or_right (k u) _ (reaches-from q (λ m. nat_lt (length m) (length u) && reaches (star q) k m) u t.0 t.1 s.0
              (and_from _ _ p.0 (reaches-from (star q) k t.0 r.0 (IsInward-star q t.0 r.0 s.1) s.1 r.3))))
        ]

    join : (k u || reaches q (λ m. nat_lt (length m) (length u) && reaches (star q) k m) u) ≡ true → reaches (star q) k u ≡ true
    join h = elim (or_cases _ _ h) [
      | inl d ↦ reaches-from (star q) k u u whole (star-unrolled q u u ∙ or_left _ _ (same-refl u)) d
      | inr d ↦ (let t = reaches-find q (λ m. nat_lt (length m) (length u) && reaches (star q) k m) u d in
          let p = and_parts _ _ t.3 in
          let r = reaches-find (star q) k t.0 p.1 in
          reaches-from (star q) k u r.0 (IsSuffix-trans r.1 t.1)
          (star-unrolled q u r.0 ∙ or_right (same u r.0) _ (some_suffix-from (λ m. nat_lt (length m) (length u) && (q u m && star q m r.0)) t.1
          (and_from _ _ p.0 (and_from _ _ t.2 r.2)))) r.3)
    ]

-- a path leads to ends of the word alone
pub IsInward-goes : (p : ℕ) (r : Program) → IsInward (goes p r)
IsInward-goes p (Step f) [] v h = cc
IsInward-goes p (Step f) (a ∷ w) v h = let P : Word → Type 0 = λ x. IsSuffix x (a ∷ w) in subst P (same-true w v (and_parts _ _ h).0) (later whole)
IsInward-goes p (Test f) u v h = let P : Word → Type 0 = λ x. IsSuffix x u in subst P (same-true u v (and_parts _ _ h).0) whole
IsInward-goes p (Choice q r) u v h = elim (or_cases _ _ h) [ inl e ↦ IsInward-goes p q u v e | inr e ↦ IsInward-goes p r u v e ]
IsInward-goes p (Seq q r) u v h =
    let t = reaches-find (goes p q) (λ m. goes p r m v) u h in
    IsSuffix-trans (IsInward-goes p r t.0 v t.3) t.1
IsInward-goes p (Star q) u v h = IsInward-star (λ m n. goes p q m n) u v h
