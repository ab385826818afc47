-- Claims that stand for where a relation leads further, and relations that are the same.
use Rattle.std.proofs.Common.{◌≡◌, ℕ, zero, suc, ◌<◌, ◌≤◌, [], ◌∷◌, length, refl, sym, ◌∙◌, ap, inl, inr, arith, false, ◌⊎◌, nat_lt}
use Rattle.std.specs.Prelude.{◌&&◌, ◌||◌}
use Rattle.std.proofs.lemmas.Bool.{le-ltb}
use Rattle.forms.specs.Word.{Word, Claim}
use Rattle.forms.specs.Paths.{WordRelation, reaches, reaches_further, star}
use Rattle.forms.proofs.Further.{IsSuffix-cases, reaches_further-empty, reaches-agree, reaches_further-star, reaches-star_split}

-- what is further depends on the claim at shorter suffixes alone
pub reaches_further-agree : (q : WordRelation) (f g : Claim) (u : Word) → ((v : Word) → length v < length u → f v ≡ g v) → reaches_further q f u ≡ reaches_further q g u
unfolding reaches_further
reaches_further-agree q f g u same =
    reaches-agree q (λ m. nat_lt (length m) (length u) && f m) (λ m. nat_lt (length m) (length u) && g m) u (λ m e. one m (IsSuffix-cases e))
  where
    one : (m : Word) → (m ≡ u) ⊎ (length m < length u) → (nat_lt (length m) (length u) && f m) ≡ (nat_lt (length m) (length u) && g m)
    one m (inl e) =
        let no : nat_lt (length m) (length u) ≡ false = rw e (le-ltb (length u) (length u) (omega arith)) in
        rw no refl
    one m (inr l) = ap (λ b. nat_lt (length m) (length u) && b) (same m l)

-- a claim that asks for a turn, and then for itself or k, is where the star leads further
pub star-reaches_further : (q : WordRelation) (k c : Claim) → c [] ≡ false → ((a : ℕ) (w : Word) → c (a ∷ w) ≡ reaches_further q (λ v. c v || k v) (a ∷ w)) → (u : Word) → c u ≡ reaches_further (star q) k u
star-reaches_further q k c e step u = go (length u) u (omega arith)
  where
    go : (n : ℕ) (u : Word) → length u ≤ n → c u ≡ reaches_further (star q) k u
    go n [] l = e ∙ sym (reaches_further-empty (star q) k)
    go zero (a ∷ w) l = absurd (omega arith)
    go (suc n) (a ∷ w) l =
        step a w
        ∙ reaches_further-agree q (λ v. c v || k v) (λ v. reaches (star q) k v) (a ∷ w)
        (λ v s. ap (λ b. b || k v) (go n v (omega arith)) ∙ sym (reaches-star_split q k v))
        ∙ sym (reaches_further-star q k (a ∷ w))
