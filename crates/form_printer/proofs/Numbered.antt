-- Names stand at their numbers.
use Rattle.std.proofs.Common.{◌≡◌, ℕ, zero, suc, ◌+◌, ◌<◌, List, [], ◌∷◌, refl, sym, ap, ◌∙◌, arith, Bool, true, false, length}
use Rattle.std.proofs.lemmas.Bool.{or_left, or_right}
use Rattle.std.proofs.lemmas.Slice.Eq.{bytes_eq-Decides}
use Rattle.std.proofs.lemmas.List.Elements.{All-get_or}
use Rattle.std.specs.Str.{bytes_eq}
use Rattle.form_tokens.specs.Words.{is_name}
use Rattle.form_tokens.specs.Names.{AreNames, AreDifferent, is_listed, number_of}
use Rattle.form_printer.specs.Printed.{name_of}
use Rattle.form_printer.specs.ReadBack.{AreNumberedIn}

bytes_eq-itself : (w : List ℕ) → bytes_eq w w ≡ true
bytes_eq-itself w = (bytes_eq-Decides w w).1 refl

-- a name that stands in the list is listed
listed-at : (ns : List (List ℕ)) (i : ℕ) → i < length ns → is_listed ns (name_of ns i) ≡ true
listed-at [] i h = absurd (omega arith)
listed-at (n ∷ ns) zero h = or_left _ _ (bytes_eq-itself n)
listed-at (n ∷ ns) (suc i) h = or_right (bytes_eq (name_of ns i) n) _ (listed-at ns i (omega arith))

-- what is not listed differs from each name of the list
other-than : (ns : List (List ℕ)) (n : List ℕ) (i : ℕ) → is_listed ns n ≡ false → i < length ns → bytes_eq (name_of ns i) n ≡ false
other-than ns n i absent h = go (bytes_eq (name_of ns i) n) refl
  where
    go : (b : Bool) → bytes_eq (name_of ns i) n ≡ b → b ≡ false
    go true e =
        let same : name_of ns i ≡ n = (bytes_eq-Decides (name_of ns i) n).0 e in
        let here : is_listed ns n ≡ true = ap (is_listed ns) (sym same) ∙ listed-at ns i h in
        cc
    go false e = refl

number-at : (ns : List (List ℕ)) (i : ℕ) → AreDifferent ns → i < length ns → number_of ns (name_of ns i) ≡ i
number-at [] i d h = absurd (omega arith)
number-at (n ∷ ns) zero d h = rw (bytes_eq-itself n) refl
number-at (n ∷ ns) (suc i) d h =
    let e : 1 + i ≡ suc i = omega arith in
    rw (other-than ns n i d.0 (omega arith)) (ap (λ k. 1 + k) (number-at ns i d.1 (omega arith)) ∙ e)

-- each name has its own number
pub AreNumberedIn-itself : (ns : List (List ℕ)) → AreNames ns → AreNumberedIn ns ns
AreNumberedIn-itself ns h = λ i k. (listed-at ns i k, number-at ns i h.different k)

-- and is a name
pub is_name-at : (ns : List (List ℕ)) (i : ℕ) → AreNames ns → i < length ns → is_name (name_of ns i) ≡ true
is_name-at ns i h k = All-get_or (λ w. is_name w ≡ true) ns i [] k h.valid
