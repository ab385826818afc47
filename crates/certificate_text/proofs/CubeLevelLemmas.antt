-- What a question at each assignment of a cube means, and a question that is turned round.
use Rattle.std.proofs.Common.{◌≡◌, ◌<◌, ◌≤◌, ◌^◌, ◌+◌, ◌-◌, ◌*◌, ◌&&◌, ◌||◌, ◌↔◌, ◌⊎◌, inl, inr, ℕ, zero, suc, List, [], ◌∷◌, ◌++◌, length, Bool, true, false, refl, sym, ap, subst, ◌∙◌, arith}
use Rattle.std.specs.Prelude.{not}
use Rattle.std.proofs.lemmas.Bool.{cases_lt, and_parts, and_from}
use Rattle.certificate_rules.specs.Cubes.{agrees}
use Rattle.certificate_text.specs.Asked.{Level, Each, Any, asked, levels, cube_levels}
use Rattle.certificate_text.specs.Exact.{AreCharacters}
use Rattle.certificate_text.proofs.AskedLemmas.{double, asked-append, asked_each, asked_any, length-levels}
use Rattle.certificate_text.proofs.CubeLemmas.{agrees-high}
use Rattle.certificate_text.proofs.LevelLemmas.{length-cube_levels}
use Rattle.certificate_text.proofs.ExactLemmas.{zero_low, zero_high, one_low, one_high}

-- a question at each assignment of a cube
abbrev AsksEach : List ℕ → Type 0
AsksEach cube = (f : ℕ → Bool) → (asked (cube_levels cube) f ≡ true) ↔ ((x : ℕ) → x < 2 ^ length cube → agrees cube x ≡ true → f x ≡ true)

dash : (cs : List ℕ) → AsksEach cs → AsksEach (45 ∷ cs)
dash cs ih f =
    let n = length cs in
    let e = double n in
    let s = length-cube_levels cs in
    let lo = asked (cube_levels cs) f in
    let hi = asked (cube_levels cs) (λ a. f (2 ^ length (cube_levels cs) + a)) in
    let high : asked (cube_levels cs) (λ a. f (2 ^ length (cube_levels cs) + a)) ≡ asked (cube_levels cs) (λ a. f (2 ^ n + a)) = ap (λ (z : ℕ). asked (cube_levels cs) (λ a. f (2 ^ z + a))) s in (
      λ h x l g.
          let parts = and_parts (asked (cube_levels cs) f) (asked (cube_levels cs) (λ a. f (2 ^ length (cube_levels cs) + a))) h in
          elim (cases_lt x (2 ^ n)) [
            | inl low ↦ (ih f).0 parts.0 x low g
            | inr up ↦
                let b = x - 2 ^ n in
                let q : 2 ^ n + b ≡ x = omega arith in
                let lt : b < 2 ^ n = omega (arith, e) in
                let t : agrees cs b ≡ true = sym (agrees-high cs n b (omega arith)) ∙ ap (λ (z : ℕ). agrees cs z) q ∙ g in
                ap f (sym q) ∙ (ih (λ b. f (2 ^ n + b))).0 (sym high ∙ parts.1) b lt t
          ],
      λ h. and_from (asked (cube_levels cs) f) (asked (cube_levels cs) (λ a. f (2 ^ length (cube_levels cs) + a)))
          ((ih f).1 (λ x l g. h x (omega (arith, e)) g))
          (high ∙ (ih (λ b. f (2 ^ n + b))).1 (λ x l g. h (2 ^ n + x) (omega (arith, e)) (agrees-high cs n x (omega arith) ∙ g))),
    )

nought : (cs : List ℕ) → AsksEach cs → AsksEach (48 ∷ cs)
nought cs ih f =
    let n = length cs in
    let e = double n in (
      λ h x l g. elim (cases_lt x (2 ^ n)) [
        | inl low ↦ (ih f).0 h x low (sym (zero_low n x cs refl low) ∙ g)
        | inr up ↦
            let b = x - 2 ^ n in
            let q : 2 ^ n + b ≡ x = omega arith in
            let lt : b < 2 ^ n = omega (arith, e) in
            let none : false ≡ true = sym (zero_high n b cs refl lt) ∙ ap (λ (z : ℕ). agrees (48 ∷ cs) z) q ∙ g in
            cc
      ],
      λ h. (ih f).1 (λ x l g. h x (omega (arith, e)) (zero_low n x cs refl l ∙ g)),
    )

one : (cs : List ℕ) → AsksEach cs → AsksEach (49 ∷ cs)
one cs ih f =
    let n = length cs in
    let e = double n in
    let s = length-cube_levels cs in
    let high : asked (cube_levels cs) (λ a. f (2 ^ length (cube_levels cs) + a)) ≡ asked (cube_levels cs) (λ a. f (2 ^ n + a)) = ap (λ (z : ℕ). asked (cube_levels cs) (λ a. f (2 ^ z + a))) s in (
      λ h x l g. elim (cases_lt x (2 ^ n)) [
        | inl low ↦ let none : false ≡ true = sym (one_low n x cs refl low) ∙ g in cc
        | inr up ↦
            let b = x - 2 ^ n in
            let q : 2 ^ n + b ≡ x = omega arith in
            let lt : b < 2 ^ n = omega (arith, e) in
            let t : agrees cs b ≡ true = sym (one_high n b cs refl lt) ∙ ap (λ (z : ℕ). agrees (49 ∷ cs) z) q ∙ g in
            ap f (sym q) ∙ (ih (λ b. f (2 ^ n + b))).0 (sym high ∙ h) b lt t
      ],
      λ h. high ∙ (ih (λ b. f (2 ^ n + b))).1 (λ x l g. h (2 ^ n + x) (omega (arith, e)) (one_high n x cs refl l ∙ g)),
    )

character_case : (c : ℕ) (cs : List ℕ) → (c ≡ 45) ⊎ ((c ≡ 48) ⊎ (c ≡ 49)) → AsksEach cs → AsksEach (c ∷ cs)
character_case c cs (inl e) ih = let P : ℕ → Type 0 = λ z. AsksEach (z ∷ cs) in subst P (sym e) (dash cs ih)
character_case c cs (inr (inl e)) ih = let P : ℕ → Type 0 = λ z. AsksEach (z ∷ cs) in subst P (sym e) (nought cs ih)
character_case c cs (inr (inr e)) ih = let P : ℕ → Type 0 = λ z. AsksEach (z ∷ cs) in subst P (sym e) (one cs ih)

asked_cube : (cube : List ℕ) → AreCharacters cube → AsksEach cube
asked_cube [] t f = (λ h x l g. let e : 0 ≡ x = omega arith in ap f (sym e) ∙ h, λ h. h 0 (omega arith) refl)
asked_cube (c ∷ cs) t f = character_case c cs t.0 (asked_cube cs t.1) f

-- at each assignment of a cube, a question about the rest
pub asked_cube_then : (cube : List ℕ) (ls : List Level) (p : ℕ → Bool) → AreCharacters cube
    → (asked (cube_levels cube ++ ls) p ≡ true) ↔ ((x : ℕ) → x < 2 ^ length cube → agrees cube x ≡ true → asked ls (λ b. p (x * 2 ^ length ls + b)) ≡ true)
asked_cube_then cube ls p t =
    let e = asked-append (cube_levels cube) ls p in
    let c = asked_cube cube t (λ x. asked ls (λ b. p (x * 2 ^ length ls + b))) in
    (λ h. c.0 (sym e ∙ h), λ h. e ∙ c.1 h)

not-and : (x y : Bool) → (not x || not y) ≡ not (x && y)
not-and true y = refl
not-and false y = refl

-- some assignment fails p exactly where not each has it
asked_dual : (n : ℕ) (p : ℕ → Bool) → asked (levels Any n) (λ a. not (p a)) ≡ not (asked (levels Each n) p)
asked_dual zero p = refl
asked_dual (suc n) p =
    let s = length-levels Any n in
    let t = length-levels Each n in
    let low = asked_dual n p in
    let high : asked (levels Any n) (λ a. not (p (2 ^ length (levels Any n) + a))) ≡ not (asked (levels Each n) (λ a. p (2 ^ length (levels Each n) + a))) =
    ap (λ (z : ℕ). asked (levels Any n) (λ a. not (p (2 ^ z + a)))) s
    ∙ asked_dual n (λ a. p (2 ^ n + a))
    ∙ sym (ap (λ (z : ℕ). not (asked (levels Each n) (λ a. p (2 ^ z + a)))) t) in
    ap (λ (z : Bool). z || asked (levels Any n) (λ a. not (p (2 ^ length (levels Any n) + a)))) low
    ∙ ap (λ (z : Bool). not (asked (levels Each n) p) || z) high
    ∙ not-and (asked (levels Each n) p) (asked (levels Each n) (λ a. p (2 ^ length (levels Each n) + a)))

not_by : (b : Bool) → (not b ≡ true) ↔ (b ≡ true → ⊥)
not_by true = (λ h. cc, λ h. absurd (h refl))
not_by false = (λ h g. cc, λ h. refl)

pub some_fails : (n : ℕ) (p : ℕ → Bool) → ((a : ℕ) × (a < 2 ^ n) × (not (p a) ≡ true)) ↔ (¬ ((a : ℕ) → a < 2 ^ n → p a ≡ true))
some_fails n p =
    let d = asked_dual n p in
    let some = asked_any n (λ a. not (p a)) in
    let each = asked_each n p in
    let no = not_by (asked (levels Each n) p) in (
      λ h g. no.0 (sym d ∙ some.1 h) (each.1 g),
      λ h. some.0 (d ∙ no.1 (λ e. h (each.0 e))),
    )
