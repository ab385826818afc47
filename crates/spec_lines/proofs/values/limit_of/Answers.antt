-- Why no limit is given, and what one more digit makes of it.
use Rattle.std.proofs.Common.{◌≡◌, ℕ, ◌+◌, ◌-◌, ◌*◌, ◌<◌, ◌≤◌, arith, sym, ◌∙◌, subst, get_or, add-one, ◌⊎◌, ◌≢◌, inl, inr, ap}
use Rattle.std.proofs.lemmas.Bool.{cases_eq}
use Rattle.spec_lines.proofs.LimitLemmas.{limit_of-other, limit_of-zero, limit_of-front, all_ascii_digits-more, digits_value-push, ascii_digit-bounds, digits_value-start}
use Rattle.spec_lines.proofs.values.limit_of.Goals as goal
use Rattle.spec_lines.proofs.values.limit_of.Goals.{then-not-is_ascii_digit-via-then-not-is_ascii_digit, then-not-is_ascii_digit-via-else-not-is_ascii_digit+then-limit-eq0, then-byte-eq48, else-byte-eq48, then-not-is_ascii_digit-via-else-not-is_ascii_digit+else-limit-eq0+then-limit-most}

at_start : {i : ℕ} → ¬ (0 < i) → i ≡ 0
at_start {i} h = omega arith

pub returns-then-not-is_ascii_digit : goal.returns-then-not-is_ascii_digit
returns-then-not-is_ascii_digit c =
    let i = c.loop-byte.byte-index in
    let v = c.args.value.now in
    elim c.then-not-is_ascii_digit.branch [
      | then-not-is_ascii_digit-via-then-not-is_ascii_digit w ↦
          sym (limit_of-other _ v i c.loop-byte-test.true (sym c.is_ascii_digit.ensures.value ∙ w.if-not-is_ascii_digit.true))
      | then-not-is_ascii_digit-via-else-not-is_ascii_digit+then-limit-eq0 w ↦
          let none : i ≡ 0 = at_start (λ h. omega (arith, (c.loop-byte.invariant.first h).0, w.if-limit-eq0.true.1)) in
          sym (limit_of-zero _ v (subst (λ k. get_or v k 0 ≡ 48) none w.if-limit-eq0.true.0))
      | then-not-is_ascii_digit-via-else-not-is_ascii_digit+else-limit-eq0+then-limit-most w ↦
          sym (limit_of-front _ v i (omega (arith, c.loop-byte.invariant.number, c.most_limit-most.ensures)))
    ]

positive : {i : ℕ} → i ≢ 0 → 0 < i
positive {i} h = omega arith

-- a number with one more digit is no 0, where the leading digit is none
grows : (n d i b first : ℕ) → (0 < i → (0 < n) × (first ≡ 48 → ⊥)) → 48 ≤ b → d ≡ b - 48 → (n ≡ 0 → b ≢ 48) → (i ≡ 0 → n ≡ 0) → (i ≡ 0 → first ≡ b) → (n ≡ 0) ⊎ (n ≢ 0) → (0 < 10 * n + d) × (first ≡ 48 → ⊥)
grows n d i b first before low e some start same (inl none) =
    let other : b ≢ 48 = some none in
    let front : i ≡ 0 = at_start (λ h. omega (arith, (before h).0)) in
    (omega arith, λ f. other (sym (same front) ∙ f))
grows n d i b first before low e some start same (inr more) =
    let later = positive (λ none. more (start none)) in
    (omega arith, (before later).1)

pub loop-byte-preserved : goal.loop-byte-preserved
loop-byte-preserved c =
    let i = c.loop-byte.byte-index in
    let v = c.args.value.now in
    let digit = ascii_digit-bounds _ (sym c.is_ascii_digit.ensures.value ∙ c.if-not-is_ascii_digit.false) in
    record {
      digits = rw add-one (all_ascii_digits-more v i c.loop-byte-test.true (sym c.is_ascii_digit.ensures.value ∙ c.if-not-is_ascii_digit.false) c.loop-byte.invariant.digits);
      number = digits_value-push v i c.loop-byte.limit c.from.result c.loop-byte-test.true digit.0 digit.1 c.loop-byte.invariant.number c.from.ensures;
      first = λ _.
          grows c.loop-byte.limit c.from.result i (get_or v i 0) (get_or v 0 0) c.loop-byte.invariant.first digit.0 c.from.ensures
          (λ none zero. elim c.if-limit-eq0.either [ inl left ↦ left.1 none | inr right ↦ right zero ])
          (λ none. c.loop-byte.invariant.number ∙ digits_value-start v i none)
          (λ none. ap (λ k. get_or v k 0) (sym none))
          (cases_eq c.loop-byte.limit 0);
      bound = omega (arith, digit.1);
    }
