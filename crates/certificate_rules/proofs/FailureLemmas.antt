-- The first failure of a certificate is one.
use Rattle.std.proofs.Common.{◌≡◌, ◌<◌, inl, inr, ℕ, refl, sym, ap, subst, ◌∙◌, arith, Option, Some, [], ◌∷◌}
use Rattle.std.specs.Prelude.{slice_get}
use Rattle.std.proofs.lemmas.Bool.{cases_lt}
use Rattle.certificate_rules.specs.Certificate.{Certificate}
use Rattle.certificate_rules.specs.Rules as rules
use Rattle.certificate_rules.specs.Rules.{Rule, IsValid, IsFirstFailure, Says, number_of}

-- the rule with a number, the numbers beginning at 1
abbrev rule_of : ℕ → Option Rule
rule_of n = slice_get (rules.Rounds ∷ rules.Rounds ∷ rules.WinningMoves ∷ rules.Sooner ∷ rules.Ranks ∷ rules.Answers ∷ rules.HopefulMoves
    ∷ rules.Nearer ∷ rules.Values ∷ rules.Verdict ∷ rules.Duties ∷ rules.Losses ∷ rules.LossNumbers ∷ []) n

rule_back : (r : Rule) → rule_of (number_of r) ≡ Some r
rule_back rules.Rounds = refl
rule_back rules.WinningMoves = refl
rule_back rules.Sooner = refl
rule_back rules.Ranks = refl
rule_back rules.Answers = refl
rule_back rules.HopefulMoves = refl
rule_back rules.Nearer = refl
rule_back rules.Values = refl
rule_back rules.Verdict = refl
rule_back rules.Duties = refl
rule_back rules.Losses = refl
rule_back rules.LossNumbers = refl

-- rules have different numbers
pub one_rule : (r s : Rule) → number_of r ≡ number_of s → r ≡ s
one_rule r s e = let f : Some r ≡ Some s = sym (rule_back r) ∙ (ap rule_of e ∙ rule_back s) in cc

-- of two numbers that are each not below the other
same : (m n : ℕ) → ¬ (m < n) → ¬ (n < m) → m ≡ n
same m n a b = elim (cases_lt m n) [
  | inl l ↦ absurd (a l)
  | inr g ↦ elim (cases_lt n m) [ inl l ↦ absurd (b l) | inr h ↦ omega arith ]
]

pub failing : (c : Certificate) (r : Rule) (q : ℕ) → IsFirstFailure c r q → ¬ IsValid c
failing c r q h v = h.fails (v r q h.within)

pub first_is_one : (c : Certificate) (r s : Rule) (q p : ℕ) → IsFirstFailure c r q → IsFirstFailure c s p → (r ≡ s) × (q ≡ p)
first_is_one c r s q p h k =
    let e = one_rule r s (same (number_of r) (number_of s) (λ l. h.fails (k.rules r q l h.within)) (λ l. k.fails (h.rules s p l k.within))) in
    let P : Rule → Type 0 = λ z. IsFirstFailure c z p in
    let j : IsFirstFailure c r p = subst P (sym e) k in
    (e, same q p (λ l. h.fails (j.locations q l)) (λ l. j.fails (h.locations p l)))
