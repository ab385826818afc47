-- Laws of certificates.
use Rattle.std.specs.Prelude.{◌≡◌, ℕ}
use Rattle.certificate_rules.specs.Certificate.{Certificate}
use Rattle.certificate_rules.specs.Rules.{Rule, IsValid, IsFirstFailure}
use Rattle.certificate_rules.specs.Right.{IsFitting, IsRight}
use Rattle.certificate_rules.specs.TrueTo.{IsTrueTo}

-- what a valid certificate says is so in its game
abbrev pub ValidIsRight : Type 0
ValidIsRight = (c : Certificate) → IsFitting c → IsValid c → IsRight c

-- a certificate whose marks, moves and answers are those of its game is valid
abbrev pub TrueIsValid : Type 0
TrueIsValid = (c : Certificate) → IsTrueTo c → IsValid c

-- a certificate with a first failure is not valid
abbrev pub FailingIsNotValid : Type 0
FailingIsNotValid = (c : Certificate) (r : Rule) (q : ℕ) → IsFirstFailure c r q → ¬ IsValid c

-- there is one first failure at most
abbrev pub FirstFailureIsOne : Type 0
FirstFailureIsOne = (c : Certificate) (r s : Rule) (q p : ℕ) → IsFirstFailure c r q → IsFirstFailure c s p → (r ≡ s) × (q ≡ p)
