-- Least numbers with a property, where there are any.
use Rattle.std.specs.Prelude.{◌<◌, ℕ, Option, Some, None}

-- n is the least number with P
pub record IsLeastNumber (P : ℕ → Type 0) (n : ℕ) : Type 0 where
  pub holds : P n
  pub least : (k : ℕ) → k < n → ¬ P k

-- the number is the least with P, or there is none, and none has P
abbrev pub IsLeastOrNone : (ℕ → Type 0) → Option ℕ → Type 0
IsLeastOrNone P (Some n) = IsLeastNumber P n
IsLeastOrNone P None = (k : ℕ) → ¬ P k
