-- Splitting blocks by keys.
use Rattle.std.specs.Prelude.{◌≡◌, ◌<◌, ℕ}
use Rattle.diagrams.specs.declared.top.Id.{Id}

-- the new blocks are one exactly where the old blocks and the keys are
pub record IsSplit (size : ℕ) (old new : ℕ → ℕ) (key : ℕ → Id) : Type 0 where
  pub same : (i j : ℕ) → i < size → j < size → new i ≡ new j → (old i ≡ old j) × (key i ≡ key j)
  pub one : (i j : ℕ) → i < size → j < size → old i ≡ old j → key i ≡ key j → new i ≡ new j
