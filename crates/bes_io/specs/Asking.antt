-- Calls of `take` on a source, one after another.
use Rattle.std.specs.Prelude.{◌≡◌, ℕ, ◌<◌, List, [], take, Result, Ok, Err}

-- the bytes that a call with this result gave
abbrev pub given_bytes : {E : Type 0} → Result ℕ E → List ℕ → List ℕ
given_bytes (Ok n) into = take n into
given_bytes (Err e) into = []

-- one call of `take`, with some room, made this of the source
abbrev pub IsTakenOnce : {A : Type 0} → (A → ℕ → List ℕ → A → Type 0) → A → A → Type 0
IsTakenOnce taken before after = (room : ℕ) × (bytes : List ℕ) × (0 < room) × taken before room bytes after

-- Some calls of `take` made this of the source, and each but the last left the count of faults as it was: a source that
-- failed was not asked again.
pub data IsAsked {A : Type 0} (faults : A → ℕ) (taken : A → ℕ → List ℕ → A → Type 0) (before : A) : A → Type 0 where
  unasked : IsAsked faults taken before before
  asked : {between after : A} → IsAsked faults taken before between → faults between ≡ faults before
      → IsTakenOnce taken between after → IsAsked faults taken before after
