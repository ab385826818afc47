-- What a source over memory gives and keeps.
use Rattle.std.proofs.Common.{◌≡◌, ℕ, ◌+◌, ◌≤◌, List, ◌++◌, length, take, drop, arith}
use Rattle.std.proofs.lemmas.List.{take-append-drop}
use Rattle.std.proofs.lemmas.Grind.{common_steps}

-- the bytes copied out and those that are left make what was left
pub copied : (bytes into piece : List ℕ) (at n : ℕ) → piece ≡ take n (drop at bytes) → n ≤ length (drop at bytes) → drop at bytes ≡ take n (piece ++ drop n into) ++ drop (at + n) bytes
copied bytes into piece at n e le = grind (arith, common_steps, take-append-drop n (drop at bytes))
