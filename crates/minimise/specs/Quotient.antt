-- Automata whose locations are blocks of another's.
use Rattle.std.specs.Prelude.{◌≡◌, ◌<◌, ◌^◌, ℕ}
use Rattle.automata.specs.Moves.{Moves}

-- each location of q is a block of m, with the mark and the targets of its locations
pub record IsQuotient (p : ℕ) (m q : Moves) (block : ℕ → ℕ) : Type 0 where
  pub first : q.first ≡ block m.first
  pub mark : (i : ℕ) → i < m.size → q.mark (block i) ≡ m.mark i
  pub next : (i a : ℕ) → i < m.size → a < 2 ^ p → q.next (block i) a ≡ block (m.next i a)
  pub member : (b : ℕ) → b < q.size → (i : ℕ) × (i < m.size) × (block i ≡ b)
