-- An automaton made of some of another's locations.
use Rattle.std.specs.Prelude.{◌≡◌, ◌<◌, ◌^◌, ℕ}
use Rattle.automata.specs.Moves.{Moves, IsClosed}

-- each location of n is one of m, no two are the same one, and each has the mark of its own there and leads to the same locations
pub record IsSubautomaton (p : ℕ) (m n : Moves) : Type 0 where
  pub of : ℕ → ℕ
  pub closed : IsClosed p n
  pub within : (k : ℕ) → k < n.size → of k < m.size
  pub once : (i j : ℕ) → i < n.size → j < n.size → of i ≡ of j → i ≡ j
  pub first : of n.first ≡ m.first
  pub mark : (k : ℕ) → k < n.size → n.mark k ≡ m.mark (of k)
  pub next : (k a : ℕ) → k < n.size → a < 2 ^ p → of (n.next k a) ≡ m.next (of k) a
