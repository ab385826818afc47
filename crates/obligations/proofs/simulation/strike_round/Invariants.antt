use Rattle.std.proofs.Common.{◌≡◌, ◌<◌, ◌≤◌, ℕ, false}
use Rattle.automata.specs.Table.{size_of}
use Rattle.obligations.specs.Related.{related, IsKnown, AreSimulated}
use Rattle.obligations.proofs.simulation.strike_round.Given as goal

abbrev pub invariant-loop-x : goal.invariant-loop-x
invariant-loop-x l = record {
  size : l.relation.size ≡ l.fn.relation.size;
  known : IsKnown l.store (related l.relation) l.known;
  simulated : l.struck ≡ false → (x : ℕ) → l.x ≤ x → x < size_of l.automaton → AreSimulated l.store l.automaton (related l.relation) x (size_of l.automaton);
}
