use Rattle.std.proofs.Common.{◌≡◌, false}
use Rattle.obligations.specs.Related.{related, IsKnown, AreSimulated}
use Rattle.obligations.proofs.simulation.strike_pairs.Given as goal

abbrev pub invariant-loop-y : goal.invariant-loop-y
invariant-loop-y l = record {
  size : l.relation.size ≡ l.fn.relation.size;
  known : IsKnown l.store (related l.relation) l.known;
  same : l.struck ≡ false → l.relation ≡ l.fn.relation;
  simulated : l.struck ≡ false → AreSimulated l.store l.automaton (related l.relation) l.x l.y;
}
