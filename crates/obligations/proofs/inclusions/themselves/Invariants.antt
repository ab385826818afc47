use Rattle.std.proofs.Common.{◌≡◌, ◌<◌, ℕ, length, map}
use Rattle.obligations.specs.Followed.{wider_of}
use Rattle.obligations.specs.Related.{IsWiderAt}
use Rattle.obligations.proofs.inclusions.themselves.Given as goal

abbrev pub invariant-loop-at : goal.invariant-loop-at
invariant-loop-at l = record {
  number : length l.lists.items ≡ l.at;
  each : (at : ℕ) → at < l.at → IsWiderAt l.store l.automaton at (wider_of (map (λ list. list.items) l.lists.items) at);
}
