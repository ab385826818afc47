use Rattle.std.proofs.Common.{◌≡◌, ◌<◌, ℕ, length, map}
use Rattle.obligations.specs.Followed.{wider_of}
use Rattle.obligations.specs.Related.{IsWiderAt}
use Rattle.obligations.proofs.inclusions.listed.Given as goal

abbrev pub invariant-loop-x : goal.invariant-loop-x
invariant-loop-x l = record {
  number : length l.lists.items ≡ l.x;
  each : (at : ℕ) → at < l.x → IsWiderAt l.store l.automaton at (wider_of (map (λ list. list.items) l.lists.items) at);
}
