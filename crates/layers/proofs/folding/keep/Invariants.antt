use Rattle.std.specs.Prelude.{◌≡◌, ◌+◌, ◌-◌, ℕ, length}
use Rattle.attractor.specs.Graph.{number_at}
use Rattle.layers.proofs.folding.keep.Given as goal

abbrev pub invariant-room : goal.invariant-room
invariant-room l = (k : ℕ) → number_at l.found.items k ≡ number_at l.initial.found.items k

abbrev pub decreases-room : goal.decreases-room
decreases-room l = l.f.0 + 1 - length l.found.items
