use Rattle.std.proofs.Common.{◌≡◌, ◌<◌, ℕ, slice_index}
use Rattle.dividing.proofs.divisions.have_moved.Given as goal

abbrev pub invariant-loop-at : goal.invariant-loop-at
invariant-loop-at l = (k : ℕ) → k < l.at-index → slice_index l.old (slice_index l.locations k) ≡ slice_index l.new (slice_index l.locations k)
