use Rattle.std.proofs.Common.{length, ◌-◌, ◌^◌}
use Rattle.diagrams.specs.Kept.{AllKept}
use Rattle.diagrams.specs.Live.{Keeps}
use Rattle.products.specs.Places.{same_rows, IsPaired}
use Rattle.products.specs.Joining.{IsJoining}
use Rattle.products.proofs.joins.paired.Given as goal

abbrev pub invariant-loop-place : goal.invariant-loop-place
invariant-loop-place l =
    Keeps l.fn.store l.store × IsJoining l.store l.a l.b l.joining.places.keys l.joining.marks.items l.joining.rows.items
    × AllKept same_rows (IsPaired l.store l.joining.places.keys) l.memo

abbrev pub decreases-loop-place : goal.decreases-loop-place
decreases-loop-place l = 2 ^ 32 - length l.joining.rows.items
