use Rattle.std.proofs.Common.{◌≡◌, length}
use Rattle.diagrams.specs.Kept.{HasNoMore}
use Rattle.diagrams.proofs.memo.spread_out.Given as goal

abbrev pub invariant-loop-at : goal.invariant-loop-at
invariant-loop-at g l = record { size : length l.made.items ≡ l.size; same : HasNoMore l.made.items l.entries }
