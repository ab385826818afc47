use Rattle.std.proofs.Common.{◌≡◌, length}
use Rattle.diagrams.specs.Kept.{IsVacant}
use Rattle.diagrams.proofs.memo.vacant.Given as goal

abbrev pub invariant-loop-at : goal.invariant-loop-at
invariant-loop-at g l = record { size : length l.made.items ≡ l._at; none : IsVacant l.made.items }
