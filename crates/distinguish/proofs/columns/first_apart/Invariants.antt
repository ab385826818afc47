use Rattle.std.proofs.Common.{◌≡◌, ◌<◌, ℕ}
use Rattle.distinguish.specs.Columns.{mark_in}
use Rattle.distinguish.proofs.columns.first_apart.Given as goal

abbrev pub invariant-loop-k : goal.invariant-loop-k
invariant-loop-k l = (j : ℕ) → j < l.k → mark_in l.columns j l.one ≡ mark_in l.columns j l.other
