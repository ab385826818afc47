use Rattle.std.specs.Prelude.{ℕ}
use Rattle.diagrams.specs.Kept.{AllKept}
use Rattle.diagrams.specs.Live.{Keeps}
use Rattle.diagrams.specs.Transformed.{same_id}
use Rattle.choosing.specs.Cuts.{AllBelow, AllFit, IsCut, AreCutRows}
use Rattle.choosing.proofs.cut.cut_rows.Given as goal

abbrev pub invariant-loop-at : goal.invariant-loop-at
invariant-loop-at l = record {
  keeps : Keeps l.fn.store l.store;
  diagrams : AllBelow l.store l.bound l.below;
  right : AllKept same_id (IsCut l.store l.bound l.below) l.memo;
  rows : AreCutRows l.fn.store l.store l.bound l.below l.rows l.made.items l.at;
  fits : (g : ℕ) → AllFit l.fn.store g l.rows → AllFit l.store g l.below;
}
