use Rattle.std.proofs.Common.{◌≡◌, ◌+◌, ◌-◌, ◌∙◌, arith}
use Rattle.std.proofs.lemmas.List.{length-set}
use Rattle.trace_meaning.proofs.Columns.{handed-last, changed-last}
use Rattle.trace_meaning.proofs.column.change_each.Goals as goal

pub loop-i-preserved : goal.loop-i-preserved
loop-i-preserved c =
    let s : (c.loop-i.i - 1) + 1 ≡ c.loop-i.i = omega arith in
    record {
      within = omega (arith, length-set c.loop-i.x (c.loop-i.i - 1) c.now-here.result);
      column = changed-last _ _ _ _ _ _ _ _ s c.loop-i.invariant.within c.handed_on-later.ensures c.now-here.ensures ∙ c.loop-i.invariant.column;
      handed = handed-last _ _ _ _ _ _ _ _ s c.loop-i.invariant.within c.handed_on-later.ensures ∙ c.loop-i.invariant.handed;
    }
