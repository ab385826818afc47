use Rattle.std.proofs.Common.{◌≡◌, ◌+◌, ◌-◌, ◌∙◌, arith}
use Rattle.std.proofs.lemmas.List.{length-set}
use Rattle.trace_meaning.proofs.Columns.{first-last, column-last}
use Rattle.trace_meaning.proofs.column.combine_each.Goals as goal

pub loop-i-preserved : goal.loop-i-preserved
loop-i-preserved c =
    let s : (c.loop-i.i - 1) + 1 ≡ c.loop-i.i = omega arith in
    record {
      within = omega (arith, length-set c.loop-i.x (c.loop-i.i - 1) c.now-later.result);
      whole = length-set c.loop-i.x (c.loop-i.i - 1) c.now-later.result ∙ c.loop-i.invariant.whole;
      column = column-last _ _ _ _ _ _ _ _ _ s c.loop-i.invariant.within c.loop-i.invariant.whole c.now-later.ensures ∙ c.loop-i.invariant.column;
      first = first-last _ _ _ _ _ _ _ _ _ s c.loop-i.invariant.within c.loop-i.invariant.whole c.now-later.ensures ∙ c.loop-i.invariant.first;
    }
