use Rattle.dividing.proofs.DivisionLemmas.{dividing_more}
use Rattle.dividing.proofs.divisions.divide_by_rows.Goals as goal

pub loop-at-preserved : goal.loop-at-preserved
loop-at-preserved c =
    let first = rw c.mark-mark.ensures at c.in_ok-first_of.ensures.first in
    let kept = rw c.mark-mark.ensures at c.in_ok-first_of.ensures.kept in
    rw (c.in_ok-push.ensures.items)
    (dividing_more c.args.automaton.now c.args.rows.now c.loop-at.firsts c.first_of.new.firsts c.loop-at.blocks.items c.loop-at.at c.in_ok-first_of.field-0 c.loop-at.invariant first kept)
