use Rattle.std.proofs.Common.{arith, ap, length}
use Rattle.automata.proofs.RenumberLemmas.{marks_more}
use Rattle.automata.proofs.numbering.marks_of.Goals as goal

pub loop-at-init : goal.loop-at-init
loop-at-init c = record { length = ap length c.new-marks.ensures.items; mark = λ k h. absurd (omega (arith, h)) }

pub loop-at-preserved : goal.loop-at-preserved
loop-at-preserved c =
    rw (c.in_ok-push.ensures.items)
    (marks_more c.args.automaton.now c.args.found.now c.loop-at.marks.items c.loop-at.at-index c.mark.result c.loop-at.invariant c.mark.ensures)
