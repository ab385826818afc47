-- One line more has no fault.
use Rattle.std.proofs.Common.{◌+◌, map, take, drop, ◌∙◌}
use Rattle.spec_lines.specs.Lines.{shown}
use Rattle.spec_reader.proofs.FormulaLemmas.{rest-at, front-at}
use Rattle.spec_reader.proofs.LineFaults.{lines_fault-step}
use Rattle.spec_reader.proofs.checking.check_lines.Goals as goal

pub loop-i-preserved : goal.loop-i-preserved
loop-i-preserved c =
    let lines = c.args.lines.now in
    let i = c.loop-i.i in
    let line = c.index-lines-i.result in
    c.loop-i.invariant
    ∙ lines_fault-step c.args.heading (map shown (take i lines)) (map shown (take (i + 1) lines)) c.loop-i.given.names c.check_value.new.given.names (shown line) (map shown (drop (i + 1) lines)) _
    (rest-at lines i line c.loop-i-test.true c.index-lines-i.is)
    c.in_ok-check_key.ensures.ok c.in_ok-check_value.ensures.ok c.in_ok-check_value.ensures.given
    (front-at lines i line c.loop-i-test.true c.index-lines-i.is)
