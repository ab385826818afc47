use Rattle.std.proofs.Common.{arith, ◌<◌, length}
use Rattle.certificate_text.specs.Lines.{levels_of, rows}
use Rattle.certificate_text.proofs.LineLemmas.{whole_long}
use Rattle.certificate_text.proofs.WholeLemmas.{length-rows}
use Rattle.certificate_text.proofs.asking.asked.Goals as goal

pub asked_from-requires-clause-order : goal.asked_from-requires-clause-order
asked_from-requires-clause-order c =
    let w = length (levels_of c.args.question.now.levels) in
    let some = whole_long (length (levels_of c.args.question.now.levels)) (rows (length (levels_of c.args.question.now.levels)) 0 c.args.lines.now.cubes.now 0 (length c.args.lines.now.targets.now)) c.requires.whole in
    omega (arith, some, length-rows (length (levels_of c.args.question.now.levels)) 0 c.args.lines.now.cubes.now 0 (length c.args.lines.now.targets.now))
