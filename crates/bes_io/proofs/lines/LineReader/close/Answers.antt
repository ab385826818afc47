use Rattle.std.proofs.Common.{◌<◌, length, arith}
use Rattle.std.proofs.lemmas.Grind.{common_steps}
use Rattle.bes_io.proofs.Deciding.{closing}
use Rattle.bes_io.proofs.lines.LineReader.close.Goals as goal

pub returns-clause-answer : goal.returns-clause-answer
returns-clause-answer c =
    let some : 0 < length c.args.self.now.held = grind (arith, common_steps) in
    closing _ _ c.requires.undecided some
