use Rattle.std.proofs.Common.{arith}
use Rattle.certificate_text.proofs.LevelLemmas.{length-levels_of}
use Rattle.certificate_text.proofs.asking.width_of.Goals as goal

pub returns : goal.returns
returns c = omega (arith, length-levels_of c.args.levels.now)
