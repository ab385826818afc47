use Rattle.std.proofs.Common.{sym, subst}
use Rattle.spec_reader.specs.Specification.{plain}
use Rattle.synth_command.specs.Synthesis.{EndsUnsolved}
use Rattle.synth_command.proofs.SynthLemmas.{cause-ends}
use Rattle.synth_command.proofs.solving.solve_specification.Goals as goal

pub returns-in-Err-clause-ending : goal.returns-in-Err-clause-ending
returns-in-Err-clause-ending c =
    subst (EndsUnsolved (plain c.args.spec.now)) (sym c.fault_ending.ensures) (cause-ends (plain c.args.spec.now) c.in-Err.fault c.in-Err.ensures.cause)
