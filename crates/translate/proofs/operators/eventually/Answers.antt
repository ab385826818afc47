use Rattle.translate.specs.Exact.{accepted}
use Rattle.translate.proofs.LeastLemmas.{least_same_ok}
use Rattle.translate.proofs.OperatorLemmas.{repeated-eventually}
use Rattle.translate.proofs.operators.eventually.Goals as goal

pub returns-clause-least : goal.returns-clause-least
returns-clause-least c = least_same_ok c.repeated_by.result c.repeated_by.new.store _ _ (repeated-eventually (accepted c.args.store.now c.args.a.now)) c.repeated_by.ensures.least
