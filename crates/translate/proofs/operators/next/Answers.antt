use Rattle.translate.specs.Exact.{accepted}
use Rattle.translate.proofs.LeastLemmas.{least_same_ok}
use Rattle.translate.proofs.OperatorLemmas.{stepped-next}
use Rattle.translate.proofs.operators.next.Goals as goal

pub returns-clause-least : goal.returns-clause-least
returns-clause-least c = least_same_ok c.stepped_by.result c.stepped_by.new.store _ _ (stepped-next (accepted c.args.store.now c.args.a.now)) c.stepped_by.ensures.least
