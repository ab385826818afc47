use Rattle.translate.specs.Exact.{accepted}
use Rattle.translate.proofs.LeastLemmas.{least_same_ok}
use Rattle.translate.proofs.OperatorLemmas.{awaited-release}
use Rattle.translate.proofs.operators.release.Goals as goal

pub returns-clause-least : goal.returns-clause-least
returns-clause-least c = least_same_ok c.awaited_by.result c.awaited_by.new.store _ _ (awaited-release (accepted c.args.store.now c.args.a.now) (accepted c.args.store.now c.args.b.now)) c.awaited_by.ensures.least
