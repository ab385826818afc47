use Rattle.std.proofs.lemmas.Result.{IfOk-weaker}
use Rattle.choosing.proofs.FirstLemmas.{least-first}
use Rattle.choosing.proofs.walks.least_output.Goals as goal

pub returns-clause-least : goal.returns-clause-least
returns-clause-least c =
    IfOk-weaker c.first_best.result _ _
    (λ y e. least-first c.args.store.now c.props.ensures.canonical c.args.turns c.args.values.now c.args.f y c.requires.live c.requires.range c.requires.vars e) c.first_best.ensures.first
