use Rattle.obligations.specs.Related.{related}
use Rattle.obligations.proofs.Simulating.{simulators_wider_ok}
use Rattle.obligations.proofs.inclusions.wider.Goals as goal

pub returns : goal.returns
returns c =
    simulators_wider_ok c.simulators.result (λ list. list.items) c.args.store.now c.args.automaton.now (related c.args.relation.now) c.args.relation.now.size c.args.x c.requires.size c.requires.simulation c.simulators.ensures
