use Rattle.std.proofs.lemmas.Bool.{leb-true, leb-false}
use Rattle.choosing.proofs.RowLemmas.{illegal-terminal, legal-terminal, legal-node}
use Rattle.choosing.proofs.decisions.is_illegal.Goals as goal

pub returns-in-Terminal-clause-illegal : goal.returns-in-Terminal-clause-illegal
returns-in-Terminal-clause-illegal c e = illegal-terminal c.args.store.now c.args.f c.args.size c.in-Terminal.at c.in-Terminal.ensures.expands (leb-true c.args.size c.in-Terminal.at e)

pub returns-in-Terminal-clause-legal : goal.returns-in-Terminal-clause-legal
returns-in-Terminal-clause-legal c e = legal-terminal c.args.store.now c.args.f c.args.size c.in-Terminal.at c.in-Terminal.ensures.expands (leb-false c.args.size c.in-Terminal.at e)

pub returns-in-Node-clause-legal : goal.returns-in-Node-clause-legal
returns-in-Node-clause-legal c e = legal-node c.args.store.now c.args.f c.args.size c.in-Node.var c.requires.fit c.in-Node.ensures.expands.own
