use Rattle.diagrams.proofs.Meaning.{top_is}
use Rattle.obligations.proofs.Simulating.{accepts_all_at}
use Rattle.obligations.proofs.inclusions.accepts_all.Goals as goal

pub returns-then-to-at : goal.returns-then-to-at
returns-then-to-at c = λ m.
    let e = top_is _ _ _ _ c.look.ensures.top c.in-Terminal.is in
    accepts_all_at c.args.store.now c.args.automaton.now c.args.at (rw (c.row.ensures, c.if-to-at.true) at e) (rw c.mark.ensures at m)
