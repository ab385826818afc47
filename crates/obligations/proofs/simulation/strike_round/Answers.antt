use Rattle.std.proofs.Common.{◌≡◌, false, arith, ◌∙◌}
use Rattle.obligations.proofs.Simulating.{rounds_next}
use Rattle.obligations.proofs.simulation.strike_round.Goals as goal

pub loop-x-preserved : goal.loop-x-preserved
loop-x-preserved c = record {
  size = c.strike_pairs.ensures.size ∙ c.loop-x.invariant.size;
  known = c.strike_pairs.ensures.known;
  simulated = λ e.
      let none : c.in_ok-strike_pairs.field-0 ≡ false = c.if-branch.false in
      rounds_next c.args.store.now c.args.automaton.now c.loop-x.relation c.strike_pairs.new.relation c.loop-x.x (omega arith) (c.in_ok-strike_pairs.ensures.same none) (c.loop-x.invariant.simulated e)
      (c.in_ok-strike_pairs.ensures.simulated none);
}
