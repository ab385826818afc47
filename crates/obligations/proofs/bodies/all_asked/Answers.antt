use Rattle.diagrams.proofs.Meaning.{Keeps_trans}
use Rattle.obligations.specs.Followed.{wider_of}
use Rattle.obligations.proofs.Entering.{all_ask_next}
use Rattle.obligations.proofs.bodies.all_asked.Goals as goal

pub loop-at-preserved : goal.loop-at-preserved
loop-at-preserved c = record {
  keeps = Keeps_trans _ _ _ c.loop-at.invariant.keeps c.asked.ensures.keeps;
  asks = rw c.in_ok-push.ensures.items
      (all_ask_next c.loop-at.store c.asked.new.store c.asked.ensures.keeps c.args.base c.args.size (wider_of c.args.inclusions.now) c.loop-at.made.items c.loop-at.at c.in_ok-id.id c.loop-at.invariant.asks
      (rw c.of.ensures at c.in_ok-id.ensures.asks));
}
