use Rattle.std.proofs.Common.{◌<◌, ◌+◌, ◌-◌, length, arith, slice_index_or, drop}
use Rattle.diagrams.proofs.Meaning.{Keeps_trans}
use Rattle.obligations.proofs.Entering.{below_at, can_ask, asks_next, drop_back}
use Rattle.obligations.proofs.bodies.asked.Goals as goal

pub overflow_add-first-in-loop-k : goal.overflow_add-first-in-loop-k
overflow_add-first-in-loop-k c =
    let l : c.loop-k.k - 1 < length c.args.ats.now = omega arith in
    omega (arith, below_at c.args.size c.args.ats.now (c.loop-k.k - 1) c.requires.within l)

pub combine-requires-clause-fit : goal.combine-requires-clause-fit
combine-requires-clause-fit c =
    can_ask c.loop-k.store c.literal.new.self c.literal.ensures.keeps c.args.base c.args.size (c.props.result + c.args.base + slice_index_or c.args.ats.now (c.loop-k.k - 1) 0) (drop c.loop-k.k c.args.ats.now)
    c.in_ok-next.next c.loop-k.whole c.in_ok-next.ensures.id c.loop-k.invariant.asks

pub loop-k-preserved : goal.loop-k-preserved
loop-k-preserved c =
    let at = slice_index_or c.args.ats.now (c.loop-k.k - 1) 0 in
    let l : c.loop-k.k - 1 < length c.args.ats.now = omega arith in
    let p = c.literal.ensures.keeps.extends.props in
    let q = c.combine.ensures.keeps.extends.props in
    let e = c.loop-k.invariant.first in
    record {
      keeps = Keeps_trans _ _ _ c.loop-k.invariant.keeps (Keeps_trans _ _ _ c.literal.ensures.keeps c.combine.ensures.keeps);
      first = rw (q, p) e;
      asks = rw (drop_back c.loop-k.k c.args.ats.now (omega arith) (omega arith))
          (asks_next c.loop-k.store c.literal.new.self c.combine.new.self c.literal.ensures.keeps c.combine.ensures.keeps c.args.base c.args.size (c.props.result + c.args.base + at) at (drop c.loop-k.k c.args.ats.now)
          c.in_ok-next.next c.loop-k.whole _ (below_at c.args.size c.args.ats.now (c.loop-k.k - 1) c.requires.within l) (omega (arith, e)) c.in_ok-next.ensures.id c.loop-k.invariant.asks c.in_ok-whole-2.ensures.id);
    }
