use Rattle.std.proofs.Common.{◌≡◌, ◌+◌, ◌-◌, ◌∙◌, ap, arith}
use Rattle.std.specs.Prelude.{◌||◌}
use Rattle.std.proofs.lemmas.List.{length-set}
use Rattle.trace_meaning.proofs.Columns.{turns-more, left-fewer}
use Rattle.trace_meaning.proofs.star.take_turns.Goals as goal

pub loop-i-preserved : goal.loop-i-preserved
loop-i-preserved c =
    let s : (c.loop-i.i - 1) + 1 ≡ c.loop-i.i = omega arith in
    let v = c.loop-i.invariant in
    let t = turns-more _ _ _ _ _ _ _ _ _ _ c.index.result.now _ s v.within v.whole v.left v.done v.next v.followed (ap (λ x. c.loop-i.next || x) c.index.ensures) c.follow-lead.ensures.lead c.follow-lead.ensures.followed in
    record {
      within = omega (arith, length-set c.loop-i.further.items (c.loop-i.i - 1) c.follow-lead.result.further);
      whole = length-set c.loop-i.further.items (c.loop-i.i - 1) c.follow-lead.result.further ∙ v.whole;
      left = left-fewer _ _ _ _ _ s v.left;
      done = t.0;
      next = t.1;
      followed = t.2;
    }
