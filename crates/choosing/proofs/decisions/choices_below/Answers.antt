use Rattle.std.proofs.Common.{refl, ◌<◌, arith, sym, subst, length}
use Rattle.choosing.specs.Cuts.{IsBelow}
use Rattle.choosing.proofs.RowLemmas.{vars-below, below_more}
use Rattle.choosing.proofs.decisions.choices_below.Goals as goal

pub loop-at-init : goal.loop-at-init
loop-at-init c = record {
  right = c.new-found.ensures c.args.store.now c.args.outputs c.args.tables.now;
  choices = rw c.new-made.ensures.items (record { long = refl; each = λ k h. absurd (omega (arith, h)) });
}

pub choice_below-requires : goal.choice_below-requires
choice_below-requires c =
    let s = c.args.store.now in
    let within : c.loop-at.at < length c.args.below.now = omega (arith, c.loop-at-test.true, c.len-at-end.ensures.number) in
    let below = subst (λ f. IsBelow s c.args.outputs.from f) (sym c.diagram.ensures) (c.requires.below c.loop-at.at within) in
    record {
      live = below.live;
      tables = c.requires.tables;
      fit = rw c.diagram.ensures (c.requires.fit c.loop-at.at within);
      range = c.requires.range;
      few = c.requires.few;
      vars = vars-below s c.requires.canonical c.args.outputs.from c.diagram.result below;
      right = c.loop-at.invariant.right;
    }

pub loop-at-preserved : goal.loop-at-preserved
loop-at-preserved c = record {
  right = c.in_ok-choice_below.ensures.right;
  choices = rw (c.in_ok-push.ensures.items)
      (below_more c.args.store.now c.args.outputs c.args.size c.args.duty c.args.tables.now c.args.below.now c.loop-at.made.items c.loop-at.at c.diagram.result c.in_ok-choice_below.field-0
      c.diagram.ensures c.in_ok-choice_below.ensures.choice c.loop-at.invariant.choices);
}
