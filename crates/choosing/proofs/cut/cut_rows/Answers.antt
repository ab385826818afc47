use Rattle.std.proofs.Common.{arith}
use Rattle.diagrams.specs.Transformed.{same_id}
use Rattle.diagrams.proofs.Kept.{kept_none}
use Rattle.diagrams.proofs.Meaning.{Keeps_refl, Keeps_trans}
use Rattle.choosing.specs.Cuts.{IsCut}
use Rattle.choosing.proofs.CutRowLemmas.{rows-none, rows-more}
use Rattle.choosing.proofs.FitLemmas.{fits-more}
use Rattle.choosing.proofs.cut.cut_rows.Goals as goal

pub loop-at-init : goal.loop-at-init
loop-at-init c = record {
  keeps = Keeps_refl c.args.store.now c.props.ensures.canonical;
  diagrams = rw c.new-below.ensures (λ at h. absurd (omega (arith, h)));
  right = kept_none same_id (IsCut c.args.store.now c.args.bound c.new-below.result) c.new-memo.result c.new-memo.ensures;
  rows = rows-none c.args.store.now c.args.store.now c.args.bound c.new-below.result c.args.rows.now c.new-made.result.items c.new-made.ensures.items;
  fits = λ g fit. rw c.new-below.ensures (λ at h. absurd (omega (arith, h)));
}

pub loop-at-preserved : goal.loop-at-preserved
loop-at-preserved c = record {
  keeps = Keeps_trans c.args.store.now c.loop-at.store c.cut.new.store c.loop-at.invariant.keeps c.in_ok-cut.ensures.keeps;
  diagrams = c.in_ok-cut.ensures.diagrams;
  right = c.in_ok-cut.ensures.right;
  rows = rw (c.in_ok-push.ensures.items)
      (rows-more c.args.bound c.args.store.now c.loop-at.store c.cut.new.store c.loop-at.invariant.keeps c.in_ok-cut.ensures.keeps c.loop-at.below c.cut.new.below c.args.rows.now c.loop-at.made.items c.loop-at.at c.in_ok-cut.field-0
      c.in_ok-cut.ensures.grows c.loop-at.invariant.diagrams (c.requires.live c.loop-at.at (omega arith)) c.loop-at.invariant.rows c.in_ok-cut.ensures.row);
  fits = fits-more c.args.store.now c.loop-at.store c.cut.new.store c.loop-at.invariant.keeps c.loop-at.below c.cut.new.below c.args.rows.now c.loop-at.at (omega arith) (c.requires.live c.loop-at.at (omega arith))
      c.loop-at.invariant.fits c.in_ok-cut.ensures.fits;
}
