use Rattle.certificate_text.proofs.LineLemmas.{free_at, splits_at, splits_here}
use Rattle.certificate_text.proofs.asking.fork.Goals as goal

pub returns-then-cubes-from-eq45 : goal.returns-then-cubes-from-eq45
returns-then-cubes-from-eq45 c =
    free_at c.args.width c.args.depth c.args.cubes.now c.args.from c.args.to c.requires.depth c.requires.order c.requires.whole c.if-cubes-from-eq45.true

pub split-requires-clause-parted : goal.split-requires-clause-parted
split-requires-clause-parted c =
    let s = splits_at c.args.width c.args.depth c.args.cubes.now c.args.from c.args.to c.requires.depth c.requires.order c.requires.whole c.if-cubes-from-eq45.false in
    (s.0, s.2, s.3)

pub returns : goal.returns
returns c =
    splits_here c.args.width c.args.depth c.args.cubes.now c.args.from c.args.to c.split.result c.requires.depth c.requires.order c.requires.whole c.if-cubes-from-eq45.false
    c.split.ensures.above c.split.ensures.below c.split.ensures.zeros c.split.ensures.ones
