use Rattle.std.proofs.Common.{◌+◌, subst, length}
use Rattle.diagrams.specs.Live.{Means}
use Rattle.obligations.proofs.Holds.{body_lasts}
use Rattle.diagrams.specs.Eval.{literal_value}
use Rattle.translate.proofs.StandingLemmas.{fits_by}
use Rattle.translate.proofs.LeastLemmas.{least_same_ok}
use Rattle.translate.proofs.OwnLemmas.{own_claim, own_holds}
use Rattle.translate.proofs.joins.solved_with.Goals as goal

pub solved-requires-clause-fits : goal.solved-requires-clause-fits
solved-requires-clause-fits c =
    fits_by c.args.store.now c.literal.new.self c.args.cells c.add.new.self _ c.literal.ensures.keeps c.requires.fits
    (body_lasts c.args.store.now c.literal.new.self c.literal.ensures.keeps (length c.args.cells + 1) c.args.body c.requires.body) c.in_ok-last.ensures.ok

pub solved-requires-clause-start : goal.solved-requires-clause-start
solved-requires-clause-start c =
    let start = subst (λ p. Means c.literal.new.self c.in_ok-start.start (literal_value (p + c.in_ok-last.last))) c.props-props.ensures.number c.in_ok-start.ensures.id in
    own_claim c.args.store.now c.literal.new.self c.literal.ensures.keeps c.args.cells c.add.new.self _ c.in_ok-last.ensures.ok c.in_ok-last.last c.in_ok-last.ensures.number c.in_ok-start.start start

pub returns-clause-least : goal.returns-clause-least
returns-clause-least c =
    let start = subst (λ p. Means c.literal.new.self c.in_ok-start.start (literal_value (p + c.in_ok-last.last))) c.props-props.ensures.number c.in_ok-start.ensures.id in
    least_same_ok c.solved.result c.solved.new.store _ _
    (own_holds c.args.store.now c.literal.new.self c.literal.ensures.keeps c.args.cells c.add.new.self _ c.requires.fits c.requires.body c.in_ok-last.ensures.ok c.in_ok-last.last c.in_ok-last.ensures.number c.in_ok-start.start start)
    c.solved.ensures.least
