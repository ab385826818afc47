use Rattle.std.proofs.Common.{None, sym, ◌∙◌, ap}
use Rattle.std.proofs.lemmas.Option.{get_or_from_slice_get}
use Rattle.strategy.specs.Found.{rounds_of}
use Rattle.strategy.proofs.FoundLemmas.{rounds_none, rounds_more}
use Rattle.strategy.proofs.arenas.rounds_in.Goals as goal

pub loop-at-init : goal.loop-at-init
loop-at-init c = rounds_none c.args.losses.now c.new-made.result.items c.new-made.ensures.items

pub loop-at-preserved : goal.loop-at-preserved
loop-at-preserved c =
    rw (c.in_ok-push.ensures.items)
    (rounds_more c.args.losses.now c.loop-at.made.items c.loop-at.at c.rounds.result
    (c.rounds.ensures ∙ ap rounds_of (sym (get_or_from_slice_get c.args.losses.now c.loop-at.at c.item.result.now None c.item.ensures))) c.loop-at.invariant)
