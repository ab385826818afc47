use Rattle.std.proofs.Common.{◌∙◌}
use Rattle.diagrams.proofs.Sweeping.{frees_all}
use Rattle.diagrams.proofs.store.sweep_slots.Goals as goal

pub returns-clause-frees : goal.returns-clause-frees
returns-clause-frees c = frees_all c.args.slots.now c.mark_all.new.slots c.free_unseen.new.slots c.relink.new.slots c.args.roots.now
    (c.mark_all.ensures.keys ∙ c.unmark.ensures.keys) c.mark_all.ensures.marks c.free_unseen.ensures.length c.free_unseen.ensures.seen c.free_unseen.ensures.unseen c.relink.ensures.keys

pub mark_all-requires-clause-within : goal.mark_all-requires-clause-within
mark_all-requires-clause-within c = rw c.unmark.ensures.keys c.requires.within
