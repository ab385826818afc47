use Rattle.std.proofs.Common.{length, ◌<◌, ◌+◌}
use Rattle.translate.proofs.LeastLemmas.{least_same_ok}
use Rattle.translate.proofs.OperatorLemmas.{fits_none, atom_body, atom_holds}
use Rattle.translate.proofs.operators.atom.Goals as goal

pub solved_with-requires : goal.solved_with-requires
solved_with-requires c =
    let small : c.args.i < c.literal.new.self.props = rw c.literal.ensures.keeps.extends.props c.requires in
    record { fits = fits_none c.literal.new.self c.new.result c.new.ensures; body = atom_body c.literal.new.self c.args.i (length c.new.result + 1) c.in_ok-body.body small c.in_ok-body.ensures.id }

pub returns-clause-least : goal.returns-clause-least
returns-clause-least c =
    least_same_ok c.solved_with.result c.solved_with.new.store _ _
    (atom_holds c.args.store.now c.literal.new.self c.literal.ensures.keeps c.new.result c.args.i c.in_ok-body.body c.new.ensures c.requires c.in_ok-body.ensures.id) c.solved_with.ensures.least
