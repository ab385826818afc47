use Rattle.std.proofs.Common.{sym, ◌∙◌}
use Rattle.std.specs.Prelude.{slice_index}
use Rattle.std.proofs.lemmas.Option.{same_Some}
use Rattle.linked_blocks.specs.Lists.{list_of}
use Rattle.class_laws.proofs.Grouped.{get-at}
use Rattle.minimise.proofs.least.first_of.Goals as goal

pub unreachable-requires : goal.unreachable-requires
unreachable-requires c =
    let list = list_of c.args.blocks.now.lists c.args.block in
    c.in_default.not-Some (slice_index list 0) (c.first.ensures ∙ get-at list 0 (c.requires.full c.args.block c.requires.block))

pub returns : goal.returns
returns c =
    let list = list_of c.args.blocks.now.lists c.args.block in
    same_Some _ _ (sym c.in-Some.is ∙ c.first.ensures ∙ get-at list 0 (c.requires.full c.args.block c.requires.block))
