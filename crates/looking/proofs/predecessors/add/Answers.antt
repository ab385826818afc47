use Rattle.std.proofs.Common.{◌≡◌, ◌<◌, [], ◌∷◌, ◌++◌, refl, sym, ◌∙◌, ap, subst, map}
use Rattle.std.specs.Prelude.{slice_index_or, slice_set}
use Rattle.std.proofs.lemmas.List.{map-set, get_or-map, length-map}
use Rattle.linked_blocks.specs.Lists.{list_of}
use Rattle.looking.specs.Predecessors.{IsAdded}
use Rattle.looking.proofs.PredecessorLemmas.{added_to}
use Rattle.looking.proofs.predecessors.add.Goals as goal

pub returns : goal.returns
returns c = added_to (λ list. list.items) c.args.lists.now.items c.args.target c.args.at c.index_mut-list.result.now c.push.new.self c.requires c.index_mut-list.ensures.value c.in_ok-push.ensures.items
