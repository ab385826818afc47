use Rattle.std.proofs.Common.{◌≡◌, not, take}
use Rattle.std.specs.Prelude.{slice_get}
use Rattle.std.specs.List.{filter}
use Rattle.diagrams.specs.Eval.{id_at}
use Rattle.diagrams.specs.Transformed.{same_id}
use Rattle.linked_blocks.specs.Lists.{list_of}
use Rattle.refinement.proofs.parting.others.Given as goal

abbrev pub invariant-loop-k : goal.invariant-loop-k
invariant-loop-k l = record {
  here : l.at ≡ slice_get (list_of l.blocks.lists l.block) l._k;
  found : l.found.items ≡ filter (λ x. not (same_id (id_at l.rows x) l.row)) (take l._k (list_of l.blocks.lists l.block));
}
