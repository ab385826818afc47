-- Ranks in another list.
use Rattle.std.proofs.Common.{◌≡◌, ℕ, sym, subst, Bool, List, length, Option}
use Rattle.diagrams.specs.declared.top.Id.{Id}
use Rattle.diagrams.specs.Eval.{Diagrams}
use Rattle.forms.specs.declared.partition.Partition.{Partition}
use Rattle.game.specs.Winning.{WinsWithin}
use Rattle.game.specs.Arena.{locations}
use Rattle.game.specs.Numbers.{IsLeastOrNone}
use Rattle.layers.specs.Ranked.{AreRanks}
use Rattle.layers.specs.ArenaRows.{locations_of}
use Rattle.attractor.specs.Graph.{number_at}
use Rattle.layers.specs.Narrowed.{AreNarrowed}

module _ (s : Diagrams) (parts : Partition) (duty : Bool) (rows : List Id) (goals broken : List Bool) where
  -- the ranks in another list
  pub narrowed_ranks : (numbers made : List (Option ℕ)) → AreNarrowed numbers made (length rows) → AreRanks parts duty (locations_of s rows goals broken) (number_at numbers)
      → AreRanks parts duty (locations_of s rows goals broken) (number_at made)
  narrowed_ranks numbers made n r at h = subst (λ v. IsLeastOrNone (λ k. WinsWithin (locations parts duty (locations_of s rows goals broken)) k at) v) (sym (n.same at h)) (r at h)
