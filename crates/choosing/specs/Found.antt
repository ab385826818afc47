-- What is known of the numbers below diagrams, and what is chosen by it.
use Rattle.std.specs.Prelude.{◌≡◌, ◌<◌, ◌≤◌, ◌+◌, ℕ, suc, List, length, Option, Some, None}
use Rattle.diagrams.specs.declared.top.Id.{Id}
use Rattle.diagrams.specs.Tree.{Assignment, Tree}
use Rattle.diagrams.specs.Eval.{Diagrams, eval}
use Rattle.choosing.specs.declared.walks.Turns.{Turns}
use Rattle.choosing.specs.declared.choice.Mark.{Mark}
use Rattle.choosing.specs.declared.choice.Mark.TheVariants.{Goal, Win, Pending, Lost, Held, LostIn}
use Rattle.choosing.specs.declared.choice.Chosen.{Chosen}
use Rattle.choosing.specs.declared.choice.Outputs.{Outputs}
use Rattle.choosing.specs.declared.choice.Tables.{Tables}
use Rattle.choosing.specs.declared.choice.Found.{Found}
use Rattle.choosing.specs.declared.choice.Reached.{Reached}
use Rattle.choosing.specs.Best.{best_of, IsLeastOutputOf}
use Rattle.choosing.specs.Known.{AllRight}
use Rattle.choosing.specs.Chosen.{no_number, rank_turns, distance_turns, loss_turns}

-- each list has an item at each value of the diagram
pub record FitTables (s : Diagrams) (tables : Tables) (f : Id) : Type 0 where
  pub ranks : (a : Assignment) → eval s f a < length tables.ranks.items
  pub distances : (a : Assignment) → eval s f a < length tables.distances.items
  pub losses : (a : Assignment) → eval s f a < length tables.losses.items

-- each list has an item for each location, and one for illegal rounds
pub record HasTables (tables : Tables) (size : ℕ) : Type 0 where
  pub ranks : length tables.ranks.items ≡ size + 1
  pub distances : length tables.distances.items ≡ size + 1
  pub losses : length tables.losses.items ≡ size + 1

-- each number that is kept is the best below its diagram
pub record IsRight (s : Diagrams) (outputs : Outputs) (tables : Tables) (found : Found) : Type 0 where
  pub ranks : AllRight s (rank_turns outputs.from outputs.to) tables.ranks.items found.ranks
  pub distances : AllRight s (distance_turns outputs.from outputs.to) tables.distances.items found.distances
  pub losses : AllRight s (loss_turns outputs.from outputs.to) tables.losses.items found.losses

-- the number is the best below the tree, and the output the least that reaches it; there is none where the best is none
abbrev pub IsReached : Turns → List ℕ → Tree → Option Reached → Type 0
IsReached turns values t None = no_number ≤ best_of turns values t
IsReached turns values t (Some r) = (r.number ≡ best_of turns values t) × (best_of turns values t < no_number) × IsLeastOutputOf turns values t r.output

-- the duty is kept for good by the least output, or lost within one more than the best
abbrev pub IsKept : Turns → List ℕ → Tree → Mark → ℕ → Type 0
IsKept turns losses t Goal y = ⊥
IsKept turns losses t (Win n) y = ⊥
IsKept turns losses t (Pending n) y = ⊥
IsKept turns losses t Lost y = ⊥
IsKept turns losses t Held y = (no_number ≤ best_of turns losses t) × IsLeastOutputOf turns losses t y
IsKept turns losses t (LostIn n) y = (n ≡ suc (best_of turns losses t)) × (best_of turns losses t < no_number) × (y ≡ 0)

abbrev pub IsKeptBelow : Turns → List ℕ → Tree → Chosen → Type 0
IsKeptBelow turns losses t c = IsKept turns losses t c.mark c.output
