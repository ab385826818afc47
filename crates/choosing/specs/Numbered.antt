-- The diagrams that were met, and their numbers.
use Rattle.std.specs.Prelude.{◌≡◌, ℕ, ◌<◌, ◌-◌, ◌^◌, Some, length}
use Rattle.std.specs.HashMap as hash
use Rattle.diagrams.specs.declared.top.Id.{Id}
use Rattle.diagrams.specs.Eval.{id_at}
use Rattle.diagrams.specs.Transformed.{same_id}
use Rattle.choosing.specs.declared.below.Below.TheInside.{Inside}

-- each number that is found is the diagram's own
pub record HasRightNumbers (a : Inside) : Type 0 where
  pub few : length a.diagrams.items < 2 ^ 32 - 1
  pub found : (i : Id) (k : ℕ) → hash.get same_id a.numbers i ≡ Some k → (k < length a.diagrams.items) × (id_at a.diagrams.items k ≡ i)
