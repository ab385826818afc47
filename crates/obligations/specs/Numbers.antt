-- The claims that locations stand for, and their numbers.
use Rattle.std.specs.Prelude.{◌≡◌, ℕ, ◌<◌, ◌-◌, ◌^◌, Some, length}
use Rattle.std.specs.HashMap as hash
use Rattle.diagrams.specs.declared.top.Id.{Id}
use Rattle.diagrams.specs.Eval.{id_at}
use Rattle.diagrams.specs.Transformed.{same_id}
use Rattle.obligations.specs.declared.frontier.Frontier.TheInside.{Inside}

-- each number that is found is the claim's own
pub record HasRightNumbers (a : Inside) : Type 0 where
  pub few : length a.claims.items < 2 ^ 32 - 1
  pub found : (i : Id) (k : ℕ) → hash.get same_id a.numbers i ≡ Some k → (k < length a.claims.items) × (id_at a.claims.items k ≡ i)
