-- What two movers reach below a decision tree, each taking what is best for it at its variables.
use Rattle.std.specs.Prelude.{◌≡◌, ◌<◌, ◌≤◌, ℕ, ◌+◌, ◌-◌, ◌^◌, ◌==◌, ◌&&◌, nat_le, nat_lt, min, max, Bool, true, List, slice_index, if◌then◌else◌}
use Rattle.diagrams.specs.Tree.{Assignment, Tree, Constant, Branch, value_at}
use Rattle.choosing.specs.declared.walks.Extreme.{Extreme}
use Rattle.choosing.specs.declared.walks.Extreme.TheVariants.{Least, Greatest}
use Rattle.choosing.specs.declared.walks.Turns.{Turns}
use Rattle.choosing.specs.Numbers.{number_at}

-- the number that a mover takes
abbrev pub better_of : Extreme → ℕ → ℕ → ℕ
better_of Least x y = min x y
better_of Greatest x y = max x y

-- the variable is an output
abbrev pub is_output : Turns → ℕ → Bool
is_output turns v = nat_le turns.from v && nat_lt v turns.to

-- what the mover of a variable takes
abbrev pub extreme_at : Turns → ℕ → Extreme
extreme_at turns v = if is_output turns v then turns.agent else turns.environment

-- the number that is reached, of those that the terminals have
abbrev pub best_of : Turns → List ℕ → Tree → ℕ
best_of turns values (Constant t) = slice_index values t
best_of turns values (Branch v lo hi) = better_of (extreme_at turns v) (best_of turns values lo) (best_of turns values hi)

-- what is left of a tree where the outputs at its front are those of an assignment
abbrev pub rest_of : Turns → Assignment → Tree → Tree
rest_of turns a (Constant t) = Constant t
rest_of turns a (Branch v lo hi) = if is_output turns v then (if a v then rest_of turns a hi else rest_of turns a lo) else Branch v lo hi

-- the least output with which the best is reached, each variable false where that can be
abbrev pub first_of : Turns → List ℕ → Tree → ℕ
first_of turns values (Constant t) = 0
first_of turns values (Branch v lo hi) = if is_output turns v
    then (if best_of turns values lo == best_of turns values (Branch v lo hi) then first_of turns values lo else 2 ^ (turns.to - 1 - v) + first_of turns values hi)
    else 0

-- y is the least number of the outputs with which what is left has the best of the whole
pub record IsLeastOutputOf (turns : Turns) (values : List ℕ) (t : Tree) (y : ℕ) : Type 0 where
  pub small : y < 2 ^ (turns.to - turns.from)
  pub least : (b : Assignment) → best_of turns values (rest_of turns b t) ≡ best_of turns values t → y ≤ number_at b turns.from (turns.to - turns.from)
  pub taken : (b : Assignment) × (best_of turns values (rest_of turns b t) ≡ best_of turns values t) × (number_at b turns.from (turns.to - turns.from) ≡ y)

-- the second assignment has the outputs of the first
abbrev pub HasOutputs : Turns → Assignment → Assignment → Type 0
HasOutputs turns a b = (v : ℕ) → is_output turns v ≡ true → b v ≡ a v

-- the first number is as good for a mover as the second
abbrev pub IsAsGood : Extreme → ℕ → ℕ → Type 0
IsAsGood Least x y = x ≤ y
IsAsGood Greatest x y = y ≤ x

-- The number is what the agent can force: with some outputs the environment gets nothing that is better for it, and
-- whatever the outputs the environment can leave the agent nothing better.
pub record IsForced (turns : Turns) (values : List ℕ) (t : Tree) (x : ℕ) : Type 0 where
  pub forced : (a : Assignment) × ((b : Assignment) → HasOutputs turns a b → IsAsGood turns.environment x (slice_index values (value_at t b)))
  pub bound : (a : Assignment) → (b : Assignment) × HasOutputs turns a b × IsAsGood turns.agent x (slice_index values (value_at t b))
