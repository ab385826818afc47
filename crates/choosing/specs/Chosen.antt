-- The choice for a decision, by the numbers that are reached below its diagram.
use Rattle.std.specs.Prelude.{◌≡◌, ◌<◌, ◌≤◌, ℕ, suc, Bool, true, false, List}
use Rattle.diagrams.specs.Tree.{Tree}
use Rattle.choosing.specs.declared.walks.Extreme.{Extreme}
use Rattle.choosing.specs.declared.walks.Extreme.TheVariants.{Least, Greatest}
use Rattle.choosing.specs.declared.walks.Turns.{Turns}
use Rattle.choosing.specs.declared.choice.Mark.{Mark}
use Rattle.choosing.specs.declared.choice.Mark.TheVariants.{Goal, Win, Pending, Lost, Held, LostIn}
use Rattle.choosing.specs.Best.{best_of, IsLeastOutputOf}

-- stands for no number
abbrev pub no_number : ℕ
no_number = 4294967295

-- the agent takes the least rank, the environment the greatest
abbrev pub rank_turns : ℕ → ℕ → Turns
rank_turns from to = record { from = from; to = to; agent = Least; environment = Greatest }

-- the environment takes the least
abbrev pub least_turns : Extreme → ℕ → ℕ → Turns
least_turns agent from to = record { from = from; to = to; agent = agent; environment = Least }

-- both take the least distance
abbrev pub distance_turns : ℕ → ℕ → Turns
distance_turns from to = record { from = from; to = to; agent = Least; environment = Least }

-- the agent takes the greatest loss, the environment the least
abbrev pub loss_turns : ℕ → ℕ → Turns
loss_turns from to = record { from = from; to = to; agent = Greatest; environment = Least }

-- no rank is forced, and no distance is reached
abbrev pub IsFar : ℕ → ℕ → List ℕ → List ℕ → Tree → Type 0
IsFar from to ranks distances t = (no_number ≤ best_of (rank_turns from to) ranks t) × (no_number ≤ best_of (distance_turns from to) distances t)

-- the mark is one more than the number that is reached, and the output the least that reaches it
abbrev pub IsChosenBelow : ℕ → ℕ → Bool → List ℕ → List ℕ → List ℕ → Tree → Mark → ℕ → Type 0
IsChosenBelow from to duty ranks distances losses t Goal y = ⊥
IsChosenBelow from to duty ranks distances losses t (Win n) y =
    (n ≡ suc (best_of (rank_turns from to) ranks t)) × (best_of (rank_turns from to) ranks t < no_number) × IsLeastOutputOf (rank_turns from to) ranks t y
IsChosenBelow from to duty ranks distances losses t (Pending n) y = (no_number ≤ best_of (rank_turns from to) ranks t)
    × (n ≡ suc (best_of (distance_turns from to) distances t)) × (best_of (distance_turns from to) distances t < no_number) × IsLeastOutputOf (distance_turns from to) distances t y
IsChosenBelow from to duty ranks distances losses t Lost y = IsFar from to ranks distances t × (duty ≡ false) × (y ≡ 0)
IsChosenBelow from to duty ranks distances losses t Held y = IsFar from to ranks distances t × (duty ≡ true)
    × (no_number ≤ best_of (loss_turns from to) losses t) × IsLeastOutputOf (loss_turns from to) losses t y
IsChosenBelow from to duty ranks distances losses t (LostIn n) y = IsFar from to ranks distances t × (duty ≡ true)
    × (n ≡ suc (best_of (loss_turns from to) losses t)) × (best_of (loss_turns from to) losses t < no_number) × (y ≡ 0)
