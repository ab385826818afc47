-- The trees of decisions, their winning numbers, and the least hope over them.
use Rattle.std.specs.Prelude.{ℕ, Bool, true, nat_lt, if◌then◌else◌, Option, Some, None}
use Rattle.diagrams.specs.Tree.{Tree, Constant, Branch, Assignment}
use Rattle.diagrams.specs.Eval.{letter_truth}
use Rattle.forms.specs.declared.partition.Partition.{Partition}
use Rattle.forms.specs.declared.partition.Mover.TheVariants.{Agent, Environment}
use Rattle.attractor.specs.Minimax.{lesser, minimax}
use Rattle.layers.specs.Layers.{is_output}

-- the tree with the variables before k as in b
abbrev pub restricted : ℕ → Assignment → Tree → Tree
restricted k b (Constant x) = Constant x
restricted k b (Branch v lo hi) = if nat_lt v k then (if b v then restricted k b hi else restricted k b lo) else Branch v lo hi

-- the variables that a decision sets are those before this one: none agent first, the inputs environment first
abbrev pub decided_before : Partition → ℕ
decided_before s = elim s.first [ Agent ↦ 0 | Environment ↦ s.inputs ]

-- the tree of a decision
abbrev pub decision_tree : Partition → Tree → ℕ → Tree
decision_tree s t x = restricted (decided_before s) (letter_truth s.inputs x) t

-- the side that chooses everywhere
abbrev pub everywhere : ℕ → Bool
everywhere v = true

-- the first number, or else the second
abbrev pub first_some : Option ℕ → Option ℕ → Option ℕ
first_some None v = v
first_some (Some n) v = Some n

-- the hope of a decision's tree: its winning number, or else the least distance to which it leads
abbrev pub hope : Partition → (ℕ → Option ℕ) → (ℕ → Option ℕ) → Tree → Option ℕ
hope s rank distance t = first_some (minimax (is_output s) rank t) (minimax everywhere distance t)

-- the least of what D gives for the trees below the variables before k
abbrev pub least_below : ℕ → (Tree → Option ℕ) → Tree → Option ℕ
least_below k D (Constant x) = D (Constant x)
least_below k D (Branch v lo hi) = if nat_lt v k then lesser (least_below k D lo) (least_below k D hi) else D (Branch v lo hi)

-- the winning number of a decision by its row's tree
abbrev pub won_by : Partition → (ℕ → Option ℕ) → (ℕ → Tree) → ℕ → ℕ → Option ℕ
won_by s rank row at x = minimax (is_output s) rank (decision_tree s (row at) x)

-- what ranks say of illegal rounds, where decisions are judged: agent first they are no harm, environment first no good
abbrev pub illegal_rank : Partition → Option ℕ
illegal_rank s = elim s.first [ Agent ↦ Some 0 | Environment ↦ None ]
