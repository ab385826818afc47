-- Which side chooses a variable, and the trees of rows.
use Rattle.std.specs.Prelude.{◌≡◌, ◌≤◌, ◌<◌, ◌^◌, ℕ, if◌then◌else◌, Bool, nat_lt, not, Option, Some}
use Rattle.diagrams.specs.Tree.{Tree, value_at, IsReduced, AllVars}
use Rattle.diagrams.specs.Eval.{letter_truth}
use Rattle.game.specs.Board.{Board, width, IsOutput, EachLeads}
use Rattle.forms.specs.declared.partition.Partition.{Partition}
use Rattle.forms.specs.declared.partition.Mover.TheVariants.{Agent, Environment}
use Rattle.game.specs.Winning.{EachOutputMayLead}
use Rattle.game.specs.Arena.{Locations}

-- whether a proposition is an output
abbrev pub is_output : Partition → ℕ → Bool
is_output s v = elim s.first [ Agent ↦ nat_lt v s.outputs | Environment ↦ not (nat_lt v s.inputs) ]

-- to each decision there is an output after which each legal round leads into P
abbrev pub EachDecisionForces : {s : Partition} (b : Board s) → (b.Place → Type 0) → b.Place → Type 0
EachDecisionForces {s = s} b P h = (x : ℕ) → b.IsDecision h x → (y : ℕ) × IsOutput s y × EachLeads b P h x y

-- some decision is such that after each output some legal round leads into P
abbrev pub SomeDecisionForces : {s : Partition} (b : Board s) → (b.Place → Type 0) → b.Place → Type 0
SomeDecisionForces b P h = (x : ℕ) × b.IsDecision h x × EachOutputMayLead b P h x

-- the tree says where letters lead from the location, and the size where the round is illegal
pub record IsRowTree (s : Partition) (m : Locations) (at : ℕ) (t : Tree) : Type 0 where
  pub reduced : IsReduced t
  pub vars : AllVars (λ v. v < width s) t
  pub next : (a : ℕ) → a < 2 ^ width s → m.next at a ≡ value_at t (letter_truth (width s) a)
  pub targets : (a : ℕ) → a < 2 ^ width s → m.next at a ≤ m.size
