-- New blocks of one old block as a tree, by the steps that tell them apart.
use Rattle.std.specs.Prelude.{◌≡◌, ◌<◌, ℕ, List, Option, Some, Contains, slice_index}
use Rattle.std.specs.HashMap.{get}
use Rattle.diagrams.specs.Eval.{Diagrams}
use Rattle.forms.specs.Word.{Word}
use Rattle.automata.specs.Moves.{Moves}
use Rattle.automata.specs.Table.{Table, moves_of}
use Rattle.distinguish.specs.declared.steps.Step.{Step}
use Rattle.distinguish.specs.declared.steps.Branch.{Branch}
use Rattle.distinguish.specs.declared.steps.Tree.{Tree}
use Rattle.distinguish.specs.declared.telling.Refinement.{Refinement}
use Rattle.distinguish.specs.contracts.steps.BranchPartialEq.TheImpl as branch_eq
use Rattle.distinguish.specs.Steps.{IsStepFor, AreSteps}

-- where the branches of a tree lead
abbrev pub target_of : Tree → Branch → Option ℕ
target_of tree branch = get (branch_eq.ghosts).eq tree.branches branch

-- branches lead down to x: the step of each is the least to tell x from where the branch begins
pub data IsBelow (p : ℕ) (m : Moves) (words : List Word) (target : Branch → Option ℕ) (x : ℕ) : ℕ → Type 0 where
  here : IsBelow p m words target x x
  down : {from to : ℕ} {step : Step} → IsStepFor p m words from x step
      → target (record { from = from; step = step }) ≡ Some to → IsBelow p m words target x to
      → IsBelow p m words target x from

-- a branch leads to a later location of the same old block, that names a new one, and its step is in the list
pub record IsBranch (blocks next : List ℕ) (steps : List Step) (at from to : ℕ) (step : Step) : Type 0 where
  pub later : from < to
  pub within : to < at
  pub same : slice_index blocks from ≡ slice_index blocks to
  pub name : slice_index next to ≡ to
  pub listed : Contains steps step

-- before the location at, all names of new blocks stand below those of the old ones, and the steps are those of all pairs
pub record IsTreeFor (p : ℕ) (m : Moves) (blocks next : List ℕ) (words : List Word) (target : Branch → Option ℕ) (steps : List Step) (at : ℕ) : Type 0 where
  pub all : AreSteps p m blocks next words at steps
  pub branch : (from to : ℕ) (step : Step) → target (record { from = from; step = step }) ≡ Some to
      → IsBranch blocks next steps at from to step
  pub below : (x : ℕ) → x < at → slice_index next x ≡ x → IsBelow p m words target x (slice_index blocks x)

-- the same of a tree, with a refinement's blocks and words
abbrev pub IsTree : Diagrams → Table → Refinement → List ℕ → ℕ → Tree → Type 0
IsTree s t x next at tree = IsTreeFor s.props (moves_of s t) x.blocks.items next x.words (target_of tree) tree.steps.items at
