-- Words of one letter more than those so far, each as its first letter and the place of the rest.
use Rattle.std.specs.Prelude.{◌≡◌, ◌<◌, ◌^◌, ℕ, List, [], ◌∷◌, All, Any, length, slice_index, slice_index_or}
use Rattle.std.specs.declared.cmp.Ordering.{Ordering}
use Rattle.forms.specs.Word.{Word}
use Rattle.diagrams.specs.Eval.{Diagrams}
use Rattle.automata.specs.Moves.{Moves}
use Rattle.automata.specs.Table.{Table, size_of, moves_of}
use Rattle.distinguish.specs.declared.steps.Step.{Step}
use Rattle.distinguish.specs.declared.telling.Refinement.{Refinement}
use Rattle.distinguish.specs.contracts.steps.StepOrd.TheImpl as step_ord
use Rattle.distinguish.specs.Telling.{IsLeastDistinguishing}

-- the order of steps: by letter, and then by the place of the rest
abbrev pub step_order : Step → Step → Ordering
step_order = (step_ord.ghosts).cmp

-- the letter is one over p propositions, and the rest is one of so many words
pub record CanFollow (p count : ℕ) (step : Step) : Type 0 where
  pub letter : step.letter < 2 ^ p
  pub rest : step.rest < count

-- the word of a step: the letter, and then a word of the list
abbrev pub word_of : List Word → Step → Word
word_of words step = step.letter ∷ slice_index_or words step.rest []

-- the step's word is the least that tells the two locations apart
pub record IsStepFor (p : ℕ) (m : Moves) (words : List Word) (i j : ℕ) (step : Step) : Type 0 where
  pub rest : step.rest < length words
  pub least : IsLeastDistinguishing p m i j (word_of words step)

-- the same with a refinement's words
abbrev pub IsStepOf : Diagrams → Table → Refinement → ℕ → ℕ → Step → Type 0
IsStepOf s t x i j step = IsStepFor s.props (moves_of s t) x.words i j step

-- the step's word is the least that tells some two locations of one block apart
pub record IsStep (p : ℕ) (m : Moves) (blocks : List ℕ) (words : List Word) (step : Step) : Type 0 where
  pub one : ℕ
  pub other : ℕ
  pub one_within : one < m.size
  pub other_within : other < m.size
  pub same : slice_index blocks one ≡ slice_index blocks other
  pub tells : IsStepFor p m words one other step

-- the steps of all pairs of new blocks of one old block, as far as the location at
pub record AreSteps (p : ℕ) (m : Moves) (blocks next : List ℕ) (words : List Word) (at : ℕ) (steps : List Step) : Type 0 where
  pub right : All (IsStep p m blocks words) steps
  pub whole : (x y : ℕ) → x < y → y < at → slice_index next x ≡ x → slice_index next y ≡ y → slice_index blocks x ≡ slice_index blocks y
      → Any (IsStepFor p m words x y) steps

-- the steps of all pairs, with a refinement's blocks and words
abbrev pub AreStepsOf : Diagrams → Table → Refinement → List ℕ → List Step → Type 0
AreStepsOf s t x next steps = AreSteps s.props (moves_of s t) x.blocks.items next x.words (size_of t) steps
