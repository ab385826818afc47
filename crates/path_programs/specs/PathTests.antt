-- The tests of a path, and automata for them.
use Rattle.std.specs.Prelude.{ℕ, ◌<◌, ◌-◌, ◌+◌, List, [], ◌∷◌, ◌++◌, length, slice_index_or}
use Rattle.forms.specs.Tree.{Formula, Program, Step, Test, Choice, Seq, Star}
use Rattle.diagrams.specs.Eval.{Diagrams}
use Rattle.automata.specs.declared.meant.Meant.{Meant}
use Rattle.automata.specs.Table.{size_of, Fits, IsMeant}

-- the formulas of the tests from left to right, and not the parts inside them
abbrev pub test_forms : Program → List Formula
test_forms (Step f) = []
test_forms (Test f) = f ∷ []
test_forms (Choice p q) = test_forms p ++ test_forms q
test_forms (Seq p q) = test_forms p ++ test_forms q
test_forms (Star p) = test_forms p

-- how many tests there are
abbrev pub test_count : Program → ℕ
test_count (Step f) = 0
test_count (Test f) = 1
test_count (Choice p q) = test_count p + test_count q
test_count (Seq p q) = test_count p + test_count q
test_count (Star p) = test_count p

-- one of a list of automata stands for the formula
pub record IsTestAt (s : Diagrams) (tests : List Meant) (at : ℕ) (f : Formula) : Type 0 where
  pub within : at < length tests
  pub fits : (d : Meant) → Fits s (slice_index_or tests at d).automaton
  pub meant : (d : Meant) → (slice_index_or tests at d).automaton.first < size_of (slice_index_or tests at d).automaton
      → IsMeant s (slice_index_or tests at d).automaton f

-- of so many automata the last ones are those of the tests, from left to right
abbrev pub HasTests : Diagrams → List Meant → ℕ → Program → Type 0
HasTests s tests count (Step f) = Unit {0}
HasTests s tests count (Test f) = (0 < count) × IsTestAt s tests (count - 1) f
HasTests s tests count (Choice p q) = HasTests s tests count q × HasTests s tests (count - test_count q) p
HasTests s tests count (Seq p q) = HasTests s tests count q × HasTests s tests (count - test_count q) p
HasTests s tests count (Star p) = HasTests s tests count p
