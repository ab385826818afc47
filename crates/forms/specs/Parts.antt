-- The parts of a formula: its subformulas, each occurrence by itself, the operands before what they make.
use Rattle.std.specs.Prelude.{ℕ, zero, suc, List, [], ◌∷◌, ◌++◌, Option, None, slice_get}
use Rattle.forms.specs.Tree.{Formula, Program, True, False, Atom, Not, And, Or, Implies, Iff, Next, WeakNext, Until, Release, Eventually, Always, Diamond, BoxAll, Step, Test, Choice, Seq, Star}

abbrev mutual
  -- the parts of the tests and operands from left to right, and then the formula itself
  pub parts : Formula → List Formula
  parts True = True ∷ []
  parts False = False ∷ []
  parts (Atom i) = Atom i ∷ []
  parts (Not f) = parts f ++ Not f ∷ []
  parts (And f g) = parts f ++ parts g ++ And f g ∷ []
  parts (Or f g) = parts f ++ parts g ++ Or f g ∷ []
  parts (Implies f g) = parts f ++ parts g ++ Implies f g ∷ []
  parts (Iff f g) = parts f ++ parts g ++ Iff f g ∷ []
  parts (Next f) = parts f ++ Next f ∷ []
  parts (WeakNext f) = parts f ++ WeakNext f ∷ []
  parts (Until f g) = parts f ++ parts g ++ Until f g ∷ []
  parts (Release f g) = parts f ++ parts g ++ Release f g ∷ []
  parts (Eventually f) = parts f ++ Eventually f ∷ []
  parts (Always f) = parts f ++ Always f ∷ []
  parts (Diamond p f) = test_parts p ++ parts f ++ Diamond p f ∷ []
  parts (BoxAll p f) = test_parts p ++ parts f ++ BoxAll p f ∷ []

  -- the parts of the tests of a path from left to right; what a step holds is no part
  pub test_parts : Program → List Formula
  test_parts (Step f) = []
  test_parts (Test f) = parts f
  test_parts (Choice p q) = test_parts p ++ test_parts q
  test_parts (Seq p q) = test_parts p ++ test_parts q
  test_parts (Star p) = test_parts p

-- part k of the formula, counted from 1
abbrev pub part : Formula → ℕ → Option Formula
part f zero = None
part f (suc k) = slice_get (parts f) k
