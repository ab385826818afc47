-- The search for an item of a list by its number.
use Rattle.std.specs.Prelude.{◌≡◌, ◌≤◌, ◌+◌, ◌-◌, ◌++◌, ℕ, List, [], Some, Result, Ok, Err, length, slice_get}
use Rattle.std.specs.Borrow.{Bor}
use Rattle.forms.specs.declared.form.Form.{Form}
use Rattle.forms.specs.Tree.{tree, Formula, True, False, Atom, Not, And, Or, Implies, Iff, Next, WeakNext, Until, Release, Eventually, Always, Diamond, BoxAll}
use Rattle.forms.specs.Parts.{parts, test_parts}

-- the item has the number in the list, counted from 1
pub record IsItem {A : Type 0} (xs : List A) (k : ℕ) (x : A) : Type 0 where
  pub at : slice_get xs (k - 1) ≡ Some x

-- the number is past the end of the list, by so many
pub record IsPast {A : Type 0} (xs : List A) (k left : ℕ) : Type 0 where
  pub by : k ≡ length xs + left
  pub some_left : 1 ≤ left

-- what was found is the formula with the number in the list; or the number is past its end, by so many
abbrev pub Finds : Result (Bor Form) ℕ → List Formula → ℕ → Type 0
Finds (Ok found) fs k = IsItem fs k (tree found.now)
Finds (Err left) fs k = IsPast fs k left

-- the parts before the formula itself
abbrev pub operand_parts : Formula → List Formula
operand_parts True = []
operand_parts False = []
operand_parts (Atom i) = []
operand_parts (Not f) = parts f
operand_parts (And f g) = parts f ++ parts g
operand_parts (Or f g) = parts f ++ parts g
operand_parts (Implies f g) = parts f ++ parts g
operand_parts (Iff f g) = parts f ++ parts g
operand_parts (Next f) = parts f
operand_parts (WeakNext f) = parts f
operand_parts (Until f g) = parts f ++ parts g
operand_parts (Release f g) = parts f ++ parts g
operand_parts (Eventually f) = parts f
operand_parts (Always f) = parts f
operand_parts (Diamond p f) = test_parts p ++ parts f
operand_parts (BoxAll p f) = test_parts p ++ parts f
