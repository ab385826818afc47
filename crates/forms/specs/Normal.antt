-- Negation normal form: implications written out, and negation at atoms alone.
use Rattle.std.specs.Prelude.{◌≡◌, ℕ, not}
use Rattle.forms.specs.Word.{Word}
use Rattle.forms.specs.Tree.{Formula, Program, True, False, Atom, Not, And, Or, Implies, Iff, Next, WeakNext, Until, Release, Eventually, Always, Diamond, BoxAll, Step, Test, Choice, Seq, Star}
use Rattle.forms.specs.Satisfaction.{sat, goes}

abbrev mutual
  -- the normal form of a formula
  pub normal : Formula → Formula
  normal True = True
  normal False = False
  normal (Atom i) = Atom i
  normal (Not f) = negated f
  normal (And f g) = And (normal f) (normal g)
  normal (Or f g) = Or (normal f) (normal g)
  normal (Implies f g) = Or (negated f) (normal g)
  normal (Iff f g) = Iff (normal f) (normal g)
  normal (Next f) = Next (normal f)
  normal (WeakNext f) = WeakNext (normal f)
  normal (Until f g) = Until (normal f) (normal g)
  normal (Release f g) = Release (normal f) (normal g)
  normal (Eventually f) = Eventually (normal f)
  normal (Always f) = Always (normal f)
  normal (Diamond p f) = Diamond (normal_program p) (normal f)
  normal (BoxAll p f) = BoxAll (normal_program p) (normal f)

  -- the normal form of the negation of a formula: its dual, over the negations of its operands
  pub negated : Formula → Formula
  negated True = False
  negated False = True
  negated (Atom i) = Not (Atom i)
  negated (Not f) = normal f
  negated (And f g) = Or (negated f) (negated g)
  negated (Or f g) = And (negated f) (negated g)
  negated (Implies f g) = And (normal f) (negated g)
  negated (Iff f g) = Iff (negated f) (normal g)
  negated (Next f) = WeakNext (negated f)
  negated (WeakNext f) = Next (negated f)
  negated (Until f g) = Release (negated f) (negated g)
  negated (Release f g) = Until (negated f) (negated g)
  negated (Eventually f) = Always (negated f)
  negated (Always f) = Eventually (negated f)
  negated (Diamond p f) = BoxAll (normal_program p) (negated f)
  negated (BoxAll p f) = Diamond (normal_program p) (negated f)

  -- a path program with its tests in normal form, and its steps as they are
  pub normal_program : Program → Program
  normal_program (Step f) = Step f
  normal_program (Test f) = Test (normal f)
  normal_program (Choice p q) = Choice (normal_program p) (normal_program q)
  normal_program (Seq p q) = Seq (normal_program p) (normal_program q)
  normal_program (Star p) = Star (normal_program p)

abbrev mutual
  -- the formula has no implication, and negates atoms alone; what steps hold does not count
  pub IsNegationNormal : Formula → Type 0
  IsNegationNormal True = Unit {0}
  IsNegationNormal False = Unit {0}
  IsNegationNormal (Atom i) = Unit {0}
  IsNegationNormal (Not (Atom i)) = Unit {0}
  IsNegationNormal (Not f) = ⊥
  IsNegationNormal (And f g) = IsNegationNormal f × IsNegationNormal g
  IsNegationNormal (Or f g) = IsNegationNormal f × IsNegationNormal g
  IsNegationNormal (Implies f g) = ⊥
  IsNegationNormal (Iff f g) = IsNegationNormal f × IsNegationNormal g
  IsNegationNormal (Next f) = IsNegationNormal f
  IsNegationNormal (WeakNext f) = IsNegationNormal f
  IsNegationNormal (Until f g) = IsNegationNormal f × IsNegationNormal g
  IsNegationNormal (Release f g) = IsNegationNormal f × IsNegationNormal g
  IsNegationNormal (Eventually f) = IsNegationNormal f
  IsNegationNormal (Always f) = IsNegationNormal f
  IsNegationNormal (Diamond p f) = IsNormalProgram p × IsNegationNormal f
  IsNegationNormal (BoxAll p f) = IsNormalProgram p × IsNegationNormal f

  -- the same of the tests of a path program
  pub IsNormalProgram : Program → Type 0
  IsNormalProgram (Step f) = Unit {0}
  IsNormalProgram (Test f) = IsNegationNormal f
  IsNormalProgram (Choice p q) = IsNormalProgram p × IsNormalProgram q
  IsNormalProgram (Seq p q) = IsNormalProgram p × IsNormalProgram q
  IsNormalProgram (Star p) = IsNormalProgram p

-- the normal form holds on the words on which the formula does
abbrev pub NormalHolds : Type 0
NormalHolds = (p : ℕ) (f : Formula) (w : Word) → sat p (normal f) w ≡ sat p f w

-- the negated form holds on the others
abbrev pub NegatedHolds : Type 0
NegatedHolds = (p : ℕ) (f : Formula) (w : Word) → sat p (negated f) w ≡ not (sat p f w)

-- a path program leads where it did
abbrev pub NormalGoes : Type 0
NormalGoes = (p : ℕ) (r : Program) (u v : Word) → goes p (normal_program r) u v ≡ goes p r u v

-- the normal form is one
abbrev pub NormalIsNormal : Type 0
NormalIsNormal = (f : Formula) → IsNegationNormal (normal f)
