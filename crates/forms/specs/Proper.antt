-- Which formulas p propositions admit.
use Rattle.std.specs.Prelude.{ℕ, ◌<◌}
use Rattle.forms.specs.Tree.{Formula, Program, True, False, Atom, Not, And, Or, Implies, Iff, Next, WeakNext, Until, Release, Eventually, Always, Diamond, BoxAll, Step, Test, Choice, Seq, Star}

-- a formula of atoms and connectives alone: what a step may hold
abbrev pub IsPropositional : Formula → Type 0
IsPropositional True = Unit {0}
IsPropositional False = Unit {0}
IsPropositional (Atom i) = Unit {0}
IsPropositional (Not f) = IsPropositional f
IsPropositional (And f g) = IsPropositional f × IsPropositional g
IsPropositional (Or f g) = IsPropositional f × IsPropositional g
IsPropositional (Implies f g) = IsPropositional f × IsPropositional g
IsPropositional (Iff f g) = IsPropositional f × IsPropositional g
IsPropositional _ = ⊥

abbrev mutual
  -- its atoms are below p, and its steps hold propositional formulas alone
  pub IsProper : ℕ → Formula → Type 0
  IsProper p True = Unit {0}
  IsProper p False = Unit {0}
  IsProper p (Atom i) = i < p
  IsProper p (Not f) = IsProper p f
  IsProper p (And f g) = IsProper p f × IsProper p g
  IsProper p (Or f g) = IsProper p f × IsProper p g
  IsProper p (Implies f g) = IsProper p f × IsProper p g
  IsProper p (Iff f g) = IsProper p f × IsProper p g
  IsProper p (Next f) = IsProper p f
  IsProper p (WeakNext f) = IsProper p f
  IsProper p (Until f g) = IsProper p f × IsProper p g
  IsProper p (Release f g) = IsProper p f × IsProper p g
  IsProper p (Eventually f) = IsProper p f
  IsProper p (Always f) = IsProper p f
  IsProper p (Diamond r f) = IsProperProgram p r × IsProper p f
  IsProper p (BoxAll r f) = IsProperProgram p r × IsProper p f

  -- the same of a path program
  pub IsProperProgram : ℕ → Program → Type 0
  IsProperProgram p (Step f) = IsPropositional f × IsProper p f
  IsProperProgram p (Test f) = IsProper p f
  IsProperProgram p (Choice q r) = IsProperProgram p q × IsProperProgram p r
  IsProperProgram p (Seq q r) = IsProperProgram p q × IsProperProgram p r
  IsProperProgram p (Star q) = IsProperProgram p q
