-- Which formulas have the operators of a dialect.
use Rattle.std.specs.Prelude.{◌≡◌}
use Rattle.forms.specs.Tree.{Formula, Program, True, False, Atom, Not, And, Or, Implies, Iff, Next, WeakNext, Until, Release, Eventually, Always, Diamond, BoxAll, Step, Test, Choice, Seq, Star}
use Rattle.form_tokens.specs.declared.dialect.Dialect.{Dialect}
use Rattle.form_tokens.specs.declared.dialect.Dialect.TheVariants.{Ltlf, Ldlf}

abbrev mutual
  -- the formula has the operators of the dialect alone
  pub IsOfDialect : Dialect → Formula → Type 0
  IsOfDialect d True = Unit {0}
  IsOfDialect d False = Unit {0}
  IsOfDialect d (Atom i) = Unit {0}
  IsOfDialect d (Not f) = IsOfDialect d f
  IsOfDialect d (And f g) = IsOfDialect d f × IsOfDialect d g
  IsOfDialect d (Or f g) = IsOfDialect d f × IsOfDialect d g
  IsOfDialect d (Implies f g) = IsOfDialect d f × IsOfDialect d g
  IsOfDialect d (Iff f g) = IsOfDialect d f × IsOfDialect d g
  IsOfDialect d (Next f) = (d ≡ Ltlf) × IsOfDialect d f
  IsOfDialect d (WeakNext f) = (d ≡ Ltlf) × IsOfDialect d f
  IsOfDialect d (Until f g) = (d ≡ Ltlf) × IsOfDialect d f × IsOfDialect d g
  IsOfDialect d (Release f g) = (d ≡ Ltlf) × IsOfDialect d f × IsOfDialect d g
  IsOfDialect d (Eventually f) = (d ≡ Ltlf) × IsOfDialect d f
  IsOfDialect d (Always f) = (d ≡ Ltlf) × IsOfDialect d f
  IsOfDialect d (Diamond p f) = (d ≡ Ldlf) × IsPathOfDialect d p × IsOfDialect d f
  IsOfDialect d (BoxAll p f) = (d ≡ Ldlf) × IsPathOfDialect d p × IsOfDialect d f

  -- so have the formulas of a path
  pub IsPathOfDialect : Dialect → Program → Type 0
  IsPathOfDialect d (Step f) = IsOfDialect d f
  IsPathOfDialect d (Test f) = IsOfDialect d f
  IsPathOfDialect d (Choice p q) = IsPathOfDialect d p × IsPathOfDialect d q
  IsPathOfDialect d (Seq p q) = IsPathOfDialect d p × IsPathOfDialect d q
  IsPathOfDialect d (Star p) = IsPathOfDialect d p
