-- Negation normal form keeps satisfaction, and has its shape.
use Rattle.std.proofs.Common.{◌≡◌, ℕ, length, refl, sym, ◌∙◌}
use Rattle.std.specs.Prelude.{◌||◌, not}
use Rattle.std.proofs.Math.Bool.{not-not}
use Rattle.forms.specs.Word.{Word}
use Rattle.forms.specs.Tree.{Formula, Program, True, False, Atom, Not, And, Or, Implies, Iff, Next, WeakNext, Until, Release, Eventually, Always, Diamond, BoxAll, Step, Test, Choice, Seq, Star}
use Rattle.forms.specs.Satisfaction.{sat, goes}
use Rattle.forms.specs.Proper.{IsProper, IsProperProgram}
use Rattle.forms.specs.Normal.{normal, negated, normal_program, IsNegationNormal, IsNormalProgram}
use Rattle.forms.proofs.Duals.{not-and, not-or, not-agree, not-implies, next-same, weak_next-same, until-same, release-same, eventually-same, always-same, weak_next-opposite, next-opposite, release-opposite, until-opposite, always-opposite, eventually-opposite, every_suffix-same, box-opposite, diamond-opposite, reaches-same, turns-same}

mutual
  -- the normal form holds where the formula does
  pub normal_holds : (p : ℕ) (f : Formula) (w : Word) → sat p (normal f) w ≡ sat p f w
  normal_holds p True w = refl
  normal_holds p False w = refl
  normal_holds p (Atom i) w = refl
  normal_holds p (Not f) w = negated_holds p f w
  normal_holds p (And f g) w = rw (normal_holds p f w, normal_holds p g w) refl
  normal_holds p (Or f g) w = rw (normal_holds p f w, normal_holds p g w) refl
  normal_holds p (Implies f g) w = rw (negated_holds p f w, normal_holds p g w) refl
  normal_holds p (Iff f g) w = rw (normal_holds p f w, normal_holds p g w) refl
  normal_holds p (Next f) w = next-same (λ v. sat p (normal f) v) (λ v. sat p f v) (λ v. normal_holds p f v) w
  normal_holds p (WeakNext f) w = weak_next-same (λ v. sat p (normal f) v) (λ v. sat p f v) (λ v. normal_holds p f v) w
  normal_holds p (Until f g) w =
      until-same (λ v. sat p (normal f) v) (λ v. sat p (normal g) v) (λ v. sat p f v) (λ v. sat p g v) (λ v. normal_holds p f v) (λ v. normal_holds p g v) w
  normal_holds p (Release f g) w =
      release-same (λ v. sat p (normal f) v) (λ v. sat p (normal g) v) (λ v. sat p f v) (λ v. sat p g v) (λ v. normal_holds p f v) (λ v. normal_holds p g v) w
  normal_holds p (Eventually f) w = eventually-same (λ v. sat p (normal f) v) (λ v. sat p f v) (λ v. normal_holds p f v) w
  normal_holds p (Always f) w = always-same (λ v. sat p (normal f) v) (λ v. sat p f v) (λ v. normal_holds p f v) w
  normal_holds p (Diamond r f) w =
      reaches-same (λ u v. goes p (normal_program r) u v) (λ u v. goes p r u v) (λ v. sat p (normal f) v) (λ v. sat p f v) (λ u v. normal_goes p r u v) (λ v. normal_holds p f v) w
  normal_holds p (BoxAll r f) w =
      every_suffix-same (λ v. not (goes p (normal_program r) w v) || sat p (normal f) v) (λ v. not (goes p r w v) || sat p f v)
      (λ v. rw (normal_goes p r w v, normal_holds p f v) refl) w

  -- the negated form holds where the formula does not
  pub negated_holds : (p : ℕ) (f : Formula) (w : Word) → sat p (negated f) w ≡ not (sat p f w)
  negated_holds p True w = refl
  negated_holds p False w = refl
  negated_holds p (Atom i) w = refl
  negated_holds p (Not f) w = normal_holds p f w ∙ sym (not-not (sat p f w))
  negated_holds p (And f g) w = rw (negated_holds p f w, negated_holds p g w) (not-and (sat p f w) (sat p g w))
  negated_holds p (Or f g) w = rw (negated_holds p f w, negated_holds p g w) (not-or (sat p f w) (sat p g w))
  negated_holds p (Implies f g) w = rw (normal_holds p f w, negated_holds p g w) (not-implies (sat p f w) (sat p g w))
  negated_holds p (Iff f g) w = rw (negated_holds p f w, normal_holds p g w) (not-agree (sat p f w) (sat p g w))
  negated_holds p (Next f) w = weak_next-opposite (λ v. sat p (negated f) v) (λ v. sat p f v) (λ v. negated_holds p f v) w
  negated_holds p (WeakNext f) w = next-opposite (λ v. sat p (negated f) v) (λ v. sat p f v) (λ v. negated_holds p f v) w
  negated_holds p (Until f g) w =
      release-opposite (λ v. sat p (negated f) v) (λ v. sat p (negated g) v) (λ v. sat p f v) (λ v. sat p g v) (λ v. negated_holds p f v) (λ v. negated_holds p g v) w
  negated_holds p (Release f g) w =
      until-opposite (λ v. sat p (negated f) v) (λ v. sat p (negated g) v) (λ v. sat p f v) (λ v. sat p g v) (λ v. negated_holds p f v) (λ v. negated_holds p g v) w
  negated_holds p (Eventually f) w = always-opposite (λ v. sat p (negated f) v) (λ v. sat p f v) (λ v. negated_holds p f v) w
  negated_holds p (Always f) w = eventually-opposite (λ v. sat p (negated f) v) (λ v. sat p f v) (λ v. negated_holds p f v) w
  negated_holds p (Diamond r f) w =
      box-opposite (λ u v. goes p (normal_program r) u v) (λ u v. goes p r u v) (λ v. sat p (negated f) v) (λ v. sat p f v)
      (λ u v. normal_goes p r u v) (λ v. negated_holds p f v) w
  negated_holds p (BoxAll r f) w =
      diamond-opposite (λ u v. goes p (normal_program r) u v) (λ u v. goes p r u v) (λ v. sat p (negated f) v) (λ v. sat p f v)
      (λ u v. normal_goes p r u v) (λ v. negated_holds p f v) w

  -- the path program leads where it did
  pub normal_goes : (p : ℕ) (r : Program) (u v : Word) → goes p (normal_program r) u v ≡ goes p r u v
  normal_goes p (Step f) u v = refl
  normal_goes p (Test f) u v = rw (normal_holds p f u) refl
  normal_goes p (Choice q r) u v = rw (normal_goes p q u v, normal_goes p r u v) refl
  normal_goes p (Seq q r) u v =
      reaches-same (λ m n. goes p (normal_program q) m n) (λ m n. goes p q m n) (λ m. goes p (normal_program r) m v) (λ m. goes p r m v)
      (λ m n. normal_goes p q m n) (λ m. normal_goes p r m v) u
  normal_goes p (Star q) u v =
      turns-same (length u) (λ m n. goes p (normal_program q) m n) (λ m n. goes p q m n) (λ m n. normal_goes p q m n) u v

mutual
  -- the normal form has its shape
  pub normal_is_normal : (f : Formula) → IsNegationNormal (normal f)
  normal_is_normal True = tt
  normal_is_normal False = tt
  normal_is_normal (Atom i) = tt
  normal_is_normal (Not f) = negated_is_normal f
  normal_is_normal (And f g) = (normal_is_normal f, normal_is_normal g)
  normal_is_normal (Or f g) = (normal_is_normal f, normal_is_normal g)
  normal_is_normal (Implies f g) = (negated_is_normal f, normal_is_normal g)
  normal_is_normal (Iff f g) = (normal_is_normal f, normal_is_normal g)
  normal_is_normal (Next f) = normal_is_normal f
  normal_is_normal (WeakNext f) = normal_is_normal f
  normal_is_normal (Until f g) = (normal_is_normal f, normal_is_normal g)
  normal_is_normal (Release f g) = (normal_is_normal f, normal_is_normal g)
  normal_is_normal (Eventually f) = normal_is_normal f
  normal_is_normal (Always f) = normal_is_normal f
  normal_is_normal (Diamond p f) = (program_is_normal p, normal_is_normal f)
  normal_is_normal (BoxAll p f) = (program_is_normal p, normal_is_normal f)

  -- so has the negated form
  pub negated_is_normal : (f : Formula) → IsNegationNormal (negated f)
  negated_is_normal True = tt
  negated_is_normal False = tt
  negated_is_normal (Atom i) = tt
  negated_is_normal (Not f) = normal_is_normal f
  negated_is_normal (And f g) = (negated_is_normal f, negated_is_normal g)
  negated_is_normal (Or f g) = (negated_is_normal f, negated_is_normal g)
  negated_is_normal (Implies f g) = (normal_is_normal f, negated_is_normal g)
  negated_is_normal (Iff f g) = (negated_is_normal f, normal_is_normal g)
  negated_is_normal (Next f) = negated_is_normal f
  negated_is_normal (WeakNext f) = negated_is_normal f
  negated_is_normal (Until f g) = (negated_is_normal f, negated_is_normal g)
  negated_is_normal (Release f g) = (negated_is_normal f, negated_is_normal g)
  negated_is_normal (Eventually f) = negated_is_normal f
  negated_is_normal (Always f) = negated_is_normal f
  negated_is_normal (Diamond p f) = (program_is_normal p, negated_is_normal f)
  negated_is_normal (BoxAll p f) = (program_is_normal p, negated_is_normal f)

  -- the normal form of a path program has its tests in normal form
  pub program_is_normal : (p : Program) → IsNormalProgram (normal_program p)
  program_is_normal (Step f) = tt
  program_is_normal (Test f) = normal_is_normal f
  program_is_normal (Choice p q) = (program_is_normal p, program_is_normal q)
  program_is_normal (Seq p q) = (program_is_normal p, program_is_normal q)
  program_is_normal (Star p) = program_is_normal p

mutual
  -- the normal form of a proper formula is proper
  pub normal_proper : (p : ℕ) (f : Formula) → IsProper p f → IsProper p (normal f)
  normal_proper p True h = tt
  normal_proper p False h = tt
  normal_proper p (Atom i) h = h
  normal_proper p (Not f) h = negated_proper p f h
  normal_proper p (And f g) h = (normal_proper p f h.0, normal_proper p g h.1)
  normal_proper p (Or f g) h = (normal_proper p f h.0, normal_proper p g h.1)
  normal_proper p (Implies f g) h = (negated_proper p f h.0, normal_proper p g h.1)
  normal_proper p (Iff f g) h = (normal_proper p f h.0, normal_proper p g h.1)
  normal_proper p (Next f) h = normal_proper p f h
  normal_proper p (WeakNext f) h = normal_proper p f h
  normal_proper p (Until f g) h = (normal_proper p f h.0, normal_proper p g h.1)
  normal_proper p (Release f g) h = (normal_proper p f h.0, normal_proper p g h.1)
  normal_proper p (Eventually f) h = normal_proper p f h
  normal_proper p (Always f) h = normal_proper p f h
  normal_proper p (Diamond r f) h = (program_proper p r h.0, normal_proper p f h.1)
  normal_proper p (BoxAll r f) h = (program_proper p r h.0, normal_proper p f h.1)

  -- so is the negated form
  pub negated_proper : (p : ℕ) (f : Formula) → IsProper p f → IsProper p (negated f)
  negated_proper p True h = tt
  negated_proper p False h = tt
  negated_proper p (Atom i) h = h
  negated_proper p (Not f) h = normal_proper p f h
  negated_proper p (And f g) h = (negated_proper p f h.0, negated_proper p g h.1)
  negated_proper p (Or f g) h = (negated_proper p f h.0, negated_proper p g h.1)
  negated_proper p (Implies f g) h = (normal_proper p f h.0, negated_proper p g h.1)
  negated_proper p (Iff f g) h = (negated_proper p f h.0, normal_proper p g h.1)
  negated_proper p (Next f) h = negated_proper p f h
  negated_proper p (WeakNext f) h = negated_proper p f h
  negated_proper p (Until f g) h = (negated_proper p f h.0, negated_proper p g h.1)
  negated_proper p (Release f g) h = (negated_proper p f h.0, negated_proper p g h.1)
  negated_proper p (Eventually f) h = negated_proper p f h
  negated_proper p (Always f) h = negated_proper p f h
  negated_proper p (Diamond r f) h = (program_proper p r h.0, negated_proper p f h.1)
  negated_proper p (BoxAll r f) h = (program_proper p r h.0, negated_proper p f h.1)

  -- the normal form of a proper path program is proper
  pub program_proper : (p : ℕ) (r : Program) → IsProperProgram p r → IsProperProgram p (normal_program r)
  program_proper p (Step f) h = h
  program_proper p (Test f) h = normal_proper p f h
  program_proper p (Choice q r) h = (program_proper p q h.0, program_proper p r h.1)
  program_proper p (Seq q r) h = (program_proper p q h.0, program_proper p r h.1)
  program_proper p (Star q) h = program_proper p q h
