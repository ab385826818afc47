-- What a formula of p propositions says of a word, which may be empty, and where a path leads.
use Rattle.std.specs.Prelude.{ℕ, Bool, true, false, ◌&&◌, ◌||◌, not}
use Rattle.forms.specs.Word.{Word, is_empty, same, every_suffix}
use Rattle.forms.specs.Operators.{agree, atom, next, weak_next, until, release, eventually, always}
use Rattle.forms.specs.Paths.{reaches, one_step, star}
use Rattle.forms.specs.Tree.{Formula, Program, True, False, Atom, Not, And, Or, Implies, Iff, Next, WeakNext, Until, Release, Eventually, Always, Diamond, BoxAll, Step, Test, Choice, Seq, Star}

abbrev mutual
  -- the formula holds at the front of the word
  pub sat : ℕ → Formula → Word → Bool
  sat p True w = true
  sat p False w = false
  sat p (Atom i) w = atom p i w
  sat p (Not f) w = not (sat p f w)
  sat p (And f g) w = sat p f w && sat p g w
  sat p (Or f g) w = sat p f w || sat p g w
  sat p (Implies f g) w = not (sat p f w) || sat p g w
  sat p (Iff f g) w = agree (sat p f w) (sat p g w)
  sat p (Next f) w = next (λ v. sat p f v) w
  sat p (WeakNext f) w = weak_next (λ v. sat p f v) w
  sat p (Until f g) w = until (λ v. sat p f v) (λ v. sat p g v) w
  sat p (Release f g) w = release (λ v. sat p f v) (λ v. sat p g v) w
  sat p (Eventually f) w = eventually (λ v. sat p f v) w
  sat p (Always f) w = always (λ v. sat p f v) w
  sat p (Diamond r f) u = reaches (λ m n. goes p r m n) (λ v. sat p f v) u
  sat p (BoxAll r f) u = every_suffix (λ v. not (goes p r u v) || sat p f v) u

  -- the path leads from u to v
  pub goes : ℕ → Program → Word → Word → Bool
  goes p (Step f) u v = one_step (λ w. sat p f w) u v
  goes p (Test f) u v = same u v && sat p f u
  goes p (Choice q r) u v = goes p q u v || goes p r u v
  goes p (Seq q r) u v = reaches (λ m n. goes p q m n) (λ m. goes p r m v) u
  goes p (Star q) u v = star (λ m n. goes p q m n) u v

-- the word is a trace of the formula: it isn't empty, and the formula holds at its front
abbrev pub meets : ℕ → Formula → Word → Bool
meets p f w = not (is_empty w) && sat p f w
