-- Diagrams by where they are 1.
use Rattle.std.specs.Prelude.{◌≡◌, ◌<◌, ◌&&◌, ◌||◌, Bool, true, false, not}
use Rattle.forms.specs.Operators.{agree}
use Rattle.forms.specs.Tree.{Formula, True, False, Atom, Not, And, Or, Implies, Iff}
use Rattle.diagrams.specs.declared.top.Id.{Id}
use Rattle.diagrams.specs.Tree.{Assignment}
use Rattle.diagrams.specs.Eval.{Diagrams, eval, is_one}
use Rattle.diagrams.specs.Live.{IsLive}

-- the id is live, its terminals are 0 and 1, and it is 1 exactly where f is true
pub record IsOneWhere (s : Diagrams) (id : Id) (f : Assignment → Bool) : Type 0 where
  pub live : IsLive s id
  pub truth : (a : Assignment) → eval s id a < 2
  pub value : (a : Assignment) → is_one s id a ≡ f a

-- what a propositional formula says of the propositions that are true
abbrev pub truth_of : Formula → Assignment → Bool
truth_of True a = true
truth_of False a = false
truth_of (Atom i) a = a i
truth_of (Not f) a = not (truth_of f a)
truth_of (And f g) a = truth_of f a && truth_of g a
truth_of (Or f g) a = truth_of f a || truth_of g a
truth_of (Implies f g) a = not (truth_of f a) || truth_of g a
truth_of (Iff f g) a = agree (truth_of f a) (truth_of g a)
truth_of _ a = false
