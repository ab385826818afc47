-- What is kept of a formula of p propositions before the word u, all of whose letters were judged.
use Rattle.std.specs.Prelude.{ℕ, ◌-◌, List, [], ◌∷◌, ◌++◌, Bool, true, false, ◌&&◌, ◌||◌, not}
use Rattle.forms.specs.Word.{Word, Claim, is_empty}
use Rattle.forms.specs.Paths.{reaches, reaches_further, star}
use Rattle.forms.specs.Satisfaction.{sat, goes}
use Rattle.forms.specs.Tree as tree
use Rattle.forms.specs.Tree.{Formula, Program}
use Rattle.trace_meaning.specs.declared.operator.Unary.TheVariants as unary
use Rattle.trace_meaning.specs.declared.operator.Binary.TheVariants as binary
use Rattle.trace_meaning.specs.State.{State, PathState, Fixed, Atom, Unary, Binary, Diamond, Step, Test, Choice, Seq, Star}

-- the claim at each letter of b, the word u standing after b
abbrev pub column_of : Claim → Word → Word → List Bool
column_of f [] u = []
column_of f (a ∷ b) u = f (a ∷ (b ++ u)) ∷ column_of f b u

-- the claim at the position after each letter of b
abbrev pub next_column_of : Claim → Word → Word → List Bool
next_column_of f [] u = []
next_column_of f (a ∷ b) u = f (b ++ u) ∷ next_column_of f b u

abbrev mutual
  -- what is kept of a formula, u being the word that was read
  pub kept : ℕ → Formula → Word → State
  kept p tree.True u = Fixed true
  kept p tree.False u = Fixed false
  kept p (tree.Atom i) u = Atom (p - 1 - i)
  kept p (tree.Not f) u = Unary unary.Not (kept p f u) (not (sat p f u))
  kept p (tree.And f g) u = Binary binary.And (kept p f u) (kept p g u) (sat p (tree.And f g) u)
  kept p (tree.Or f g) u = Binary binary.Or (kept p f u) (kept p g u) (sat p (tree.Or f g) u)
  kept p (tree.Implies f g) u = Binary binary.Implies (kept p f u) (kept p g u) (sat p (tree.Implies f g) u)
  kept p (tree.Iff f g) u = Binary binary.Iff (kept p f u) (kept p g u) (sat p (tree.Iff f g) u)
  kept p (tree.Next f) u = Unary unary.Next (kept p f u) (not (is_empty u) && sat p f u)
  kept p (tree.WeakNext f) u = Unary unary.WeakNext (kept p f u) (is_empty u || sat p f u)
  kept p (tree.Until f g) u = Binary binary.Until (kept p f u) (kept p g u) (sat p (tree.Until f g) u)
  kept p (tree.Release f g) u = Binary binary.Release (kept p f u) (kept p g u) (sat p (tree.Release f g) u)
  kept p (tree.Eventually f) u = Unary unary.Eventually (kept p f u) (sat p (tree.Eventually f) u)
  kept p (tree.Always f) u = Unary unary.Always (kept p f u) (sat p (tree.Always f) u)
  kept p (tree.Diamond r f) u = Diamond (path_kept p r (λ v. sat p f v) [] u) (kept p f u) (sat p f u)
  kept p (tree.BoxAll r f) u =
      Unary unary.Not
      (Diamond (path_kept p r (λ v. not (sat p f v)) [] u) (Unary unary.Not (kept p f u) (not (sat p f u))) (not (sat p f u)))
      (sat p (tree.BoxAll r f) u)

  -- what is kept of a path that is to lead to a word with k; its formulas have read the letters b already
  pub path_kept : ℕ → Program → Claim → Word → Word → PathState
  path_kept p (tree.Step f) k b u = Step (kept p f (b ++ u)) (column_of (λ v. sat p f v) b u)
  path_kept p (tree.Test f) k b u = Test (kept p f (b ++ u)) (column_of (λ v. sat p f v) b u)
  path_kept p (tree.Choice q r) k b u = Choice (path_kept p q k b u) (path_kept p r k b u)
  path_kept p (tree.Seq q r) k b u =
      Seq (path_kept p q (reaches (goes p r) k) b u) (path_kept p r k b u)
      (record { further = reaches_further (goes p r) k u; stays = goes p r u u })
  path_kept p (tree.Star q) k b u =
      Star (path_kept p q (reaches (star (goes p q)) k) b u) (reaches_further (star (goes p q)) k u)
