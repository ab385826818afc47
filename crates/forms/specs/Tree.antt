-- Formulas and path programs as plain trees, and the tree of a `Form` and of a `Path`.
use Rattle.std.specs.Prelude.{ℕ, ◌+◌}
use Rattle.forms.specs.declared.form.Form.{Form}
use Rattle.forms.specs.declared.form.Path.{Path}
use Rattle.forms.specs.declared.form.Form.TheVariants as form
use Rattle.forms.specs.declared.form.Path.TheVariants as path

mutual
  -- a formula, with the variants of `Form`
  pub data Formula : Type 0 where
    True False : Formula
    Atom : (i : ℕ) → Formula
    Not : (f : Formula) → Formula
    And : (f : Formula) → (g : Formula) → Formula
    Or : (f : Formula) → (g : Formula) → Formula
    Implies : (f : Formula) → (g : Formula) → Formula
    Iff : (f : Formula) → (g : Formula) → Formula
    Next : (f : Formula) → Formula
    WeakNext : (f : Formula) → Formula
    Until : (f : Formula) → (g : Formula) → Formula
    Release : (f : Formula) → (g : Formula) → Formula
    Eventually : (f : Formula) → Formula
    Always : (f : Formula) → Formula
    Diamond : (p : Program) → (f : Formula) → Formula
    BoxAll : (p : Program) → (f : Formula) → Formula

  -- a path program, with the variants of `Path`
  pub data Program : Type 0 where
    Step : (f : Formula) → Program
    Test : (f : Formula) → Program
    Choice : (p : Program) → (q : Program) → Program
    Seq : (p : Program) → (q : Program) → Program
    Star : (p : Program) → Program

abbrev mutual
  -- the formula of a `Form`: the same tree without its boxes
  pub tree : Form → Formula
  tree form.True = True
  tree form.False = False
  tree (form.Atom i) = Atom i
  tree (form.Not' r f) = Not (tree f)
  tree (form.And' r f s g) = And (tree f) (tree g)
  tree (form.Or' r f s g) = Or (tree f) (tree g)
  tree (form.Implies' r f s g) = Implies (tree f) (tree g)
  tree (form.Iff' r f s g) = Iff (tree f) (tree g)
  tree (form.Next' r f) = Next (tree f)
  tree (form.WeakNext' r f) = WeakNext (tree f)
  tree (form.Until' r f s g) = Until (tree f) (tree g)
  tree (form.Release' r f s g) = Release (tree f) (tree g)
  tree (form.Eventually' r f) = Eventually (tree f)
  tree (form.Always' r f) = Always (tree f)
  tree (form.Diamond' r p s f) = Diamond (program p) (tree f)
  tree (form.BoxAll' r p s f) = BoxAll (program p) (tree f)

  -- the path program of a `Path`: the same tree without its boxes
  pub program : Path → Program
  program (path.Step' r f) = Step (tree f)
  program (path.Test' r f) = Test (tree f)
  program (path.Choice' r p s q) = Choice (program p) (program q)
  program (path.Seq' r p s q) = Seq (program p) (program q)
  program (path.Star' r p) = Star (program p)

abbrev mutual
  -- how many nodes the tree of a formula has, those of its paths included
  pub nodes : Formula → ℕ
  nodes True = 1
  nodes False = 1
  nodes (Atom i) = 1
  nodes (Not f) = nodes f + 1
  nodes (And f g) = nodes f + nodes g + 1
  nodes (Or f g) = nodes f + nodes g + 1
  nodes (Implies f g) = nodes f + nodes g + 1
  nodes (Iff f g) = nodes f + nodes g + 1
  nodes (Next f) = nodes f + 1
  nodes (WeakNext f) = nodes f + 1
  nodes (Until f g) = nodes f + nodes g + 1
  nodes (Release f g) = nodes f + nodes g + 1
  nodes (Eventually f) = nodes f + 1
  nodes (Always f) = nodes f + 1
  nodes (Diamond p f) = program_nodes p + nodes f + 1
  nodes (BoxAll p f) = program_nodes p + nodes f + 1

  -- how many nodes the tree of a path program has
  pub program_nodes : Program → ℕ
  program_nodes (Step f) = nodes f + 1
  program_nodes (Test f) = nodes f + 1
  program_nodes (Choice p q) = program_nodes p + program_nodes q + 1
  program_nodes (Seq p q) = program_nodes p + program_nodes q + 1
  program_nodes (Star p) = program_nodes p + 1
