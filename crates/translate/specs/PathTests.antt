-- Automata for the tests of a path.
use Rattle.std.specs.Prelude.{◌≡◌, ◌<◌, List, [], ◌∷◌, ◌++◌}
use Rattle.forms.specs.Tree.{Formula, tree}
use Rattle.diagrams.specs.Eval.{Diagrams}
use Rattle.automata.specs.declared.meant.Meant.{Meant}
use Rattle.automata.specs.Table.{Table, size_of, IsMeant}

-- the automaton stands for its form, and the location that it begins in is one of its own
pub record IsTest (s : Diagrams) (t : Meant) : Type 0 where
  pub first : t.automaton.first < size_of t.automaton
  pub meant : IsMeant s t.automaton (tree t.form)

-- at the end of the new list stands the automaton with a form of the formula
pub record IsAppended (f : Formula) (a : Table) (old new : List Meant) : Type 0 where
  pub test : Meant
  pub appended : new ≡ old ++ test ∷ []
  pub automaton : test.automaton ≡ a
  pub form : tree test.form ≡ f
