-- The formulas of the lines before the index are read.
use Rattle.std.proofs.Common.{◌≡◌, List, ◌++◌, map, drop}
use Rattle.forms.specs.Tree.{Formula, tree}
use Rattle.spec_lines.specs.Lines.{shown}
use Rattle.spec_lines.specs.Keywords.{lines_with, values_of}
use Rattle.spec_reader.specs.Formulas.{AreFormulasOf}
use Rattle.spec_reader.specs.Refusal.{forms_fault}
use Rattle.spec_reader.proofs.formulas.read_formulas.Given as goal

abbrev pub invariant-loop-line : goal.invariant-loop-line
invariant-loop-line l = record {
  names : l.names ≡ l.fn.names;
  found : (fs : List Formula) → AreFormulasOf l.dialect l.fn.names (values_of l.keyword (map shown (drop l.line-index l.lines))) fs → AreFormulasOf l.dialect l.fn.names (values_of l.keyword (map shown l.lines)) (map tree l.forms.items ++ fs);
  told : forms_fault l.dialect l.fn.names (lines_with l.keyword (map shown l.lines)) ≡ forms_fault l.dialect l.fn.names (lines_with l.keyword (map shown (drop l.line-index l.lines)));
}
