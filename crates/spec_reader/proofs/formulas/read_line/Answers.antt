-- The place of a fault fits, and the table stays.
use Rattle.std.proofs.Common.{arith}
use Rattle.forms.specs.Tree.{tree}
use Rattle.spec_reader.proofs.FaultPlaces.{Blames-place, closed-same}
use Rattle.spec_reader.proofs.formulas.read_line.Goals as goal

pub moved-requires : goal.moved-requires
moved-requires c = omega (arith, Blames-place c.in-Err.fault c.args.dialect c.args.names.now c.args.line.now.value.now c.in-Err.ensures.place)

pub returns-in-Ok-clause-names : goal.returns-in-Ok-clause-names
returns-in-Ok-clause-names c =
    closed-same c.args.dialect c.args.names.now c.read_form.new.names c.args.line.now.value.now c.requires (c.in-Ok.ensures.complete.1 (tree c.in-Ok.form, c.in-Ok.ensures.found)) c.in-Ok.ensures.names c.in-Ok.ensures.closed
