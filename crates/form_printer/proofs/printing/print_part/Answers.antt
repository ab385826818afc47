use Rattle.std.proofs.Common.{length}
use Rattle.forms.specs.Tree.{tree}
use Rattle.form_printer.proofs.PartsFound.{IsItem-proper, IsItem-printed}
use Rattle.form_printer.proofs.printing.print_part.Goals as goal

pub print_form-requires : goal.print_form-requires
print_form-requires c =
    record { proper = IsItem-proper (length c.args.names.now.names) (tree c.args.form.now) c.args.part (tree c.in-Ok.found.now) c.requires.proper c.in-Ok.ensures }

pub returns : goal.returns
returns c = record {
  text = IsItem-printed c.args.names.now.names (tree c.args.form.now) c.args.part (tree c.in-Ok.found.now) c.print_form.result c.requires.part.0 c.in-Ok.ensures c.print_form.ensures.text;
}
