use Rattle.std.proofs.Common.{◌≡◌, ◌++◌, ap, ◌∙◌}
use Rattle.forms.specs.Tree.{tree}
use Rattle.form_printer.specs.Printed.{printed}
use Rattle.form_printer.proofs.PrintedBack.{text-reads_back, text-reads_elsewhere}
use Rattle.form_printer.proofs.printing.print_form.Goals as goal

pub returns : goal.returns
returns c =
    let names = c.args.names.now in
    let form = tree c.args.form.now in
    let e : c.print.new.text ≡ printed names.names form = c.in_ok-print.ensures ∙ ap (λ bs. bs ++ printed names.names form) c.new-text.ensures in
    record {
      text = e;
      reads = text-reads_back c.print.new.text names form c.len.ensures.table c.requires.proper e;
      reads_elsewhere = text-reads_elsewhere c.print.new.text names.names form c.len.ensures.table c.requires.proper e;
    }
