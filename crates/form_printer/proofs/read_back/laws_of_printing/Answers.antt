use Rattle.form_printer.proofs.PrintedBack.{printed-reads_back}
use Rattle.form_printer.proofs.Numbered.{AreNumberedIn-itself}
use Rattle.form_printer.proofs.read_back.laws_of_printing.Goals as goal

pub returns : goal.returns
returns c = record {
  printed = printed-reads_back;
  numbered = AreNumberedIn-itself;
}
