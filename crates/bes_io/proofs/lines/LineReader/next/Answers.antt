use Rattle.bes_io.proofs.HeldFacts.{no_lf-held}
use Rattle.bes_io.proofs.NextLines.{next-line}
use Rattle.bes_io.proofs.lines.LineReader.next.Goals as goal

pub returns-clause-lines : goal.returns-clause-lines
returns-clause-lines g c bytes all = next-line c.args.self.now c.find_next.new.self bytes c.find_next.result _ (c.find_next.ensures.finds bytes all)

pub returns-clause-no_line : goal.returns-clause-no_line
returns-clause-no_line g c = no_lf-held c.args.self.now c.find_next.new.self c.find_next.result c.find_next.ensures.held
