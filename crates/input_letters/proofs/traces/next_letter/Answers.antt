use Rattle.std.proofs.Common.{◌∙◌, ap, Ok}
use Rattle.input_letters.proofs.LetterLemmas.{letter-found, letter-refused, end-found, letter-stopped}
use Rattle.input_letters.proofs.traces.next_letter.Goals as goal

pub returns-in-Ok-clause-tells : goal.returns-in-Ok-clause-tells
returns-in-Ok-clause-tells g c =
    letter-found c.args.names.now.names c.args.line c.args.reader.now c.next.new.self _ _ c.next.result c.next.ensures.lines c.next.ensures.finds (c.in-Ok-Line.is ∙ ap Ok c.in-Ok-Line.field-0-is) c.next.ensures.reads_ahead
    c.line.result.now c.in-Ok.letter c.line.ensures c.in-Ok.ensures.letter

pub returns-in-Err-read_event-clause-tells : goal.returns-in-Err-read_event-clause-tells
returns-in-Err-read_event-clause-tells g c =
    letter-refused c.args.names.now.names c.args.line c.args.reader.now c.next.new.self _ _ c.next.result c.next.ensures.lines c.next.ensures.finds (c.in-Ok-Line.is ∙ ap Ok c.in-Ok-Line.field-0-is)
    c.line.result.now c.in-Err-read_event.fault c.line.ensures c.in-Err-read_event.ensures.place

pub returns-in-Ok-End-clause-tells : goal.returns-in-Ok-End-clause-tells
returns-in-Ok-End-clause-tells g c =
    end-found c.args.names.now.names c.args.line c.args.reader.now c.next.new.self _ _ c.next.result c.next.ensures.lines c.next.ensures.finds (c.in-Ok-End.is ∙ ap Ok c.in-Ok-End.field-0-is)

pub returns-in-Err-clause-tells : goal.returns-in-Err-clause-tells
returns-in-Err-clause-tells g c =
    letter-stopped c.args.names.now.names c.args.line c.args.reader.now c.next.new.self _ _ c.next.result c.next.ensures.lines c.next.ensures.finds c.next.ensures.no_line c.in-Err.fault c.in-Err.is c.stop.result c.stop.ensures.ending
