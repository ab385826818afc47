use Rattle.spec_reader.proofs.EventRuns.{cuts-lines-each, cuts-lines-one}
use Rattle.spec_reader.proofs.events.laws_of_event_pieces.Goals as goal

pub returns-clause-each : goal.returns-clause-each
returns-clause-each c = cuts-lines-each

pub returns-clause-one : goal.returns-clause-one
returns-clause-one c = cuts-lines-one
