use Rattle.form_tokens.proofs.Runs.{cuts-each, cuts-one}
use Rattle.form_tokens.proofs.spelling.laws_of_pieces.Goals as goal

pub returns-clause-each : goal.returns-clause-each
returns-clause-each c = cuts-each

pub returns-clause-one : goal.returns-clause-one
returns-clause-one c = cuts-one
