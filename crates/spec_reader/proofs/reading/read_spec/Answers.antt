-- What was read is the only specification, and its formulas are proper.
use Rattle.spec_reader.proofs.SpecLemmas.{complete, one_specification}
use Rattle.spec_reader.proofs.AnswerLemmas.{Gives-one, result-proper}
use Rattle.spec_reader.proofs.FaultKinds.{result-told}
use Rattle.spec_reader.proofs.reading.read_spec.Goals as goal

pub returns-clause-one : goal.returns-clause-one
returns-clause-one c = one_specification c.args.text.now

pub returns-clause-only : goal.returns-clause-only
returns-clause-only c = λ spec h. Gives-one c.args.text.now c.read_text.result spec c.read_text.ensures.found c.read_text.ensures.told h

pub returns-clause-complete : goal.returns-clause-complete
returns-clause-complete c = complete c.args.text.now

pub returns-clause-proper : goal.returns-clause-proper
returns-clause-proper c = result-proper c.args.text.now c.read_text.result c.read_text.ensures.found

pub returns-clause-formula : goal.returns-clause-formula
returns-clause-formula c = result-told c.args.text.now c.read_text.result c.read_text.ensures.told
