use Rattle.form_tokens.specs.Spelling.{lexemes}
use Rattle.form_reader.specs.Reading.{tokens_of}
use Rattle.form_reader.proofs.Complete.{one_tree}
use Rattle.form_reader.proofs.Laws.{text-admitted}
use Rattle.form_reader.proofs.Outcomes.{Answers-only, first_fault-IsRead}
use Rattle.form_reader.proofs.Texts.{Answers-found, Answers-place, Answers-proper, Answers-small, names-kept}
use Rattle.form_reader.proofs.reading.read_form.Goals as goal

pub returns-clause-found : goal.returns-clause-found
returns-clause-found c = Answers-found c.read_text.result c.args.dialect c.args.names.now c.args.text.now c.read_text.ensures.form

pub returns-clause-only : goal.returns-clause-only
returns-clause-only c = λ f h. Answers-only c.read_text.result c.args.names.now.closed c.args.names.now.names (lexemes c.args.dialect c.args.text.now) f c.read_text.ensures.form h

pub returns-clause-place : goal.returns-clause-place
returns-clause-place c = Answers-place c.read_text.result c.args.dialect c.args.names.now c.args.text.now c.read_text.ensures.form

pub returns-clause-table : goal.returns-clause-table
returns-clause-table c = text-admitted (tokens_of c.args.dialect c.args.names.now c.args.text.now)

pub returns-clause-one_tree : goal.returns-clause-one_tree
returns-clause-one_tree c = λ f g h k. one_tree (tokens_of c.args.dialect c.args.names.now c.args.text.now) f g h k

pub returns-clause-kept : goal.returns-clause-kept
returns-clause-kept c = names-kept c.read_text.result c.args.dialect c.args.names.now c.args.text.now c.read_text.new.names.names c.read_text.ensures.names c.read_text.ensures.left

pub returns-clause-proper : goal.returns-clause-proper
returns-clause-proper c =
    Answers-proper c.read_text.result c.args.dialect c.args.names.now c.args.text.now c.read_text.new.names.names (Answers-found c.read_text.result c.args.dialect c.args.names.now c.args.text.now c.read_text.ensures.form) c.read_text.ensures.names

pub returns-clause-small : goal.returns-clause-small
returns-clause-small c =
    Answers-small c.read_text.result c.args.dialect c.args.names.now c.args.text.now (Answers-found c.read_text.result c.args.dialect c.args.names.now c.args.text.now c.read_text.ensures.form)

pub returns-clause-complete : goal.returns-clause-complete
returns-clause-complete c = first_fault-IsRead c.args.names.now.closed c.args.names.now.names (lexemes c.args.dialect c.args.text.now)
