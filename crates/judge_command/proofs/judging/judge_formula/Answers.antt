use Rattle.std.proofs.Common.{refl, subst, Ok, Err, length}
use Rattle.forms.specs.Tree.{tree}
use Rattle.forms.specs.Satisfaction.{meets}
use Rattle.command_endings.specs.Endings.{status_of}
use Rattle.command_endings.specs.Worlds.{world}
use Rattle.command_endings.proofs.Performing.{formula-ends}
use Rattle.command_endings.proofs.ReadingLemmas.{reads-none, reads-asked, no-formula, no-answer-at-formula}
use Rattle.command_endings.proofs.WritingLemmas.{writes-none}
use Rattle.judge_command.specs.Judge.{GivesAnswer, formula_refused, judge_task}
use Rattle.judge_command.proofs.JudgeLemmas.{input-ends, answer-put, answer-written, put-early, no-answer-at-trace}
use Rattle.judge_command.proofs.judging.judge_formula.Goals as goal

pub returns-in-Err-clause-performs : goal.returns-in-Err-clause-performs
returns-in-Err-clause-performs g c contents failed =
    formula-ends (judge_task c.args.dialect c.args.text.now) _ _ c.args.dialect c.args.text.now
    (λ fault why files rest. formula_refused why) c.in-Err.ending c.in-Err.ensures.ending (record { input_faults = refl; output_faults = refl; failed = refl }) refl

pub returns-in-Err-clause-writes : goal.returns-in-Err-clause-writes
returns-in-Err-clause-writes g c contents failed =
    writes-none g.O.Sink.IsPut (judge_task c.args.dialect c.args.text.now) _ _ c.args.out.now c.args.out.now (status_of c.in-Err.ending) refl
    (no-answer-at-formula c.args.dialect c.args.text.now c.in-Err.ending c.in-Err.ensures.ending)

pub returns-in-Err-clause-reads : goal.returns-in-Err-clause-reads
returns-in-Err-clause-reads g c contents failed =
    reads-none g.S.Source.faults g.S.Source.IsTaken (judge_task c.args.dialect c.args.text.now) _ c.args.input.now c.args.input.now (status_of c.in-Err.ending) refl
    (λ files told early may. no-formula c.args.dialect c.args.text.now c.in-Err.ending c.in-Err.ensures.ending early may.0 may.1)

pub returns-in-Ok-judge_input-clause-performs : goal.returns-in-Ok-judge_input-clause-performs
returns-in-Ok-judge_input-clause-performs g c contents failed =
    let f = tree c.in-Ok.read.0 in
    answer-put c.args.dialect c.args.text.now f c.in-Ok.ensures.formula
    (world contents failed (g.S.Source.left c.args.input.now) (g.S.Source.faults c.args.input.now) (g.O.Sink.held c.args.out.now) (g.O.Sink.faults c.args.out.now))
    (world contents failed (g.S.Source.left c.judge_input.new.input) (g.S.Source.faults c.judge_input.new.input) (g.O.Sink.held c.put_answer.new.out) (g.O.Sink.faults c.put_answer.new.out))
    refl c.in-Ok-judge_input.answer
    (λ rest told. subst (λ names. GivesAnswer names (λ w. meets (length names) f w) rest (Ok c.in-Ok-judge_input.answer) (g.S.Source.left c.judge_input.new.input)) c.in-Ok.ensures.names (c.in-Ok-judge_input.ensures.answer rest told))
    c.in-Ok-judge_input.ensures.cause c.put_answer.result c.put_answer.ensures.ends

pub returns-in-Ok-judge_input-clause-writes : goal.returns-in-Ok-judge_input-clause-writes
returns-in-Ok-judge_input-clause-writes g c contents failed =
    let f = tree c.in-Ok.read.0 in
    answer-written c.args.dialect c.args.text.now f c.in-Ok.ensures.formula
    (world contents failed (g.S.Source.left c.args.input.now) (g.S.Source.faults c.args.input.now) (g.O.Sink.held c.args.out.now) (g.O.Sink.faults c.args.out.now))
    (world contents failed (g.S.Source.left c.judge_input.new.input) (g.S.Source.faults c.judge_input.new.input) (g.O.Sink.held c.put_answer.new.out) (g.O.Sink.faults c.put_answer.new.out))
    refl c.in-Ok-judge_input.answer
    (λ rest told. subst (λ names. GivesAnswer names (λ w. meets (length names) f w) rest (Ok c.in-Ok-judge_input.answer) (g.S.Source.left c.judge_input.new.input)) c.in-Ok.ensures.names (c.in-Ok-judge_input.ensures.answer rest told))
    c.in-Ok-judge_input.ensures.cause c.put_answer.result c.put_answer.ensures.ends
    g.O.Sink.IsPut c.args.out.now c.put_answer.new.out c.put_answer.ensures.put

pub returns-in-Ok-judge_input-clause-reads : goal.returns-in-Ok-judge_input-clause-reads
returns-in-Ok-judge_input-clause-reads g c contents failed =
    reads-asked g.S.Source.faults g.S.Source.IsTaken (judge_task c.args.dialect c.args.text.now) _ c.args.input.now c.judge_input.new.input (status_of c.put_answer.result) refl
    (tree c.in-Ok.read.0, c.in-Ok.ensures.formula)
    (put-early c.in-Ok-judge_input.answer
    (world contents failed (g.S.Source.left c.args.input.now) (g.S.Source.faults c.args.input.now) (g.O.Sink.held c.args.out.now) (g.O.Sink.faults c.args.out.now))
    (world contents failed (g.S.Source.left c.judge_input.new.input) (g.S.Source.faults c.judge_input.new.input) (g.O.Sink.held c.put_answer.new.out) (g.O.Sink.faults c.put_answer.new.out))
    c.put_answer.result c.put_answer.ensures.ends) c.judge_input.ensures.asked (λ on. cc)

pub returns-clause-performs : goal.returns-clause-performs
returns-clause-performs g c contents failed =
    let f = tree c.in-Ok.read.0 in
    input-ends c.args.dialect c.args.text.now f c.in-Ok.ensures.formula
    (world contents failed (g.S.Source.left c.args.input.now) (g.S.Source.faults c.args.input.now) (g.O.Sink.held c.args.out.now) (g.O.Sink.faults c.args.out.now))
    (world contents failed (g.S.Source.left c.judge_input.new.input) (g.S.Source.faults c.judge_input.new.input) (g.O.Sink.held c.args.out.now) (g.O.Sink.faults c.args.out.now))
    refl c.in-Err-judge_input.ending
    (λ rest told. subst (λ names. GivesAnswer names (λ w. meets (length names) f w) rest (Err c.in-Err-judge_input.ending) (g.S.Source.left c.judge_input.new.input)) c.in-Ok.ensures.names (c.in-Err-judge_input.ensures.answer rest told))
    c.in-Err-judge_input.ensures.cause refl refl

pub returns-clause-writes : goal.returns-clause-writes
returns-clause-writes g c contents failed =
    writes-none g.O.Sink.IsPut (judge_task c.args.dialect c.args.text.now) _ _ c.args.out.now c.args.out.now (status_of c.in-Err-judge_input.ending) refl
    (no-answer-at-trace _ _ c.in-Err-judge_input.ending c.in-Err-judge_input.ensures.cause)

pub returns-clause-reads : goal.returns-clause-reads
returns-clause-reads g c contents failed =
    reads-asked g.S.Source.faults g.S.Source.IsTaken (judge_task c.args.dialect c.args.text.now) _ c.args.input.now c.judge_input.new.input (status_of c.in-Err-judge_input.ending) refl
    (tree c.in-Ok.read.0, c.in-Ok.ensures.formula) c.in-Err-judge_input.ensures.late c.judge_input.ensures.asked (λ on. cc)
