use Rattle.std.proofs.Common.{◌≡◌, Err, rules, sym, subst, length, arith}
use Rattle.forms.specs.Tree.{tree}
use Rattle.forms.specs.Satisfaction.{meets}
use Rattle.judge_command.specs.Judge.{GivesAnswer}
use Rattle.judge_command.proofs.JudgeLemmas.{gives-ending, no-letters}
use Rattle.judge_command.proofs.judging.judge_input.Goals as goal

pub returns-in_err-letters-clause-answer : goal.returns-in_err-letters-clause-answer
returns-in_err-letters-clause-answer g c rest told =
    let is : c.from_residual.result ≡ Err c.in_err-letters.field-0.0 = search rules in
    subst (λ r. GivesAnswer c.args.names.now.names (λ w. meets (length c.args.names.now.names) (tree c.args.form.now) w) rest r (g.S.Source.left c.read_trace.new.input)) (sym is)
    (gives-ending c.args.names.now.names (λ w. meets (length c.args.names.now.names) (tree c.args.form.now) w) rest c.in_err-letters.field-0.0 _ (c.in_err-letters.ensures.trace rest told))

pub returns-then-len-eq0-clause-answer : goal.returns-then-len-eq0-clause-answer
returns-then-len-eq0-clause-answer g c rest told =
    no-letters c.args.names.now.names rest c.in_ok-letters.letters (g.S.Source.left c.read_trace.new.input) (omega arith) (c.in_ok-letters.ensures.trace rest told)
