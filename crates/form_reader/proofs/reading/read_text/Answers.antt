use Rattle.std.proofs.Common.{◌≡◌, ◌+◌, ◌∷◌, zero, sym, ap, ◌∙◌, arith, drop, rules, subst, Err, IfErr}
use Rattle.form_tokens.specs.Spelling.{pieces, lexemes}
use Rattle.form_reader.specs.Faults.{names_with}
use Rattle.form_tokens.specs.Found.{lexeme_at}
use Rattle.form_reader.specs.Machine.{finish}
use Rattle.form_reader.specs.Outcome.{stage_of, outcome}
use Rattle.form_reader.specs.Stack.{state_of}
use Rattle.form_reader.specs.Reading.{KeepsNames}
use Rattle.form_reader.proofs.NamesAfter.{names_after-step, drop-step, turn-Ok-names, KeepsNames-turn, KeepsNames-Answers, names_after-end, OnOk-always, outcome-step}
use Rattle.form_reader.proofs.reading.read_text.Goals as goal

pub returns-in_err-latest-clause-left : goal.returns-in_err-latest-clause-left
returns-in_err-latest-clause-left c =
    let stage = stage_of c.loop-found.names.names c.loop-found.count (state_of c.loop-found.waiting.items c.loop-found.latest) in
    let is : c.from_residual.result ≡ Err c.in_err-latest.field-0.0 = search rules in
    subst (λ r. IfErr r (λ e. KeepsNames e c.args.dialect c.args.names.now c.args.text.now c.read_one.new.names.names)) (sym is)
    (KeepsNames-turn c.loop-found.names.closed stage c.args.dialect c.args.names.now c.args.text.now c.loop-found.count (lexeme_at c.in-Some.found c.args.text.now) _ c.read_one.new.names.names c.in_err-latest.field-0.0
    (c.loop-found.invariant.rest ∙ c.in-Some.ensures.value)
    (c.loop-found.invariant.names ∙ sym c.in_err-latest.ensures.kept)
    (c.loop-found.invariant.same ∙ ap (λ ks. outcome c.args.names.now.closed stage ks) c.in-Some.ensures.value)
    c.in_err-latest.ensures.done)

pub loop-found-preserved : goal.loop-found-preserved
loop-found-preserved c =
    let text = c.args.text.now in
    let ls = lexemes c.args.dialect text in
    let l = lexeme_at c.in-Some.found text in
    let rest = pieces c.args.dialect zero c.in-Some.found.is_word (c.in-Some.found.to + 1) (drop c.in-Some.found.to text) in
    let place : drop c.loop-found.count ls ≡ l ∷ rest = c.loop-found.invariant.rest ∙ c.in-Some.ensures.value in
    let stage = stage_of c.loop-found.names.names c.loop-found.count (state_of c.loop-found.waiting.items c.loop-found.latest) in
    let next = stage_of c.read_one.new.names.names (c.loop-found.count + 1) (state_of c.read_one.new.waiting.items c.in_ok-latest.latest) in
    record {
      within = c.in-Some.ensures.within.1;
      counted = omega (arith, c.loop-found.invariant.counted, c.in-Some.ensures.later);
      closed = c.in_ok-latest.ensures.closed ∙ c.loop-found.invariant.closed;
      rest = drop-step c.loop-found.count ls rest l place;
      names = names_after-step c.loop-found.count c.args.names.now.names ls rest l place
          ∙ ap (λ ns. names_with ns l.1) c.loop-found.invariant.names
          ∙ sym (turn-Ok-names c.loop-found.names.closed stage next l c.in_ok-latest.ensures.done);
      same = c.loop-found.invariant.same ∙ ap (λ ks. outcome c.args.names.now.closed stage ks) c.in-Some.ensures.value
          ∙ outcome-step c.args.names.now.closed c.loop-found.names.closed stage next l rest c.loop-found.invariant.closed c.in_ok-latest.ensures.done;
    }

pub returns-clause-names : goal.returns-clause-names
returns-clause-names c =
    OnOk-always c.end.result (names_after-end c.args.dialect c.args.names.now.names c.args.text.now c.loop-found.count c.loop-found.names.names (c.loop-found.invariant.rest ∙ c.in_default.ensures.value) c.loop-found.invariant.names)

pub returns-clause-left : goal.returns-clause-left
returns-clause-left c =
    let stage = stage_of c.loop-found.names.names c.loop-found.count (state_of c.loop-found.waiting.items c.loop-found.latest) in
    KeepsNames-Answers c.end.result (finish (state_of c.loop-found.waiting.items c.loop-found.latest)) c.args.dialect c.args.names.now c.args.text.now c.loop-found.count c.loop-found.names.names (c.loop-found.invariant.rest ∙ c.in_default.ensures.value) c.loop-found.invariant.names (c.loop-found.invariant.same ∙ ap (λ ks. outcome c.args.names.now.closed stage ks) c.in_default.ensures.value) c.end.ensures
