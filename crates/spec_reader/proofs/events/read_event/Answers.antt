use Rattle.std.proofs.Common.{◌≡◌, ◌+◌, get_or, false, true, Ok, Err, sym, ap, ◌∙◌, rules}
use Rattle.std.specs.Option.{ok_or}
use Rattle.std.proofs.lemmas.Result.{err_from_is_err_and}
use Rattle.form_tokens.specs.Words.{is_blank, begins_word}
use Rattle.spec_reader.specs.declared.events.EventFault.TheVariants.{BadByte, UnknownName}
use Rattle.spec_reader.specs.Event.{pieces}
use Rattle.spec_reader.proofs.Outcome.{outcome, Answer, Answer-outcome}
use Rattle.spec_reader.proofs.Pieces.{pieces_at, rest_of}
use Rattle.spec_reader.proofs.Steps.{after, outcome-stray, outcome-word, after-long, after-short, outcome-end}
use Rattle.spec_reader.proofs.events.read_event.Goals as goal
use Rattle.spec_reader.proofs.events.read_event.Goals.{After-ok_or}

-- at a word, the outcome of the line is what follows from the word
line_outcome : (c : After-ok_or) → outcome c.args.names.now.names c.args.mode 0 (pieces c.args.line.now) ≡ after c.args.names.now.names c.args.mode (c.loop-start.start + 1) c.word_length-run.result (pieces_at c.args.line.now (c.loop-start.start + c.word_length-run.result)) c.ok_or.result
line_outcome c =
    let names = c.args.names.now.names in
    let line = c.args.line.now in
    let start = c.loop-start.start in
    let run = c.word_length-run.result in
    let blank : is_blank (get_or (rest_of line start) 0 0) ≡ false = cc in
    let begins : begins_word (get_or (rest_of line start) 0 0) ≡ true = cc in
    c.loop-start.invariant.same
    ∙ outcome-word names c.args.mode c.loop-start.letter line start run c.min.result c.loop-start-test.true blank begins c.word_length-run.ensures.value c.min.ensures
    ∙ ap (λ o. after names c.args.mode (start + 1) run (pieces_at line (start + run)) (ok_or o (UnknownName (start + 1)))) (sym c.with_word.ensures)
    ∙ ap (λ r. after names c.args.mode (start + 1) run (pieces_at line (start + run)) r) (sym c.ok_or.ensures.value)

pub returns-then-not-begins_word : goal.returns-then-not-begins_word
returns-then-not-begins_word c =
    let names = c.args.names.now.names in
    let line = c.args.line.now in
    let start = c.loop-start.start in
    let blank : is_blank (get_or (rest_of line start) 0 0) ≡ false = cc in
    let begins : begins_word (get_or (rest_of line start) 0 0) ≡ false = cc in
    let a : Answer names c.args.mode line (Err (BadByte (start + 1))) =
    Answer-outcome _ _ _ _ (c.loop-start.invariant.same ∙ outcome-stray names c.args.mode c.loop-start.letter line start c.loop-start-test.true blank begins) in
    record { letter = a.letter; place = a.place; only = a.only }

pub returns-in_err-letter : goal.returns-in_err-letter
returns-in_err-letter c =
    let names = c.args.names.now.names in
    let line = c.args.line.now in
    let start = c.loop-start.start in
    let run = c.word_length-run.result in
    let p = err_from_is_err_and c.from_residual.result c.from_residual.ensures.1 in
    let same : c.from_residual.result ≡ Err c.in_err-letter.field-0.0 = p.1 ∙ ap (λ x. Err x) p.2 in
    let a : Answer names c.args.mode line c.from_residual.result =
    Answer-outcome _ _ _ _ (
    line_outcome (goal.at.returns-in_err-letter c).After-ok_or
    ∙ ap (λ r. after names c.args.mode (start + 1) run (pieces_at line (start + run)) r) c.in_err-letter.was
    ∙ sym same) in
    record { letter = a.letter; place = a.place; only = a.only }

pub returns-then-run-gt-LONGEST_WORD : goal.returns-then-run-gt-LONGEST_WORD
returns-then-run-gt-LONGEST_WORD c =
    let names = c.args.names.now.names in
    let line = c.args.line.now in
    let start = c.loop-start.start in
    let run = c.word_length-run.result in
    let a : Answer names c.args.mode line (Err (BadByte (start + 1 + 64))) =
    Answer-outcome _ _ _ _ (
    line_outcome (goal.at.returns-then-run-gt-LONGEST_WORD c).After-ok_or
    ∙ ap (λ r. after names c.args.mode (start + 1) run (pieces_at line (start + run)) r) c.in_ok-letter.was
    ∙ after-long names c.args.mode c.in_ok-letter.letter (start + 1) run (pieces_at line (start + run)) c.if-run-gt-LONGEST_WORD.true) in
    record { letter = a.letter; place = a.place; only = a.only }

pub loop-start-preserved : goal.loop-start-preserved
loop-start-preserved c =
    let names = c.args.names.now.names in
    let line = c.args.line.now in
    let start = c.loop-start.start in
    let run = c.word_length-run.result in
    record {
      within = search rules;
      same = line_outcome (goal.at.loop-start-preserved c).After-ok_or
          ∙ ap (λ r. after names c.args.mode (start + 1) run (pieces_at line (start + run)) r) c.in_ok-letter.was
          ∙ after-short names c.args.mode c.in_ok-letter.letter (start + 1) run (pieces_at line (start + run)) c.if-run-gt-LONGEST_WORD.false;
    }

pub returns : goal.returns
returns c =
    let a : Answer c.args.names.now.names c.args.mode c.args.line.now (Ok c.loop-start.letter) =
    Answer-outcome _ _ _ _ (c.loop-start.invariant.same ∙ outcome-end c.args.names.now.names c.args.mode c.loop-start.letter c.args.line.now c.loop-start.start c.loop-start-test.false) in
    record { letter = a.letter; place = a.place; only = a.only }
