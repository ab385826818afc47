use Rattle.std.proofs.Common.{◌≡◌, ◌+◌, ◌≤◌, ◌<◌, Some, Err, length, refl, sym, ap, ◌∙◌, arith, rules, subst}
use Rattle.form_reader.specs.declared.fault.FormFault.TheVariants as faults
use Rattle.form_reader.specs.Machine.{step, waits}
use Rattle.form_reader.specs.Waiting.{most_waiting}
use Rattle.form_tokens.specs.Found.{lexeme_at}
use Rattle.form_reader.specs.Faults.{token_of}
use Rattle.form_reader.specs.Outcome.{stage_of}
use Rattle.form_reader.specs.Stack.{state_of}
use Rattle.form_reader.specs.Turns.{Turns, stage_at}
use Rattle.form_reader.proofs.Turns.{Blames-turn, Blames-turn-name, turn-deep, length-waits}
use Rattle.form_reader.proofs.reading.read_one.Goals as goal

pub returns-in_err-token-clause-done : goal.returns-in_err-token-clause-done
returns-in_err-token-clause-done c =
    let before = stage_at c.args.names.now.names c.args.count c.args.waiting.now.items c.args.latest in
    let found = lexeme_at c.args.found.now c.args.text.now in
    let is : c.from_residual.result ≡ Err c.in_err-token.field-0.0 = search rules in
    subst (λ r. Turns r c.args.names.now.closed before found (λ next. stage_at c.args.names.now.names (c.args.count + 1) c.args.waiting.now.items next)) (sym is)
    (Blames-turn c.args.names.now.closed before found c.args.count c.in_err-token.field-0.0 refl c.in_err-token.ensures)

pub returns-then-len-gt-MOST_WAITING-clause-done : goal.returns-then-len-gt-MOST_WAITING-clause-done
returns-then-len-gt-MOST_WAITING-clause-done c =
    let before = state_of c.args.waiting.now.items c.args.latest in
    let after = state_of c.step.new.waiting.items c.in-Ok.next in
    let found = lexeme_at c.args.found.now c.args.text.now in
    let stepped : step before (token_of c.args.names.now.names found.1) ≡ Some after = ap (λ t. step before t) (sym c.in_ok-token.ensures.2) ∙ c.in-Ok.ensures in
    let deep : most_waiting < length (waits after) = rw (length-waits c.step.new.waiting.items c.in-Ok.next) (omega arith) in
    turn-deep c.args.names.now.closed (stage_of c.args.names.now.names c.args.count before) found after c.in_ok-token.ensures.0 c.in_ok-token.ensures.1 stepped deep
    ∙ ap (λ at. Err (faults.TooDeep at)) (sym c.place-then-len-gt-MOST_WAITING.ensures)

pub returns-in_err-add_name-clause-done : goal.returns-in_err-add_name-clause-done
returns-in_err-add_name-clause-done c =
    let before = state_of c.args.waiting.now.items c.args.latest in
    let after = state_of c.step.new.waiting.items c.in-Ok.next in
    let found = lexeme_at c.args.found.now c.args.text.now in
    let stepped : step before (token_of c.args.names.now.names found.1) ≡ Some after = ap (λ t. step before t) (sym c.in_ok-token.ensures.2) ∙ c.in-Ok.ensures in
    let shallow : length (waits after) ≤ most_waiting = rw (length-waits c.step.new.waiting.items c.in-Ok.next) (omega arith) in
    let is : c.from_residual-in_err-add_name.result ≡ Err c.in_err-add_name.field-0.0 = search rules in
    subst (λ r. Turns r c.args.names.now.closed (stage_of c.args.names.now.names c.args.count before) found (λ next. stage_at c.add_name.new.names.names (c.args.count + 1) c.step.new.waiting.items next)) (sym is)
    (Blames-turn-name c.args.names.now.closed (stage_of c.args.names.now.names c.args.count before) found after c.in_err-add_name.field-0.0 c.in_ok-token.ensures.0 c.in_ok-token.ensures.1 stepped shallow c.in_err-add_name.ensures.done)
