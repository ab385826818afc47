use Rattle.std.proofs.Common.{◌≡◌, ◌≢◌, refl, sym, subst, ◌∙◌, ap, arith}
use Rattle.forms.specs.Tree.{tree}
use Rattle.command_endings.specs.declared.endings.Ending.TheVariants.{Positive}
use Rattle.command_endings.specs.Endings.{status_of}
use Rattle.command_endings.specs.Worlds.{Contents, world}
use Rattle.command_endings.proofs.Performing.{formula-ends, output-put, no-memory, far-none, goal-none}
use Rattle.command_endings.proofs.WritingLemmas.{writes-none, writes-reply, put-served}
use Rattle.command_endings.proofs.ReadingLemmas.{no-answer-at-formula}
use Rattle.forms_command.specs.Showing.{FormsAnswers, formula_refused, formula_shown, form_lines, forms_task}
use Rattle.forms_command.proofs.ShowingLemmas.{form_lines-some}
use Rattle.forms_command.proofs.showing.show_formula.Goals as goal

pub returns-in-Err-clause-performs : goal.returns-in-Err-clause-performs
returns-in-Err-clause-performs g c contents failed left reads =
    formula-ends (forms_task c.args.dialect c.args.text.now) _ _ c.args.dialect c.args.text.now
    (λ fault why files rest. formula_refused why) c.in-Err.ending c.in-Err.ensures.ending
    (record { input_faults = refl; output_faults = refl; failed = refl }) refl

pub returns-in-Err-clause-writes : goal.returns-in-Err-clause-writes
returns-in-Err-clause-writes g c contents failed left reads =
    writes-none g.O.Sink.IsPut (forms_task c.args.dialect c.args.text.now) _ _ c.args.out.now c.args.out.now (status_of c.in-Err.ending) refl
    (no-answer-at-formula c.args.dialect c.args.text.now c.in-Err.ending c.in-Err.ensures.ending)

pub returns-in-Ok-shown_text-clause-performs : goal.returns-in-Ok-shown_text-clause-performs
returns-in-Ok-shown_text-clause-performs g c contents failed left reads =
    let f = tree c.in-Ok.read.0 in
    let due = subst (λ text. FormsAnswers c.args.dialect c.args.text.now (record { output = text; ending = Positive }))
    (sym (c.bytes.ensures ∙ c.in-Ok-shown_text.ensures ∙ ap (λ names. form_lines names f) c.in-Ok.ensures.names))
    (formula_shown f c.in-Ok.ensures.formula) in
    output-put (forms_task c.args.dialect c.args.text.now) _ _ c.bytes.result.now Positive (λ e. cc) refl (λ files rest tells. due) refl refl
    (record { whole = λ on. cc; to_goal = λ on. cc }) (λ files rest tells known on. cc) c.put_all.result c.put_all.ensures.ends

pub returns-in-Ok-shown_text-clause-writes : goal.returns-in-Ok-shown_text-clause-writes
returns-in-Ok-shown_text-clause-writes g c contents failed left reads =
    let f = tree c.in-Ok.read.0 in
    let text = c.bytes.ensures ∙ c.in-Ok-shown_text.ensures ∙ ap (λ names. form_lines names f) c.in-Ok.ensures.names in
    let due = subst (λ text. FormsAnswers c.args.dialect c.args.text.now (record { output = text; ending = Positive })) (sym text) (formula_shown f c.in-Ok.ensures.formula) in
    let before = world contents failed left reads (g.O.Sink.held c.args.out.now) (g.O.Sink.faults c.args.out.now) in
    let after = world contents failed left reads (g.O.Sink.held c.put_all.new.out) (g.O.Sink.faults c.put_all.new.out) in
    writes-reply g.O.Sink.IsPut (forms_task c.args.dialect c.args.text.now) before after c.args.out.now c.put_all.new.out c.bytes.result.now Positive
    (status_of c.put_all.result) refl (λ files rest tells. due) (λ e. form_lines-some _ f (sym text ∙ e))
    (put-served c.bytes.result.now Positive before after c.put_all.result (λ e. omega (arith, e)) c.put_all.ensures.ends) refl c.put_all.ensures.put

pub returns-clause-performs : goal.returns-clause-performs
returns-clause-performs g c contents failed left reads =
    no-memory (forms_task c.args.dialect c.args.text.now) _ _ (record { input_faults = refl; output_faults = refl; failed = refl })

pub returns-clause-writes : goal.returns-clause-writes
returns-clause-writes g c contents failed left reads =
    writes-none g.O.Sink.IsPut (forms_task c.args.dialect c.args.text.now) _ _ c.args.out.now c.args.out.now 8 refl (λ few. omega (arith, few))
