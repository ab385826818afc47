use Rattle.std.proofs.Common.{◌≡◌, ◌<◌, ◌∙◌, refl, sym, subst, arith}
use Rattle.forms.specs.Tree.{tree}
use Rattle.class_limit.specs.Limits.{most_classes}
use Rattle.class_limit.proofs.LimitLemmas.{limit-ends, no-answer-at-limit}
use Rattle.command_endings.specs.declared.endings.Concern.TheVariants as concern
use Rattle.command_endings.specs.declared.endings.Ending.TheVariants.{Positive}
use Rattle.command_endings.specs.Endings.{status_of}
use Rattle.command_endings.specs.Formulas.{names_of}
use Rattle.command_endings.specs.Tasks.{Performs}
use Rattle.command_endings.specs.Worlds.{world}
use Rattle.command_endings.proofs.Performing.{formula-ends, output-put}
use Rattle.command_endings.proofs.ReadingLemmas.{no-answer-at-formula}
use Rattle.command_endings.proofs.WritingLemmas.{writes-none, writes-reply, put-served}
use Rattle.translate_command.specs.Translation.{TranslateAnswers, formula_refused, too_many, translated, IsTranslation, translate_task}
use Rattle.translate_command.proofs.TranslationLemmas.{text-some}
use Rattle.translate_command.proofs.translation.translate_formula.Goals as goal

pub returns-in-Err-clause-performs : goal.returns-in-Err-clause-performs
returns-in-Err-clause-performs g c contents failed left reads =
    formula-ends (translate_task c.args.dialect c.args.text.now) _ _ c.args.dialect c.args.text.now
    (λ fault why files rest. formula_refused why) c.in-Err.ending c.in-Err.ensures.ending (record { input_faults = refl; output_faults = refl; failed = refl }) refl

pub returns-in-Err-clause-writes : goal.returns-in-Err-clause-writes
returns-in-Err-clause-writes g c contents failed left reads =
    writes-none g.O.Sink.IsPut (translate_task c.args.dialect c.args.text.now) _ _ c.args.out.now c.args.out.now (status_of c.in-Err.ending) refl
    (no-answer-at-formula c.args.dialect c.args.text.now c.in-Err.ending c.in-Err.ensures.ending)

pub returns-in-Ok-translation_text-clause-performs : goal.returns-in-Ok-translation_text-clause-performs
returns-in-Ok-translation_text-clause-performs g c contents failed left reads =
    let f = tree c.in-Ok.read.0 in
    let made = subst (λ names. IsTranslation names f c.in-Ok-translation_text.text) c.in-Ok.ensures.names c.in-Ok-translation_text.ensures in
    let due = subst (λ text. TranslateAnswers c.args.dialect c.args.text.now (record { output = text; ending = Positive })) (sym c.bytes.ensures)
    (translated f c.in-Ok.ensures.formula made) in
    output-put (translate_task c.args.dialect c.args.text.now) _ _ c.bytes.result.now Positive (λ e. cc) refl (λ files rest tells. due) refl refl
    (record { whole = λ on. cc; to_goal = λ on. cc }) (λ files rest tells known on. cc) c.put_all.result c.put_all.ensures.ends

pub returns-in-Ok-translation_text-clause-writes : goal.returns-in-Ok-translation_text-clause-writes
returns-in-Ok-translation_text-clause-writes g c contents failed left reads =
    let f = tree c.in-Ok.read.0 in
    let made = subst (λ names. IsTranslation names f c.in-Ok-translation_text.text) c.in-Ok.ensures.names c.in-Ok-translation_text.ensures in
    let due = subst (λ text. TranslateAnswers c.args.dialect c.args.text.now (record { output = text; ending = Positive })) (sym c.bytes.ensures)
    (translated f c.in-Ok.ensures.formula made) in
    let before = world contents failed left reads (g.O.Sink.held c.args.out.now) (g.O.Sink.faults c.args.out.now) in
    let after = world contents failed left reads (g.O.Sink.held c.put_all.new.out) (g.O.Sink.faults c.put_all.new.out) in
    writes-reply g.O.Sink.IsPut (translate_task c.args.dialect c.args.text.now) before after c.args.out.now c.put_all.new.out c.bytes.result.now Positive
    (status_of c.put_all.result) refl (λ files rest tells. due)
    (λ e. text-some (names_of c.args.dialect c.args.text.now) f made.counts made.automaton.size made.table made.words (sym made.whole ∙ sym c.bytes.ensures ∙ e))
    (put-served c.bytes.result.now Positive before after c.put_all.result (λ e. omega (arith, e)) c.put_all.ensures.ends) refl c.put_all.ensures.put

pub returns-clause-performs : goal.returns-clause-performs
returns-clause-performs g c contents failed left reads =
    subst (Performs (translate_task c.args.dialect c.args.text.now) _ _) (sym c.limit_ending.ensures)
    (limit-ends c.args.dialect c.args.text.now c.in-Ok.read.1.names (tree c.in-Ok.read.0) c.in-Ok.ensures.formula c.in-Ok.ensures.names
    (translate_task c.args.dialect c.args.text.now) _ _ (λ part count first files rest. too_many (tree c.in-Ok.read.0) c.in-Ok.ensures.formula first)
    (record { input_faults = refl; output_faults = refl; failed = refl }) refl c.in-Err-translation_text.fault c.in-Err-translation_text.ensures)

pub returns-clause-writes : goal.returns-clause-writes
returns-clause-writes g c contents failed left reads =
    writes-none g.O.Sink.IsPut (translate_task c.args.dialect c.args.text.now) _ _ c.args.out.now c.args.out.now (status_of c.limit_ending.result) refl
    (subst (λ e. status_of e < 2 → ⊥) (sym c.limit_ending.ensures) (no-answer-at-limit concern.Formula most_classes c.in-Err-translation_text.fault))
