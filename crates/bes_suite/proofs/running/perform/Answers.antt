use Rattle.std.proofs.Common.{◌≡◌, arith, sym, ◌∙◌, refl, subst, rules, ◌<◌, length, [], None}
use Rattle.std.proofs.lemmas.List.{get_or_default}
use Rattle.command_endings.specs.declared.endings.Ending.TheVariants.{Refused}
use Rattle.command_endings.specs.declared.endings.Refusal.TheVariants.{Usage}
use Rattle.command_endings.specs.Endings.{status_of}
use Rattle.command_endings.specs.Reading.{Reads}
use Rattle.command_endings.specs.Tasks.{Performs}
use Rattle.command_endings.specs.Worlds.{FileFailed, world}
use Rattle.command_endings.specs.Writing.{Writes}
use Rattle.command_endings.proofs.Performing.{refusal}
use Rattle.command_endings.proofs.ReadingLemmas.{reads-none}
use Rattle.command_endings.proofs.WritingLemmas.{writes-none}
use Rattle.judge_command.specs.Judge.{judge_task}
use Rattle.forms_command.specs.Showing.{forms_task}
use Rattle.translate_command.specs.Translation.{translate_task}
use Rattle.monitor_command.specs.Monitoring.{monitor_task}
use Rattle.synth_command.specs.Promised.{PrintsStrategy}
use Rattle.synth_command.specs.Synthesis.{FileHolds, synth_task}
use Rattle.bes_suite.specs.declared.commands.Command.TheVariants as command
use Rattle.bes_suite.specs.Asked.{usage_task}
use Rattle.bes_suite.specs.Commands.{word_at}
use Rattle.bes_suite.proofs.RunLemmas.{as-asked}
use Rattle.bes_suite.proofs.running.perform.Goals as goal

pub returns-in-Usage-clause-performs : goal.returns-in-Usage-clause-performs
returns-in-Usage-clause-performs g c =
    as-asked (λ t. Performs t (world (g.F.Files.contents c.args.files.now) (g.F.Files.failed c.args.files.now) (g.S.Source.left c.args.input.now) (g.S.Source.faults c.args.input.now) (g.O.Sink.held c.args.out.now) (g.O.Sink.faults c.args.out.now)) (world (g.F.Files.contents c.args.files.now) (g.F.Files.failed c.args.files.now) (g.S.Source.left c.args.input.now) (g.S.Source.faults c.args.input.now) (g.O.Sink.held c.args.out.now) (g.O.Sink.faults c.args.out.now)) (Refused Usage)) c.args.words.now command.Usage (sym (sym c.find_command.ensures ∙ c.in-Usage.is))
    (refusal usage_task (world (g.F.Files.contents c.args.files.now) (g.F.Files.failed c.args.files.now) (g.S.Source.left c.args.input.now) (g.S.Source.faults c.args.input.now) (g.O.Sink.held c.args.out.now) (g.O.Sink.faults c.args.out.now)) (world (g.F.Files.contents c.args.files.now) (g.F.Files.failed c.args.files.now) (g.S.Source.left c.args.input.now) (g.S.Source.faults c.args.input.now) (g.O.Sink.held c.args.out.now) (g.O.Sink.faults c.args.out.now)) Usage (λ files rest tells. refl) (record { input_faults = refl; output_faults = refl; failed = refl }) refl)

pub returns-in-Usage-clause-writes : goal.returns-in-Usage-clause-writes
returns-in-Usage-clause-writes g c =
    as-asked (λ t. Writes g.O.Sink.IsPut t (world (g.F.Files.contents c.args.files.now) (g.F.Files.failed c.args.files.now) (g.S.Source.left c.args.input.now) (g.S.Source.faults c.args.input.now) (g.O.Sink.held c.args.out.now) (g.O.Sink.faults c.args.out.now)) (world (g.F.Files.contents c.args.files.now) (g.F.Files.failed c.args.files.now) (g.S.Source.left c.args.input.now) (g.S.Source.faults c.args.input.now) (g.O.Sink.held c.args.out.now) (g.O.Sink.faults c.args.out.now)) c.args.out.now c.args.out.now 2) c.args.words.now command.Usage (sym (sym c.find_command.ensures ∙ c.in-Usage.is))
    (writes-none g.O.Sink.IsPut usage_task (world (g.F.Files.contents c.args.files.now) (g.F.Files.failed c.args.files.now) (g.S.Source.left c.args.input.now) (g.S.Source.faults c.args.input.now) (g.O.Sink.held c.args.out.now) (g.O.Sink.faults c.args.out.now)) (world (g.F.Files.contents c.args.files.now) (g.F.Files.failed c.args.files.now) (g.S.Source.left c.args.input.now) (g.S.Source.faults c.args.input.now) (g.O.Sink.held c.args.out.now) (g.O.Sink.faults c.args.out.now)) c.args.out.now c.args.out.now 2 refl (λ few. omega (arith, few)))

pub returns-in-Usage-clause-reads : goal.returns-in-Usage-clause-reads
returns-in-Usage-clause-reads g c =
    as-asked (λ t. Reads g.S.Source.faults g.S.Source.IsTaken t (world (g.F.Files.contents c.args.files.now) (g.F.Files.failed c.args.files.now) (g.S.Source.left c.args.input.now) (g.S.Source.faults c.args.input.now) (g.O.Sink.held c.args.out.now) (g.O.Sink.faults c.args.out.now)) c.args.input.now c.args.input.now 2) c.args.words.now command.Usage (sym (sym c.find_command.ensures ∙ c.in-Usage.is))
    (reads-none g.S.Source.faults g.S.Source.IsTaken usage_task (world (g.F.Files.contents c.args.files.now) (g.F.Files.failed c.args.files.now) (g.S.Source.left c.args.input.now) (g.S.Source.faults c.args.input.now) (g.O.Sink.held c.args.out.now) (g.O.Sink.faults c.args.out.now)) c.args.input.now c.args.input.now 2 refl (λ files told is may. may))

pub returns-in-Judge-clause-performs : goal.returns-in-Judge-clause-performs
returns-in-Judge-clause-performs g c =
    let many : 2 < length c.args.words.now = search rules in
    let text : c.bytes.result.now ≡ word_at c.args.words.now 2 = c.bytes.ensures ∙ c.index-words-2.is ∙ get_or_default c.args.words.now 2 c.index-words-2.result [] many in
    as-asked (λ t. Performs t (world (g.F.Files.contents c.args.files.now) (g.F.Files.failed c.args.files.now) (g.S.Source.left c.args.input.now) (g.S.Source.faults c.args.input.now) (g.O.Sink.held c.args.out.now) (g.O.Sink.faults c.args.out.now))
    (world (g.F.Files.contents c.args.files.now) (g.F.Files.failed c.args.files.now) (g.S.Source.left c.judge_formula.new.input) (g.S.Source.faults c.judge_formula.new.input) (g.O.Sink.held c.judge_formula.new.out) (g.O.Sink.faults c.judge_formula.new.out)) c.judge_formula.result) c.args.words.now (command.Judge c.in-Judge.dialect) (sym (sym c.find_command.ensures ∙ c.in-Judge.is))
    (subst (λ t. Performs (judge_task c.in-Judge.dialect t) (world (g.F.Files.contents c.args.files.now) (g.F.Files.failed c.args.files.now) (g.S.Source.left c.args.input.now) (g.S.Source.faults c.args.input.now) (g.O.Sink.held c.args.out.now) (g.O.Sink.faults c.args.out.now))
    (world (g.F.Files.contents c.args.files.now) (g.F.Files.failed c.args.files.now) (g.S.Source.left c.judge_formula.new.input) (g.S.Source.faults c.judge_formula.new.input) (g.O.Sink.held c.judge_formula.new.out) (g.O.Sink.faults c.judge_formula.new.out)) c.judge_formula.result) text (c.judge_formula.ensures.performs _ _))

pub returns-in-Judge-clause-writes : goal.returns-in-Judge-clause-writes
returns-in-Judge-clause-writes g c =
    let many : 2 < length c.args.words.now = search rules in
    let text : c.bytes.result.now ≡ word_at c.args.words.now 2 = c.bytes.ensures ∙ c.index-words-2.is ∙ get_or_default c.args.words.now 2 c.index-words-2.result [] many in
    as-asked (λ t. Writes g.O.Sink.IsPut t (world (g.F.Files.contents c.args.files.now) (g.F.Files.failed c.args.files.now) (g.S.Source.left c.args.input.now) (g.S.Source.faults c.args.input.now) (g.O.Sink.held c.args.out.now) (g.O.Sink.faults c.args.out.now))
    (world (g.F.Files.contents c.args.files.now) (g.F.Files.failed c.args.files.now) (g.S.Source.left c.judge_formula.new.input) (g.S.Source.faults c.judge_formula.new.input) (g.O.Sink.held c.judge_formula.new.out) (g.O.Sink.faults c.judge_formula.new.out)) c.args.out.now c.judge_formula.new.out (status_of c.judge_formula.result)) c.args.words.now (command.Judge c.in-Judge.dialect) (sym (sym c.find_command.ensures ∙ c.in-Judge.is))
    (subst (λ t. Writes g.O.Sink.IsPut (judge_task c.in-Judge.dialect t) (world (g.F.Files.contents c.args.files.now) (g.F.Files.failed c.args.files.now) (g.S.Source.left c.args.input.now) (g.S.Source.faults c.args.input.now) (g.O.Sink.held c.args.out.now) (g.O.Sink.faults c.args.out.now))
    (world (g.F.Files.contents c.args.files.now) (g.F.Files.failed c.args.files.now) (g.S.Source.left c.judge_formula.new.input) (g.S.Source.faults c.judge_formula.new.input) (g.O.Sink.held c.judge_formula.new.out) (g.O.Sink.faults c.judge_formula.new.out)) c.args.out.now c.judge_formula.new.out (status_of c.judge_formula.result)) text (c.judge_formula.ensures.writes _ _))

pub returns-in-Judge-clause-reads : goal.returns-in-Judge-clause-reads
returns-in-Judge-clause-reads g c =
    let many : 2 < length c.args.words.now = search rules in
    let text : c.bytes.result.now ≡ word_at c.args.words.now 2 = c.bytes.ensures ∙ c.index-words-2.is ∙ get_or_default c.args.words.now 2 c.index-words-2.result [] many in
    as-asked (λ t. Reads g.S.Source.faults g.S.Source.IsTaken t (world (g.F.Files.contents c.args.files.now) (g.F.Files.failed c.args.files.now) (g.S.Source.left c.args.input.now) (g.S.Source.faults c.args.input.now) (g.O.Sink.held c.args.out.now) (g.O.Sink.faults c.args.out.now)) c.args.input.now c.judge_formula.new.input (status_of c.judge_formula.result)) c.args.words.now (command.Judge c.in-Judge.dialect) (sym (sym c.find_command.ensures ∙ c.in-Judge.is))
    (subst (λ t. Reads g.S.Source.faults g.S.Source.IsTaken (judge_task c.in-Judge.dialect t) (world (g.F.Files.contents c.args.files.now) (g.F.Files.failed c.args.files.now) (g.S.Source.left c.args.input.now) (g.S.Source.faults c.args.input.now) (g.O.Sink.held c.args.out.now) (g.O.Sink.faults c.args.out.now)) c.args.input.now c.judge_formula.new.input (status_of c.judge_formula.result)) text (c.judge_formula.ensures.reads _ _))

pub returns-in-Forms-clause-performs : goal.returns-in-Forms-clause-performs
returns-in-Forms-clause-performs g c =
    let many : 2 < length c.args.words.now = search rules in
    let text : c.bytes-in-Forms.result.now ≡ word_at c.args.words.now 2 = c.bytes-in-Forms.ensures ∙ c.index-words-2-in-Forms.is ∙ get_or_default c.args.words.now 2 c.index-words-2-in-Forms.result [] many in
    as-asked (λ t. Performs t (world (g.F.Files.contents c.args.files.now) (g.F.Files.failed c.args.files.now) (g.S.Source.left c.args.input.now) (g.S.Source.faults c.args.input.now) (g.O.Sink.held c.args.out.now) (g.O.Sink.faults c.args.out.now))
    (world (g.F.Files.contents c.args.files.now) (g.F.Files.failed c.args.files.now) (g.S.Source.left c.args.input.now) (g.S.Source.faults c.args.input.now) (g.O.Sink.held c.show_formula.new.out) (g.O.Sink.faults c.show_formula.new.out)) c.show_formula.result) c.args.words.now (command.Forms c.in-Forms.dialect) (sym (sym c.find_command.ensures ∙ c.in-Forms.is))
    (subst (λ t. Performs (forms_task c.in-Forms.dialect t) (world (g.F.Files.contents c.args.files.now) (g.F.Files.failed c.args.files.now) (g.S.Source.left c.args.input.now) (g.S.Source.faults c.args.input.now) (g.O.Sink.held c.args.out.now) (g.O.Sink.faults c.args.out.now))
    (world (g.F.Files.contents c.args.files.now) (g.F.Files.failed c.args.files.now) (g.S.Source.left c.args.input.now) (g.S.Source.faults c.args.input.now) (g.O.Sink.held c.show_formula.new.out) (g.O.Sink.faults c.show_formula.new.out)) c.show_formula.result) text (c.show_formula.ensures.performs _ _ _ _))

pub returns-in-Forms-clause-writes : goal.returns-in-Forms-clause-writes
returns-in-Forms-clause-writes g c =
    let many : 2 < length c.args.words.now = search rules in
    let text : c.bytes-in-Forms.result.now ≡ word_at c.args.words.now 2 = c.bytes-in-Forms.ensures ∙ c.index-words-2-in-Forms.is ∙ get_or_default c.args.words.now 2 c.index-words-2-in-Forms.result [] many in
    as-asked (λ t. Writes g.O.Sink.IsPut t (world (g.F.Files.contents c.args.files.now) (g.F.Files.failed c.args.files.now) (g.S.Source.left c.args.input.now) (g.S.Source.faults c.args.input.now) (g.O.Sink.held c.args.out.now) (g.O.Sink.faults c.args.out.now))
    (world (g.F.Files.contents c.args.files.now) (g.F.Files.failed c.args.files.now) (g.S.Source.left c.args.input.now) (g.S.Source.faults c.args.input.now) (g.O.Sink.held c.show_formula.new.out) (g.O.Sink.faults c.show_formula.new.out)) c.args.out.now c.show_formula.new.out (status_of c.show_formula.result)) c.args.words.now (command.Forms c.in-Forms.dialect) (sym (sym c.find_command.ensures ∙ c.in-Forms.is))
    (subst (λ t. Writes g.O.Sink.IsPut (forms_task c.in-Forms.dialect t) (world (g.F.Files.contents c.args.files.now) (g.F.Files.failed c.args.files.now) (g.S.Source.left c.args.input.now) (g.S.Source.faults c.args.input.now) (g.O.Sink.held c.args.out.now) (g.O.Sink.faults c.args.out.now))
    (world (g.F.Files.contents c.args.files.now) (g.F.Files.failed c.args.files.now) (g.S.Source.left c.args.input.now) (g.S.Source.faults c.args.input.now) (g.O.Sink.held c.show_formula.new.out) (g.O.Sink.faults c.show_formula.new.out)) c.args.out.now c.show_formula.new.out (status_of c.show_formula.result)) text (c.show_formula.ensures.writes _ _ _ _))

pub returns-in-Forms-clause-reads : goal.returns-in-Forms-clause-reads
returns-in-Forms-clause-reads g c =
    as-asked (λ t. Reads g.S.Source.faults g.S.Source.IsTaken t (world (g.F.Files.contents c.args.files.now) (g.F.Files.failed c.args.files.now) (g.S.Source.left c.args.input.now) (g.S.Source.faults c.args.input.now) (g.O.Sink.held c.args.out.now) (g.O.Sink.faults c.args.out.now)) c.args.input.now c.args.input.now (status_of c.show_formula.result)) c.args.words.now (command.Forms c.in-Forms.dialect) (sym (sym c.find_command.ensures ∙ c.in-Forms.is))
    (reads-none g.S.Source.faults g.S.Source.IsTaken (forms_task c.in-Forms.dialect (word_at c.args.words.now 2)) (world (g.F.Files.contents c.args.files.now) (g.F.Files.failed c.args.files.now) (g.S.Source.left c.args.input.now) (g.S.Source.faults c.args.input.now) (g.O.Sink.held c.args.out.now) (g.O.Sink.faults c.args.out.now)) c.args.input.now c.args.input.now (status_of c.show_formula.result) refl (λ files told is may. may))

pub returns-in-Translate-clause-performs : goal.returns-in-Translate-clause-performs
returns-in-Translate-clause-performs g c =
    let many : 2 < length c.args.words.now = search rules in
    let text : c.bytes-in-Translate.result.now ≡ word_at c.args.words.now 2 = c.bytes-in-Translate.ensures ∙ c.index-words-2-in-Translate.is ∙ get_or_default c.args.words.now 2 c.index-words-2-in-Translate.result [] many in
    as-asked (λ t. Performs t (world (g.F.Files.contents c.args.files.now) (g.F.Files.failed c.args.files.now) (g.S.Source.left c.args.input.now) (g.S.Source.faults c.args.input.now) (g.O.Sink.held c.args.out.now) (g.O.Sink.faults c.args.out.now))
    (world (g.F.Files.contents c.args.files.now) (g.F.Files.failed c.args.files.now) (g.S.Source.left c.args.input.now) (g.S.Source.faults c.args.input.now) (g.O.Sink.held c.translate_formula.new.out) (g.O.Sink.faults c.translate_formula.new.out)) c.translate_formula.result) c.args.words.now (command.Translate c.in-Translate.dialect) (sym (sym c.find_command.ensures ∙ c.in-Translate.is))
    (subst (λ t. Performs (translate_task c.in-Translate.dialect t) (world (g.F.Files.contents c.args.files.now) (g.F.Files.failed c.args.files.now) (g.S.Source.left c.args.input.now) (g.S.Source.faults c.args.input.now) (g.O.Sink.held c.args.out.now) (g.O.Sink.faults c.args.out.now))
    (world (g.F.Files.contents c.args.files.now) (g.F.Files.failed c.args.files.now) (g.S.Source.left c.args.input.now) (g.S.Source.faults c.args.input.now) (g.O.Sink.held c.translate_formula.new.out) (g.O.Sink.faults c.translate_formula.new.out)) c.translate_formula.result) text (c.translate_formula.ensures.performs _ _ _ _))

pub returns-in-Translate-clause-writes : goal.returns-in-Translate-clause-writes
returns-in-Translate-clause-writes g c =
    let many : 2 < length c.args.words.now = search rules in
    let text : c.bytes-in-Translate.result.now ≡ word_at c.args.words.now 2 = c.bytes-in-Translate.ensures ∙ c.index-words-2-in-Translate.is ∙ get_or_default c.args.words.now 2 c.index-words-2-in-Translate.result [] many in
    as-asked (λ t. Writes g.O.Sink.IsPut t (world (g.F.Files.contents c.args.files.now) (g.F.Files.failed c.args.files.now) (g.S.Source.left c.args.input.now) (g.S.Source.faults c.args.input.now) (g.O.Sink.held c.args.out.now) (g.O.Sink.faults c.args.out.now))
    (world (g.F.Files.contents c.args.files.now) (g.F.Files.failed c.args.files.now) (g.S.Source.left c.args.input.now) (g.S.Source.faults c.args.input.now) (g.O.Sink.held c.translate_formula.new.out) (g.O.Sink.faults c.translate_formula.new.out)) c.args.out.now c.translate_formula.new.out (status_of c.translate_formula.result)) c.args.words.now (command.Translate c.in-Translate.dialect) (sym (sym c.find_command.ensures ∙ c.in-Translate.is))
    (subst (λ t. Writes g.O.Sink.IsPut (translate_task c.in-Translate.dialect t) (world (g.F.Files.contents c.args.files.now) (g.F.Files.failed c.args.files.now) (g.S.Source.left c.args.input.now) (g.S.Source.faults c.args.input.now) (g.O.Sink.held c.args.out.now) (g.O.Sink.faults c.args.out.now))
    (world (g.F.Files.contents c.args.files.now) (g.F.Files.failed c.args.files.now) (g.S.Source.left c.args.input.now) (g.S.Source.faults c.args.input.now) (g.O.Sink.held c.translate_formula.new.out) (g.O.Sink.faults c.translate_formula.new.out)) c.args.out.now c.translate_formula.new.out (status_of c.translate_formula.result)) text (c.translate_formula.ensures.writes _ _ _ _))

pub returns-in-Translate-clause-reads : goal.returns-in-Translate-clause-reads
returns-in-Translate-clause-reads g c =
    as-asked (λ t. Reads g.S.Source.faults g.S.Source.IsTaken t (world (g.F.Files.contents c.args.files.now) (g.F.Files.failed c.args.files.now) (g.S.Source.left c.args.input.now) (g.S.Source.faults c.args.input.now) (g.O.Sink.held c.args.out.now) (g.O.Sink.faults c.args.out.now)) c.args.input.now c.args.input.now (status_of c.translate_formula.result)) c.args.words.now (command.Translate c.in-Translate.dialect) (sym (sym c.find_command.ensures ∙ c.in-Translate.is))
    (reads-none g.S.Source.faults g.S.Source.IsTaken (translate_task c.in-Translate.dialect (word_at c.args.words.now 2)) (world (g.F.Files.contents c.args.files.now) (g.F.Files.failed c.args.files.now) (g.S.Source.left c.args.input.now) (g.S.Source.faults c.args.input.now) (g.O.Sink.held c.args.out.now) (g.O.Sink.faults c.args.out.now)) c.args.input.now c.args.input.now (status_of c.translate_formula.result) refl (λ files told is may. may))

pub returns-in-Monitor-clause-performs : goal.returns-in-Monitor-clause-performs
returns-in-Monitor-clause-performs g c =
    let many : 2 < length c.args.words.now = search rules in
    let text : c.bytes-in-Monitor.result.now ≡ word_at c.args.words.now 2 = c.bytes-in-Monitor.ensures ∙ c.index-words-2-in-Monitor.is ∙ get_or_default c.args.words.now 2 c.index-words-2-in-Monitor.result [] many in
    as-asked (λ t. Performs t (world (g.F.Files.contents c.args.files.now) (g.F.Files.failed c.args.files.now) (g.S.Source.left c.args.input.now) (g.S.Source.faults c.args.input.now) (g.O.Sink.held c.args.out.now) (g.O.Sink.faults c.args.out.now))
    (world (g.F.Files.contents c.args.files.now) (g.F.Files.failed c.args.files.now) (g.S.Source.left c.monitor_formula.new.input) (g.S.Source.faults c.monitor_formula.new.input) (g.O.Sink.held c.monitor_formula.new.out) (g.O.Sink.faults c.monitor_formula.new.out)) c.monitor_formula.result) c.args.words.now (command.Monitor c.in-Monitor.dialect) (sym (sym c.find_command.ensures ∙ c.in-Monitor.is))
    (subst (λ t. Performs (monitor_task c.in-Monitor.dialect t) (world (g.F.Files.contents c.args.files.now) (g.F.Files.failed c.args.files.now) (g.S.Source.left c.args.input.now) (g.S.Source.faults c.args.input.now) (g.O.Sink.held c.args.out.now) (g.O.Sink.faults c.args.out.now))
    (world (g.F.Files.contents c.args.files.now) (g.F.Files.failed c.args.files.now) (g.S.Source.left c.monitor_formula.new.input) (g.S.Source.faults c.monitor_formula.new.input) (g.O.Sink.held c.monitor_formula.new.out) (g.O.Sink.faults c.monitor_formula.new.out)) c.monitor_formula.result) text (c.monitor_formula.ensures.performs _ _))

pub returns-in-Monitor-clause-writes : goal.returns-in-Monitor-clause-writes
returns-in-Monitor-clause-writes g c =
    let many : 2 < length c.args.words.now = search rules in
    let text : c.bytes-in-Monitor.result.now ≡ word_at c.args.words.now 2 = c.bytes-in-Monitor.ensures ∙ c.index-words-2-in-Monitor.is ∙ get_or_default c.args.words.now 2 c.index-words-2-in-Monitor.result [] many in
    as-asked (λ t. Writes g.O.Sink.IsPut t (world (g.F.Files.contents c.args.files.now) (g.F.Files.failed c.args.files.now) (g.S.Source.left c.args.input.now) (g.S.Source.faults c.args.input.now) (g.O.Sink.held c.args.out.now) (g.O.Sink.faults c.args.out.now))
    (world (g.F.Files.contents c.args.files.now) (g.F.Files.failed c.args.files.now) (g.S.Source.left c.monitor_formula.new.input) (g.S.Source.faults c.monitor_formula.new.input) (g.O.Sink.held c.monitor_formula.new.out) (g.O.Sink.faults c.monitor_formula.new.out)) c.args.out.now c.monitor_formula.new.out (status_of c.monitor_formula.result)) c.args.words.now (command.Monitor c.in-Monitor.dialect) (sym (sym c.find_command.ensures ∙ c.in-Monitor.is))
    (subst (λ t. Writes g.O.Sink.IsPut (monitor_task c.in-Monitor.dialect t) (world (g.F.Files.contents c.args.files.now) (g.F.Files.failed c.args.files.now) (g.S.Source.left c.args.input.now) (g.S.Source.faults c.args.input.now) (g.O.Sink.held c.args.out.now) (g.O.Sink.faults c.args.out.now))
    (world (g.F.Files.contents c.args.files.now) (g.F.Files.failed c.args.files.now) (g.S.Source.left c.monitor_formula.new.input) (g.S.Source.faults c.monitor_formula.new.input) (g.O.Sink.held c.monitor_formula.new.out) (g.O.Sink.faults c.monitor_formula.new.out)) c.args.out.now c.monitor_formula.new.out (status_of c.monitor_formula.result)) text (c.monitor_formula.ensures.writes _ _))

pub returns-in-Monitor-clause-reads : goal.returns-in-Monitor-clause-reads
returns-in-Monitor-clause-reads g c =
    let many : 2 < length c.args.words.now = search rules in
    let text : c.bytes-in-Monitor.result.now ≡ word_at c.args.words.now 2 = c.bytes-in-Monitor.ensures ∙ c.index-words-2-in-Monitor.is ∙ get_or_default c.args.words.now 2 c.index-words-2-in-Monitor.result [] many in
    as-asked (λ t. Reads g.S.Source.faults g.S.Source.IsTaken t (world (g.F.Files.contents c.args.files.now) (g.F.Files.failed c.args.files.now) (g.S.Source.left c.args.input.now) (g.S.Source.faults c.args.input.now) (g.O.Sink.held c.args.out.now) (g.O.Sink.faults c.args.out.now)) c.args.input.now c.monitor_formula.new.input (status_of c.monitor_formula.result)) c.args.words.now (command.Monitor c.in-Monitor.dialect) (sym (sym c.find_command.ensures ∙ c.in-Monitor.is))
    (subst (λ t. Reads g.S.Source.faults g.S.Source.IsTaken (monitor_task c.in-Monitor.dialect t) (world (g.F.Files.contents c.args.files.now) (g.F.Files.failed c.args.files.now) (g.S.Source.left c.args.input.now) (g.S.Source.faults c.args.input.now) (g.O.Sink.held c.args.out.now) (g.O.Sink.faults c.args.out.now)) c.args.input.now c.monitor_formula.new.input (status_of c.monitor_formula.result)) text (c.monitor_formula.ensures.reads _ _))

pub returns-in-Judge-clause-unread : goal.returns-in-Judge-clause-unread
returns-in-Judge-clause-unread g c =
    as-asked (λ t. FileFailed t.file (g.F.Files.failed c.args.files.now) (g.F.Files.failed c.args.files.now) → c.judge_formula.new.input ≡ c.args.input.now) c.args.words.now (command.Judge c.in-Judge.dialect) (sym (sym c.find_command.ensures ∙ c.in-Judge.is))
    (λ failed. absurd failed)

pub returns-in-Monitor-clause-unread : goal.returns-in-Monitor-clause-unread
returns-in-Monitor-clause-unread g c =
    as-asked (λ t. FileFailed t.file (g.F.Files.failed c.args.files.now) (g.F.Files.failed c.args.files.now) → c.monitor_formula.new.input ≡ c.args.input.now) c.args.words.now (command.Monitor c.in-Monitor.dialect) (sym (sym c.find_command.ensures ∙ c.in-Monitor.is))
    (λ failed. absurd failed)

pub returns-in-Synth-clause-performs : goal.returns-in-Synth-clause-performs
returns-in-Synth-clause-performs g c =
    let many : 1 < length c.args.words.now = search rules in
    let name : c.index-words-1.result ≡ word_at c.args.words.now 1 = c.index-words-1.is ∙ get_or_default c.args.words.now 1 c.index-words-1.result [] many in
    as-asked (λ t. Performs t (world (g.F.Files.contents c.args.files.now) (g.F.Files.failed c.args.files.now) (g.S.Source.left c.args.input.now) (g.S.Source.faults c.args.input.now) (g.O.Sink.held c.args.out.now) (g.O.Sink.faults c.args.out.now))
    (world (g.F.Files.contents c.synthesise_file.new.files) (g.F.Files.failed c.synthesise_file.new.files) (g.S.Source.left c.args.input.now) (g.S.Source.faults c.args.input.now) (g.O.Sink.held c.synthesise_file.new.out) (g.O.Sink.faults c.synthesise_file.new.out)) c.synthesise_file.result) c.args.words.now command.Synth (sym (sym c.find_command.ensures ∙ c.in-Synth.is))
    (subst (λ t. Performs (synth_task t) (world (g.F.Files.contents c.args.files.now) (g.F.Files.failed c.args.files.now) (g.S.Source.left c.args.input.now) (g.S.Source.faults c.args.input.now) (g.O.Sink.held c.args.out.now) (g.O.Sink.faults c.args.out.now))
    (world (g.F.Files.contents c.synthesise_file.new.files) (g.F.Files.failed c.synthesise_file.new.files) (g.S.Source.left c.args.input.now) (g.S.Source.faults c.args.input.now) (g.O.Sink.held c.synthesise_file.new.out) (g.O.Sink.faults c.synthesise_file.new.out)) c.synthesise_file.result) name (c.synthesise_file.ensures.performs _ _))

pub returns-in-Synth-clause-writes : goal.returns-in-Synth-clause-writes
returns-in-Synth-clause-writes g c =
    let many : 1 < length c.args.words.now = search rules in
    let name : c.index-words-1.result ≡ word_at c.args.words.now 1 = c.index-words-1.is ∙ get_or_default c.args.words.now 1 c.index-words-1.result [] many in
    as-asked (λ t. Writes g.O.Sink.IsPut t (world (g.F.Files.contents c.args.files.now) (g.F.Files.failed c.args.files.now) (g.S.Source.left c.args.input.now) (g.S.Source.faults c.args.input.now) (g.O.Sink.held c.args.out.now) (g.O.Sink.faults c.args.out.now))
    (world (g.F.Files.contents c.synthesise_file.new.files) (g.F.Files.failed c.synthesise_file.new.files) (g.S.Source.left c.args.input.now) (g.S.Source.faults c.args.input.now) (g.O.Sink.held c.synthesise_file.new.out) (g.O.Sink.faults c.synthesise_file.new.out)) c.args.out.now c.synthesise_file.new.out (status_of c.synthesise_file.result)) c.args.words.now command.Synth (sym (sym c.find_command.ensures ∙ c.in-Synth.is))
    (subst (λ t. Writes g.O.Sink.IsPut (synth_task t) (world (g.F.Files.contents c.args.files.now) (g.F.Files.failed c.args.files.now) (g.S.Source.left c.args.input.now) (g.S.Source.faults c.args.input.now) (g.O.Sink.held c.args.out.now) (g.O.Sink.faults c.args.out.now))
    (world (g.F.Files.contents c.synthesise_file.new.files) (g.F.Files.failed c.synthesise_file.new.files) (g.S.Source.left c.args.input.now) (g.S.Source.faults c.args.input.now) (g.O.Sink.held c.synthesise_file.new.out) (g.O.Sink.faults c.synthesise_file.new.out)) c.args.out.now c.synthesise_file.new.out (status_of c.synthesise_file.result)) name (c.synthesise_file.ensures.writes _ _))

pub returns-in-Synth-clause-reads : goal.returns-in-Synth-clause-reads
returns-in-Synth-clause-reads g c =
    as-asked (λ t. Reads g.S.Source.faults g.S.Source.IsTaken t (world (g.F.Files.contents c.args.files.now) (g.F.Files.failed c.args.files.now) (g.S.Source.left c.args.input.now) (g.S.Source.faults c.args.input.now) (g.O.Sink.held c.args.out.now) (g.O.Sink.faults c.args.out.now)) c.args.input.now c.args.input.now (status_of c.synthesise_file.result)) c.args.words.now command.Synth (sym (sym c.find_command.ensures ∙ c.in-Synth.is))
    (reads-none g.S.Source.faults g.S.Source.IsTaken (synth_task (word_at c.args.words.now 1)) (world (g.F.Files.contents c.args.files.now) (g.F.Files.failed c.args.files.now) (g.S.Source.left c.args.input.now) (g.S.Source.faults c.args.input.now) (g.O.Sink.held c.args.out.now) (g.O.Sink.faults c.args.out.now)) c.args.input.now c.args.input.now (status_of c.synthesise_file.result) refl (λ files told is may. may))

pub returns-in-Synth-clause-unopened : goal.returns-in-Synth-clause-unopened
returns-in-Synth-clause-unopened g c =
    as-asked (λ t. t.file ≡ None → c.synthesise_file.new.files ≡ c.args.files.now) c.args.words.now command.Synth (sym (sym c.find_command.ensures ∙ c.in-Synth.is)) (λ e. cc)

pub returns-in-Synth-clause-headline : goal.returns-in-Synth-clause-headline
returns-in-Synth-clause-headline g c asked few =
    let many : 1 < length c.args.words.now = search rules in
    let name : c.index-words-1.result ≡ word_at c.args.words.now 1 = c.index-words-1.is ∙ get_or_default c.args.words.now 1 c.index-words-1.result [] many in
    subst (λ t. FileHolds (g.F.Files.contents c.args.files.now) t (λ bytes. PrintsStrategy bytes (g.O.Sink.held c.args.out.now) (g.O.Sink.held c.synthesise_file.new.out) (status_of c.synthesise_file.result))) name
    (c.synthesise_file.ensures.headline few)
