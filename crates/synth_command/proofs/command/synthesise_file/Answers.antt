use Rattle.std.proofs.Common.{None, sym, subst, refl}
use Rattle.command_endings.specs.Endings.{status_of}
use Rattle.command_endings.specs.Worlds.{world}
use Rattle.command_endings.proofs.WritingLemmas.{writes-none, writes-reply, put-served}
use Rattle.spec_reader.specs.Specification.{plain}
use Rattle.synth_command.specs.Synthesis.{IsText, synth_task}
use Rattle.synth_command.proofs.SynthLemmas.{unread-few, unsolved-few, unread-performs, unsolved-performs, text-asked, text-performs, text-promised, text-given, text-served}
use Rattle.synth_command.proofs.command.synthesise_file.Goals as goal

pub returns-in-Err-clause-performs : goal.returns-in-Err-clause-performs
returns-in-Err-clause-performs g c left reads =
    unread-performs c.args.name.now (g.F.Files.contents c.args.files.now) (g.F.Files.failed c.args.files.now) left reads (g.O.Sink.held c.args.out.now) (g.O.Sink.faults c.args.out.now)
    c.in-Err.ending c.in-Err.ensures.ending (g.F.Files.contents c.read_specification.new.files) (g.F.Files.failed c.read_specification.new.files) c.in-Err.ensures.failed

pub returns-in-Err-clause-writes : goal.returns-in-Err-clause-writes
returns-in-Err-clause-writes g c left reads =
    writes-none g.O.Sink.IsPut (synth_task c.args.name.now) _ _ c.args.out.now c.args.out.now (status_of c.in-Err.ending) refl
    (unread-few (g.F.Files.contents c.args.files.now) c.args.name.now c.in-Err.ending c.in-Err.ensures.ending)

pub returns-in-Err-clause-headline : goal.returns-in-Err-clause-headline
returns-in-Err-clause-headline g c few =
    absurd (unread-few (g.F.Files.contents c.args.files.now) c.args.name.now c.in-Err.ending c.in-Err.ensures.ending few)

pub returns-in-Ok-strategy_text-clause-performs : goal.returns-in-Ok-strategy_text-clause-performs
returns-in-Ok-strategy_text-clause-performs g c left reads =
    let is = subst (λ z. IsText (plain c.in-Ok.spec) z c.in-Ok-strategy_text.ending) (sym c.bytes.ensures) c.in-Ok-strategy_text.ensures.text in
    text-performs c.args.name.now (g.F.Files.contents c.args.files.now) (g.F.Files.failed c.args.files.now) left reads (g.O.Sink.held c.args.out.now) (g.O.Sink.faults c.args.out.now)
    (plain c.in-Ok.spec) c.in-Ok.ensures.found (g.F.Files.contents c.read_specification.new.files) (g.F.Files.failed c.read_specification.new.files) c.in-Ok.ensures.failed
    c.bytes.result.now c.in-Ok-strategy_text.ending is (g.O.Sink.held c.put_all.new.out) (g.O.Sink.faults c.put_all.new.out) c.put_all.result c.put_all.ensures.ends

pub returns-in-Ok-strategy_text-clause-writes : goal.returns-in-Ok-strategy_text-clause-writes
returns-in-Ok-strategy_text-clause-writes g c left reads =
    let is = subst (λ z. IsText (plain c.in-Ok.spec) z c.in-Ok-strategy_text.ending) (sym c.bytes.ensures) c.in-Ok-strategy_text.ensures.text in
    let before = world (g.F.Files.contents c.args.files.now) (g.F.Files.failed c.args.files.now) left reads (g.O.Sink.held c.args.out.now) (g.O.Sink.faults c.args.out.now) in
    let after = world (g.F.Files.contents c.read_specification.new.files) (g.F.Files.failed c.read_specification.new.files) left reads (g.O.Sink.held c.put_all.new.out) (g.O.Sink.faults c.put_all.new.out) in
    writes-reply g.O.Sink.IsPut (synth_task c.args.name.now) before after c.args.out.now c.put_all.new.out c.bytes.result.now c.in-Ok-strategy_text.ending (status_of c.put_all.result) refl
    (text-asked c.args.name.now (g.F.Files.contents c.args.files.now) (g.F.Files.failed c.args.files.now) left reads (g.O.Sink.held c.args.out.now) (g.O.Sink.faults c.args.out.now)
    (plain c.in-Ok.spec) c.in-Ok.ensures.found (g.F.Files.contents c.read_specification.new.files) (g.F.Files.failed c.read_specification.new.files) c.in-Ok.ensures.failed
    c.bytes.result.now c.in-Ok-strategy_text.ending is)
    (text-given (plain c.in-Ok.spec) c.bytes.result.now c.in-Ok-strategy_text.ending is)
    (put-served c.bytes.result.now c.in-Ok-strategy_text.ending before after c.put_all.result (text-served (plain c.in-Ok.spec) c.bytes.result.now c.in-Ok-strategy_text.ending is) c.put_all.ensures.ends)
    refl c.put_all.ensures.put

pub returns-in-Ok-strategy_text-clause-headline : goal.returns-in-Ok-strategy_text-clause-headline
returns-in-Ok-strategy_text-clause-headline g c few =
    let is = subst (λ z. IsText (plain c.in-Ok.spec) z c.in-Ok-strategy_text.ending) (sym c.bytes.ensures) c.in-Ok-strategy_text.ensures.text in
    text-promised c.args.name.now (g.F.Files.contents c.args.files.now) (g.F.Files.failed c.args.files.now) None 0 (g.O.Sink.held c.args.out.now) (g.O.Sink.faults c.args.out.now)
    (plain c.in-Ok.spec) c.in-Ok.ensures.found (g.F.Files.contents c.read_specification.new.files) (g.F.Files.failed c.read_specification.new.files) c.in-Ok.ensures.failed
    c.bytes.result.now c.in-Ok-strategy_text.ending is (g.O.Sink.held c.put_all.new.out) (g.O.Sink.faults c.put_all.new.out) c.put_all.result c.put_all.ensures.ends few

pub returns-clause-performs : goal.returns-clause-performs
returns-clause-performs g c left reads =
    unsolved-performs c.args.name.now (g.F.Files.contents c.args.files.now) (g.F.Files.failed c.args.files.now) left reads (g.O.Sink.held c.args.out.now) (g.O.Sink.faults c.args.out.now)
    (plain c.in-Ok.spec) c.in-Ok.ensures.found (g.F.Files.contents c.read_specification.new.files) (g.F.Files.failed c.read_specification.new.files) c.in-Ok.ensures.failed
    c.in-Err-strategy_text.ending c.in-Err-strategy_text.ensures.ending

pub returns-clause-writes : goal.returns-clause-writes
returns-clause-writes g c left reads =
    writes-none g.O.Sink.IsPut (synth_task c.args.name.now) _ _ c.args.out.now c.args.out.now (status_of c.in-Err-strategy_text.ending) refl
    (unsolved-few (plain c.in-Ok.spec) c.in-Err-strategy_text.ending c.in-Err-strategy_text.ensures.ending)

pub returns-clause-headline : goal.returns-clause-headline
returns-clause-headline g c few =
    absurd (unsolved-few (plain c.in-Ok.spec) c.in-Err-strategy_text.ending c.in-Err-strategy_text.ensures.ending few)
