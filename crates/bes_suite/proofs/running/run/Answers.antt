use Rattle.std.proofs.Common.{◌<◌, sym, subst}
use Rattle.command_endings.specs.Endings.{status_of}
use Rattle.command_endings.specs.Worlds.{world}
use Rattle.translate_command.proofs.TranslationLemmas.{only-translation}
use Rattle.synth_command.specs.Promised.{PrintsStrategy}
use Rattle.synth_command.specs.Synthesis.{FileHolds}
use Rattle.bes_suite.specs.Asked.{task_of}
use Rattle.bes_suite.specs.Commands.{word_at}
use Rattle.bes_suite.proofs.Unique.{one-reply, all-answered}
use Rattle.bes_suite.proofs.RunLemmas.{answers, complete, fault-cause, counts-stand, partly, messages, writes-run, reads-run, far-run, number-is, answer-is}
use Rattle.bes_suite.proofs.running.run.Goals as goal

pub returns-clause-one : goal.returns-clause-one
returns-clause-one g c = one-reply c.args.words.now

pub returns-clause-only_automaton : goal.returns-clause-only_automaton
returns-clause-only_automaton g c names f text t = only-translation names f text t

pub returns-clause-answers : goal.returns-clause-answers
returns-clause-answers g c =
    answers (task_of c.args.words.now)
    (world (g.F.Files.contents c.args.files.now) (g.F.Files.failed c.args.files.now) (g.S.Source.left c.args.input.now) (g.S.Source.faults c.args.input.now) (g.O.Sink.held c.args.out.now) (g.O.Sink.faults c.args.out.now))
    (world (g.F.Files.contents c.perform-ending.new.files) (g.F.Files.failed c.perform-ending.new.files) (g.S.Source.left c.perform-ending.new.input) (g.S.Source.faults c.perform-ending.new.input) (g.O.Sink.held c.perform-ending.new.out) (g.O.Sink.faults c.perform-ending.new.out))
    (g.E.Sink.held c.args.err.now) (g.E.Sink.held c.finish.new.err) (g.E.Sink.faults c.args.err.now) (g.E.Sink.faults c.finish.new.err) c.finish.result.number
    c.perform-ending.result c.perform-ending.ensures.performs c.finish.ensures.finishes

pub returns-clause-fault : goal.returns-clause-fault
returns-clause-fault g c =
    fault-cause (task_of c.args.words.now)
    (world (g.F.Files.contents c.args.files.now) (g.F.Files.failed c.args.files.now) (g.S.Source.left c.args.input.now) (g.S.Source.faults c.args.input.now) (g.O.Sink.held c.args.out.now) (g.O.Sink.faults c.args.out.now))
    (world (g.F.Files.contents c.perform-ending.new.files) (g.F.Files.failed c.perform-ending.new.files) (g.S.Source.left c.perform-ending.new.input) (g.S.Source.faults c.perform-ending.new.input) (g.O.Sink.held c.perform-ending.new.out) (g.O.Sink.faults c.perform-ending.new.out))
    (g.E.Sink.held c.args.err.now) (g.E.Sink.held c.finish.new.err) (g.E.Sink.faults c.args.err.now) (g.E.Sink.faults c.finish.new.err) c.finish.result.number
    c.perform-ending.result c.perform-ending.ensures.performs c.finish.ensures.finishes

pub returns-clause-counts : goal.returns-clause-counts
returns-clause-counts g c =
    counts-stand (task_of c.args.words.now)
    (world (g.F.Files.contents c.args.files.now) (g.F.Files.failed c.args.files.now) (g.S.Source.left c.args.input.now) (g.S.Source.faults c.args.input.now) (g.O.Sink.held c.args.out.now) (g.O.Sink.faults c.args.out.now))
    (world (g.F.Files.contents c.perform-ending.new.files) (g.F.Files.failed c.perform-ending.new.files) (g.S.Source.left c.perform-ending.new.input) (g.S.Source.faults c.perform-ending.new.input) (g.O.Sink.held c.perform-ending.new.out) (g.O.Sink.faults c.perform-ending.new.out))
    (g.E.Sink.held c.args.err.now) (g.E.Sink.held c.finish.new.err) (g.E.Sink.faults c.args.err.now) (g.E.Sink.faults c.finish.new.err) c.finish.result.number
    c.perform-ending.result c.perform-ending.ensures.performs c.finish.ensures.finishes

pub returns-clause-partly : goal.returns-clause-partly
returns-clause-partly g c =
    partly (task_of c.args.words.now)
    (world (g.F.Files.contents c.args.files.now) (g.F.Files.failed c.args.files.now) (g.S.Source.left c.args.input.now) (g.S.Source.faults c.args.input.now) (g.O.Sink.held c.args.out.now) (g.O.Sink.faults c.args.out.now))
    (world (g.F.Files.contents c.perform-ending.new.files) (g.F.Files.failed c.perform-ending.new.files) (g.S.Source.left c.perform-ending.new.input) (g.S.Source.faults c.perform-ending.new.input) (g.O.Sink.held c.perform-ending.new.out) (g.O.Sink.faults c.perform-ending.new.out))
    (g.E.Sink.held c.args.err.now) (g.E.Sink.held c.finish.new.err) (g.E.Sink.faults c.args.err.now) (g.E.Sink.faults c.finish.new.err) c.finish.result.number
    c.perform-ending.result c.perform-ending.ensures.performs c.finish.ensures.finishes

pub returns-clause-complete : goal.returns-clause-complete
returns-clause-complete g c =
    complete (task_of c.args.words.now)
    (world (g.F.Files.contents c.args.files.now) (g.F.Files.failed c.args.files.now) (g.S.Source.left c.args.input.now) (g.S.Source.faults c.args.input.now) (g.O.Sink.held c.args.out.now) (g.O.Sink.faults c.args.out.now))
    (world (g.F.Files.contents c.perform-ending.new.files) (g.F.Files.failed c.perform-ending.new.files) (g.S.Source.left c.perform-ending.new.input) (g.S.Source.faults c.perform-ending.new.input) (g.O.Sink.held c.perform-ending.new.out) (g.O.Sink.faults c.perform-ending.new.out))
    (g.E.Sink.held c.args.err.now) (g.E.Sink.held c.finish.new.err) (g.E.Sink.faults c.args.err.now) (g.E.Sink.faults c.finish.new.err) c.finish.result.number
    c.perform-ending.result (all-answered c.args.words.now) c.perform-ending.ensures.performs c.finish.ensures.finishes

pub returns-clause-messages : goal.returns-clause-messages
returns-clause-messages g c =
    messages (task_of c.args.words.now)
    (world (g.F.Files.contents c.args.files.now) (g.F.Files.failed c.args.files.now) (g.S.Source.left c.args.input.now) (g.S.Source.faults c.args.input.now) (g.O.Sink.held c.args.out.now) (g.O.Sink.faults c.args.out.now))
    (world (g.F.Files.contents c.perform-ending.new.files) (g.F.Files.failed c.perform-ending.new.files) (g.S.Source.left c.perform-ending.new.input) (g.S.Source.faults c.perform-ending.new.input) (g.O.Sink.held c.perform-ending.new.out) (g.O.Sink.faults c.perform-ending.new.out))
    (g.E.Sink.held c.args.err.now) (g.E.Sink.held c.finish.new.err) (g.E.Sink.faults c.args.err.now) (g.E.Sink.faults c.finish.new.err) c.finish.result.number
    g.E.Sink.IsPut c.args.err.now c.finish.new.err c.perform-ending.result c.finish.ensures.finishes c.finish.ensures.quiet c.finish.ensures.asks

pub returns-clause-writes : goal.returns-clause-writes
returns-clause-writes g c =
    writes-run g.O.Sink.IsPut (task_of c.args.words.now)
    (world (g.F.Files.contents c.args.files.now) (g.F.Files.failed c.args.files.now) (g.S.Source.left c.args.input.now) (g.S.Source.faults c.args.input.now) (g.O.Sink.held c.args.out.now) (g.O.Sink.faults c.args.out.now))
    (world (g.F.Files.contents c.perform-ending.new.files) (g.F.Files.failed c.perform-ending.new.files) (g.S.Source.left c.perform-ending.new.input) (g.S.Source.faults c.perform-ending.new.input) (g.O.Sink.held c.perform-ending.new.out) (g.O.Sink.faults c.perform-ending.new.out))
    c.args.out.now c.perform-ending.new.out c.finish.result.number (status_of c.perform-ending.result)
    (number-is c.perform-ending.result (g.E.Sink.held c.args.err.now) (g.E.Sink.held c.finish.new.err) (g.E.Sink.faults c.args.err.now) (g.E.Sink.faults c.finish.new.err) c.finish.result.number c.finish.ensures.finishes) c.perform-ending.ensures.writes

pub returns-clause-streams : goal.returns-clause-streams
returns-clause-streams g c = c.perform-ending.ensures.performs.streams

pub returns-clause-files : goal.returns-clause-files
returns-clause-files g c = record { gains = c.perform-ending.ensures.performs.gains; unopened = c.perform-ending.ensures.unopened; unread = c.perform-ending.ensures.unread }

pub returns-clause-reads : goal.returns-clause-reads
returns-clause-reads g c =
    reads-run g.S.Source.faults g.S.Source.IsTaken (task_of c.args.words.now)
    (world (g.F.Files.contents c.args.files.now) (g.F.Files.failed c.args.files.now) (g.S.Source.left c.args.input.now) (g.S.Source.faults c.args.input.now) (g.O.Sink.held c.args.out.now) (g.O.Sink.faults c.args.out.now))
    c.args.input.now c.perform-ending.new.input c.finish.result.number (status_of c.perform-ending.result)
    (number-is c.perform-ending.result (g.E.Sink.held c.args.err.now) (g.E.Sink.held c.finish.new.err) (g.E.Sink.faults c.args.err.now) (g.E.Sink.faults c.finish.new.err) c.finish.result.number c.finish.ensures.finishes) c.perform-ending.ensures.reads

pub returns-clause-far : goal.returns-clause-far
returns-clause-far g c =
    far-run (task_of c.args.words.now)
    (world (g.F.Files.contents c.args.files.now) (g.F.Files.failed c.args.files.now) (g.S.Source.left c.args.input.now) (g.S.Source.faults c.args.input.now) (g.O.Sink.held c.args.out.now) (g.O.Sink.faults c.args.out.now))
    (world (g.F.Files.contents c.perform-ending.new.files) (g.F.Files.failed c.perform-ending.new.files) (g.S.Source.left c.perform-ending.new.input) (g.S.Source.faults c.perform-ending.new.input) (g.O.Sink.held c.perform-ending.new.out) (g.O.Sink.faults c.perform-ending.new.out))
    c.perform-ending.result c.finish.result.number
    (number-is c.perform-ending.result (g.E.Sink.held c.args.err.now) (g.E.Sink.held c.finish.new.err) (g.E.Sink.faults c.args.err.now) (g.E.Sink.faults c.finish.new.err) c.finish.result.number c.finish.ensures.finishes) c.perform-ending.ensures.performs

pub returns-clause-headline : goal.returns-clause-headline
returns-clause-headline g c asked few =
    let is = answer-is c.perform-ending.result (g.E.Sink.held c.args.err.now) (g.E.Sink.held c.finish.new.err) (g.E.Sink.faults c.args.err.now) (g.E.Sink.faults c.finish.new.err) c.finish.result.number c.finish.ensures.finishes few in
    subst (λ n. FileHolds (g.F.Files.contents c.args.files.now) (word_at c.args.words.now 1) (λ bytes. PrintsStrategy bytes (g.O.Sink.held c.args.out.now) (g.O.Sink.held c.perform-ending.new.out) n)) (sym is)
    (c.perform-ending.ensures.headline asked (subst (λ n. n < 2) is few))
