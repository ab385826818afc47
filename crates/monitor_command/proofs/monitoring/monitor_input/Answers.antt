use Rattle.std.proofs.Common.{◌≡◌, ◌+◌, ◌<◌, ◌≤◌, ◌∙◌, inr, ap, refl, sym, subst, arith, Ok, Err, Some, None, List, ℕ}
use Rattle.bes_io.specs.Asking.{unasked}
use Rattle.bes_io.specs.Reader.{allowed}
use Rattle.bes_io.proofs.AskingLemmas.{asked-then}
use Rattle.bes_io.specs.Causes.{Rose}
use Rattle.monitor.specs.Verdicts.{verdict_of}
use Rattle.input_letters.specs.Letters.{NextLetter, HasTraceCause}
use Rattle.monitor_command.specs.Monitoring.{verdict_line}
use Rattle.command_endings.specs.Endings.{status_of, IsUnread}
use Rattle.command_endings.specs.Worlds.{world}
use Rattle.input_letters.proofs.TraceLemmas.{same-cause, same-faults, falls}
use Rattle.command_endings.proofs.CallLemmas.{PutsLines-none, PutsLines-more}
use Rattle.command_endings.proofs.ReadingLemmas.{late}
use Rattle.monitor_command.proofs.VerdictLines.{verdict-line}
use Rattle.monitor_command.proofs.MonitorLines.{monitored-start, monitored-more, line-due}
use Rattle.monitor_command.proofs.MonitorRuns.{run-ends, run-stops, run-unheard, late-after}
use Rattle.monitor_command.proofs.monitoring.monitor_input.Goals as goal

pub loop-letter-init : goal.loop-letter-init
loop-letter-init g c =
    let all : allowed c.new-reader.result ≡ 1099511627776 = ap allowed c.new-reader.ensures in
    record {
      told = λ f opened rest told. monitored-start c.args.store.now c.args.names.now.names f rest (g.O.Sink.held c.args.out.now) c.new-reader.result (g.S.Source.left c.args.input.now) c.args.monitor c.new-reader.ensures opened told;
      silent = λ f opened rest told none. refl;
      lines = PutsLines-none g.O.Sink.IsPut c.args.out.now c.args.out.now refl;
      asked = unasked;
      ready = c.requires.ready;
      reads = refl;
      puts = refl;
      few = omega arith;
    }

pub returns-in-Ok-None-clause-performs : goal.returns-in-Ok-None-clause-performs
returns-in-Ok-None-clause-performs g c contents failed f opened =
    let is : c.next_letter.result ≡ Ok None = c.in-Ok-None.is ∙ ap Ok c.in-Ok-None.field-0-is in
    let l = c.loop-letter in
    let reads = subst (HasTraceCause _ _) is c.next_letter.ensures.cause in
    run-ends c.args.store.now c.args.names.now.names f
    (world contents failed (g.S.Source.left c.args.input.now) (g.S.Source.faults c.args.input.now) (g.O.Sink.held c.args.out.now) (g.O.Sink.faults c.args.out.now))
    (world contents failed (g.S.Source.left c.next_letter.new.input) (g.S.Source.faults c.next_letter.new.input) (g.O.Sink.held l.out) (g.O.Sink.faults l.out))
    l.reader c.next_letter.new.reader (g.S.Source.left l.input) l.monitor l.line l.last (g.O.Sink.held l.out) c.next_letter.result
    (l.invariant.told f opened) c.next_letter.ensures.tells refl is (reads ∙ l.invariant.reads) l.invariant.puts refl c.last_ending.result c.last_ending.ensures

pub returns-in-Err-clause-performs : goal.returns-in-Err-clause-performs
returns-in-Err-clause-performs g c contents failed f opened =
    let l = c.loop-letter in
    let cause : HasTraceCause {T = List ℕ} (g.S.Source.faults c.args.input.now) (g.S.Source.faults c.next_letter.new.input) (Err c.in-Err.ending) =
    same-cause _ _ _ c.next_letter.result c.in-Err.ending c.next_letter.ensures.cause l.invariant.reads c.in-Err.is in
    run-stops c.args.store.now c.args.names.now.names f
    (world contents failed (g.S.Source.left c.args.input.now) (g.S.Source.faults c.args.input.now) (g.O.Sink.held c.args.out.now) (g.O.Sink.faults c.args.out.now))
    (world contents failed (g.S.Source.left c.next_letter.new.input) (g.S.Source.faults c.next_letter.new.input) (g.O.Sink.held l.out) (g.O.Sink.faults l.out))
    l.reader c.next_letter.new.reader (g.S.Source.left l.input) l.monitor l.line l.last (g.O.Sink.held l.out) c.next_letter.result
    (l.invariant.told f opened) c.next_letter.ensures.tells refl l.invariant.ready c.requires.props l.invariant.puts refl
    c.in-Err.ending c.in-Err.is cause c.in-Err.ensures.served

pub returns-in-Err-put_verdict-clause-performs : goal.returns-in-Err-put_verdict-clause-performs
returns-in-Err-put_verdict-clause-performs g c contents failed f opened =
    let l = c.loop-letter in
    let is : c.next_letter.result ≡ Ok (Some c.in-Ok-Some.letter) = c.in-Ok-Some.is ∙ ap Ok c.in-Ok-Some.field-0-is in
    run-unheard c.args.store.now c.args.names.now.names f
    (world contents failed (g.S.Source.left c.args.input.now) (g.S.Source.faults c.args.input.now) (g.O.Sink.held c.args.out.now) (g.O.Sink.faults c.args.out.now))
    (world contents failed (g.S.Source.left c.next_letter.new.input) (g.S.Source.faults c.next_letter.new.input) (g.O.Sink.held c.put_verdict.new.out) (g.O.Sink.faults c.put_verdict.new.out))
    l.reader c.next_letter.new.reader (g.S.Source.left l.input) l.monitor l.line l.last (g.O.Sink.held l.out) c.next_letter.result
    (l.invariant.told f opened) c.next_letter.ensures.tells refl l.invariant.ready c.requires.props c.in-Ok-Some.letter is
    c.event-verdict.result c.event-verdict.ensures.verdict c.in-Err-put_verdict.ensures.bytes
    (subst (λ k. Rose k (g.O.Sink.faults c.put_verdict.new.out)) l.invariant.puts c.in-Err-put_verdict.ensures.cause.failed)
    (same-faults _ _ c.in-Ok-Some.letter c.next_letter.result c.next_letter.ensures.cause is ∙ l.invariant.reads)

pub returns-in-Ok-None-clause-late : goal.returns-in-Ok-None-clause-late
returns-in-Ok-None-clause-late g c = subst (λ e. ¬ IsUnread (status_of e)) (sym c.last_ending.ensures) (late-after c.loop-letter.last)

pub returns-in-Err-put_verdict-clause-late : goal.returns-in-Err-put_verdict-clause-late
returns-in-Err-put_verdict-clause-late g c = late 7 (inr (omega arith))

pub returns-in-Err-put_verdict-clause-lines : goal.returns-in-Err-put_verdict-clause-lines
returns-in-Err-put_verdict-clause-lines g c =
    let v = verdict_of c.event-verdict.result in
    PutsLines-more g.O.Sink.IsPut c.args.out.now c.loop-letter.out c.put_verdict.new.out (verdict_line v) c.loop-letter.invariant.lines (verdict-line v) c.put_verdict.ensures.put

pub returns-in-Ok-None-clause-silent : goal.returns-in-Ok-None-clause-silent
returns-in-Ok-None-clause-silent g c = c.loop-letter.invariant.silent

pub returns-in-Err-clause-silent : goal.returns-in-Err-clause-silent
returns-in-Err-clause-silent g c = c.loop-letter.invariant.silent

pub returns-in-Err-put_verdict-clause-silent : goal.returns-in-Err-put_verdict-clause-silent
returns-in-Err-put_verdict-clause-silent g c f opened rest told none =
    let l = c.loop-letter in
    let is : c.next_letter.result ≡ Ok (Some c.in-Ok-Some.letter) = c.in-Ok-Some.is ∙ ap Ok c.in-Ok-Some.field-0-is in
    let w = l.invariant.told f opened rest told in
    absurd {A = c.put_verdict.new.out ≡ c.args.out.now} (line-due c.args.store.now c.args.names.now.names f rest (g.O.Sink.held c.args.out.now) l.reader c.next_letter.new.reader (g.S.Source.left l.input) (g.S.Source.left c.next_letter.new.input) l.monitor l.line l.last (g.O.Sink.held l.out) w c.in-Ok-Some.letter
    (subst (λ q. NextLetter c.args.names.now.names l.line l.reader w.bytes q c.next_letter.new.reader (g.S.Source.left c.next_letter.new.input)) is (c.next_letter.ensures.tells w.bytes w.input_left))
    c.requires.props c.event-verdict.result c.event-verdict.ensures.verdict l.invariant.ready none)

pub loop-letter-preserved : goal.loop-letter-preserved
loop-letter-preserved g c =
    let l = c.loop-letter in
    let is : c.next_letter.result ≡ Ok (Some c.in-Ok-Some.letter) = c.in-Ok-Some.is ∙ ap Ok c.in-Ok-Some.field-0-is in
    let less : allowed c.next_letter.new.reader < allowed c.loop-letter.reader = falls _ _ c.in-Ok-Some.letter c.next_letter.result c.next_letter.ensures.progress is in
    let few : c.loop-letter.line + allowed c.loop-letter.reader ≤ 1099511627777 = c.loop-letter.invariant.few in
    record {
      told = λ f opened rest told.
          let w = l.invariant.told f opened rest told in
          monitored-more c.args.store.now c.args.names.now.names f rest (g.O.Sink.held c.args.out.now) l.reader c.next_letter.new.reader (g.S.Source.left l.input) (g.S.Source.left c.next_letter.new.input) l.monitor l.line l.last (g.O.Sink.held l.out) w c.in-Ok-Some.letter
          (subst (λ q. NextLetter c.args.names.now.names l.line l.reader w.bytes q c.next_letter.new.reader (g.S.Source.left c.next_letter.new.input)) is (c.next_letter.ensures.tells w.bytes w.input_left))
          c.requires.props c.event-verdict.result c.event-verdict.ensures.verdict c.event-verdict.new.self c.event-verdict.ensures.same c.event-verdict.ensures.moved
          (g.O.Sink.held c.put_verdict.new.out) c.in-Ok.ensures.bytes;
      silent = λ f opened rest told none.
          let w = l.invariant.told f opened rest told in
          absurd (line-due c.args.store.now c.args.names.now.names f rest (g.O.Sink.held c.args.out.now) l.reader c.next_letter.new.reader (g.S.Source.left l.input) (g.S.Source.left c.next_letter.new.input) l.monitor l.line l.last (g.O.Sink.held l.out) w c.in-Ok-Some.letter
          (subst (λ q. NextLetter c.args.names.now.names l.line l.reader w.bytes q c.next_letter.new.reader (g.S.Source.left c.next_letter.new.input)) is (c.next_letter.ensures.tells w.bytes w.input_left))
          c.requires.props c.event-verdict.result c.event-verdict.ensures.verdict l.invariant.ready none);
      lines = PutsLines-more g.O.Sink.IsPut c.args.out.now l.out c.put_verdict.new.out (verdict_line (verdict_of c.event-verdict.result)) l.invariant.lines (verdict-line (verdict_of c.event-verdict.result)) c.put_verdict.ensures.put;
      asked = asked-then l.invariant.asked l.invariant.reads c.next_letter.ensures.asked;
      ready = c.event-verdict.ensures.ready;
      reads = same-faults _ _ c.in-Ok-Some.letter c.next_letter.result c.next_letter.ensures.cause is ∙ l.invariant.reads;
      puts = c.in-Ok.ensures.cause.kept ∙ l.invariant.puts;
      few = omega arith;
    }

pub returns-in-Ok-None-clause-asked : goal.returns-in-Ok-None-clause-asked
returns-in-Ok-None-clause-asked g c = asked-then c.loop-letter.invariant.asked c.loop-letter.invariant.reads c.next_letter.ensures.asked

pub returns-in-Err-clause-asked : goal.returns-in-Err-clause-asked
returns-in-Err-clause-asked g c = asked-then c.loop-letter.invariant.asked c.loop-letter.invariant.reads c.next_letter.ensures.asked

pub returns-in-Err-put_verdict-clause-asked : goal.returns-in-Err-put_verdict-clause-asked
returns-in-Err-put_verdict-clause-asked g c = asked-then c.loop-letter.invariant.asked c.loop-letter.invariant.reads c.next_letter.ensures.asked
