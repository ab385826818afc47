use Rattle.std.proofs.Common.{◌≡◌, ◌≢◌, ◌<◌, refl, sym, subst, length, arith, ℕ, ap}
use Rattle.forms.specs.Tree.{tree}
use Rattle.forms.specs.Satisfaction.{meets}
use Rattle.class_limit.specs.Limits.{most_classes}
use Rattle.class_limit.proofs.LimitLemmas.{within_limit, not-within, limit-ends, no-answer-at-limit}
use Rattle.command_endings.specs.declared.endings.Concern.TheVariants as concern
use Rattle.command_endings.specs.Endings.{status_of, IsUnread}
use Rattle.command_endings.specs.Tasks.{Performs}
use Rattle.command_endings.specs.Worlds.{world}
use Rattle.command_endings.proofs.Performing.{formula-ends}
use Rattle.command_endings.proofs.ReadingLemmas.{reads-none, reads-asked, no-formula, no-answer-at-formula}
use Rattle.command_endings.proofs.WritingLemmas.{writes-none}
use Rattle.monitor_command.specs.Monitoring.{formula_refused, too_many, monitor_task}
use Rattle.monitor_command.proofs.MonitorLemmas.{performs-more}
use Rattle.monitor_command.proofs.MonitorRuns.{served-status}
use Rattle.monitor_command.proofs.OpenLemmas.{monitor-answers}
use Rattle.monitor_command.proofs.monitoring.monitor_formula.Goals as goal

pub returns-in-Err-clause-performs : goal.returns-in-Err-clause-performs
returns-in-Err-clause-performs g c contents failed =
    formula-ends (monitor_task c.args.dialect c.args.text.now) _ _ c.args.dialect c.args.text.now
    (λ fault why files rest. formula_refused why) c.in-Err.ending c.in-Err.ensures.ending (record { input_faults = refl; output_faults = refl; failed = refl }) refl

pub returns-in-Err-clause-writes : goal.returns-in-Err-clause-writes
returns-in-Err-clause-writes g c contents failed =
    writes-none g.O.Sink.IsPut (monitor_task c.args.dialect c.args.text.now) _ _ c.args.out.now c.args.out.now (status_of c.in-Err.ending) refl
    (no-answer-at-formula c.args.dialect c.args.text.now c.in-Err.ending c.in-Err.ensures.ending)

pub returns-in-Err-clause-reads : goal.returns-in-Err-clause-reads
returns-in-Err-clause-reads g c contents failed =
    reads-none g.S.Source.faults g.S.Source.IsTaken (monitor_task c.args.dialect c.args.text.now) _ c.args.input.now c.args.input.now (status_of c.in-Err.ending) refl
    (λ files told early may. no-formula c.args.dialect c.args.text.now c.in-Err.ending c.in-Err.ensures.ending early may.0 may.1)

pub returns-in-Ok-open-clause-performs : goal.returns-in-Ok-open-clause-performs
returns-in-Ok-open-clause-performs g c contents failed =
    let dialect = c.args.dialect in
    let text = c.args.text.now in
    let names = c.in-Ok.read.1.names in
    let f = tree c.in-Ok.read.0 in
    let is = c.in-Ok.ensures.formula in
    let same = c.in-Ok.ensures.names in
    let within = c.in-Ok-open.ensures.within in
    performs-more dialect text names (λ w. meets (length names) f w) (within_limit dialect text names f is same within) (monitor-answers dialect text names f is same within)
    (world contents failed (g.S.Source.left c.args.input.now) (g.S.Source.faults c.args.input.now) (g.O.Sink.held c.args.out.now) (g.O.Sink.faults c.args.out.now))
    (world contents failed (g.S.Source.left c.monitor_input.new.input) (g.S.Source.faults c.monitor_input.new.input) (g.O.Sink.held c.monitor_input.new.out) (g.O.Sink.faults c.monitor_input.new.out))
    c.monitor_input.result (c.monitor_input.ensures.performs contents failed (λ w. meets (length names) f w) c.in-Ok-open.ensures.opened)

pub returns-in-Ok-open-clause-writes : goal.returns-in-Ok-open-clause-writes
returns-in-Ok-open-clause-writes g c contents failed =
    let dialect = c.args.dialect in
    let text = c.args.text.now in
    let names = c.in-Ok.read.1.names in
    let f = tree c.in-Ok.read.0 in
    let is = c.in-Ok.ensures.formula in
    let same = c.in-Ok.ensures.names in
    let within = c.in-Ok-open.ensures.within in
    record {
      silent = λ files rest tells none. c.monitor_input.ensures.silent (λ w. meets (length names) f w) c.in-Ok-open.ensures.opened rest
          (tells.told_input (within_limit dialect text names f is same within)) (λ reply w. none reply (monitor-answers dialect text names f is same within rest reply w));
      nothing = λ is. absurd (served-status c.monitor_input.result c.monitor_input.ensures.served is);
      unwritten = λ off. cc;
      once = λ off. cc;
      written = λ files rest tells off. cc;
      lines = λ on. c.monitor_input.ensures.lines;
    }

pub returns-in-Ok-open-clause-reads : goal.returns-in-Ok-open-clause-reads
returns-in-Ok-open-clause-reads g c contents failed =
    reads-asked g.S.Source.faults g.S.Source.IsTaken (monitor_task c.args.dialect c.args.text.now) _ c.args.input.now c.monitor_input.new.input (status_of c.monitor_input.result) refl
    (within_limit c.args.dialect c.args.text.now c.in-Ok.read.1.names (tree c.in-Ok.read.0) c.in-Ok.ensures.formula c.in-Ok.ensures.names c.in-Ok-open.ensures.within)
    c.monitor_input.ensures.late c.monitor_input.ensures.asked (λ on is. absurd (served-status c.monitor_input.result c.monitor_input.ensures.served is))

pub returns-clause-performs : goal.returns-clause-performs
returns-clause-performs g c contents failed =
    subst (Performs (monitor_task c.args.dialect c.args.text.now) _ _) (sym c.limit_ending.ensures)
    (limit-ends c.args.dialect c.args.text.now c.in-Ok.read.1.names (tree c.in-Ok.read.0) c.in-Ok.ensures.formula c.in-Ok.ensures.names
    (monitor_task c.args.dialect c.args.text.now) _ _ (λ part count first files rest. too_many c.in-Ok.ensures.formula first)
    (record { input_faults = refl; output_faults = refl; failed = refl }) refl c.in-Err-open.fault c.in-Err-open.ensures.fault)

pub returns-clause-writes : goal.returns-clause-writes
returns-clause-writes g c contents failed =
    writes-none g.O.Sink.IsPut (monitor_task c.args.dialect c.args.text.now) _ _ c.args.out.now c.args.out.now (status_of c.limit_ending.result) refl
    (subst (λ e. status_of e < 2 → ⊥) (sym c.limit_ending.ensures) (no-answer-at-limit concern.Formula most_classes c.in-Err-open.fault))

pub returns-clause-reads : goal.returns-clause-reads
returns-clause-reads g c contents failed =
    reads-none g.S.Source.faults g.S.Source.IsTaken (monitor_task c.args.dialect c.args.text.now) _ c.args.input.now c.args.input.now (status_of c.limit_ending.result) refl
    (λ files told early. not-within c.args.dialect c.args.text.now c.in-Ok.read.1.names (tree c.in-Ok.read.0) c.in-Ok.ensures.formula c.in-Ok.ensures.names
    c.in-Err-open.fault c.in-Err-open.ensures.fault (subst (λ e. IsUnread (status_of e)) c.limit_ending.ensures early))
