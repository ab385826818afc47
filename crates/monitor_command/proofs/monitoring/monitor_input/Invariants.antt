use Rattle.std.proofs.Common.{◌≡◌, ℕ, ◌+◌, ◌≤◌, List, Some}
use Rattle.forms.specs.Word.{Claim}
use Rattle.bes_io.specs.Asking.{IsAsked}
use Rattle.bes_io.specs.Reader.{allowed}
use Rattle.monitor.specs.Configuration.{IsReady}
use Rattle.monitor_command.specs.Monitoring.{most_monitored, IsMonitored}
use Rattle.monitor_command.specs.OpenedMonitor.{IsOpened}
use Rattle.command_endings.specs.Tasks.{NoOutputIsDue}
use Rattle.command_endings.specs.Calls.{PutsLines}
use Rattle.monitor_command.proofs.MonitorLines.{Monitored}
use Rattle.monitor_command.proofs.monitoring.monitor_input.Given as goal

abbrev pub invariant-loop-letter : goal.invariant-loop-letter
invariant-loop-letter g l = record {
  told : (f : Claim) → IsOpened l.fn.store l.fn.monitor l.fn.names.names f → (rest : List ℕ) → g.S.Source.left l.fn.input ≡ Some rest
      → Monitored l.store l.names.names f rest (g.O.Sink.held l.fn.out) l.reader (g.S.Source.left l.input) l.monitor l.line l.last (g.O.Sink.held l.out);
  silent : (f : Claim) → IsOpened l.fn.store l.fn.monitor l.fn.names.names f → (rest : List ℕ) → g.S.Source.left l.fn.input ≡ Some rest
      → NoOutputIsDue (IsMonitored l.names.names f rest) → l.out ≡ l.fn.out;
  lines : PutsLines g.O.Sink.IsPut l.fn.out l.out;
  asked : IsAsked g.S.Source.faults g.S.Source.IsTaken l.fn.input l.input;
  ready : IsReady l.store l.monitor;
  reads : g.S.Source.faults l.input ≡ g.S.Source.faults l.fn.input;
  puts : g.O.Sink.faults l.out ≡ g.O.Sink.faults l.fn.out;
  few : l.line + allowed l.reader ≤ most_monitored + 1;
}

abbrev pub decreases-loop-letter : goal.decreases-loop-letter
decreases-loop-letter g l = allowed l.reader
