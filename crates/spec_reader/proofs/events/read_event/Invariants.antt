use Rattle.std.proofs.Common.{◌≡◌, ◌-◌, ◌≤◌, length}
use Rattle.spec_reader.specs.Event.{pieces}
use Rattle.spec_reader.proofs.Outcome.{outcome}
use Rattle.spec_reader.proofs.Pieces.{pieces_at}
use Rattle.spec_reader.proofs.events.read_event.Given as goal

abbrev pub invariant-loop-start : goal.invariant-loop-start
invariant-loop-start l = record {
  within : l.start ≤ length l.line;
  same : outcome l.names.names l.mode 0 (pieces l.line) ≡ outcome l.names.names l.mode l.letter (pieces_at l.line l.start);
}

abbrev pub decreases-loop-start : goal.decreases-loop-start
decreases-loop-start l = length l.line - l.start
