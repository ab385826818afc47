use Rattle.std.proofs.Common.{◌≡◌, ◌≤◌, length, take, drop}
use Rattle.trace_meaning.specs.Star.{first_or, turns_further, turns_followed}
use Rattle.trace_meaning.specs.State.{path_state}
use Rattle.trace_meaning.proofs.star.take_turns.Given as goal

abbrev pub invariant-loop-i : goal.invariant-loop-i
invariant-loop-i l = record {
  within : l.i ≤ length l.further.items;
  whole : length l.further.items ≡ length l.initial.further.items;
  left : take l.i l.further.items ≡ take l.i l.initial.further.items;
  done : drop l.i l.further.items ≡ turns_further l.initial.next (drop l.i l.initial.further.items) (path_state l.initial.track);
  next : l.next ≡ first_or l.initial.next (turns_further l.initial.next (drop l.i l.initial.further.items) (path_state l.initial.track));
  followed : path_state l.track ≡ turns_followed l.initial.next (drop l.i l.initial.further.items) (path_state l.initial.track);
}

abbrev pub decreases-loop-i : goal.decreases-loop-i
decreases-loop-i l = l.i
