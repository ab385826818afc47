-- The bytes before the end are no blanks.
use Rattle.std.proofs.Common.{◌≡◌, ◌≤◌, ◌-◌, ◌+◌, length, drop}
use Rattle.std.specs.List.{position_or_len}
use Rattle.form_tokens.specs.Words.{is_blank}
use Rattle.spec_lines.proofs.lines.front_word.Given as goal

abbrev pub invariant-loop-end : goal.invariant-loop-end
invariant-loop-end l = (l.end ≤ length l.bytes) × (position_or_len is_blank l.bytes ≡ l.end + position_or_len is_blank (drop l.end l.bytes))

abbrev pub decreases-loop-end : goal.decreases-loop-end
decreases-loop-end l = length l.bytes - l.end
