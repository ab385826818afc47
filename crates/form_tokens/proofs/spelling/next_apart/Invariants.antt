use Rattle.std.proofs.Common.{◌≡◌, ◌+◌, ◌≤◌, ◌-◌, zero, false, length, drop}
use Rattle.form_tokens.specs.Spelling.{pieces}
use Rattle.form_tokens.proofs.spelling.next_apart.Given as goal

abbrev pub invariant-loop-at : goal.invariant-loop-at
invariant-loop-at l = record {
  from : l.from ≤ l.at;
  within : l.at ≤ length l.text;
  same : pieces l.dialect zero false (l.from + 1) (drop l.from l.text) ≡ pieces l.dialect zero false (l.at + 1) (drop l.at l.text);
}

abbrev pub decreases-loop-at : goal.decreases-loop-at
decreases-loop-at l = length l.text - l.at
