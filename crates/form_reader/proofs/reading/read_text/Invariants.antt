use Rattle.std.proofs.Common.{◌≡◌, ◌≤◌, ◌+◌, ◌-◌, [], zero, length, take, drop}
use Rattle.form_tokens.specs.Spelling.{pieces, lexemes}
use Rattle.form_reader.specs.Faults.{names_after}
use Rattle.form_reader.specs.Machine.{Due}
use Rattle.form_reader.specs.Outcome.{outcome, stage_of}
use Rattle.form_reader.specs.Stack.{state_of}
use Rattle.form_reader.proofs.reading.read_text.Given as goal

abbrev pub invariant-loop-found : goal.invariant-loop-found
invariant-loop-found l = record {
  within : l.from ≤ length l.text;
  counted : l.count ≤ l.from;
  closed : l.names.closed ≡ l.initial.names.closed;
  rest : drop l.count (lexemes l.dialect l.text) ≡ pieces l.dialect zero l.in_word (l.from + 1) (drop l.from l.text);
  names : names_after l.initial.names.names (take l.count (lexemes l.dialect l.text)) ≡ l.names.names;
  same : outcome l.initial.names.closed (stage_of l.initial.names.names 0 (Due [])) (lexemes l.dialect l.text)
      ≡ outcome l.initial.names.closed (stage_of l.names.names l.count (state_of l.waiting.items l.latest)) (pieces l.dialect zero l.in_word (l.from + 1) (drop l.from l.text));
}

abbrev pub decreases-loop-found : goal.decreases-loop-found
decreases-loop-found l = length l.text - l.from
