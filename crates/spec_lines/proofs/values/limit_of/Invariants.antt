-- The digits before the index.
use Rattle.std.proofs.Common.{◌≡◌, ◌≤◌, ◌<◌, ◌+◌, ◌*◌, true, take, slice_index}
use Rattle.std.specs.Str.{all_ascii_digits}
use Rattle.std.specs.Str.Parse.{digits_value}
use Rattle.spec_lines.proofs.values.limit_of.Given as goal

abbrev pub invariant-loop-byte : goal.invariant-loop-byte
invariant-loop-byte l = record {
  digits : all_ascii_digits (take l.byte-index l.value) ≡ true;
  number : l.limit ≡ digits_value 10 (take l.byte-index l.value);
  first : 0 < l.byte-index → (0 < l.limit) × (slice_index l.value 0 ≡ 48 → ⊥);
  bound : l.limit ≤ 10 * l.most + 9;
}
