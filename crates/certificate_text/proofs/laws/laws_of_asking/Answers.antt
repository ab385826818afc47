use Rattle.std.proofs.Common.{arith, ℕ, ◌<◌, ◌+◌}
use Rattle.certificate_text.proofs.AskedLemmas.{asked_each, asked_any, asked_any_each, asked_each_any, asked_at_each, asked_at_any}
use Rattle.certificate_text.proofs.CubeLemmas.{whole_some}
use Rattle.certificate_text.proofs.CubeLevelLemmas.{asked_cube_then, some_fails}
use Rattle.certificate_text.proofs.ExactLemmas.{whole_exact, field_of_rows}
use Rattle.certificate_text.proofs.TestLemmas.{tests_are_of_rules}
use Rattle.certificate_text.proofs.laws.laws_of_asking.Goals as goal

below_sum : (i n : ℕ) → i < 0 + n → i < n
below_sum i n h = omega arith

pub returns : goal.returns
returns c = record {
  each = asked_each;
  some = asked_any;
  some_each = asked_any_each;
  each_some = asked_each_any;
  one_each = asked_at_each;
  one_some = asked_at_any;
  cube = asked_cube_then;
  some_fails = some_fails;
  whole = λ k es a h l. whole_some k es a h l;
  exact = λ k es e h l. whole_exact k es e h l;
  line = λ w cubes n a i h. let f = field_of_rows w 0 cubes 0 n a i h in (below_sum i n f.1, f.2);
  tests = tests_are_of_rules;
}
