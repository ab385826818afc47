use Rattle.std.proofs.Common.{◌≤◌, vec_len}
use Rattle.bes_io.proofs.standard.read_front.Given as goal

abbrev pub invariant-loop : goal.invariant-loop
invariant-loop g l = vec_len l.text ≤ l.most
