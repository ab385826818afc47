use Rattle.certificate_text.specs.Digits.{SpeltSoFar}
use Rattle.certificate_text.proofs.fields.read_bits.Given as goal

abbrev pub invariant-loop-b : goal.invariant-loop-b
invariant-loop-b l = SpeltSoFar l.text l.b-index l.value
