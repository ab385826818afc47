use Rattle.certificate_text.specs.Digits.{ReadSoFar}
use Rattle.certificate_text.proofs.fields.read_number.Given as goal

abbrev pub invariant-loop-b : goal.invariant-loop-b
invariant-loop-b l = ReadSoFar l.text l.b-index l.value
