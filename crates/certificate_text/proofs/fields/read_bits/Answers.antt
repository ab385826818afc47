use Rattle.std.proofs.Common.{arith, ◌+◌, subst, ℕ}
use Rattle.certificate_text.specs.Digits.{SpeltSoFar}
use Rattle.certificate_text.proofs.BitLemmas.{spelt_more, no_other_length, no_other_bit}
use Rattle.certificate_text.proofs.fields.read_bits.Goals as goal
use Rattle.certificate_text.proofs.fields.read_bits.Goals.{then-b-eq48, else-b-eq48+then-b-eq49}

pub returns-then-text-width-clause-none : goal.returns-then-text-width-clause-none
returns-then-text-width-clause-none c n small = no_other_length c.args.text.now c.args.width n (omega arith) c.if-text-width.true

pub returns-else-b-eq49-clause-none : goal.returns-else-b-eq49-clause-none
returns-else-b-eq49-clause-none c n small =
    no_other_bit c.args.text.now c.args.width n c.loop-b.b-index (omega arith) (omega arith) c.if-b-eq48.false c.if-b-eq49.false

pub loop-b-preserved : goal.loop-b-preserved
loop-b-preserved c =
    let P : ℕ → Type 0 = λ z. SpeltSoFar c.args.text.now (c.loop-b.b-index + 1) z in
    elim c.if-b-eq48.branch [
      | then-b-eq48 w ↦ subst P (let e = w.value-is in omega arith) (spelt_more c.args.text.now c.loop-b.b-index c.loop-b.value 0 (omega arith) w.if-b-eq48.true (omega arith) c.loop-b.invariant)
      | else-b-eq48+then-b-eq49 w ↦ subst P (let e = w.value-is in omega arith) (spelt_more c.args.text.now c.loop-b.b-index c.loop-b.value 1 (omega arith) w.if-b-eq49.true (omega arith) c.loop-b.invariant)
    ]
