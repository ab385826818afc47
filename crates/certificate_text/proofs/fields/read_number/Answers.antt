use Rattle.std.proofs.Common.{arith, inl, inr, length, get_or, ◌≡◌, ◌∙◌, sym}
use Rattle.std.proofs.lemmas.Bool.{ltb-true, ltb-false, eqb-true}
use Rattle.certificate_text.proofs.DigitLemmas.{read_more, number_read, no_empty, no_long, no_leading_zero, no_other_byte, no_great}
use Rattle.certificate_text.proofs.fields.read_number.Goals as goal
use Rattle.certificate_text.proofs.fields.read_number.Goals.{then-text-eq48, else-text-eq48}

pub returns-then-text-eq0-clause-none : goal.returns-then-text-eq0-clause-none
returns-then-text-eq0-clause-none c = no_empty c.args.text.now c.if-text-eq0.true

pub returns-then-text-gt10-clause-none : goal.returns-then-text-gt10-clause-none
returns-then-text-gt10-clause-none c = no_long c.args.text.now c.if-text-gt10.true

pub returns-then-leads-clause-none : goal.returns-then-leads-clause-none
returns-then-leads-clause-none c =
    elim c.if-text-eq48.branch [
      | then-text-eq48 w ↦ no_leading_zero c.args.text.now w.if-text-eq48.true (ltb-true 1 (length c.args.text.now) (sym w.leads-is ∙ c.if-leads.true))
      | else-text-eq48 w ↦ absurd (w.if-text-eq48.false (eqb-true (get_or c.args.text.now 0 0) 48 (sym w.leads-is ∙ c.if-leads.true)))
    ]

pub returns-then-b-lt48-clause-none : goal.returns-then-b-lt48-clause-none
returns-then-b-lt48-clause-none c = no_other_byte c.args.text.now c.loop-b.b-index (omega arith) (inl c.if-b-lt48.true)

pub returns-then-b-gt57-clause-none : goal.returns-then-b-gt57-clause-none
returns-then-b-gt57-clause-none c = no_other_byte c.args.text.now c.loop-b.b-index (omega arith) (inr c.if-b-gt57.true)

pub loop-b-preserved : goal.loop-b-preserved
loop-b-preserved c = read_more c.args.text.now c.loop-b.b-index c.loop-b.value (omega arith) (omega arith) (omega arith) c.loop-b.invariant

pub returns-then-value-clause-some : goal.returns-then-value-clause-some
returns-then-value-clause-some c =
    let e : c.loop-b.b-index ≡ length c.args.text.now = omega arith in
    number_read c.args.text.now c.loop-b.value (rw e at c.loop-b.invariant) (omega arith)
    (λ zero. elim c.if-text-eq48.branch [
      | then-text-eq48 w ↦ let le = ltb-false 1 (length c.args.text.now) (sym w.leads-is ∙ c.if-leads.false) in omega arith
      | else-text-eq48 w ↦ absurd (w.if-text-eq48.false zero)
    ])
    (omega arith)

pub returns-else-value-clause-none : goal.returns-else-value-clause-none
returns-else-value-clause-none c =
    let e : c.loop-b.b-index ≡ length c.args.text.now = omega arith in
    no_great c.args.text.now c.loop-b.value (rw e at c.loop-b.invariant) (omega arith)
