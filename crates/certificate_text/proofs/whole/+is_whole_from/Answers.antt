use Rattle.std.proofs.Common.{arith, ◌-◌}
use Rattle.certificate_text.proofs.WholeLemmas.{end_whole, none_whole, free_whole, split_whole, halves_whole, from_true, from_false, not_from_false}
use Rattle.certificate_text.proofs.whole.+is_whole_from.Goals as goal

pub returns-then-depth-width : goal.returns-then-depth-width
returns-then-depth-width t c = end_whole c.args.width c.args.depth c.args.cubes.now c.args.from c.args.to c.if-depth-width.true

pub returns-then-from-to : goal.returns-then-from-to
returns-then-from-to t c =
    (λ h. absurd (from_false h), λ h. absurd (none_whole (c.args.width - c.args.depth) c.args.width c.args.depth c.args.cubes.now c.args.from (c.args.to - c.args.from) (let e = c.if-from-to.true in omega arith) h))

pub returns-then-all_have : goal.returns-then-all_have
returns-then-all_have t c =
    let f = free_whole c.args.width c.args.depth c.args.cubes.now c.args.from c.args.to (omega arith) (omega arith) c.requires.within (c.all_have.ensures.0 (from_true c.if-all_have.true)) in
    (λ h. f.0 (c.is_whole_from.ensures.0 h), λ h. c.is_whole_from.ensures.1 (f.1 h))

pub returns-then-not-all_have : goal.returns-then-not-all_have
returns-then-not-all_have t c = (
  λ h. absurd (from_false h),
  λ h.
      let some = not_from_false c.all_have.ensures c.if-all_have.false in
      let s = split_whole c.args.width c.args.depth c.args.cubes.now c.args.from c.args.to c.zeros_end-middle.result (omega arith) (omega arith) some
      c.zeros_end-middle.ensures.above c.zeros_end-middle.ensures.below c.zeros_end-middle.ensures.zeros c.zeros_end-middle.ensures.end h in
      absurd (not_from_false c.all_have-2.ensures c.if-not-all_have.true s.0),
)

pub returns-then-not-is_whole_from : goal.returns-then-not-is_whole_from
returns-then-not-is_whole_from t c = (
  λ h. absurd (from_false h),
  λ h.
      let some = not_from_false c.all_have.ensures c.if-all_have.false in
      let s = split_whole c.args.width c.args.depth c.args.cubes.now c.args.from c.args.to c.zeros_end-middle.result (omega arith) (omega arith) some
      c.zeros_end-middle.ensures.above c.zeros_end-middle.ensures.below c.zeros_end-middle.ensures.zeros c.zeros_end-middle.ensures.end h in
      absurd (not_from_false c.is_whole_from-2.ensures c.if-not-is_whole_from.true s.1),
)

pub returns : goal.returns
returns t c =
    let some = not_from_false c.all_have.ensures c.if-all_have.false in (
      λ h. halves_whole c.args.width c.args.depth c.args.cubes.now c.args.from c.args.to c.zeros_end-middle.result (omega arith) c.requires.within
          c.zeros_end-middle.ensures.above c.zeros_end-middle.ensures.below c.zeros_end-middle.ensures.zeros (c.all_have-2.ensures.0 (from_true c.if-not-all_have.false))
          (c.is_whole_from-2.ensures.0 (from_true c.if-not-is_whole_from.false)) (c.is_whole_from-3.ensures.0 h),
      λ h. c.is_whole_from-3.ensures.1 (split_whole c.args.width c.args.depth c.args.cubes.now c.args.from c.args.to c.zeros_end-middle.result (omega arith) (omega arith) some
          c.zeros_end-middle.ensures.above c.zeros_end-middle.ensures.below c.zeros_end-middle.ensures.zeros c.zeros_end-middle.ensures.end h).2,
    )
