use Rattle.std.proofs.Common.{◌++◌, [], ◌∷◌, arith, sym, ◌∙◌, ap, take, append_assoc}
use Rattle.std.specs.Prelude.{slice_index}
use Rattle.std.proofs.lemmas.List.{take_more, append-nil}
use Rattle.class_laws.proofs.ShiftAll.{shifted_none, shifted_more, holds-place, once-take}
use Rattle.refinement.proofs.parting.shift_all.Goals as goal

pub loop-at-init : goal.loop-at-init
loop-at-init c = record {
  moved = shifted_none c.args.size c.args.from c.args.blocks.now c.add_block-into.new.self c.requires.each c.requires.from c.add_block-into.ensures.lists c.add_block-into.ensures.moves;
  shifted = sym (append-nil c.args.shifted.now.items);
}

pub shift-requires-clause-at : goal.shift-requires-clause-at
shift-requires-clause-at c =
    let m = c.args.moving.now in
    let k = c.loop-at.at-index in
    let w = c.requires.moving.within (slice_index m k) (holds-place m k c.loop-at-test.true) in
    (c.loop-at.invariant.moved.each.there (slice_index m k) w.0).0

pub shift-requires-clause-other : goal.shift-requires-clause-other
shift-requires-clause-other c =
    let m = c.args.moving.now in
    let k = c.loop-at.at-index in
    let w = c.requires.moving.within (slice_index m k) (holds-place m k c.loop-at-test.true) in
    let lacks = once-take m k c.requires.moving.once c.loop-at-test.true in
    let here = c.loop-at.invariant.moved.stays (slice_index m k) w.0 lacks ∙ w.1 in
    let into = c.add_block-into.ensures.number in
    let l = c.requires.from in
    λ z. absurd (omega (arith, here, into, l, z))

pub returns-in_err-push-clause-each : goal.returns-in_err-push-clause-each
returns-in_err-push-clause-each c =
    let m = c.args.moving.now in
    let k = c.loop-at.at-index in
    let w = c.requires.moving.within (slice_index m k) (holds-place m k c.loop-at-test.true) in
    let lacks = once-take m k c.requires.moving.once c.loop-at-test.true in
    let s = shifted_more c.args.size c.args.from (slice_index m k) c.args.blocks.now c.loop-at.blocks c.shift.new.self (take k m) c.loop-at.invariant.moved c.requires.each w.0 w.1 c.requires.from lacks
    (rw (← c.add_block-into.ensures.number) c.shift.ensures.lists) c.shift.ensures.moves in
    s.each

pub loop-at-preserved : goal.loop-at-preserved
loop-at-preserved c =
    let m = c.args.moving.now in
    let k = c.loop-at.at-index in
    let w = c.requires.moving.within (slice_index m k) (holds-place m k c.loop-at-test.true) in
    let lacks = once-take m k c.requires.moving.once c.loop-at-test.true in
    let s = shifted_more c.args.size c.args.from (slice_index m k) c.args.blocks.now c.loop-at.blocks c.shift.new.self (take k m) c.loop-at.invariant.moved c.requires.each w.0 w.1 c.requires.from lacks
    (rw (← c.add_block-into.ensures.number) c.shift.ensures.lists) c.shift.ensures.moves in
    let more = take_more m k 0 c.loop-at-test.true in
    record {
      moved = rw (more) s;
      shifted = c.in_ok-push.ensures.items ∙ ap (λ z. z ++ slice_index m k ∷ []) c.loop-at.invariant.shifted ∙ append_assoc c.args.shifted.now.items (take k m) (slice_index m k ∷ []) ∙ ap (λ z. c.args.shifted.now.items ++ z) (sym more);
    }
