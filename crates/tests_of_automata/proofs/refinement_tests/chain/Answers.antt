use Rattle.std.proofs.Common.{◌≡◌, ◌<◌, ◌+◌, arith, sym, ◌∙◌, ap, length, length-append}
use Rattle.diagrams.proofs.Meaning.{Keeps_trans, Keeps_refl}
use Rattle.test_support.proofs.BuildingLemmas.{good_more}
use Rattle.tests_of_automata.proofs.refinement_tests.chain.Goals as goal

pub loop-at-init : goal.loop-at-init
loop-at-init c = record {
  keeps = Keeps_refl c.args.store.now c.props.ensures.canonical;
  marks = ap length c.new-marks.ensures.items;
  rows = (ap length c.new-rows.ensures.items, λ k h. absurd (omega (arith, h)));
}

pub loop-at-preserved : goal.loop-at-preserved
loop-at-preserved c =
    let v = c.loop-at.invariant in
    let n = c.row.new.store in
    record {
      keeps = Keeps_trans c.args.store.now c.loop-at.store n v.keeps c.in_ok-row.ensures.keeps;
      marks = ap length c.in_ok-push.ensures.items ∙ length-append c.loop-at.marks.items _ ∙ ap (λ z. z + 1) v.marks;
      rows = rw (c.in_ok-push-2.ensures.items)
          (good_more c.loop-at.store n c.args.size c.loop-at.rows.items c.loop-at.at c.in_ok-row.field-0 c.in_ok-row.ensures.keeps v.rows (c.in_ok-row.ensures.row c.args.size (omega (arith, c.requires.some))));
    }

pub new-requires : goal.new-requires
new-requires c =
    let v = c.loop-at.invariant in
    let end : c.loop-at.at ≡ c.args.size = (let a = c.loop-at-test.false in let b = c.loop-at.auto.at-end in omega (arith, a, b)) in
    record { same = v.marks ∙ sym v.rows.0; first = omega (arith, v.rows.0, end, c.requires.some); few = omega (arith, v.rows.0, end, c.requires.few) }

pub returns : goal.returns
returns c =
    let v = c.loop-at.invariant in
    let end : c.loop-at.at ≡ c.args.size = (let a = c.loop-at-test.false in let b = c.loop-at.auto.at-end in omega (arith, a, b)) in
    let long : length c.loop-at.rows.items ≡ c.args.size = v.rows.0 ∙ end in
    record {
      fits = λ at h. rw (c.new.ensures.rows, long) (v.rows.1 at (omega (arith, h, ap length c.new.ensures.rows, v.rows.0)));
      size = ap length c.new.ensures.rows ∙ long;
    }
