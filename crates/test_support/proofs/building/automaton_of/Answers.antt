use Rattle.std.proofs.Common.{◌≡◌, ◌≢◌, ◌+◌, arith, sym, ◌∙◌, ap, length, length-append, ◌-◌}
use Rattle.std.proofs.lemmas.Bool.{eqb-false}
use Rattle.diagrams.proofs.Meaning.{Keeps_trans, Keeps_refl}
use Rattle.test_support.proofs.BuildingLemmas.{good_more, given_more}
use Rattle.std.specs.Prelude.{slice_index}
use Rattle.std.proofs.lemmas.Option.{slice_get-get_or, slice_get_within}
use Rattle.test_support.proofs.building.automaton_of.Goals as goal

pub loop-mark-init : goal.loop-mark-init
loop-mark-init c = record {
  keeps = Keeps_refl c.args.store.now c.props.ensures.canonical;
  marks = ap length c.new-marks.ensures.items;
  rows = (ap length c.new-rows.ensures.items, λ k h. absurd (omega (arith, h)));
  given = λ at given h. absurd (omega (arith, h));
}

pub loop-mark-preserved : goal.loop-mark-preserved
loop-mark-preserved c =
    let some : length c.args.table.now ≢ 0 = eqb-false (length c.args.table.now) 0 (sym c.if-is_empty.ensures) in
    let v = c.loop-mark.invariant in
    record {
      keeps = Keeps_trans c.args.store.now c.loop-mark.store c.row.new.store v.keeps c.in_ok-row.ensures.keeps;
      marks = ap length c.in_ok-push.ensures.items ∙ length-append c.loop-mark.marks.items _ ∙ ap (λ z. z + 1) v.marks;
      rows = rw (c.in_ok-push-2.ensures.items)
          (good_more c.loop-mark.store c.row.new.store (length c.args.table.now) c.loop-mark.rows.items c.loop-mark.mark-index c.in_ok-row.field-0 c.in_ok-row.ensures.keeps v.rows
          (c.in_ok-row.ensures.row (length c.args.table.now) (omega (arith, some))));
      given = rw (c.in_ok-push.ensures.items, c.in_ok-push-2.ensures.items)
          (given_more c.loop-mark.store c.row.new.store c.in_ok-row.ensures.keeps (length c.args.table.now - 1) c.args.table.now c.loop-mark.marks.items c.loop-mark.rows.items c.loop-mark.mark-index _
          c.in_ok-row.field-0 v.marks v.rows.0 v.given (slice_get-get_or c.args.table.now c.loop-mark.mark-index _ c.loop-mark-test.true) c.in_ok-row.ensures.leads);
    }

pub new-requires : goal.new-requires
new-requires c =
    let some : length c.args.table.now ≢ 0 = eqb-false (length c.args.table.now) 0 (sym c.if-is_empty.ensures) in
    let v = c.loop-mark.invariant in
    record {
      same = v.marks ∙ sym v.rows.0;
      first = omega (arith, some, v.rows.0, c.min.ensures);
      few = omega (arith, v.rows.0);
    }

pub returns : goal.returns
returns c =
    let v = c.loop-mark.invariant in
    let long : length c.loop-mark.rows.items ≡ length c.args.table.now = omega (arith, v.rows.0) in
    record {
      keeps = v.keeps;
      size = ap length c.new.ensures.rows ∙ long;
      built = record {
        first = c.new.ensures.first ∙ c.min.ensures;
        locations = λ at given e.
            let old = v.given at given (omega (arith, slice_get_within c.args.table.now at given e)) e in
            record { mark = ap (λ xs. slice_index xs at) c.new.ensures.marks ∙ old.mark; row = rw c.new.ensures.rows old.row };
      };
      fits = λ at h. rw (c.new.ensures.rows, long) (v.rows.1 at (omega (arith, h, ap length c.new.ensures.rows, v.rows.0)));
    }
