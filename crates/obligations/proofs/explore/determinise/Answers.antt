use Rattle.std.proofs.Common.{◌≡◌, sym, ◌∙◌, length, arith}
use Rattle.diagrams.proofs.Meaning.{Keeps_trans}
use Rattle.diagrams.proofs.Kept.{kept_none}
use Rattle.diagrams.specs.Transformed.{same_id}
use Rattle.obligations.specs.Located.{IsCut}
use Rattle.obligations.proofs.Holds.{fits_cells_lasts}
use Rattle.obligations.proofs.Exploring.{exploring_start, exploring_next, determinised, fits_done, marks_done}
use Rattle.obligations.proofs.explore.determinise.Goals as goal

pub loop-at-init : goal.loop-at-init
loop-at-init c = (
  rw (c.new-rows.ensures.items, c.new-marks.ensures.items)
      (exploring_start c.args.store.now c.props.ensures.canonical c.args.cells.now c.args.start c.requires.start c.new-frontier.result c.place.new.self c.in_ok-place.field-0 c.new-frontier.ensures c.in_ok-place.ensures.grows c.in_ok-place.ensures.others c.in_ok-place.ensures.within),
  kept_none same_id (IsCut c.args.store.now c.place.new.self) c.new-cuts.result c.new-cuts.ensures,
  c.in_ok-bodies.ensures,
  c.new-composed.ensures c.args.store.now c.in_ok-bodies.bodies.items,
)

pub new-requires-clause-same : goal.new-requires-clause-same
new-requires-clause-same c = c.loop-at.invariant.0.mark_count ∙ sym c.loop-at.invariant.0.row_count

pub new-requires-clause-first : goal.new-requires-clause-first
new-requires-clause-first c =
    let e : c.loop-at.at ≡ length c.loop-at.frontier = omega (arith, c.len.ensures.number, c.loop-at-test.false, c.loop-at.invariant.0.within) in
    omega (arith, e, c.loop-at.invariant.0.some, c.loop-at.invariant.0.row_count)

pub new-requires-clause-few : goal.new-requires-clause-few
new-requires-clause-few c = omega (arith, c.len.ensures.number, c.len.ensures.few, c.loop-at.invariant.0.within, c.loop-at.invariant.0.row_count)

pub returns-clause-keeps : goal.returns-clause-keeps
returns-clause-keeps c = c.loop-at.invariant.0.keeps

pub returns-clause-fits : goal.returns-clause-fits
returns-clause-fits c =
    let e : c.loop-at.at ≡ length c.loop-at.frontier = omega (arith, c.len.ensures.number, c.loop-at-test.false, c.loop-at.invariant.0.within) in
    fits_done c.args.store.now c.loop-at.store c.args.cells.now c.args.start c.loop-at.frontier c.loop-at.rows.items c.loop-at.marks.items c.loop-at.at c.loop-at.invariant.0 e c.new.result c.new.ensures.rows c.new.ensures.marks

pub explored-requires-clause-composed : goal.explored-requires-clause-composed
explored-requires-clause-composed c = rw c.deref.ensures.value c.loop-at.invariant.3

pub returns-clause-marks : goal.returns-clause-marks
returns-clause-marks c =
    let e : c.loop-at.at ≡ length c.loop-at.frontier = omega (arith, c.len.ensures.number, c.loop-at-test.false, c.loop-at.invariant.0.within) in
    marks_done c.args.store.now c.loop-at.store c.args.cells.now c.args.start c.loop-at.frontier c.loop-at.rows.items c.loop-at.marks.items c.loop-at.at c.loop-at.invariant.0 e c.new.result c.new.ensures.rows c.new.ensures.marks

pub returns-clause-accepts : goal.returns-clause-accepts
returns-clause-accepts c =
    let e : c.loop-at.at ≡ length c.loop-at.frontier = omega (arith, c.len.ensures.number, c.loop-at-test.false, c.loop-at.invariant.0.within) in
    determinised c.args.store.now c.loop-at.store c.args.cells.now c.requires.fits c.args.start c.requires.start c.loop-at.frontier c.loop-at.rows.items c.loop-at.marks.items c.loop-at.at c.loop-at.invariant.0 e c.new.result c.new.ensures.first c.new.ensures.rows c.new.ensures.marks

pub explored-requires-clause-fits : goal.explored-requires-clause-fits
explored-requires-clause-fits c = fits_cells_lasts c.args.store.now c.loop-at.store c.loop-at.invariant.0.keeps c.args.cells.now c.requires.fits

pub explored-requires-clause-claim : goal.explored-requires-clause-claim
explored-requires-clause-claim c = rw c.claim-claim.ensures (c.loop-at.invariant.0.sound c.loop-at.at (omega (arith, c.len.ensures.number, c.loop-at-test.true)))

pub explored-requires-clause-claims : goal.explored-requires-clause-claims
explored-requires-clause-claims c = c.loop-at.invariant.0.sound

pub explored-requires-clause-rows : goal.explored-requires-clause-rows
explored-requires-clause-rows c = c.loop-at.invariant.1

pub returns-in_err-row-clause-keeps : goal.returns-in_err-row-clause-keeps
returns-in_err-row-clause-keeps c = Keeps_trans _ _ _ c.loop-at.invariant.0.keeps c.explored.ensures.keeps

pub returns-in_err-push-clause-keeps : goal.returns-in_err-push-clause-keeps
returns-in_err-push-clause-keeps c = Keeps_trans _ _ _ c.loop-at.invariant.0.keeps c.explored.ensures.keeps

pub returns-in_err-push-2-clause-keeps : goal.returns-in_err-push-2-clause-keeps
returns-in_err-push-2-clause-keeps c = Keeps_trans _ _ _ c.loop-at.invariant.0.keeps c.explored.ensures.keeps

pub loop-at-smaller : goal.loop-at-smaller
loop-at-smaller c = omega (arith, c.len.ensures.few, c.loop-at-test.true)

pub loop-at-preserved : goal.loop-at-preserved
loop-at-preserved c =
    let made = rw c.claim-claim.ensures at c.in_ok-row.ensures.located in (
      rw (c.in_ok-push.ensures.items, c.in_ok-push-2.ensures.items)
          (exploring_next c.args.store.now c.loop-at.store c.explored.new.store c.args.cells.now c.requires.fits c.args.start c.loop-at.frontier c.explored.new.frontier c.loop-at.rows.items c.loop-at.marks.items c.loop-at.at c.in_ok-row.row c.in_ok-row.mark
          c.loop-at.invariant.0 c.explored.ensures.keeps c.explored.ensures.grows c.explored.ensures.claims (omega (arith, c.len.ensures.number, c.loop-at-test.true)) made),
      c.explored.ensures.rows,
      c.loop-at.invariant.2,
      rw c.deref.ensures.value at c.explored.ensures.composed,
    )
