use Rattle.std.proofs.Common.{◌<◌, arith, refl}
use Rattle.diagrams.specs.Transformed.{IsTransformed, IsTableItem, same_id}
use Rattle.diagrams.proofs.Kept.{kept_none}
use Rattle.diagrams.proofs.Meaning.{Keeps_refl, Keeps_trans}
use Rattle.automata.specs.Table.{size_of, row_of}
use Rattle.dividing.specs.Divisions.{targets_at}
use Rattle.dividing.proofs.DivisionLemmas.{rows_none, block_rows_more, old_row, targets_last}
use Rattle.dividing.proofs.divisions.renewed_rows.Goals as goal

pub loop-at-init : goal.loop-at-init
loop-at-init c = record {
  keeps = Keeps_refl c.args.store.now c.props.ensures.canonical;
  right = kept_none same_id (IsTransformed c.args.store.now (IsTableItem c.args.new.now)) c.new-memo.result c.new-memo.ensures;
  rows = rows_none c.args.store.now c.args.automaton.now c.args.new.now c.new-after.result.items c.new-after.ensures.items;
}

pub renewed-requires-clause-old : goal.renewed-requires-clause-old
renewed-requires-clause-old c =
    let t = c.args.automaton.now in
    let within : c.loop-at.at < size_of t = omega (arith, c.loop-at-test.true, c.size-at-end.ensures.size) in
    old_row c.args.store.now c.loop-at.store c.loop-at.invariant.keeps t c.args.old.now c.args.rows.now c.loop-at.at _ c.row.result c.requires.fits c.requires.rows within refl c.row.ensures

pub renewed-requires-clause-targets : goal.renewed-requires-clause-targets
renewed-requires-clause-targets c =
    let t = c.args.automaton.now in
    let at = c.loop-at.at in
    let within : at < size_of t = omega (arith, c.loop-at-test.true, c.size-at-end.ensures.size) in
    rw (c.of.ensures, c.row.ensures, c.requires.old)
    (targets_last c.args.store.now c.loop-at.store c.loop-at.invariant.keeps (size_of t) (row_of t at) (targets_at c.args.targets.now at) (c.requires.fits at within).live (c.requires.targets at within))

pub loop-at-preserved : goal.loop-at-preserved
loop-at-preserved c =
    let t = c.args.automaton.now in
    let within : c.loop-at.at < size_of t = omega (arith, c.loop-at-test.true, c.size-at-end.ensures.size) in
    record {
      keeps = Keeps_trans c.args.store.now c.loop-at.store c.renewed.new.store c.loop-at.invariant.keeps c.in_ok-row.ensures.keeps;
      right = c.in_ok-row.ensures.right;
      rows = rw (c.in_ok-push.ensures.items)
          (block_rows_more c.args.store.now c.loop-at.store c.renewed.new.store t c.args.new.now c.loop-at.after.items c.loop-at.at c.row.result c.in_ok-row.row
          c.loop-at.invariant.keeps c.in_ok-row.ensures.keeps c.requires.fits within c.loop-at.invariant.rows c.row.ensures c.in_ok-row.ensures.row);
    }
