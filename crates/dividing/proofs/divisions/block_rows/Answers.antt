use Rattle.std.proofs.Common.{◌≡◌, ◌<◌, arith, subst}
use Rattle.diagrams.specs.Transformed.{IsTransformed, IsTableItem, same_id}
use Rattle.diagrams.proofs.Kept.{kept_none}
use Rattle.diagrams.proofs.Meaning.{Keeps_refl, Keeps_trans}
use Rattle.automata.specs.Table.{size_of, IsRow}
use Rattle.automata.proofs.Lasts.{fits_lasts}
use Rattle.dividing.specs.Divisions.{AreBlockRows}
use Rattle.dividing.proofs.DivisionLemmas.{transforms_means, rows_none, block_rows_more}
use Rattle.dividing.proofs.divisions.block_rows.Goals as goal

pub loop-at-init : goal.loop-at-init
loop-at-init c = record {
  keeps = Keeps_refl c.args.store.now c.props.ensures.canonical;
  right = kept_none same_id (IsTransformed c.args.store.now (IsTableItem c.args.blocks.now)) c.new-memo.result c.new-memo.ensures;
  rows = rows_none c.args.store.now c.args.automaton.now c.args.blocks.now c.new-rows.result.items c.new-rows.ensures.items;
}

pub map_terminals_with-requires : goal.map_terminals_with-requires
map_terminals_with-requires c =
    let t = c.args.automaton.now in
    let within : c.loop-at.at < size_of t = omega (arith, c.loop-at-test.true, c.size-at-end.ensures.size) in
    let r : IsRow c.loop-at.store (size_of t) c.row.result =
    rw (c.row.ensures) (fits_lasts c.args.store.now c.loop-at.store c.loop-at.invariant.keeps t c.requires.fits c.loop-at.at within) in
    record { live = r.live; fit = λ a. rw (c.requires.blocks) (r.targets a); right = c.loop-at.invariant.right }

pub loop-at-preserved : goal.loop-at-preserved
loop-at-preserved c =
    let t = c.args.automaton.now in
    let within : c.loop-at.at < size_of t = omega (arith, c.loop-at-test.true, c.size-at-end.ensures.size) in
    record {
      keeps = Keeps_trans c.args.store.now c.loop-at.store c.map_terminals_with.new.self c.loop-at.invariant.keeps c.in_ok-map_terminals_with.ensures.keeps;
      right = c.in_ok-map_terminals_with.ensures.right;
      rows = rw (c.in_ok-push.ensures.items)
          (block_rows_more c.args.store.now c.loop-at.store c.map_terminals_with.new.self t c.args.blocks.now c.loop-at.rows.items c.loop-at.at c.row.result _
          c.loop-at.invariant.keeps c.in_ok-map_terminals_with.ensures.keeps c.requires.fits within c.loop-at.invariant.rows c.row.ensures
          (transforms_means c.loop-at.store c.map_terminals_with.new.self c.args.blocks.now c.row.result _ c.in_ok-map_terminals_with.ensures.id));
    }

pub returns : goal.returns
returns c =
    let all : c.loop-at.at ≡ size_of c.args.automaton.now = omega (arith, c.size-at-end.ensures.size) in
    record {
      keeps = c.loop-at.invariant.keeps;
      rows = subst (λ k. AreBlockRows c.args.store.now c.loop-at.store c.args.automaton.now c.args.blocks.now c.loop-at.rows.items k) all c.loop-at.invariant.rows;
    }
