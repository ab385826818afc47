use Rattle.std.proofs.Common.{◌≡◌, ◌<◌, arith, sym, ◌∙◌, ap, subst, length}
use Rattle.diagrams.specs.Transformed.{IsTransformed, IsTableItem, same_id}
use Rattle.diagrams.proofs.Kept.{kept_none}
use Rattle.diagrams.proofs.Meaning.{Keeps_refl, Keeps_trans}
use Rattle.automata.specs.Table.{size_of, mark_of, row_of, moves_of}
use Rattle.automata.proofs.Lasts.{row_lasts}
use Rattle.linked_blocks.specs.Lists.{block_in}
use Rattle.class_laws.proofs.Settling.{blocks_few}
use Rattle.looking.proofs.Looked.{within_both}
use Rattle.minimise.proofs.MergeLemmas.{first_in, first_member, AreMerged, merged_none, merged_means, merged_more, merged_fits, merged_quotient}
use Rattle.minimise.proofs.least.merge.Goals as goal

pub loop-block-init : goal.loop-block-init
loop-block-init c =
    let s = c.args.store.now in
    record {
      keeps = Keeps_refl s c.props.ensures.canonical;
      right = kept_none same_id (IsTransformed s (IsTableItem c.numbers-numbers.result.now)) c.new-memo.result c.new-memo.ensures;
      merged = merged_none s s c.args.automaton.now c.args.blocks.now.lists c.new-marks.result.items c.new-rows.result.items c.new-marks.ensures.items c.new-rows.ensures.items;
    }

pub first_of-at-requires-clause-block : goal.first_of-at-requires-clause-block
first_of-at-requires-clause-block c = omega (arith, c.loop-block-test.true, c.len-block-end.ensures)

pub mark-requires : goal.mark-requires
mark-requires c =
    let t = c.args.automaton.now in
    let lists = c.args.blocks.now.lists in
    let l : c.loop-block.block < length lists = omega (arith, c.loop-block-test.true, c.len-block-end.ensures) in
    rw (c.first_of-at.ensures) (first_member (size_of t) lists c.requires.each c.requires.full c.loop-block.block l).0

pub row-requires : goal.row-requires
row-requires c =
    let t = c.args.automaton.now in
    let lists = c.args.blocks.now.lists in
    let l : c.loop-block.block < length lists = omega (arith, c.loop-block-test.true, c.len-block-end.ensures) in
    rw (c.first_of-at.ensures) (first_member (size_of t) lists c.requires.each c.requires.full c.loop-block.block l).0

pub map_terminals_with-requires : goal.map_terminals_with-requires
map_terminals_with-requires c =
    let t = c.args.automaton.now in
    let lists = c.args.blocks.now.lists in
    let l : c.loop-block.block < length lists = omega (arith, c.loop-block-test.true, c.len-block-end.ensures) in
    let at = first_in lists c.loop-block.block in
    let h : at < size_of t = (first_member (size_of t) lists c.requires.each c.requires.full c.loop-block.block l).0 in
    let r = row_lasts c.args.store.now c.loop-block.store c.loop-block.invariant.keeps (size_of t) (row_of t at) (c.requires.fits at h) in
    let is : c.row.result ≡ row_of t at = c.row.ensures ∙ ap (row_of t) c.first_of-at.ensures in
    record {
      live = rw (is) r.live;
      fit = λ a. rw (is) (within_both (size_of t) (length c.numbers-numbers.result.now) lists c.requires.each c.numbers-numbers.ensures.size _ (r.targets a));
      right = c.loop-block.invariant.right;
    }

pub loop-block-preserved : goal.loop-block-preserved
loop-block-preserved c =
    let s = c.args.store.now in
    let m = c.loop-block.store in
    let n = c.map_terminals_with.new.self in
    let t = c.args.automaton.now in
    let lists = c.args.blocks.now.lists in
    let block = c.loop-block.block in
    let l : block < length lists = omega (arith, c.loop-block-test.true, c.len-block-end.ensures) in
    let at = first_in lists block in
    let h : at < size_of t = (first_member (size_of t) lists c.requires.each c.requires.full block l).0 in
    let v = c.loop-block.invariant in
    let k = c.in_ok-map_terminals_with.ensures.keeps in
    let mark : c.mark.result ≡ mark_of t at = c.mark.ensures ∙ ap (mark_of t) c.first_of-at.ensures in
    let row : c.row.result ≡ row_of t at = c.row.ensures ∙ ap (row_of t) c.first_of-at.ensures in
    let id = c.in_ok-map_terminals_with.field-0 in
    let means = merged_means s m n t c.numbers-numbers.result.now lists at c.row.result id v.keeps c.requires.fits c.requires.each c.numbers-numbers.ensures.block h row c.in_ok-map_terminals_with.ensures.id in
    record {
      keeps = Keeps_trans s m n v.keeps k;
      right = c.in_ok-map_terminals_with.ensures.right;
      merged = rw (c.in_ok-push.ensures.items, c.in_ok-push-2.ensures.items)
          (merged_more s m n t lists c.loop-block.marks.items c.loop-block.rows.items block c.mark.result id k v.merged mark means);
    }

pub block_of-first-requires : goal.block_of-first-requires
block_of-first-requires c =
    (c.requires.each.there c.first-2.result c.first-2.ensures.within).0

pub new-requires : goal.new-requires
new-requires c =
    let t = c.args.automaton.now in
    let lists = c.args.blocks.now.lists in
    let m = c.loop-block.invariant.merged in
    let end : c.loop-block.block ≡ length lists = (let a = c.loop-block-test.false in let b = c.loop-block.auto.block-end in let e = c.len-block-end.ensures in omega (arith, a, b, e)) in
    let rows : length c.loop-block.rows.items ≡ length lists = m.rows_long ∙ end in
    let there : block_in lists c.first-2.result < length lists = (c.requires.each.there c.first-2.result c.first-2.ensures.within).0 in
    let few = blocks_few (size_of t) lists c.requires.each c.requires.full in
    record {
      same = m.marks_long ∙ sym m.rows_long;
      first = omega (arith, rows, there, c.block_of-first.ensures);
      few = omega (arith, rows, few, c.size.ensures.size, c.size.ensures.few);
    }

pub returns : goal.returns
returns c =
    let s = c.args.store.now in
    let n = c.loop-block.store in
    let t = c.args.automaton.now in
    let q = c.new.result in
    let lists = c.args.blocks.now.lists in
    let v = c.loop-block.invariant in
    let inside : t.first < size_of t = subst (λ z. z < size_of t) c.first.ensures.first c.first.ensures.within in
    let end : c.loop-block.block ≡ length lists = (let a = c.loop-block-test.false in let b = c.loop-block.auto.block-end in let e = c.len-block-end.ensures in omega (arith, a, b, e)) in
    let merged : AreMerged s n t lists q.marks q.rows (length lists) =
    rw (c.new.ensures.marks, c.new.ensures.rows) (subst (AreMerged s n t lists c.loop-block.marks.items c.loop-block.rows.items) end v.merged) in
    let first : q.first ≡ block_in lists t.first = c.new.ensures.first ∙ c.block_of-first.ensures ∙ ap (block_in lists) c.first-2.ensures.first in
    record {
      keeps = v.keeps;
      fits = merged_fits s n t q lists inside c.requires.fits v.keeps c.requires.each c.requires.full c.requires.classes merged first;
      quotient = merged_quotient s n t q lists inside c.requires.fits v.keeps c.requires.each c.requires.full c.requires.classes merged first;
    }
