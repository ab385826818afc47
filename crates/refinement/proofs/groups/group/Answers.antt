use Rattle.std.proofs.Common.{◌≡◌, false, Some, arith, sym, ◌∙◌, ap, subst, length, map, take}
use Rattle.std.specs.Prelude.{slice_get, slice_index}
use Rattle.std.proofs.lemmas.List.{take_more, take_all}
use Rattle.diagrams.specs.Eval.{id_at}
use Rattle.linked_blocks.specs.Lists.{holds, block_in}
use Rattle.class_laws.proofs.ShiftAll.{holds-place, once-take}
use Rattle.refinement.specs.declared.groups.Key.{Key}
use Rattle.refinement.specs.Grouped.{AreGrouped}
use Rattle.refinement.proofs.Grouping.{key_true, grouped_more, groups_made}
use Rattle.refinement.proofs.groups.group.Goals as goal

pub block_of-block-requires : goal.block_of-block-requires
block_of-block-requires c =
    let changed = c.args.changed.now in
    let k = c.loop-at.at-index in
    (c.requires.each.there (slice_index changed k) (c.requires.changed.within (slice_index changed k) (holds-place changed k c.loop-at-test.true))).0

pub bounds-rows-at : goal.bounds-rows-at
bounds-rows-at c =
    let changed = c.args.changed.now in
    let k = c.loop-at.at-index in
    c.requires.changed.within (slice_index changed k) (holds-place changed k c.loop-at-test.true)

pub loop-at-preserved : goal.loop-at-preserved
loop-at-preserved c =
    let changed = c.args.changed.now in
    let k = c.loop-at.at-index in
    let at = slice_index changed k in
    let block = block_in c.args.blocks.now.lists in
    let row = id_at c.args.rows.now in
    let old = c.loop-at.kinds.keys in
    let new = c.insert_full.new.self.keys in
    let number = c.in_ok-number.number in
    let groups = map (λ list. list.items) c.loop-at.groups.items in
    let mid = map (λ list. list.items) c.make_room.new.groups.items in
    let after = map (λ list. list.items) c.note.new.groups.items in
    let key : Key = record { block = c.block_of-block.result; row = row at } in
    let stored = c.in_ok-number.ensures.stored in
    let here : slice_get new number ≡ Some key = stored.1 ∙ ap Some (sym (key_true key stored.0 stored.2)) in
    let is : key ≡ record { block = block at; row = row at } = (λ d. record { block = c.block_of-block.ensures d; row = row at }) in
    let fresh : holds (take k changed) at ≡ false = once-take changed k c.requires.changed.once c.loop-at-test.true in
    subst (λ xs. AreGrouped block row xs new after) (sym (take_more changed k 0 c.loop-at-test.true))
    (grouped_more block row (take k changed) old new groups mid at number key c.loop-at.invariant c.in_ok-number.ensures.keys here c.in_ok-make_room.ensures after fresh is c.in_ok-note.ensures)

pub returns : goal.returns
returns c =
    let changed = c.args.changed.now in
    let k = c.loop-at.at-index in
    let block = block_in c.args.blocks.now.lists in
    let row = id_at c.args.rows.now in
    let end : k ≡ length changed = (let a = c.loop-at-test.false in let b = c.loop-at.auto.at-index-end in omega (arith, a, b)) in
    let groups = map (λ list. list.items) c.loop-at.groups.items in
    let all : AreGrouped block row changed c.loop-at.kinds.keys groups =
    subst (λ xs. AreGrouped block row xs c.loop-at.kinds.keys groups) (take_all k changed (omega (arith, end))) c.loop-at.invariant in
    groups_made (length c.args.rows.now) block row changed c.loop-at.kinds.keys groups all c.requires.changed
