use Rattle.std.proofs.Common.{◌≡◌, ◌<◌, [], arith, sym, ◌∙◌, ap, subst, length, map}
use Rattle.std.proofs.lemmas.List.{get_or-map, length-map}
use Rattle.diagrams.specs.Eval.{id_at}
use Rattle.linked_blocks.specs.Lists.{list_of, block_in}
use Rattle.class_laws.specs.Shifts.{IsGroup, IsParted}
use Rattle.class_laws.specs.Current.{AreGroups}
use Rattle.class_laws.proofs.Splitting.{IsSplitting, group_now, splitting_more, splitting_ends}
use Rattle.class_laws.proofs.Grouped.{noted_trans, halved_trans}
use Rattle.refinement.proofs.groups.split.Goals as goal

pub part-requires-clause-group : goal.part-requires-clause-group
part-requires-clause-group c =
    let size = length c.args.rows.now in
    let key = id_at c.args.rows.now in
    let old = block_in c.args.blocks.now.lists in
    let items = c.deref-list-items.result.now in
    let lists = map (λ list. list.items) items in
    let groups : AreGroups size old key c.args.changed.now lists =
    subst (λ xs. AreGroups size old key c.args.changed.now (map (λ list. list.items) xs)) (sym c.deref-list-items.ensures.value) c.in_ok-groups.ensures in
    let k = c.loop-list.list-index in
    let l : k < length items = c.loop-list-test.true in
    let long : k < length lists = rw (length-map items (λ list. list.items)) l in
    let here : list_of lists k ≡ c.deref.result.now =
    get_or-map (λ list. list.items) items k c.list-item.result [] l ∙ ap (λ z. z.items) (sym c.list-item.is) ∙ sym c.deref.ensures.value in
    let group = groups.each k long in
    subst (IsGroup size (block_in c.loop-list.blocks.lists) key) here
    (group_now size old (block_in c.loop-list.blocks.lists) key lists k (list_of lists k) c.loop-list.invariant.splitting group)

pub loop-list-preserved : goal.loop-list-preserved
loop-list-preserved c =
    let size = length c.args.rows.now in
    let key = id_at c.args.rows.now in
    let old = block_in c.args.blocks.now.lists in
    let items = c.deref-list-items.result.now in
    let lists = map (λ list. list.items) items in
    let groups : AreGroups size old key c.args.changed.now lists =
    subst (λ xs. AreGroups size old key c.args.changed.now (map (λ list. list.items) xs)) (sym c.deref-list-items.ensures.value) c.in_ok-groups.ensures in
    let k = c.loop-list.list-index in
    let l : k < length items = c.loop-list-test.true in
    let long : k < length lists = rw (length-map items (λ list. list.items)) l in
    let here : list_of lists k ≡ c.deref.result.now =
    get_or-map (λ list. list.items) items k c.list-item.result [] l ∙ ap (λ z. z.items) (sym c.list-item.is) ∙ sym c.deref.ensures.value in
    let group = groups.each k long in
    let cur = block_in c.loop-list.blocks.lists in
    let new = block_in c.part.new.blocks.lists in
    let parted : IsParted size cur new (list_of lists k) = subst (IsParted size cur new) (sym here) c.in_ok-part.ensures.parted in
    record {
      each = c.in_ok-part.ensures.each;
      full = c.in_ok-part.ensures.full;
      paid = c.in_ok-part.ensures.paid;
      splitting = splitting_more size old cur new key lists k c.loop-list.invariant.splitting group parted;
      noted = noted_trans size c.args.blocks.now.lists c.loop-list.blocks.lists c.part.new.blocks.lists [] c.loop-list.shifted.items c.part.new.shifted.items c.loop-list.invariant.noted c.in_ok-part.ensures.noted;
      halved = halved_trans size c.args.blocks.now.lists c.loop-list.blocks.lists c.part.new.blocks.lists c.loop-list.invariant.halved c.in_ok-part.ensures.halved;
      moves = (let m = c.in_ok-part.ensures.moves in let v = c.loop-list.invariant.moves in omega (arith, m, v));
    }

pub returns-clause-split : goal.returns-clause-split
returns-clause-split c =
    let size = length c.args.rows.now in
    let key = id_at c.args.rows.now in
    let old = block_in c.args.blocks.now.lists in
    let items = c.deref-list-items.result.now in
    let lists = map (λ list. list.items) items in
    let groups : AreGroups size old key c.args.changed.now lists =
    subst (λ xs. AreGroups size old key c.args.changed.now (map (λ list. list.items) xs)) (sym c.deref-list-items.ensures.value) c.in_ok-groups.ensures in
    let k = c.loop-list.list-index in
    let end : k ≡ length lists = (let a = c.loop-list-test.false in let b = c.loop-list.auto.list-index-end in let m = length-map items (λ list. list.items) in omega (arith, a, b, m)) in
    splitting_ends size old (block_in c.loop-list.blocks.lists) key lists c.args.changed.now
    (subst (IsSplitting size old (block_in c.loop-list.blocks.lists) key lists) end c.loop-list.invariant.splitting) c.requires.changed groups.all
