use Rattle.std.proofs.Common.{◌<◌, ◌≤◌, arith, length}
use Rattle.std.proofs.lemmas.Result.{IfOk-weaker, on_ok_weaker}
use Rattle.diagrams.specs.Eval.{tree}
use Rattle.diagrams.specs.Transformed.{same_id}
use Rattle.diagrams.proofs.Canon.{tree_size}
use Rattle.diagrams.proofs.Meaning.{top_is, Keeps_trans, live-above, live_lasts}
use Rattle.diagrams.proofs.Transformed.{down, less_later, fit_later}
use Rattle.diagrams.proofs.Kept.{kept_learnt}
use Rattle.diagrams.proofs.Works.{id_true}
use Rattle.layers.specs.Folding.{IsFoldedRow, IsFolded}
use Rattle.layers.proofs.FoldingLemmas.{folded_end, top_beyond, constant_beyond, folded_children, folded_node, folded_now, kept_folded_last, all_least_last}
use Rattle.layers.proofs.folding.+fold_row.Goals as goal

pub instead-requires-clause-found : goal.instead-requires-clause-found
instead-requires-clause-found t c = c.requires.right.found

pub returns-in-Terminal-clause-row : goal.returns-in-Terminal-clause-row
returns-in-Terminal-clause-row t c =
    IfOk-weaker c.instead.result _ _
    (λ id i. folded_end c.args.below c.args.inputs c.args.table.now c.args.store.now c.instead.new.store c.args.f id
    (constant_beyond c.args.below c.args.inputs c.args.table.now c.args.store.now c.args.f c.in-Terminal.field-0 (top_is _ _ _ _ c.look.ensures.top c.in-Terminal.is)) i)
    c.instead.ensures.id

pub returns-then-var-inputs-clause-row : goal.returns-then-var-inputs-clause-row
returns-then-var-inputs-clause-row t c =
    IfOk-weaker c.instead-then-var-inputs.result _ _
    (λ id i. folded_end c.args.below c.args.inputs c.args.table.now c.args.store.now c.instead-then-var-inputs.new.store c.args.f id
    (top_beyond c.args.below c.args.inputs c.args.table.now c.args.store.now c.look.ensures.canonical c.in-Node.var c.args.f c.in-Node.lo c.in-Node.hi (top_is _ _ _ _ c.look.ensures.top c.in-Node.is) c.if-var-inputs.true) i)
    c.instead-then-var-inputs.ensures.id

pub returns-in-Some-clause-row : goal.returns-in-Some-clause-row
returns-in-Some-clause-row t c = (c.requires.right.made c.args.f c.in-Some.row c.in-Some.ensures).row_is

pub fold_row-requires : goal.fold_row-requires
fold_row-requires t c =
    let e = top_is c.args.store.now c.args.f _ _ c.look.ensures.top c.in-Node.is in
    let d = down c.args.store.now c.look.ensures.canonical c.args.f c.in-Node.lo c.in-Node.hi c.in-Node.var e in
    let h : tree_size (tree c.args.store.now c.in-Node.lo) < t = omega (arith, d.lo_less, c.decreases) in
    (h, (live-above _ _ d.lo_above, (d.lo_fit (length c.args.table.now) c.requires.fit, (c.requires.room, c.requires.right))))

pub fold_row-requires-in-Node : goal.fold_row-requires-in-Node
fold_row-requires-in-Node t c =
    let e = top_is c.args.store.now c.args.f _ _ c.look.ensures.top c.in-Node.is in
    let d = down c.args.store.now c.look.ensures.canonical c.args.f c.in-Node.lo c.in-Node.hi c.in-Node.var e in
    let k = c.fold_row.ensures.keeps in
    let live = live-above _ _ d.hi_above in
    let h : tree_size (tree c.fold_row.new.store c.in-Node.hi) < t = less_later c.args.store.now c.fold_row.new.store k c.in-Node.hi t live (omega (arith, d.hi_less, c.decreases)) in (
      h,
      (
        live_lasts _ _ k.extends c.in-Node.hi live,
        (
          fit_later c.args.store.now c.fold_row.new.store k (length c.args.table.now) c.in-Node.hi live (d.hi_fit (length c.args.table.now) c.requires.fit),
          (c.requires.room, c.in_ok-low-in-Node.ensures.right),
        ),
      ),
    )

pub node-requires-clause-lo_above : goal.node-requires-clause-lo_above
node-requires-clause-lo_above t c =
    let e = top_is c.args.store.now c.args.f _ _ c.look.ensures.top c.in-Node.is in
    let d = down c.args.store.now c.look.ensures.canonical c.args.f c.in-Node.lo c.in-Node.hi c.in-Node.var e in
    (folded_children c.args.below c.args.inputs c.args.table.now c.args.store.now c.fold_row.new.store c.fold_row-in-Node.new.store c.fold_row.ensures.keeps c.fold_row-in-Node.ensures.keeps c.in-Node.var c.args.f c.in-Node.lo c.in-Node.hi
    c.in_ok-low-in-Node.low c.in_ok-high-in-Node.high e (live-above _ _ d.hi_above) c.in_ok-low-in-Node.ensures.row c.in_ok-high-in-Node.ensures.row).low_above

pub node-requires-clause-hi_above : goal.node-requires-clause-hi_above
node-requires-clause-hi_above t c =
    let e = top_is c.args.store.now c.args.f _ _ c.look.ensures.top c.in-Node.is in
    let d = down c.args.store.now c.look.ensures.canonical c.args.f c.in-Node.lo c.in-Node.hi c.in-Node.var e in
    (folded_children c.args.below c.args.inputs c.args.table.now c.args.store.now c.fold_row.new.store c.fold_row-in-Node.new.store c.fold_row.ensures.keeps c.fold_row-in-Node.ensures.keeps c.in-Node.var c.args.f c.in-Node.lo c.in-Node.hi
    c.in_ok-low-in-Node.low c.in_ok-high-in-Node.high e (live-above _ _ d.hi_above) c.in_ok-low-in-Node.ensures.row c.in_ok-high-in-Node.ensures.row).high_above

pub returns-in-Terminal-clause-right : goal.returns-in-Terminal-clause-right
returns-in-Terminal-clause-right t c =
    on_ok_weaker c.instead.result
    (λ found. record {
      found = found;
      made = kept_folded_last c.args.below c.args.inputs c.args.table.now c.args.store.now c.instead.new.store c.instead.ensures.keeps c.args.folding.now.made c.requires.right.made;
    })
    c.instead.ensures.found

pub returns-then-var-inputs-clause-right : goal.returns-then-var-inputs-clause-right
returns-then-var-inputs-clause-right t c =
    on_ok_weaker c.instead-then-var-inputs.result
    (λ found. record {
      found = found;
      made = kept_folded_last c.args.below c.args.inputs c.args.table.now c.args.store.now c.instead-then-var-inputs.new.store c.instead-then-var-inputs.ensures.keeps c.args.folding.now.made c.requires.right.made;
    })
    c.instead-then-var-inputs.ensures.found

pub returns-in_ok-keep-in-Node-clause-row : goal.returns-in_ok-keep-in-Node-clause-row
returns-in_ok-keep-in-Node-clause-row t c =
    let e = top_is c.args.store.now c.args.f _ _ c.look.ensures.top c.in-Node.is in
    let d = down c.args.store.now c.look.ensures.canonical c.args.f c.in-Node.lo c.in-Node.hi c.in-Node.var e in
    let x = folded_children c.args.below c.args.inputs c.args.table.now c.args.store.now c.fold_row.new.store c.fold_row-in-Node.new.store c.fold_row.ensures.keeps c.fold_row-in-Node.ensures.keeps c.in-Node.var c.args.f c.in-Node.lo c.in-Node.hi
    c.in_ok-low-in-Node.low c.in_ok-high-in-Node.high e (live-above _ _ d.hi_above) c.in_ok-low-in-Node.ensures.row c.in_ok-high-in-Node.ensures.row in
    let k = Keeps_trans _ _ _ c.fold_row.ensures.keeps c.fold_row-in-Node.ensures.keeps in
    folded_node c.args.below c.args.inputs c.args.table.now c.args.store.now c.fold_row-in-Node.new.store c.node.new.self k c.in-Node.var c.args.f c.in-Node.lo c.in-Node.hi c.in_ok-low-in-Node.low c.in_ok-high-in-Node.high
    c.in_ok-row-in-Node.row e (omega (arith, c.if-var-inputs.false)) x.low_row x.high_row c.in_ok-row-in-Node.ensures.id

pub returns-in_ok-keep-in-Node-clause-right : goal.returns-in_ok-keep-in-Node-clause-right
returns-in_ok-keep-in-Node-clause-right t c =
    let e = top_is c.args.store.now c.args.f _ _ c.look.ensures.top c.in-Node.is in
    let d = down c.args.store.now c.look.ensures.canonical c.args.f c.in-Node.lo c.in-Node.hi c.in-Node.var e in
    let x = folded_children c.args.below c.args.inputs c.args.table.now c.args.store.now c.fold_row.new.store c.fold_row-in-Node.new.store c.fold_row.ensures.keeps c.fold_row-in-Node.ensures.keeps c.in-Node.var c.args.f c.in-Node.lo c.in-Node.hi
    c.in_ok-low-in-Node.low c.in_ok-high-in-Node.high e (live-above _ _ d.hi_above) c.in_ok-low-in-Node.ensures.row c.in_ok-high-in-Node.ensures.row in
    let k = Keeps_trans _ _ _ c.fold_row.ensures.keeps c.fold_row-in-Node.ensures.keeps in
    let given : IsFoldedRow c.args.store.now c.node.new.self c.args.below c.args.inputs c.args.table.now c.args.f c.in_ok-row-in-Node.row =
    folded_node c.args.below c.args.inputs c.args.table.now c.args.store.now c.fold_row-in-Node.new.store c.node.new.self k c.in-Node.var c.args.f c.in-Node.lo c.in-Node.hi c.in_ok-low-in-Node.low c.in_ok-high-in-Node.high
    c.in_ok-row-in-Node.row e (omega (arith, c.if-var-inputs.false)) x.low_row x.high_row c.in_ok-row-in-Node.ensures.id in
    let whole = Keeps_trans _ _ _ k c.node.ensures.keeps in
    let right = c.in_ok-high-in-Node.ensures.right in
    record {
      found = all_least_last c.fold_row-in-Node.new.store c.node.new.self c.node.ensures.keeps c.args.table.now c.fold_row-in-Node.new.folding.found.items right.found;
      made = kept_learnt same_id id_true (IsFolded c.node.new.self c.args.below c.args.inputs c.args.table.now) c.fold_row-in-Node.new.folding.made c.keep.new.self c.args.f c.in_ok-row-in-Node.row
          (kept_folded_last c.args.below c.args.inputs c.args.table.now c.fold_row-in-Node.new.store c.node.new.self c.node.ensures.keeps c.fold_row-in-Node.new.folding.made right.made)
          (folded_now c.args.below c.args.inputs c.args.table.now c.args.store.now c.node.new.self whole c.args.f c.in_ok-row-in-Node.row c.requires.live given)
          c.in_ok-keep-in-Node.ensures.ok;
    }
