use Rattle.std.proofs.Common.{◌+◌, ◌<◌, arith}
use Rattle.diagrams.specs.Eval.{tree}
use Rattle.diagrams.proofs.Canon.{tree_size}
use Rattle.diagrams.proofs.Meaning.{live-above, live_lasts, top_is, Keeps_trans}
use Rattle.diagrams.proofs.Kept.{kept_learnt}
use Rattle.diagrams.proofs.Combines.{step_at, later_less}
use Rattle.products.specs.Places.{same_rows, IsPaired}
use Rattle.products.proofs.PlaceLemmas.{rows_true}
use Rattle.products.proofs.WalkLemmas.{met_terminal_ok, met_branch, paired_now, all_paired_last, all_paired_last_ok, pairing_terminal_ok, lo_depends, hi_depends, pairing_branch}
use Rattle.products.proofs.places.+walked.Goals as goal

pub returns-in-Terminal-Terminal-clause-kept : goal.returns-in-Terminal-Terminal-clause-kept
returns-in-Terminal-Terminal-clause-kept t c =
    all_paired_last_ok c.terminal.result c.args.store.now c.terminal.new.self c.args.places.now.keys c.number.new.places.keys c.args.memo.now c.terminal.ensures.keeps c.in_ok-at.ensures.grows c.requires.kept

pub returns-in-Terminal-Terminal-clause-id : goal.returns-in-Terminal-Terminal-clause-id
returns-in-Terminal-Terminal-clause-id t c =
    pairing_terminal_ok c.terminal.result c.args.store.now c.terminal.new.self c.number.new.places.keys c.args.left c.args.right c.in-Terminal-Terminal.x c.in-Terminal-Terminal.y c.in_ok-at.at
    (top_is _ _ _ _ c.look-left_top.ensures.top c.in-Terminal-Terminal.is-0) (top_is _ _ _ _ c.look-right_top.ensures.top c.in-Terminal-Terminal.is-1)
    c.in_ok-at.ensures.at c.terminal.ensures.id

pub returns-in-Some-clause-id : goal.returns-in-Some-clause-id
returns-in-Some-clause-id t c = (c.requires.kept (record { left = c.args.left; right = c.args.right }) c.in-Some.id c.in-Some.ensures).pairing

pub walked-requires : goal.walked-requires
walked-requires t c =
    let s = step_at c.args.store.now c.look-left_top.ensures.canonical c.args.left c.args.right c.look-left_top.result c.look-right_top.result c.look-left_top.ensures.top c.look-right_top.ensures.top
    c.in-Some-least_variable.var c.in-Some-least_variable.ensures c.cofactors.result c.cofactors-2.result c.cofactors.ensures.low c.cofactors.ensures.high c.cofactors-2.ensures.low c.cofactors-2.ensures.high in
    let h : tree_size (tree c.args.store.now c.cofactors.result.0) + tree_size (tree c.args.store.now c.cofactors-2.result.0) < t = omega (arith, s.lo_less, c.decreases) in
    (h, (live-above _ _ s.first.lo_above, (live-above _ _ s.second.lo_above, (c.requires.places, c.requires.kept))))

pub walked-requires-2 : goal.walked-requires-2
walked-requires-2 t c =
    let s = step_at c.args.store.now c.look-left_top.ensures.canonical c.args.left c.args.right c.look-left_top.result c.look-right_top.result c.look-left_top.ensures.top c.look-right_top.ensures.top
    c.in-Some-least_variable.var c.in-Some-least_variable.ensures c.cofactors.result c.cofactors-2.result c.cofactors.ensures.low c.cofactors.ensures.high c.cofactors-2.ensures.low c.cofactors-2.ensures.high in
    let k = c.walked.ensures.keeps in
    let first = live-above _ _ s.first.hi_above in
    let second = live-above _ _ s.second.hi_above in
    let h : tree_size (tree c.walked.new.store c.cofactors.result.1) + tree_size (tree c.walked.new.store c.cofactors-2.result.1) < t =
    later_less c.args.store.now c.walked.new.store k _ _ t first second (omega (arith, s.hi_less, c.decreases)) in
    (h, (live_lasts _ _ k.extends _ first, (live_lasts _ _ k.extends _ second, (c.in_ok-lo.ensures.places, c.in_ok-lo.ensures.kept))))

pub node-requires-clause-lo_above : goal.node-requires-clause-lo_above
node-requires-clause-lo_above t c =
    let s = step_at c.args.store.now c.look-left_top.ensures.canonical c.args.left c.args.right c.look-left_top.result c.look-right_top.result c.look-left_top.ensures.top c.look-right_top.ensures.top
    c.in-Some-least_variable.var c.in-Some-least_variable.ensures c.cofactors.result c.cofactors-2.result c.cofactors.ensures.low c.cofactors.ensures.high c.cofactors-2.ensures.low c.cofactors-2.ensures.high in
    lo_depends c.args.store.now c.walked.new.store c.walked-2.new.store c.walked.new.places.keys c.walked-2.new.places.keys c.walked.ensures.keeps c.walked-2.ensures.keeps
    c.in_ok-hi.ensures.grows c.in_ok-hi.ensures.places c.in-Some-least_variable.var c.args.left c.args.right _ _ _ _ c.in_ok-lo.lo s c.in_ok-lo.ensures.id

pub node-requires-clause-hi_above : goal.node-requires-clause-hi_above
node-requires-clause-hi_above t c =
    let s = step_at c.args.store.now c.look-left_top.ensures.canonical c.args.left c.args.right c.look-left_top.result c.look-right_top.result c.look-left_top.ensures.top c.look-right_top.ensures.top
    c.in-Some-least_variable.var c.in-Some-least_variable.ensures c.cofactors.result c.cofactors-2.result c.cofactors.ensures.low c.cofactors.ensures.high c.cofactors-2.ensures.low c.cofactors-2.ensures.high in
    hi_depends c.args.store.now c.walked.new.store c.walked-2.new.store c.walked-2.new.places.keys c.walked.ensures.keeps
    c.in_ok-hi.ensures.places c.in-Some-least_variable.var c.args.left c.args.right _ _ _ _ c.in_ok-hi.hi s c.in_ok-hi.ensures.id

pub returns-clause-id : goal.returns-clause-id
returns-clause-id t c =
    let s = step_at c.args.store.now c.look-left_top.ensures.canonical c.args.left c.args.right c.look-left_top.result c.look-right_top.result c.look-left_top.ensures.top c.look-right_top.ensures.top
    c.in-Some-least_variable.var c.in-Some-least_variable.ensures c.cofactors.result c.cofactors-2.result c.cofactors.ensures.low c.cofactors.ensures.high c.cofactors-2.ensures.low c.cofactors-2.ensures.high in
    pairing_branch c.args.store.now c.walked.new.store c.walked-2.new.store c.node.new.self c.walked.new.places.keys c.walked-2.new.places.keys c.walked.ensures.keeps c.walked-2.ensures.keeps c.node.ensures.keeps
    c.in_ok-hi.ensures.grows c.in-Some-least_variable.var c.args.left c.args.right _ _ _ _ c.in_ok-lo.lo c.in_ok-hi.hi c.in_ok-id.id s c.in_ok-lo.ensures.id c.in_ok-hi.ensures.id c.in_ok-id.ensures.id

pub returns-clause-kept : goal.returns-clause-kept
returns-clause-kept t c =
    let s = step_at c.args.store.now c.look-left_top.ensures.canonical c.args.left c.args.right c.look-left_top.result c.look-right_top.result c.look-left_top.ensures.top c.look-right_top.ensures.top
    c.in-Some-least_variable.var c.in-Some-least_variable.ensures c.cofactors.result c.cofactors-2.result c.cofactors.ensures.low c.cofactors.ensures.high c.cofactors-2.ensures.low c.cofactors-2.ensures.high in
    let p = pairing_branch c.args.store.now c.walked.new.store c.walked-2.new.store c.node.new.self c.walked.new.places.keys c.walked-2.new.places.keys c.walked.ensures.keeps c.walked-2.ensures.keeps c.node.ensures.keeps
    c.in_ok-hi.ensures.grows c.in-Some-least_variable.var c.args.left c.args.right _ _ _ _ c.in_ok-lo.lo c.in_ok-hi.hi c.in_ok-id.id s c.in_ok-lo.ensures.id c.in_ok-hi.ensures.id c.in_ok-id.ensures.id in
    let k = Keeps_trans _ _ _ c.walked.ensures.keeps (Keeps_trans _ _ _ c.walked-2.ensures.keeps c.node.ensures.keeps) in
    kept_learnt same_rows rows_true (IsPaired c.node.new.self c.walked-2.new.places.keys) c.walked-2.new.memo c.keep.new.self (record { left = c.args.left; right = c.args.right }) c.in_ok-id.id
    (all_paired_last c.walked-2.new.store c.node.new.self c.walked-2.new.places.keys c.walked-2.new.places.keys c.walked-2.new.memo c.node.ensures.keeps (λ j q e. e) c.in_ok-hi.ensures.kept)
    (paired_now c.args.store.now c.node.new.self c.walked-2.new.places.keys c.args.left c.args.right c.in_ok-id.id k c.requires.left c.requires.right p)
    c.in_ok-keep.ensures.ok

pub returns-in-Terminal-Terminal-clause-met : goal.returns-in-Terminal-Terminal-clause-met
returns-in-Terminal-Terminal-clause-met t c =
    met_terminal_ok c.terminal.result c.args.store.now c.args.places.now.keys c.number.new.places.keys c.args.left c.args.right c.in-Terminal-Terminal.x c.in-Terminal-Terminal.y
    (top_is _ _ _ _ c.look-left_top.ensures.top c.in-Terminal-Terminal.is-0) (top_is _ _ _ _ c.look-right_top.ensures.top c.in-Terminal-Terminal.is-1)
    c.in_ok-at.ensures.met

pub returns-clause-met : goal.returns-clause-met
returns-clause-met t c =
    let s = step_at c.args.store.now c.look-left_top.ensures.canonical c.args.left c.args.right c.look-left_top.result c.look-right_top.result c.look-left_top.ensures.top c.look-right_top.ensures.top
    c.in-Some-least_variable.var c.in-Some-least_variable.ensures c.cofactors.result c.cofactors-2.result c.cofactors.ensures.low c.cofactors.ensures.high c.cofactors-2.ensures.low c.cofactors-2.ensures.high in
    met_branch c.args.store.now c.walked.new.store c.args.places.now.keys c.walked.new.places.keys c.walked-2.new.places.keys c.walked.ensures.keeps c.in-Some-least_variable.var
    c.args.left c.args.right _ _ _ _ s c.in_ok-lo.ensures.met c.in_ok-hi.ensures.met
