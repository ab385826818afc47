use Rattle.std.proofs.Common.{◌≡◌, ◌≢◌, ◌<◌, ◌+◌, sym, ◌∙◌, subst, arith, length}
use Rattle.std.specs.Prelude.{slice_index}
use Rattle.std.proofs.lemmas.List.{get_or_read}
use Rattle.automata.specs.Table.{size_of, moves_of}
use Rattle.distinguish.specs.Trees.{target_of, IsTreeFor}
use Rattle.distinguish.proofs.StepLemmas.{rows_differ, own_kept}
use Rattle.distinguish.proofs.TreeLemmas.{IsOnWay, tree_skips, way_begins, way_goes, way_ends}
use Rattle.distinguish.proofs.steps.compare.Goals as goal
use Rattle.distinguish.proofs.steps.compare.Goals.{then-next-at-via-then-next-at, then-next-at-via-else-next-at+then-from-at}

pub returns-then-next-at : goal.returns-then-next-at
returns-then-next-at c =
    let s = c.args.store.now in
    let t = c.args.automaton.now in
    let g = c.args.refinement.now in
    let long : c.args.at < length g.blocks.items = omega (arith, c.requires.within, c.requires.refinement.size) in
    let block = get_or_read g.blocks.items c.args.at c.index-from.result.now long c.index-from.ensures 0 in
    tree_skips s.props (moves_of s t) g.blocks.items c.args.next.now g.words (target_of c.args.tree.now) c.args.tree.now.steps.items c.args.at c.requires.within c.requires.refinement.low
    (λ q. elim c.then-next-at.branch [
      | then-next-at-via-then-next-at w ↦ absurd (w.if-next-at.true q)
      | then-next-at-via-else-next-at+then-from-at w ↦ sym block ∙ w.if-from-at.true
    ])
    c.requires.tree

pub down-init : goal.down-init
down-init c =
    let s = c.args.store.now in
    let t = c.args.automaton.now in
    let g = c.args.refinement.now in
    let long : c.args.at < length g.blocks.items = omega (arith, c.requires.within, c.requires.refinement.size) in
    let block : c.index-from.result.now ≡ slice_index g.blocks.items c.args.at = get_or_read g.blocks.items c.args.at c.index-from.result.now long c.index-from.ensures 0 in
    let low = c.requires.refinement.low c.args.at c.requires.within in
    let own = c.requires.refinement.own c.args.at c.requires.within in
    let lesser : slice_index g.blocks.items c.args.at < c.args.at = omega (arith, low, block, c.if-from-at.false) in
    record {
      tree = c.requires.tree;
      way = subst (IsOnWay s.props (moves_of s t) g.blocks.items c.args.next.now g.words (target_of c.args.tree.now) c.args.tree.now.steps.items c.args.at) (sym block)
          (way_begins s.props (moves_of s t) g.blocks.items c.args.next.now g.words c.requires.refinement.order (target_of c.args.tree.now) c.args.tree.now.steps.items c.args.at c.requires.tree
          lesser own
          (own_kept s t g.blocks.items g.words g.columns.items c.args.rows.now c.requires.fits c.requires.rows c.requires.refinement c.args.next.now c.requires.division
          (slice_index g.blocks.items c.args.at) (omega (arith, lesser, c.requires.within)) own));
    }

pub least_step-step-requires-clause-apart : goal.least_step-step-requires-clause-apart
least_step-step-requires-clause-apart c =
    let g = c.args.refinement.now in
    let w = c.down.invariant.way in
    let from : c.down.from < size_of c.args.automaton.now = omega (arith, w.lesser, c.requires.within) in
    let apart : c.down.from ≢ c.args.at = λ e. absurd (omega (arith, w.lesser, e)) in
    rows_differ c.args.store.now c.args.automaton.now g.blocks.items g.words g.columns.items c.args.rows.now c.requires.fits c.requires.rows c.requires.refinement
    c.args.next.now c.requires.division c.down.from c.args.at from c.requires.within apart w.name c.if-next-at.false w.same

pub returns-in_default : goal.returns-in_default
returns-in_default c =
    let s = c.args.store.now in
    let t = c.args.automaton.now in
    let g = c.args.refinement.now in
    let new = target_of (record { branches = c.insert.new.self; steps = c.push.new.self }) in
    subst (λ steps. IsTreeFor s.props (moves_of s t) g.blocks.items c.args.next.now g.words new steps (c.args.at + 1)) (sym c.in_ok-push.ensures.items)
    (way_ends s.props (moves_of s t) g.blocks.items c.args.next.now g.words c.requires.refinement.order (target_of c.down.tree) c.down.tree.steps.items c.args.at c.down.invariant.tree
    c.down.from c.least_step-step.result new c.down.invariant.way c.least_step-step.ensures
    (sym c.in_default.ensures.value) c.in_ok-insert.ensures.updates.0 c.requires.within c.if-next-at.false)

pub down-smaller : goal.down-smaller
down-smaller c =
    let b = c.down.invariant.tree.branch c.down.from c.in-Some.to.now c.least_step-step.result (sym c.in-Some.ensures.value) in
    omega (arith, b.later, b.within)

pub down-preserved : goal.down-preserved
down-preserved c =
    let s = c.args.store.now in
    let t = c.args.automaton.now in
    let g = c.args.refinement.now in
    record {
      tree = c.down.invariant.tree;
      way = way_goes s.props (moves_of s t) g.blocks.items c.args.next.now g.words c.requires.refinement.order (target_of c.down.tree) c.down.tree.steps.items c.args.at c.down.invariant.tree
          c.down.from c.in-Some.to.now c.least_step-step.result c.down.invariant.way c.least_step-step.ensures (sym c.in-Some.ensures.value);
    }
