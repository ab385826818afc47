use Rattle.std.proofs.Common.{◌<◌, ◌+◌, sym, ◌∙◌, arith}
use Rattle.diagrams.specs.Eval.{tree}
use Rattle.diagrams.proofs.Canon.{tree_size}
use Rattle.diagrams.proofs.Meaning.{top_is}
use Rattle.diagrams.proofs.Transformed.{terminal_fit}
use Rattle.diagrams.proofs.Combines.{step_at}
use Rattle.obligations.specs.Related.{related}
use Rattle.obligations.proofs.Simulating.{low_below, high_below, leads_parts, known_next}
use Rattle.obligations.proofs.simulation.+leads_within.Goals as goal

pub holds-requires-clause-x : goal.holds-requires-clause-x
holds-requires-clause-x t c = terminal_fit c.args.store.now c.args.relation.now.size c.args.f _ (top_is _ _ _ _ c.look-f_top.ensures.top c.in-Terminal-Terminal.is-0) c.requires.f.below

pub holds-requires-clause-y : goal.holds-requires-clause-y
holds-requires-clause-y t c = terminal_fit c.args.store.now c.args.relation.now.size c.args.g _ (top_is _ _ _ _ c.look-g_top.ensures.top c.in-Terminal-Terminal.is-1) c.requires.g.below

pub returns-then-contains-clause-within : goal.returns-then-contains-clause-within
returns-then-contains-clause-within t c = λ h. c.requires.known (record { lower = c.args.f; upper = c.args.g }) (sym c.contains.ensures ∙ c.if-contains.true)

pub leads_within-requires : goal.leads_within-requires
leads_within-requires t c =
    let s = step_at c.args.store.now c.look-f_top.ensures.canonical c.args.f c.args.g c.look-f_top.result c.look-g_top.result c.look-f_top.ensures.top c.look-g_top.ensures.top
    c.in-Some.var c.in-Some.ensures c.cofactors.result c.cofactors-2.result c.cofactors.ensures.low c.cofactors.ensures.high c.cofactors-2.ensures.low c.cofactors-2.ensures.high in
    let h : tree_size (tree c.args.store.now c.cofactors.result.0) + tree_size (tree c.args.store.now c.cofactors-2.result.0) < t = omega (arith, s.lo_less, c.decreases) in (
      h,
      (
        low_below c.args.store.now c.look-f_top.ensures.canonical c.args.relation.now.size c.in-Some.var c.args.f _ _ s.first c.requires.f,
        (low_below c.args.store.now c.look-f_top.ensures.canonical c.args.relation.now.size c.in-Some.var c.args.g _ _ s.second c.requires.g, c.requires.known),
      ),
    )

pub leads_within-requires-2 : goal.leads_within-requires-2
leads_within-requires-2 t c =
    let s = step_at c.args.store.now c.look-f_top.ensures.canonical c.args.f c.args.g c.look-f_top.result c.look-g_top.result c.look-f_top.ensures.top c.look-g_top.ensures.top
    c.in-Some.var c.in-Some.ensures c.cofactors.result c.cofactors-2.result c.cofactors.ensures.low c.cofactors.ensures.high c.cofactors-2.ensures.low c.cofactors-2.ensures.high in
    let h : tree_size (tree c.args.store.now c.cofactors.result.1) + tree_size (tree c.args.store.now c.cofactors-2.result.1) < t = omega (arith, s.hi_less, c.decreases) in (
      h,
      (
        high_below c.args.store.now c.look-f_top.ensures.canonical c.args.relation.now.size c.in-Some.var c.args.f _ _ s.first c.requires.f,
        (high_below c.args.store.now c.look-f_top.ensures.canonical c.args.relation.now.size c.in-Some.var c.args.g _ _ s.second c.requires.g, c.leads_within.ensures.known),
      ),
    )

pub returns-clause-known : goal.returns-clause-known
returns-clause-known t c =
    let s = step_at c.args.store.now c.look-f_top.ensures.canonical c.args.f c.args.g c.look-f_top.result c.look-g_top.result c.look-f_top.ensures.top c.look-g_top.ensures.top
    c.in-Some.var c.in-Some.ensures c.cofactors.result c.cofactors-2.result c.cofactors.ensures.low c.cofactors.ensures.high c.cofactors-2.ensures.low c.cofactors-2.ensures.high in
    let low = c.in_ok-leads_within.ensures.within c.if-not-branch.false in
    let high = c.in_ok-leads_within-2.ensures.within c.if-not-branch-2.false in
    known_next c.args.store.now (related c.args.relation.now) c.leads_within-2.new.known c.note.new.known c.args.f c.args.g c.leads_within-2.ensures.known
    (leads_parts c.args.store.now (related c.args.relation.now) c.in-Some.var c.args.f c.cofactors.result.0 c.cofactors.result.1 c.args.g c.cofactors-2.result.0 c.cofactors-2.result.1 s.first s.second low high)
    c.in_ok-note.ensures.ok
