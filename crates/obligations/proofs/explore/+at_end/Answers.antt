use Rattle.std.proofs.Common.{◌≡◌, ◌<◌, ◌-◌, sym, ◌∙◌, true, false, length, arith}
use Rattle.diagrams.specs.Eval.{tree}
use Rattle.diagrams.proofs.Canon.{tree_size}
use Rattle.diagrams.proofs.Meaning.{eval-terminal}
use Rattle.diagrams.proofs.Meaning.{top_is}
use Rattle.diagrams.proofs.Composed.{own_place}
use Rattle.obligations.specs.Table.{ends_of}
use Rattle.obligations.specs.Value.{by_values}
use Rattle.obligations.proofs.Explored.{claims_down, end-node}
use Rattle.obligations.proofs.explore.+at_end.Goals as goal

pub overflow_sub-var : goal.overflow_sub-var
overflow_sub-var t c =
    let e = top_is c.args.store.now c.args.f _ _ c.look.ensures.top c.in-Node.is in
    let d = claims_down c.args.store.now c.look.ensures.canonical (length c.args.cells.now) c.args.f c.in-Node.lo c.in-Node.hi c.in-Node.var e c.requires.f in
    (own_place c.args.store.now.props _ (length c.args.cells.now) c.in-Node.var d.own_obligation c.props-props.ensures.number).0

pub ends-requires : goal.ends-requires
ends-requires t c =
    let e = top_is c.args.store.now c.args.f _ _ c.look.ensures.top c.in-Node.is in
    let d = claims_down c.args.store.now c.look.ensures.canonical (length c.args.cells.now) c.args.f c.in-Node.lo c.in-Node.hi c.in-Node.var e c.requires.f in
    (own_place c.args.store.now.props _ (length c.args.cells.now) c.in-Node.var d.own_obligation c.props-props.ensures.number).1

pub at_end-requires : goal.at_end-requires
at_end-requires t c =
    let e = top_is c.args.store.now c.args.f _ _ c.look.ensures.top c.in-Node.is in
    let d = claims_down c.args.store.now c.look.ensures.canonical (length c.args.cells.now) c.args.f c.in-Node.lo c.in-Node.hi c.in-Node.var e c.requires.f in
    let h : tree_size (tree c.args.store.now c.in-Node.hi) < t = omega (arith, d.hi_less, c.decreases) in
    (h, d.hi_claim)

pub at_end-requires-else-ends : goal.at_end-requires-else-ends
at_end-requires-else-ends t c =
    let e = top_is c.args.store.now c.args.f _ _ c.look.ensures.top c.in-Node.is in
    let d = claims_down c.args.store.now c.look.ensures.canonical (length c.args.cells.now) c.args.f c.in-Node.lo c.in-Node.hi c.in-Node.var e c.requires.f in
    let h : tree_size (tree c.args.store.now c.in-Node.lo) < t = omega (arith, d.lo_less, c.decreases) in
    (h, d.lo_claim)

pub returns-in-Terminal : goal.returns-in-Terminal
returns-in-Terminal t c = sym (eval-terminal c.args.store.now c.args.f _ (top_is _ _ _ _ c.look.ensures.top c.in-Terminal.is) (by_values c.args.store.now.props (ends_of c.args.cells.now)))

pub returns-then-ends : goal.returns-then-ends
returns-then-ends t c =
    let e = top_is c.args.store.now c.args.f _ _ c.look.ensures.top c.in-Node.is in
    let d = claims_down c.args.store.now c.look.ensures.canonical (length c.args.cells.now) c.args.f c.in-Node.lo c.in-Node.hi c.in-Node.var e c.requires.f in
    let q : ends_of c.args.cells.now (c.in-Node.var - c.args.store.now.props) ≡ true = rw (← c.props-props.ensures.number) (sym c.ends.ensures ∙ c.if-ends.true) in
    c.at_end.ensures ∙ sym (end-node c.args.store.now c.look.ensures.canonical (length c.args.cells.now) c.args.f c.in-Node.lo c.in-Node.hi c.in-Node.var (ends_of c.args.cells.now) true e d.own_obligation q)

pub returns-else-ends : goal.returns-else-ends
returns-else-ends t c =
    let e = top_is c.args.store.now c.args.f _ _ c.look.ensures.top c.in-Node.is in
    let d = claims_down c.args.store.now c.look.ensures.canonical (length c.args.cells.now) c.args.f c.in-Node.lo c.in-Node.hi c.in-Node.var e c.requires.f in
    let q : ends_of c.args.cells.now (c.in-Node.var - c.args.store.now.props) ≡ false = rw (← c.props-props.ensures.number) (sym c.ends.ensures ∙ c.if-ends.false) in
    c.at_end-else-ends.ensures ∙ sym (end-node c.args.store.now c.look.ensures.canonical (length c.args.cells.now) c.args.f c.in-Node.lo c.in-Node.hi c.in-Node.var (ends_of c.args.cells.now) false e d.own_obligation q)
