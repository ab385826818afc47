use Rattle.std.proofs.Common.{◌<◌, ◌≤◌, ◌≡◌, ◌⊎◌, inl, inr, sym, arith, length}
use Rattle.std.proofs.lemmas.Bool.{cases_lt}
use Rattle.diagrams.specs.Eval.{tree}
use Rattle.diagrams.proofs.Canon.{tree_size}
use Rattle.diagrams.proofs.Meaning.{top_is, live-above}
use Rattle.diagrams.proofs.Transformed.{down, terminal_fit}
use Rattle.layers.proofs.FoldingLemmas.{least_terminal, least_node, least_found}
use Rattle.layers.proofs.folding.+least.Goals as goal

pub bounds-table-terminal : goal.bounds-table-terminal
bounds-table-terminal t c = terminal_fit c.args.store.now _ c.args.f c.in-Terminal.terminal (top_is _ _ _ _ c.look.ensures.top c.in-Terminal.is) c.requires.fit

pub returns-in-Terminal-clause-least : goal.returns-in-Terminal-clause-least
returns-in-Terminal-clause-least t c = least_terminal c.args.store.now c.args.table.now c.args.f c.in-Terminal.terminal (top_is _ _ _ _ c.look.ensures.top c.in-Terminal.is)

pub returns-in-Some-clause-least : goal.returns-in-Some-clause-least
returns-in-Some-clause-least t c = (c.requires.found c.args.f c.in-Some.item (sym c.in-Some.ensures)).least

pub least-requires : goal.least-requires
least-requires t c =
    let d = down c.args.store.now c.look.ensures.canonical c.args.f c.in-Node.lo c.in-Node.hi c.in-Node.var (top_is _ _ _ _ c.look.ensures.top c.in-Node.is) in
    let h : tree_size (tree c.args.store.now c.in-Node.lo) < t = omega (arith, d.lo_less, c.decreases) in
    (h, (live-above _ _ d.lo_above, (d.lo_fit (length c.args.table.now) c.requires.fit, c.requires.found)))

pub least-requires-in-Node : goal.least-requires-in-Node
least-requires-in-Node t c =
    let d = down c.args.store.now c.look.ensures.canonical c.args.f c.in-Node.lo c.in-Node.hi c.in-Node.var (top_is _ _ _ _ c.look.ensures.top c.in-Node.is) in
    let h : tree_size (tree c.args.store.now c.in-Node.hi) < t = omega (arith, d.hi_less, c.decreases) in
    (h, (live-above _ _ d.hi_above, (d.hi_fit (length c.args.table.now) c.requires.fit, c.in_ok-low-in-Node.ensures.found)))

pub returns-in_ok-keep-in-Node-clause-least : goal.returns-in_ok-keep-in-Node-clause-least
returns-in_ok-keep-in-Node-clause-least t c =
    least_node c.args.store.now c.look.ensures.canonical c.args.table.now c.args.f c.in-Node.lo c.in-Node.hi c.in-Node.var (top_is _ _ _ _ c.look.ensures.top c.in-Node.is) c.in_ok-low-in-Node.low c.in_ok-high-in-Node.high _
    c.in_ok-low-in-Node.ensures.least c.in_ok-high-in-Node.ensures.least (omega arith) (omega arith)
    (elim (cases_lt c.in_ok-low-in-Node.low c.in_ok-high-in-Node.high) [ inl h ↦ inl (omega arith) | inr h ↦ inr (omega arith) ])

pub returns-in_ok-keep-in-Node-clause-found : goal.returns-in_ok-keep-in-Node-clause-found
returns-in_ok-keep-in-Node-clause-found t c =
    least_found c.args.store.now c.args.table.now _ _ c.args.f _ c.in_ok-high-in-Node.ensures.found c.in_ok-keep-in-Node.ensures c.requires.live
    (least_node c.args.store.now c.look.ensures.canonical c.args.table.now c.args.f c.in-Node.lo c.in-Node.hi c.in-Node.var (top_is _ _ _ _ c.look.ensures.top c.in-Node.is) c.in_ok-low-in-Node.low c.in_ok-high-in-Node.high _
    c.in_ok-low-in-Node.ensures.least c.in_ok-high-in-Node.ensures.least (omega arith) (omega arith)
    (elim (cases_lt c.in_ok-low-in-Node.low c.in_ok-high-in-Node.high) [ inl h ↦ inl (omega arith) | inr h ↦ inr (omega arith) ]))
