use Rattle.std.proofs.Common.{◌<◌, sym, ◌∙◌, ap, arith}
use Rattle.diagrams.specs.Eval.{tree}
use Rattle.diagrams.proofs.Canon.{tree_size}
use Rattle.diagrams.proofs.Meaning.{live-above, top_is, tree-node, tree-terminal}
use Rattle.diagrams.proofs.Transformed.{down, terminal_fit}
use Rattle.choosing.specs.Best.{better_of, extreme_at, best_of}
use Rattle.choosing.proofs.KnownLemmas.{right-noted}
use Rattle.choosing.proofs.walks.+best.Goals as goal

pub bounds-values-terminal : goal.bounds-values-terminal
bounds-values-terminal t c = terminal_fit c.args.store.now _ c.args.f c.in-Terminal.terminal (top_is _ _ _ _ c.look.ensures.top c.in-Terminal.is) c.requires.fit

pub best-requires : goal.best-requires
best-requires t c =
    let d = down c.args.store.now c.look.ensures.canonical c.args.f c.in-Node.lo c.in-Node.hi c.in-Node.var (top_is _ _ _ _ c.look.ensures.top c.in-Node.is) in
    let h : tree_size (tree c.args.store.now c.in-Node.lo) < t = omega (arith, d.lo_less, c.decreases) in
    (h, (live-above _ _ d.lo_above, (d.lo_fit _ c.requires.fit, c.requires.right)))

pub best-requires-in-Node : goal.best-requires-in-Node
best-requires-in-Node t c =
    let d = down c.args.store.now c.look.ensures.canonical c.args.f c.in-Node.lo c.in-Node.hi c.in-Node.var (top_is _ _ _ _ c.look.ensures.top c.in-Node.is) in
    let h : tree_size (tree c.args.store.now c.in-Node.hi) < t = omega (arith, d.hi_less, c.decreases) in
    (h, (live-above _ _ d.hi_above, (d.hi_fit _ c.requires.fit, c.best.ensures.right)))

pub returns-in-Terminal-clause-best : goal.returns-in-Terminal-clause-best
returns-in-Terminal-clause-best t c =
    ap (best_of c.args.turns c.args.values.now) (sym (tree-terminal c.args.store.now c.args.f c.in-Terminal.terminal (top_is _ _ _ _ c.look.ensures.top c.in-Terminal.is)))

pub returns-in_ok-keep-in-Node-clause-best : goal.returns-in_ok-keep-in-Node-clause-best
returns-in_ok-keep-in-Node-clause-best t c =
    let node = tree-node c.args.store.now c.look.ensures.canonical c.args.f c.in-Node.var c.in-Node.lo c.in-Node.hi (top_is _ _ _ _ c.look.ensures.top c.in-Node.is) in
    let low = c.in_ok-low-in-Node.ensures.best in
    let high = c.in_ok-high-in-Node.ensures.best in
    c.better-number.ensures
    ∙ ap (λ e. better_of e c.in_ok-low-in-Node.low c.in_ok-high-in-Node.high) c.turn_at.ensures
    ∙ ap (λ z. better_of (extreme_at c.args.turns c.in-Node.var) z c.in_ok-high-in-Node.high) low
    ∙ ap (λ z. better_of (extreme_at c.args.turns c.in-Node.var) (best_of c.args.turns c.args.values.now (tree c.args.store.now c.in-Node.lo)) z) high
    ∙ ap (best_of c.args.turns c.args.values.now) (sym node)

pub returns-in_ok-keep-in-Node-clause-right : goal.returns-in_ok-keep-in-Node-clause-right
returns-in_ok-keep-in-Node-clause-right t c =
    let node = tree-node c.args.store.now c.look.ensures.canonical c.args.f c.in-Node.var c.in-Node.lo c.in-Node.hi (top_is _ _ _ _ c.look.ensures.top c.in-Node.is) in
    let low = c.in_ok-low-in-Node.ensures.best in
    let high = c.in_ok-high-in-Node.ensures.best in
    let value = c.better-number.ensures
    ∙ ap (λ e. better_of e c.in_ok-low-in-Node.low c.in_ok-high-in-Node.high) c.turn_at.ensures
    ∙ ap (λ z. better_of (extreme_at c.args.turns c.in-Node.var) z c.in_ok-high-in-Node.high) low
    ∙ ap (λ z. better_of (extreme_at c.args.turns c.in-Node.var) (best_of c.args.turns c.args.values.now (tree c.args.store.now c.in-Node.lo)) z) high
    ∙ ap (best_of c.args.turns c.args.values.now) (sym node) in
    right-noted c.args.store.now c.args.turns c.args.values.now c.best-in-Node.new.known c.keep.new.self c.args.f c.better-number.result c.best-in-Node.ensures.right value c.in_ok-keep-in-Node.ensures.ok
