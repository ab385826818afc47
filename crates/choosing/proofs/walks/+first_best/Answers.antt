use Rattle.std.proofs.Common.{◌≡◌, ◌≢◌, ◌<◌, ◌-◌, ◌*◌, ◌%◌, ◌^◌, sym, ◌∙◌, ap, arith}
use Rattle.std.proofs.lemmas.Nat.{one_shl}
use Rattle.std.proofs.lemmas.Result.{IfOk-weaker}
use Rattle.diagrams.specs.Eval.{tree}
use Rattle.diagrams.proofs.Canon.{tree_size}
use Rattle.diagrams.proofs.Meaning.{top_is, tree-terminal}
use Rattle.diagrams.proofs.Transformed.{down}
use Rattle.choosing.specs.Best.{best_of, first_of}
use Rattle.choosing.proofs.FirstLemmas.{step-at, first-past}
use Rattle.choosing.proofs.walks.+first_best.Goals as goal

pub returns-in-Terminal-clause-first : goal.returns-in-Terminal-clause-first
returns-in-Terminal-clause-first t c =
    ap (first_of c.args.turns c.args.values.now) (sym (tree-terminal c.args.store.now c.args.f _ (top_is _ _ _ _ c.look.ensures.top c.in-Terminal.is)))

pub returns-then-turns-var-clause-first : goal.returns-then-turns-var-clause-first
returns-then-turns-var-clause-first t c =
    first-past c.args.store.now c.look.ensures.canonical c.args.turns c.args.values.now c.args.f c.in-Node.lo c.in-Node.hi c.in-Node.var (top_is _ _ _ _ c.look.ensures.top c.in-Node.is) (omega (arith, c.if-turns-var.true))

pub best-requires-in-Node-clause-fit : goal.best-requires-in-Node-clause-fit
best-requires-in-Node-clause-fit t c =
    let d = down c.args.store.now c.look.ensures.canonical c.args.f c.in-Node.lo c.in-Node.hi c.in-Node.var (top_is _ _ _ _ c.look.ensures.top c.in-Node.is) in
    d.lo_fit _ c.requires.fit

pub first_best-requires : goal.first_best-requires
first_best-requires t c =
    let e = top_is _ _ _ _ c.look.ensures.top c.in-Node.is in
    let d = down c.args.store.now c.look.ensures.canonical c.args.f c.in-Node.lo c.in-Node.hi c.in-Node.var e in
    let s = step-at c.args.store.now c.look.ensures.canonical c.args.turns c.args.values.now c.args.f c.in-Node.lo c.in-Node.hi c.in-Node.var e c.requires.live c.requires.range c.requires.few c.requires.vars (omega (arith, c.if-turns-var.false)) in
    let h : tree_size (tree c.args.store.now c.in-Node.lo) < t = omega (arith, s.lo_less, c.decreases) in
    (h, (s.lo_live, (d.lo_fit _ c.requires.fit, (c.requires.range, (c.requires.few, (s.lo_vars, c.best-in-Node.ensures.right))))))

pub first_best-requires-in-Node : goal.first_best-requires-in-Node
first_best-requires-in-Node t c =
    let e = top_is _ _ _ _ c.look.ensures.top c.in-Node.is in
    let d = down c.args.store.now c.look.ensures.canonical c.args.f c.in-Node.lo c.in-Node.hi c.in-Node.var e in
    let s = step-at c.args.store.now c.look.ensures.canonical c.args.turns c.args.values.now c.args.f c.in-Node.lo c.in-Node.hi c.in-Node.var e c.requires.live c.requires.range c.requires.few c.requires.vars (omega (arith, c.if-turns-var.false)) in
    let h : tree_size (tree c.args.store.now c.in-Node.hi) < t = omega (arith, s.hi_less, c.decreases) in
    (h, (s.hi_live, (d.hi_fit _ c.requires.fit, (c.requires.range, (c.requires.few, (s.hi_vars, c.best-in-Node.ensures.right))))))

pub returns-then-low-whole-clause-first : goal.returns-then-low-whole-clause-first
returns-then-low-whole-clause-first t c =
    let e = top_is _ _ _ _ c.look.ensures.top c.in-Node.is in
    let s = step-at c.args.store.now c.look.ensures.canonical c.args.turns c.args.values.now c.args.f c.in-Node.lo c.in-Node.hi c.in-Node.var e c.requires.live c.requires.range c.requires.few c.requires.vars (omega (arith, c.if-turns-var.false)) in
    let same : best_of c.args.turns c.args.values.now (tree c.args.store.now c.in-Node.lo) ≡ best_of c.args.turns c.args.values.now (tree c.args.store.now c.args.f) =
    sym c.in_ok-low-in-Node.ensures.best ∙ c.if-low-whole.true ∙ c.in_ok-whole-in-Node.ensures.best in
    IfOk-weaker c.first_best.result _ _ (λ y f. f ∙ s.low same) c.first_best.ensures.first

pub overflow_shl-result : goal.overflow_shl-result
overflow_shl-result t c =
    let e = top_is _ _ _ _ c.look.ensures.top c.in-Node.is in
    let s = step-at c.args.store.now c.look.ensures.canonical c.args.turns c.args.values.now c.args.f c.in-Node.lo c.in-Node.hi c.in-Node.var e c.requires.live c.requires.range c.requires.few c.requires.vars (omega (arith, c.if-turns-var.false)) in
    s.few

pub overflow_add-result : goal.overflow_add-result
overflow_add-result t c =
    let e = top_is _ _ _ _ c.look.ensures.top c.in-Node.is in
    let s = step-at c.args.store.now c.look.ensures.canonical c.args.turns c.args.values.now c.args.f c.in-Node.lo c.in-Node.hi c.in-Node.var e c.requires.live c.requires.range c.requires.few c.requires.vars (omega (arith, c.if-turns-var.false)) in
    let p : 1 * 2 ^ (c.args.turns.to - 1 - c.in-Node.var) % 2 ^ 32 ≡ 2 ^ (c.args.turns.to - 1 - c.in-Node.var) = one_shl (c.args.turns.to - 1 - c.in-Node.var) 32 s.few in
    let differ : best_of c.args.turns c.args.values.now (tree c.args.store.now c.in-Node.lo) ≢ best_of c.args.turns c.args.values.now (tree c.args.store.now c.args.f) =
    λ same. c.if-low-whole.false (c.in_ok-low-in-Node.ensures.best ∙ same ∙ sym c.in_ok-whole-in-Node.ensures.best) in
    let whole = s.high differ in
    omega (arith, p, whole, s.fits, c.in_ok-rest-in-Node.ensures.first)

pub returns-in_ok-rest-in-Node-clause-first : goal.returns-in_ok-rest-in-Node-clause-first
returns-in_ok-rest-in-Node-clause-first t c =
    let e = top_is _ _ _ _ c.look.ensures.top c.in-Node.is in
    let s = step-at c.args.store.now c.look.ensures.canonical c.args.turns c.args.values.now c.args.f c.in-Node.lo c.in-Node.hi c.in-Node.var e c.requires.live c.requires.range c.requires.few c.requires.vars (omega (arith, c.if-turns-var.false)) in
    let p : 1 * 2 ^ (c.args.turns.to - 1 - c.in-Node.var) % 2 ^ 32 ≡ 2 ^ (c.args.turns.to - 1 - c.in-Node.var) = one_shl (c.args.turns.to - 1 - c.in-Node.var) 32 s.few in
    let differ : best_of c.args.turns c.args.values.now (tree c.args.store.now c.in-Node.lo) ≢ best_of c.args.turns c.args.values.now (tree c.args.store.now c.args.f) =
    λ same. c.if-low-whole.false (c.in_ok-low-in-Node.ensures.best ∙ same ∙ sym c.in_ok-whole-in-Node.ensures.best) in
    let whole = s.high differ in
    omega (arith, p, whole, c.in_ok-rest-in-Node.ensures.first)
