use Rattle.std.proofs.Common.{◌<◌, arith}
use Rattle.diagrams.specs.Eval.{tree}
use Rattle.diagrams.proofs.Canon.{tree_size}
use Rattle.diagrams.proofs.Meaning.{top_is, Keeps_trans}
use Rattle.diagrams.proofs.Transformed.{less_later}
use Rattle.diagrams.proofs.Kept.{kept_same, kept_learnt}
use Rattle.diagrams.proofs.Works.{id_true}
use Rattle.diagrams.specs.Transformed.{same_id}
use Rattle.obligations.specs.Located.{Cuts, IsCut}
use Rattle.obligations.proofs.Holds.{body_lasts}
use Rattle.obligations.proofs.Cuts.{claim_terminal, claim_node, walks_down, cuts_children, cuts_node, cuts_now, claims_last, kept_cut_lasts, grows_refl}
use Rattle.obligations.proofs.cut.+cut.Goals as goal

pub placed-requires-clause-f : goal.placed-requires-clause-f
placed-requires-clause-f t c = claim_terminal c.args.store.now c.args.count c.args.f _ c.requires.f (top_is _ _ _ _ c.look.ensures.top c.in-Terminal.is)

pub placed-requires-then-var-props-clause-f : goal.placed-requires-then-var-props-clause-f
placed-requires-then-var-props-clause-f t c =
    claim_node c.args.store.now c.look.ensures.canonical c.args.count c.in-Node.var c.args.f c.in-Node.lo c.in-Node.hi c.requires.f (top_is _ _ _ _ c.look.ensures.top c.in-Node.is)
    (rw (← c.props-props.ensures.number) c.if-var-props.true)

pub returns-in-Terminal-clause-right : goal.returns-in-Terminal-clause-right
returns-in-Terminal-clause-right t c =
    kept_cut_lasts c.args.store.now c.placed.new.store c.placed.ensures.keeps c.args.count c.args.frontier.now c.placed.new.frontier c.placed.ensures.grows c.requires.claims c.args.memo.now c.requires.right

pub returns-then-var-props-clause-right : goal.returns-then-var-props-clause-right
returns-then-var-props-clause-right t c =
    kept_cut_lasts c.args.store.now c.placed-then-var-props.new.store c.placed-then-var-props.ensures.keeps c.args.count c.args.frontier.now c.placed-then-var-props.new.frontier c.placed-then-var-props.ensures.grows c.requires.claims c.args.memo.now c.requires.right

pub returns-in-Some-clause-row : goal.returns-in-Some-clause-row
returns-in-Some-clause-row t c = (c.requires.right c.args.f c.in-Some.row c.in-Some.ensures).cuts

pub cut-requires : goal.cut-requires
cut-requires t c =
    let e = top_is c.args.store.now c.args.f _ _ c.look.ensures.top c.in-Node.is in
    let d = walks_down c.args.store.now c.look.ensures.canonical c.args.count c.args.f c.in-Node.lo c.in-Node.hi c.in-Node.var e c.requires.f in
    let h : tree_size (tree c.args.store.now c.in-Node.lo) < t = omega (arith, d.lo_less, c.decreases) in
    (h, (d.lo_body, (c.requires.claims, c.requires.right)))

pub cut-requires-in-Node : goal.cut-requires-in-Node
cut-requires-in-Node t c =
    let e = top_is c.args.store.now c.args.f _ _ c.look.ensures.top c.in-Node.is in
    let d = walks_down c.args.store.now c.look.ensures.canonical c.args.count c.args.f c.in-Node.lo c.in-Node.hi c.in-Node.var e c.requires.f in
    let h : tree_size (tree c.cut.new.store c.in-Node.hi) < t = less_later c.args.store.now c.cut.new.store c.cut.ensures.keeps c.in-Node.hi t d.hi_body.live (omega (arith, d.hi_less, c.decreases)) in
    (h, (body_lasts c.args.store.now c.cut.new.store c.cut.ensures.keeps c.args.count c.in-Node.hi d.hi_body, (c.cut.ensures.claims, c.cut.ensures.right)))

pub node-requires-clause-lo_above : goal.node-requires-clause-lo_above
node-requires-clause-lo_above t c =
    let e = top_is c.args.store.now c.args.f _ _ c.look.ensures.top c.in-Node.is in
    let d = walks_down c.args.store.now c.look.ensures.canonical c.args.count c.args.f c.in-Node.lo c.in-Node.hi c.in-Node.var e c.requires.f in
    let x = cuts_children c.args.store.now c.cut.new.store c.cut-in-Node.new.store c.cut.ensures.keeps c.cut-in-Node.ensures.keeps c.args.count c.cut.new.frontier c.cut-in-Node.new.frontier c.cut-in-Node.ensures.grows c.cut.ensures.claims c.in-Node.var c.args.f c.in-Node.lo c.in-Node.hi c.in_ok-low-in-Node.low c.in_ok-high-in-Node.high e d.hi_body.live c.in_ok-low-in-Node.ensures.row c.in_ok-high-in-Node.ensures.row in
    x.low_above

pub node-requires-clause-hi_above : goal.node-requires-clause-hi_above
node-requires-clause-hi_above t c =
    let e = top_is c.args.store.now c.args.f _ _ c.look.ensures.top c.in-Node.is in
    let d = walks_down c.args.store.now c.look.ensures.canonical c.args.count c.args.f c.in-Node.lo c.in-Node.hi c.in-Node.var e c.requires.f in
    let x = cuts_children c.args.store.now c.cut.new.store c.cut-in-Node.new.store c.cut.ensures.keeps c.cut-in-Node.ensures.keeps c.args.count c.cut.new.frontier c.cut-in-Node.new.frontier c.cut-in-Node.ensures.grows c.cut.ensures.claims c.in-Node.var c.args.f c.in-Node.lo c.in-Node.hi c.in_ok-low-in-Node.low c.in_ok-high-in-Node.high e d.hi_body.live c.in_ok-low-in-Node.ensures.row c.in_ok-high-in-Node.ensures.row in
    x.high_above

pub returns-in_err-row-in-Node-clause-claims : goal.returns-in_err-row-in-Node-clause-claims
returns-in_err-row-in-Node-clause-claims t c = claims_last c.cut-in-Node.new.store c.node.new.self c.node.ensures.keeps c.args.count c.cut-in-Node.new.frontier c.cut-in-Node.ensures.claims

pub returns-in_err-row-in-Node-clause-right : goal.returns-in_err-row-in-Node-clause-right
returns-in_err-row-in-Node-clause-right t c = kept_cut_lasts c.cut-in-Node.new.store c.node.new.self c.node.ensures.keeps c.args.count c.cut-in-Node.new.frontier c.cut-in-Node.new.frontier (grows_refl c.cut-in-Node.new.frontier) c.cut-in-Node.ensures.claims c.cut-in-Node.new.memo c.cut-in-Node.ensures.right

pub returns-in_err-keep-in-Node-clause-claims : goal.returns-in_err-keep-in-Node-clause-claims
returns-in_err-keep-in-Node-clause-claims t c = claims_last c.cut-in-Node.new.store c.node.new.self c.node.ensures.keeps c.args.count c.cut-in-Node.new.frontier c.cut-in-Node.ensures.claims

pub returns-in_err-keep-in-Node-clause-right : goal.returns-in_err-keep-in-Node-clause-right
returns-in_err-keep-in-Node-clause-right t c =
    kept_same same_id (IsCut c.node.new.self c.cut-in-Node.new.frontier) c.cut-in-Node.new.memo c.keep.new.self c.in_err-keep-in-Node.ensures.err (kept_cut_lasts c.cut-in-Node.new.store c.node.new.self c.node.ensures.keeps c.args.count c.cut-in-Node.new.frontier c.cut-in-Node.new.frontier (grows_refl c.cut-in-Node.new.frontier) c.cut-in-Node.ensures.claims c.cut-in-Node.new.memo c.cut-in-Node.ensures.right)

pub returns-in_ok-keep-in-Node-clause-claims : goal.returns-in_ok-keep-in-Node-clause-claims
returns-in_ok-keep-in-Node-clause-claims t c = claims_last c.cut-in-Node.new.store c.node.new.self c.node.ensures.keeps c.args.count c.cut-in-Node.new.frontier c.cut-in-Node.ensures.claims

pub returns-in_ok-keep-in-Node-clause-row : goal.returns-in_ok-keep-in-Node-clause-row
returns-in_ok-keep-in-Node-clause-row t c =
    let e = top_is c.args.store.now c.args.f _ _ c.look.ensures.top c.in-Node.is in
    let d = walks_down c.args.store.now c.look.ensures.canonical c.args.count c.args.f c.in-Node.lo c.in-Node.hi c.in-Node.var e c.requires.f in
    let x = cuts_children c.args.store.now c.cut.new.store c.cut-in-Node.new.store c.cut.ensures.keeps c.cut-in-Node.ensures.keeps c.args.count c.cut.new.frontier c.cut-in-Node.new.frontier c.cut-in-Node.ensures.grows c.cut.ensures.claims c.in-Node.var c.args.f c.in-Node.lo c.in-Node.hi c.in_ok-low-in-Node.low c.in_ok-high-in-Node.high e d.hi_body.live c.in_ok-low-in-Node.ensures.row c.in_ok-high-in-Node.ensures.row in
    let k = Keeps_trans _ _ _ c.cut.ensures.keeps c.cut-in-Node.ensures.keeps in
    let small : c.in-Node.var < c.args.store.now.props = rw (← c.props-props.ensures.number) c.if-var-props.false in
    let given : Cuts c.args.store.now c.node.new.self c.cut-in-Node.new.frontier c.args.f c.in_ok-row-in-Node.row =
    cuts_node c.args.store.now c.cut-in-Node.new.store c.node.new.self k c.node.ensures.keeps c.args.count c.cut-in-Node.new.frontier c.cut-in-Node.ensures.claims c.in-Node.var c.args.f c.in-Node.lo c.in-Node.hi c.in_ok-low-in-Node.low c.in_ok-high-in-Node.high c.in_ok-row-in-Node.row
    e small x.low_cut x.high_cut c.in_ok-row-in-Node.ensures.id in
    given

pub returns-in_ok-keep-in-Node-clause-right : goal.returns-in_ok-keep-in-Node-clause-right
returns-in_ok-keep-in-Node-clause-right t c =
    let e = top_is c.args.store.now c.args.f _ _ c.look.ensures.top c.in-Node.is in
    let d = walks_down c.args.store.now c.look.ensures.canonical c.args.count c.args.f c.in-Node.lo c.in-Node.hi c.in-Node.var e c.requires.f in
    let x = cuts_children c.args.store.now c.cut.new.store c.cut-in-Node.new.store c.cut.ensures.keeps c.cut-in-Node.ensures.keeps c.args.count c.cut.new.frontier c.cut-in-Node.new.frontier c.cut-in-Node.ensures.grows c.cut.ensures.claims c.in-Node.var c.args.f c.in-Node.lo c.in-Node.hi c.in_ok-low-in-Node.low c.in_ok-high-in-Node.high e d.hi_body.live c.in_ok-low-in-Node.ensures.row c.in_ok-high-in-Node.ensures.row in
    let k = Keeps_trans _ _ _ c.cut.ensures.keeps c.cut-in-Node.ensures.keeps in
    let small : c.in-Node.var < c.args.store.now.props = rw (← c.props-props.ensures.number) c.if-var-props.false in
    let given : Cuts c.args.store.now c.node.new.self c.cut-in-Node.new.frontier c.args.f c.in_ok-row-in-Node.row =
    cuts_node c.args.store.now c.cut-in-Node.new.store c.node.new.self k c.node.ensures.keeps c.args.count c.cut-in-Node.new.frontier c.cut-in-Node.ensures.claims c.in-Node.var c.args.f c.in-Node.lo c.in-Node.hi c.in_ok-low-in-Node.low c.in_ok-high-in-Node.high c.in_ok-row-in-Node.row
    e small x.low_cut x.high_cut c.in_ok-row-in-Node.ensures.id in
    let k3 = Keeps_trans _ _ _ k c.node.ensures.keeps in
    kept_learnt same_id id_true (IsCut c.node.new.self c.cut-in-Node.new.frontier) c.cut-in-Node.new.memo c.keep.new.self c.args.f c.in_ok-row-in-Node.row (kept_cut_lasts c.cut-in-Node.new.store c.node.new.self c.node.ensures.keeps c.args.count c.cut-in-Node.new.frontier c.cut-in-Node.new.frontier (grows_refl c.cut-in-Node.new.frontier) c.cut-in-Node.ensures.claims c.cut-in-Node.new.memo c.cut-in-Node.ensures.right)
    (cuts_now c.args.store.now c.node.new.self k3 c.cut-in-Node.new.frontier c.args.f c.in_ok-row-in-Node.row c.requires.f.live given)
    c.in_ok-keep-in-Node.ensures.ok
