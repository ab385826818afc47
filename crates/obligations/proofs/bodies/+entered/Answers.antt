use Rattle.std.proofs.Common.{◌<◌, length, arith}
use Rattle.diagrams.specs.Eval.{tree}
use Rattle.diagrams.specs.Transformed.{same_id}
use Rattle.diagrams.proofs.Canon.{tree_size}
use Rattle.diagrams.proofs.Meaning.{top_is, Keeps_trans}
use Rattle.diagrams.proofs.Transformed.{less_later, terminal_fit}
use Rattle.diagrams.proofs.Kept.{kept_same, kept_learnt}
use Rattle.diagrams.proofs.Works.{id_true}
use Rattle.automata.proofs.Lasts.{row_lasts}
use Rattle.obligations.specs.Entered.{Enters, IsEntered}
use Rattle.obligations.proofs.Entering.{walks_on, enters_terminal, enters_children, enters_node, entered_now, kept_entered_last, later_last}
use Rattle.obligations.proofs.bodies.+entered.Goals as goal

pub bounds-items-at : goal.bounds-items-at
bounds-items-at t c = terminal_fit c.args.store.now (length c.args.items.now) c.args.f _ (top_is _ _ _ _ c.look.ensures.top c.in-Terminal.is) c.requires.f.targets

pub returns-in-Terminal-clause-body : goal.returns-in-Terminal-clause-body
returns-in-Terminal-clause-body t c =
    let e = top_is _ _ _ _ c.look.ensures.top c.in-Terminal.is in
    enters_terminal c.args.store.now c.args.items.now c.requires.items c.args.f _ e (terminal_fit c.args.store.now (length c.args.items.now) c.args.f _ e c.requires.f.targets)

pub returns-in-Some-clause-body : goal.returns-in-Some-clause-body
returns-in-Some-clause-body t c = (c.requires.right c.args.f c.in-Some.body c.in-Some.ensures).enters

pub entered-requires : goal.entered-requires
entered-requires t c =
    let e = top_is c.args.store.now c.args.f _ _ c.look.ensures.top c.in-Node.is in
    let d = walks_on c.args.store.now c.look.ensures.canonical (length c.args.items.now) c.args.f c.in-Node.lo c.in-Node.hi c.in-Node.var e c.requires.f in
    let h : tree_size (tree c.args.store.now c.in-Node.lo) < t = omega (arith, d.lo_less, c.decreases) in
    (h, (d.lo_row, (c.requires.items, c.requires.right)))

pub entered-requires-in-Node : goal.entered-requires-in-Node
entered-requires-in-Node t c =
    let k = c.entered.ensures.keeps in
    let e = top_is c.args.store.now c.args.f _ _ c.look.ensures.top c.in-Node.is in
    let d = walks_on c.args.store.now c.look.ensures.canonical (length c.args.items.now) c.args.f c.in-Node.lo c.in-Node.hi c.in-Node.var e c.requires.f in
    let h : tree_size (tree c.entered.new.store c.in-Node.hi) < t = less_later c.args.store.now c.entered.new.store k c.in-Node.hi t d.hi_row.live (omega (arith, d.hi_less, c.decreases)) in
    (h, (row_lasts c.args.store.now c.entered.new.store k (length c.args.items.now) c.in-Node.hi d.hi_row, (later_last c.args.store.now c.entered.new.store k c.args.items.now c.requires.items, c.entered.ensures.right)))

pub node-requires-clause-lo_above : goal.node-requires-clause-lo_above
node-requires-clause-lo_above t c =
    let e = top_is c.args.store.now c.args.f _ _ c.look.ensures.top c.in-Node.is in
    let d = walks_on c.args.store.now c.look.ensures.canonical (length c.args.items.now) c.args.f c.in-Node.lo c.in-Node.hi c.in-Node.var e c.requires.f in
    let x = enters_children c.args.store.now c.entered.new.store c.entered-in-Node.new.store c.entered.ensures.keeps c.entered-in-Node.ensures.keeps c.args.items.now c.requires.items c.in-Node.var c.args.f c.in-Node.lo c.in-Node.hi c.in_ok-low-in-Node.low c.in_ok-high-in-Node.high e d c.in_ok-low-in-Node.ensures.body c.in_ok-high-in-Node.ensures.body in
    x.low_above

pub node-requires-clause-hi_above : goal.node-requires-clause-hi_above
node-requires-clause-hi_above t c =
    let e = top_is c.args.store.now c.args.f _ _ c.look.ensures.top c.in-Node.is in
    let d = walks_on c.args.store.now c.look.ensures.canonical (length c.args.items.now) c.args.f c.in-Node.lo c.in-Node.hi c.in-Node.var e c.requires.f in
    let x = enters_children c.args.store.now c.entered.new.store c.entered-in-Node.new.store c.entered.ensures.keeps c.entered-in-Node.ensures.keeps c.args.items.now c.requires.items c.in-Node.var c.args.f c.in-Node.lo c.in-Node.hi c.in_ok-low-in-Node.low c.in_ok-high-in-Node.high e d c.in_ok-low-in-Node.ensures.body c.in_ok-high-in-Node.ensures.body in
    x.high_above

pub returns-in_err-body-in-Node-clause-right : goal.returns-in_err-body-in-Node-clause-right
returns-in_err-body-in-Node-clause-right t c =
    let all = later_last c.args.store.now c.entered-in-Node.new.store (Keeps_trans _ _ _ c.entered.ensures.keeps c.entered-in-Node.ensures.keeps) c.args.items.now c.requires.items in
    kept_entered_last c.entered-in-Node.new.store c.node.new.self c.node.ensures.keeps c.args.items.now all c.entered-in-Node.new.memo c.entered-in-Node.ensures.right

pub returns-in_err-keep-in-Node-clause-right : goal.returns-in_err-keep-in-Node-clause-right
returns-in_err-keep-in-Node-clause-right t c =
    let all = later_last c.args.store.now c.entered-in-Node.new.store (Keeps_trans _ _ _ c.entered.ensures.keeps c.entered-in-Node.ensures.keeps) c.args.items.now c.requires.items in
    kept_same same_id (IsEntered c.node.new.self c.args.items.now) c.entered-in-Node.new.memo c.keep.new.self c.in_err-keep-in-Node.ensures.err
    (kept_entered_last c.entered-in-Node.new.store c.node.new.self c.node.ensures.keeps c.args.items.now all c.entered-in-Node.new.memo c.entered-in-Node.ensures.right)

pub returns-in_ok-keep-in-Node-clause-body : goal.returns-in_ok-keep-in-Node-clause-body
returns-in_ok-keep-in-Node-clause-body t c =
    let e = top_is c.args.store.now c.args.f _ _ c.look.ensures.top c.in-Node.is in
    let d = walks_on c.args.store.now c.look.ensures.canonical (length c.args.items.now) c.args.f c.in-Node.lo c.in-Node.hi c.in-Node.var e c.requires.f in
    let x = enters_children c.args.store.now c.entered.new.store c.entered-in-Node.new.store c.entered.ensures.keeps c.entered-in-Node.ensures.keeps c.args.items.now c.requires.items c.in-Node.var c.args.f c.in-Node.lo c.in-Node.hi c.in_ok-low-in-Node.low c.in_ok-high-in-Node.high e d c.in_ok-low-in-Node.ensures.body c.in_ok-high-in-Node.ensures.body in
    enters_node c.args.store.now c.entered-in-Node.new.store c.node.new.self c.look.ensures.canonical c.args.items.now c.in-Node.var c.args.f c.in-Node.lo c.in-Node.hi c.in_ok-low-in-Node.low c.in_ok-high-in-Node.high c.in_ok-body-in-Node.body e x c.in_ok-body-in-Node.ensures.id

pub returns-in_ok-keep-in-Node-clause-right : goal.returns-in_ok-keep-in-Node-clause-right
returns-in_ok-keep-in-Node-clause-right t c =
    let e = top_is c.args.store.now c.args.f _ _ c.look.ensures.top c.in-Node.is in
    let d = walks_on c.args.store.now c.look.ensures.canonical (length c.args.items.now) c.args.f c.in-Node.lo c.in-Node.hi c.in-Node.var e c.requires.f in
    let x = enters_children c.args.store.now c.entered.new.store c.entered-in-Node.new.store c.entered.ensures.keeps c.entered-in-Node.ensures.keeps c.args.items.now c.requires.items c.in-Node.var c.args.f c.in-Node.lo c.in-Node.hi c.in_ok-low-in-Node.low c.in_ok-high-in-Node.high e d c.in_ok-low-in-Node.ensures.body c.in_ok-high-in-Node.ensures.body in
    let made : Enters c.args.store.now c.node.new.self c.args.items.now c.args.f c.in_ok-body-in-Node.body =
    enters_node c.args.store.now c.entered-in-Node.new.store c.node.new.self c.look.ensures.canonical c.args.items.now c.in-Node.var c.args.f c.in-Node.lo c.in-Node.hi c.in_ok-low-in-Node.low c.in_ok-high-in-Node.high c.in_ok-body-in-Node.body e x c.in_ok-body-in-Node.ensures.id in
    let k = Keeps_trans _ _ _ c.entered.ensures.keeps c.entered-in-Node.ensures.keeps in
    let all = later_last c.args.store.now c.entered-in-Node.new.store k c.args.items.now c.requires.items in
    kept_learnt same_id id_true (IsEntered c.node.new.self c.args.items.now) c.entered-in-Node.new.memo c.keep.new.self c.args.f c.in_ok-body-in-Node.body
    (kept_entered_last c.entered-in-Node.new.store c.node.new.self c.node.ensures.keeps c.args.items.now all c.entered-in-Node.new.memo c.entered-in-Node.ensures.right)
    (entered_now c.args.store.now c.node.new.self (Keeps_trans _ _ _ k c.node.ensures.keeps) c.args.items.now c.requires.items c.args.f c.in_ok-body-in-Node.body c.requires.f made)
    c.in_ok-keep-in-Node.ensures.ok
