use Rattle.std.proofs.Common.{◌<◌, ◌≤◌, arith}
use Rattle.diagrams.specs.Eval.{tree}
use Rattle.diagrams.proofs.Canon.{tree_size}
use Rattle.diagrams.proofs.Meaning.{top_is, Keeps_trans, live-above, live_lasts}
use Rattle.diagrams.proofs.Transformed.{down, less_later}
use Rattle.diagrams.proofs.Kept.{kept_same, kept_learnt}
use Rattle.diagrams.proofs.Works.{id_true}
use Rattle.diagrams.specs.Transformed.{same_id}
use Rattle.choosing.specs.Cuts.{Cuts, IsCut}
use Rattle.choosing.proofs.CutLemmas.{depends_top, depends_terminal, cuts_children, cuts_node, cuts_now, items_last, kept_cut_lasts, grows_refl}
use Rattle.diagrams.proofs.Meaning.{Keeps_refl}
use Rattle.choosing.proofs.FitLemmas.{fits_both}
use Rattle.choosing.proofs.cut.+cut.Goals as goal

pub placed-requires-clause-f : goal.placed-requires-clause-f
placed-requires-clause-f t c = record { live = c.requires.f; over = depends_terminal c.args.store.now c.args.f _ (top_is _ _ _ _ c.look.ensures.top c.in-Terminal.is) (λ v. c.args.bound ≤ v) }

pub placed-requires-then-var-bound-clause-f : goal.placed-requires-then-var-bound-clause-f
placed-requires-then-var-bound-clause-f t c = record {
  live = c.requires.f;
  over = depends_top c.args.store.now c.look.ensures.canonical c.args.bound c.in-Node.var c.args.f c.in-Node.lo c.in-Node.hi (top_is _ _ _ _ c.look.ensures.top c.in-Node.is) c.if-var-bound.true;
}

pub returns-in-Terminal-clause-right : goal.returns-in-Terminal-clause-right
returns-in-Terminal-clause-right t c =
    kept_cut_lasts c.args.bound c.args.store.now c.placed.new.store c.placed.ensures.keeps c.args.below.now c.placed.new.below c.placed.ensures.grows c.requires.diagrams c.args.memo.now c.requires.right

pub returns-then-var-bound-clause-right : goal.returns-then-var-bound-clause-right
returns-then-var-bound-clause-right t c =
    kept_cut_lasts c.args.bound c.args.store.now c.placed-then-var-bound.new.store c.placed-then-var-bound.ensures.keeps c.args.below.now c.placed-then-var-bound.new.below c.placed-then-var-bound.ensures.grows c.requires.diagrams c.args.memo.now c.requires.right

pub returns-in-Some-clause-row : goal.returns-in-Some-clause-row
returns-in-Some-clause-row t c = (c.requires.right c.args.f c.in-Some.row c.in-Some.ensures).cuts

pub cut-requires : goal.cut-requires
cut-requires t c =
    let e = top_is c.args.store.now c.args.f _ _ c.look.ensures.top c.in-Node.is in
    let d = down c.args.store.now c.look.ensures.canonical c.args.f c.in-Node.lo c.in-Node.hi c.in-Node.var e in
    let h : tree_size (tree c.args.store.now c.in-Node.lo) < t = omega (arith, d.lo_less, c.decreases) in
    (h, (live-above _ _ d.lo_above, (c.requires.diagrams, c.requires.right)))

pub cut-requires-in-Node : goal.cut-requires-in-Node
cut-requires-in-Node t c =
    let e = top_is c.args.store.now c.args.f _ _ c.look.ensures.top c.in-Node.is in
    let d = down c.args.store.now c.look.ensures.canonical c.args.f c.in-Node.lo c.in-Node.hi c.in-Node.var e in
    let live = live-above _ _ d.hi_above in
    let h : tree_size (tree c.cut.new.store c.in-Node.hi) < t = less_later c.args.store.now c.cut.new.store c.cut.ensures.keeps c.in-Node.hi t live (omega (arith, d.hi_less, c.decreases)) in
    (h, (live_lasts _ _ c.cut.ensures.keeps.extends c.in-Node.hi live, (c.cut.ensures.diagrams, c.cut.ensures.right)))

pub node-requires-clause-lo_above : goal.node-requires-clause-lo_above
node-requires-clause-lo_above t c =
    let e = top_is c.args.store.now c.args.f _ _ c.look.ensures.top c.in-Node.is in
    let d = down c.args.store.now c.look.ensures.canonical c.args.f c.in-Node.lo c.in-Node.hi c.in-Node.var e in
    let x = cuts_children c.args.bound c.args.store.now c.cut.new.store c.cut-in-Node.new.store c.cut.ensures.keeps c.cut-in-Node.ensures.keeps c.cut.new.below c.cut-in-Node.new.below c.cut-in-Node.ensures.grows c.cut.ensures.diagrams c.in-Node.var c.args.f c.in-Node.lo c.in-Node.hi c.in_ok-low-in-Node.low c.in_ok-high-in-Node.high e (live-above _ _ d.hi_above) c.in_ok-low-in-Node.ensures.row c.in_ok-high-in-Node.ensures.row in
    x.low_above

pub node-requires-clause-hi_above : goal.node-requires-clause-hi_above
node-requires-clause-hi_above t c =
    let e = top_is c.args.store.now c.args.f _ _ c.look.ensures.top c.in-Node.is in
    let d = down c.args.store.now c.look.ensures.canonical c.args.f c.in-Node.lo c.in-Node.hi c.in-Node.var e in
    let x = cuts_children c.args.bound c.args.store.now c.cut.new.store c.cut-in-Node.new.store c.cut.ensures.keeps c.cut-in-Node.ensures.keeps c.cut.new.below c.cut-in-Node.new.below c.cut-in-Node.ensures.grows c.cut.ensures.diagrams c.in-Node.var c.args.f c.in-Node.lo c.in-Node.hi c.in_ok-low-in-Node.low c.in_ok-high-in-Node.high e (live-above _ _ d.hi_above) c.in_ok-low-in-Node.ensures.row c.in_ok-high-in-Node.ensures.row in
    x.high_above

pub returns-in_err-row-in-Node-clause-diagrams : goal.returns-in_err-row-in-Node-clause-diagrams
returns-in_err-row-in-Node-clause-diagrams t c = items_last c.args.bound c.cut-in-Node.new.store c.node.new.self c.node.ensures.keeps c.cut-in-Node.new.below c.cut-in-Node.ensures.diagrams

pub returns-in_err-row-in-Node-clause-right : goal.returns-in_err-row-in-Node-clause-right
returns-in_err-row-in-Node-clause-right t c =
    kept_cut_lasts c.args.bound c.cut-in-Node.new.store c.node.new.self c.node.ensures.keeps c.cut-in-Node.new.below c.cut-in-Node.new.below (grows_refl c.args.bound c.cut-in-Node.new.below) c.cut-in-Node.ensures.diagrams c.cut-in-Node.new.memo c.cut-in-Node.ensures.right

pub returns-in_err-keep-in-Node-clause-diagrams : goal.returns-in_err-keep-in-Node-clause-diagrams
returns-in_err-keep-in-Node-clause-diagrams t c = items_last c.args.bound c.cut-in-Node.new.store c.node.new.self c.node.ensures.keeps c.cut-in-Node.new.below c.cut-in-Node.ensures.diagrams

pub returns-in_err-keep-in-Node-clause-right : goal.returns-in_err-keep-in-Node-clause-right
returns-in_err-keep-in-Node-clause-right t c =
    kept_same same_id (IsCut c.node.new.self c.args.bound c.cut-in-Node.new.below) c.cut-in-Node.new.memo c.keep.new.self c.in_err-keep-in-Node.ensures.err
    (kept_cut_lasts c.args.bound c.cut-in-Node.new.store c.node.new.self c.node.ensures.keeps c.cut-in-Node.new.below c.cut-in-Node.new.below (grows_refl c.args.bound c.cut-in-Node.new.below) c.cut-in-Node.ensures.diagrams c.cut-in-Node.new.memo c.cut-in-Node.ensures.right)

pub returns-in_ok-keep-in-Node-clause-diagrams : goal.returns-in_ok-keep-in-Node-clause-diagrams
returns-in_ok-keep-in-Node-clause-diagrams t c = items_last c.args.bound c.cut-in-Node.new.store c.node.new.self c.node.ensures.keeps c.cut-in-Node.new.below c.cut-in-Node.ensures.diagrams

pub returns-in_ok-keep-in-Node-clause-row : goal.returns-in_ok-keep-in-Node-clause-row
returns-in_ok-keep-in-Node-clause-row t c =
    let e = top_is c.args.store.now c.args.f _ _ c.look.ensures.top c.in-Node.is in
    let d = down c.args.store.now c.look.ensures.canonical c.args.f c.in-Node.lo c.in-Node.hi c.in-Node.var e in
    let x = cuts_children c.args.bound c.args.store.now c.cut.new.store c.cut-in-Node.new.store c.cut.ensures.keeps c.cut-in-Node.ensures.keeps c.cut.new.below c.cut-in-Node.new.below c.cut-in-Node.ensures.grows c.cut.ensures.diagrams c.in-Node.var c.args.f c.in-Node.lo c.in-Node.hi c.in_ok-low-in-Node.low c.in_ok-high-in-Node.high e (live-above _ _ d.hi_above) c.in_ok-low-in-Node.ensures.row c.in_ok-high-in-Node.ensures.row in
    let k = Keeps_trans _ _ _ c.cut.ensures.keeps c.cut-in-Node.ensures.keeps in
    cuts_node c.args.bound c.args.store.now c.cut-in-Node.new.store c.node.new.self k c.node.ensures.keeps c.cut-in-Node.new.below c.cut-in-Node.ensures.diagrams c.in-Node.var c.args.f c.in-Node.lo c.in-Node.hi c.in_ok-low-in-Node.low c.in_ok-high-in-Node.high c.in_ok-row-in-Node.row
    e (omega (arith, c.if-var-bound.false)) x.low_cut x.high_cut c.in_ok-row-in-Node.ensures.id

pub returns-in_ok-keep-in-Node-clause-right : goal.returns-in_ok-keep-in-Node-clause-right
returns-in_ok-keep-in-Node-clause-right t c =
    let e = top_is c.args.store.now c.args.f _ _ c.look.ensures.top c.in-Node.is in
    let d = down c.args.store.now c.look.ensures.canonical c.args.f c.in-Node.lo c.in-Node.hi c.in-Node.var e in
    let x = cuts_children c.args.bound c.args.store.now c.cut.new.store c.cut-in-Node.new.store c.cut.ensures.keeps c.cut-in-Node.ensures.keeps c.cut.new.below c.cut-in-Node.new.below c.cut-in-Node.ensures.grows c.cut.ensures.diagrams c.in-Node.var c.args.f c.in-Node.lo c.in-Node.hi c.in_ok-low-in-Node.low c.in_ok-high-in-Node.high e (live-above _ _ d.hi_above) c.in_ok-low-in-Node.ensures.row c.in_ok-high-in-Node.ensures.row in
    let k = Keeps_trans _ _ _ c.cut.ensures.keeps c.cut-in-Node.ensures.keeps in
    let given : Cuts c.args.store.now c.node.new.self c.args.bound c.cut-in-Node.new.below c.args.f c.in_ok-row-in-Node.row =
    cuts_node c.args.bound c.args.store.now c.cut-in-Node.new.store c.node.new.self k c.node.ensures.keeps c.cut-in-Node.new.below c.cut-in-Node.ensures.diagrams c.in-Node.var c.args.f c.in-Node.lo c.in-Node.hi c.in_ok-low-in-Node.low c.in_ok-high-in-Node.high c.in_ok-row-in-Node.row
    e (omega (arith, c.if-var-bound.false)) x.low_cut x.high_cut c.in_ok-row-in-Node.ensures.id in
    let k3 = Keeps_trans _ _ _ k c.node.ensures.keeps in
    kept_learnt same_id id_true (IsCut c.node.new.self c.args.bound c.cut-in-Node.new.below) c.cut-in-Node.new.memo c.keep.new.self c.args.f c.in_ok-row-in-Node.row
    (kept_cut_lasts c.args.bound c.cut-in-Node.new.store c.node.new.self c.node.ensures.keeps c.cut-in-Node.new.below c.cut-in-Node.new.below (grows_refl c.args.bound c.cut-in-Node.new.below) c.cut-in-Node.ensures.diagrams c.cut-in-Node.new.memo c.cut-in-Node.ensures.right)
    (cuts_now c.args.bound c.args.store.now c.node.new.self k3 c.cut-in-Node.new.below c.args.f c.in_ok-row-in-Node.row c.requires.f given)
    c.in_ok-keep-in-Node.ensures.ok

pub returns-in_err-low-in-Node-clause-fits : goal.returns-in_err-low-in-Node-clause-fits
returns-in_err-low-in-Node-clause-fits t c =
    let e = top_is c.args.store.now c.args.f _ _ c.look.ensures.top c.in-Node.is in
    let d = down c.args.store.now c.look.ensures.canonical c.args.f c.in-Node.lo c.in-Node.hi c.in-Node.var e in
    λ g fit value. c.cut.ensures.fits g fit (d.lo_fit g value)

pub returns-in_err-high-in-Node-clause-fits : goal.returns-in_err-high-in-Node-clause-fits
returns-in_err-high-in-Node-clause-fits t c =
    let e = top_is c.args.store.now c.args.f _ _ c.look.ensures.top c.in-Node.is in
    let d = down c.args.store.now c.look.ensures.canonical c.args.f c.in-Node.lo c.in-Node.hi c.in-Node.var e in
    fits_both c.args.bound c.args.store.now c.cut.new.store c.cut-in-Node.new.store c.cut-in-Node.new.store c.cut.ensures.keeps (Keeps_refl c.cut-in-Node.new.store c.cut-in-Node.ensures.keeps.now) c.args.below.now c.cut.new.below c.cut-in-Node.new.below c.args.f c.in-Node.lo c.in-Node.hi
    (live-above _ _ d.hi_above) c.cut-in-Node.ensures.diagrams d.lo_fit d.hi_fit c.cut.ensures.fits c.cut-in-Node.ensures.fits

pub returns-in_err-row-in-Node-clause-fits : goal.returns-in_err-row-in-Node-clause-fits
returns-in_err-row-in-Node-clause-fits t c =
    let e = top_is c.args.store.now c.args.f _ _ c.look.ensures.top c.in-Node.is in
    let d = down c.args.store.now c.look.ensures.canonical c.args.f c.in-Node.lo c.in-Node.hi c.in-Node.var e in
    fits_both c.args.bound c.args.store.now c.cut.new.store c.cut-in-Node.new.store c.node.new.self c.cut.ensures.keeps c.node.ensures.keeps c.args.below.now c.cut.new.below c.cut-in-Node.new.below c.args.f c.in-Node.lo c.in-Node.hi
    (live-above _ _ d.hi_above) c.cut-in-Node.ensures.diagrams d.lo_fit d.hi_fit c.cut.ensures.fits c.cut-in-Node.ensures.fits

pub returns-in_err-keep-in-Node-clause-fits : goal.returns-in_err-keep-in-Node-clause-fits
returns-in_err-keep-in-Node-clause-fits t c =
    let e = top_is c.args.store.now c.args.f _ _ c.look.ensures.top c.in-Node.is in
    let d = down c.args.store.now c.look.ensures.canonical c.args.f c.in-Node.lo c.in-Node.hi c.in-Node.var e in
    fits_both c.args.bound c.args.store.now c.cut.new.store c.cut-in-Node.new.store c.node.new.self c.cut.ensures.keeps c.node.ensures.keeps c.args.below.now c.cut.new.below c.cut-in-Node.new.below c.args.f c.in-Node.lo c.in-Node.hi
    (live-above _ _ d.hi_above) c.cut-in-Node.ensures.diagrams d.lo_fit d.hi_fit c.cut.ensures.fits c.cut-in-Node.ensures.fits

pub returns-in_ok-keep-in-Node-clause-fits : goal.returns-in_ok-keep-in-Node-clause-fits
returns-in_ok-keep-in-Node-clause-fits t c =
    let e = top_is c.args.store.now c.args.f _ _ c.look.ensures.top c.in-Node.is in
    let d = down c.args.store.now c.look.ensures.canonical c.args.f c.in-Node.lo c.in-Node.hi c.in-Node.var e in
    fits_both c.args.bound c.args.store.now c.cut.new.store c.cut-in-Node.new.store c.node.new.self c.cut.ensures.keeps c.node.ensures.keeps c.args.below.now c.cut.new.below c.cut-in-Node.new.below c.args.f c.in-Node.lo c.in-Node.hi
    (live-above _ _ d.hi_above) c.cut-in-Node.ensures.diagrams d.lo_fit d.hi_fit c.cut.ensures.fits c.cut-in-Node.ensures.fits
