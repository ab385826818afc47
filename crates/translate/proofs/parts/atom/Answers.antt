use Rattle.std.proofs.Common.{[], ◌∷◌, refl}
use Rattle.std.proofs.lemmas.Result.{err_from_is_err_and}
use Rattle.forms.specs.Tree.{Atom}
use Rattle.translate.proofs.MeantLemmas.{meant_now}
use Rattle.translate.proofs.PartLemmas.{adds_last, stops_last}
use Rattle.translate.proofs.TallyLemmas.{adds_none}
use Rattle.translate.proofs.parts.atom.Goals as goal

pub returns-in_err-add-clause-too_many : goal.returns-in_err-add-clause-too_many
returns-in_err-add-clause-too_many c =
    let s = c.args.store.now in
    let f = Atom c.args.i in
    let a = c.args.counts.now in
    let keeps = c.in_ok-made.ensures.keeps in
    let r = err_from_is_err_and c.from_residual-in_err-add.result c.from_residual-in_err-add.ensures.1 in
    rw (r.1, r.2)
    (stops_last s.props c.args.limit [] (f ∷ []) f c.atom.new.store c.in_ok-made.made a a c.size.result _ refl keeps.extends.props
    (meant_now s c.atom.new.store c.in_ok-made.made f keeps c.in_ok-made.ensures.least) (adds_none s.props c.args.limit a) c.size.ensures.size c.in_err-add.ensures.too_many)

pub returns-clause-counts : goal.returns-clause-counts
returns-clause-counts c =
    let s = c.args.store.now in
    let f = Atom c.args.i in
    let a = c.args.counts.now in
    let keeps = c.in_ok-made.ensures.keeps in
    adds_last s.props c.args.limit [] (f ∷ []) f c.atom.new.store c.in_ok-made.made a a c.add.new.self c.size.result refl keeps.extends.props
    (meant_now s c.atom.new.store c.in_ok-made.made f keeps c.in_ok-made.ensures.least) (adds_none s.props c.args.limit a) c.in_ok-add.ensures.appended c.size.ensures.size c.in_ok-add.ensures.within

pub returns-clause-least : goal.returns-clause-least
returns-clause-least c = meant_now c.args.store.now c.atom.new.store c.in_ok-made.made (Atom c.args.i) c.in_ok-made.ensures.keeps c.in_ok-made.ensures.least
