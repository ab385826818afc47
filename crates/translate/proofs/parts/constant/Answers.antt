use Rattle.std.proofs.Common.{[], ◌∷◌, refl}
use Rattle.std.proofs.lemmas.Result.{err_from_is_err_and}
use Rattle.translate.specs.Operation.{constant_form}
use Rattle.translate.proofs.TallyLemmas.{adds_none}
use Rattle.translate.proofs.PartLemmas.{adds_last, stops_last}
use Rattle.translate.proofs.MeantLemmas.{constant_made}
use Rattle.translate.proofs.parts.constant.Goals as goal

pub returns-in_err-add-clause-too_many : goal.returns-in_err-add-clause-too_many
returns-in_err-add-clause-too_many c =
    let p = c.args.store.now.props in
    let f = constant_form c.args.value in
    let a = c.args.counts.now in
    let r = err_from_is_err_and c.from_residual-in_err-add.result c.from_residual-in_err-add.ensures.1 in
    rw (r.1, r.2)
    (stops_last p c.args.limit [] (f ∷ []) f c.constant.new.store c.in_ok-made.made a a c.size.result _ refl c.in_ok-made.ensures.keeps.extends.props
    (constant_made c.constant.new.store c.in_ok-made.made c.args.value c.in_ok-made.ensures.least) (adds_none p c.args.limit a) c.size.ensures.size c.in_err-add.ensures.too_many)

pub returns-clause-counts : goal.returns-clause-counts
returns-clause-counts c =
    let p = c.args.store.now.props in
    let f = constant_form c.args.value in
    let a = c.args.counts.now in
    adds_last p c.args.limit [] (f ∷ []) f c.constant.new.store c.in_ok-made.made a a c.add.new.self c.size.result refl c.in_ok-made.ensures.keeps.extends.props
    (constant_made c.constant.new.store c.in_ok-made.made c.args.value c.in_ok-made.ensures.least) (adds_none p c.args.limit a) c.in_ok-add.ensures.appended c.size.ensures.size c.in_ok-add.ensures.within
