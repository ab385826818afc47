use Rattle.std.proofs.Common.{ap, arith, length}
use Rattle.obligations.proofs.Holds.{body_lasts}
use Rattle.path_programs.proofs.Growing.{grown_keeps, grown_same, grown_add}
use Rattle.path_programs.proofs.Resting.{rest_further_right, length-one, last-one}
use Rattle.path_programs.proofs.rest.rest_further.Goals as goal

pub returns-in_err-next-clause-grown : goal.returns-in_err-next-clause-grown
returns-in_err-next-clause-grown c = grown_keeps _ _ _ c.literal.ensures.keeps c.requires.fits

pub returns-in_err-add-clause-grown : goal.returns-in_err-add-clause-grown
returns-in_err-add-clause-grown c = grown_same _ _ _ _ _ c.in_err-add.ensures.err (grown_keeps _ _ _ c.literal.ensures.keeps c.requires.fits)

pub returns-clause-grown : goal.returns-clause-grown
returns-clause-grown c =
    grown_add _ _ _ _ _ _ (grown_keeps _ _ _ c.literal.ensures.keeps c.requires.fits)
    (body_lasts _ _ c.literal.ensures.keeps _ _ c.requires.bodies.further) c.in_ok-add.ensures.ok

pub returns-clause-rest : goal.returns-clause-rest
returns-clause-rest c =
    let e = length-one _ _ _ c.in_ok-add.ensures.ok in
    let o = last-one _ _ _ c.in_ok-add.ensures.ok in
    rest_further_right c.args.store.now c.literal.new.store c.literal.ensures.keeps (length c.args.cells.now) c.args.cells.now c.add.new.self (omega arith) (omega (arith, e)) c.args.later c.in_ok-next.next c.args.lead
    (ap (λ x. x.ends) o) (ap (λ x. x.body) o) c.requires.bodies.stays.live c.requires.stays c.requires.ends (rw c.len.ensures.number at c.in_ok-next.ensures.id)
