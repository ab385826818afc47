use Rattle.std.proofs.Common.{◌+◌, arith}
use Rattle.diagrams.proofs.Meaning.{Keeps_trans, truth_lasts}
use Rattle.obligations.proofs.Holds.{body_lasts, body_wider}
use Rattle.path_programs.proofs.Making.{claim_truth, one_truth_later}
use Rattle.path_programs.proofs.Growing.{grown_keeps, grown_same, grown_add}
use Rattle.path_programs.proofs.Resting.{rest_says, rest_claim, rest_right, kept_two, length-one}
use Rattle.path_programs.proofs.rest.rest_both.Goals as goal

pub returns-in_err-further-clause-grown : goal.returns-in_err-further-clause-grown
returns-in_err-further-clause-grown c = grown_keeps _ _ _ c.literal.ensures.keeps c.requires.fits

pub returns-in_err-stays-clause-grown : goal.returns-in_err-stays-clause-grown
returns-in_err-stays-clause-grown c = grown_keeps _ _ _ (Keeps_trans _ _ _ c.literal.ensures.keeps c.literal-2.ensures.keeps) c.requires.fits

pub both-requires-clause-g : goal.both-requires-clause-g
both-requires-clause-g c = truth_lasts _ _ (Keeps_trans _ _ _ c.literal.ensures.keeps c.literal-2.ensures.keeps) c.args.later (claim_truth _ _ _ c.requires.later)

pub returns-in_err-stays_later-clause-grown : goal.returns-in_err-stays_later-clause-grown
returns-in_err-stays_later-clause-grown c = grown_keeps _ _ _ (Keeps_trans _ _ _ c.literal.ensures.keeps (Keeps_trans _ _ _ c.literal-2.ensures.keeps c.both.ensures.keeps)) c.requires.fits

pub either-requires-clause-f : goal.either-requires-clause-f
either-requires-clause-f c = one_truth_later _ _ _ _ (Keeps_trans _ _ _ c.literal-2.ensures.keeps c.both.ensures.keeps) c.in_ok-further.ensures.id

pub returns-in_err-next-clause-grown : goal.returns-in_err-next-clause-grown
returns-in_err-next-clause-grown c = grown_keeps _ _ _ (Keeps_trans _ _ _ c.literal.ensures.keeps (Keeps_trans _ _ _ c.literal-2.ensures.keeps (Keeps_trans _ _ _ c.both.ensures.keeps c.either.ensures.keeps))) c.requires.fits

pub returns-in_err-add-clause-grown : goal.returns-in_err-add-clause-grown
returns-in_err-add-clause-grown c =
    let k = Keeps_trans _ _ _ c.literal.ensures.keeps (Keeps_trans _ _ _ c.literal-2.ensures.keeps (Keeps_trans _ _ _ c.both.ensures.keeps c.either.ensures.keeps)) in
    grown_same _ _ _ _ _ c.in_err-add.ensures.err (grown_keeps _ _ _ k c.requires.fits)

pub returns-in_err-add-2-clause-grown : goal.returns-in_err-add-2-clause-grown
returns-in_err-add-2-clause-grown c =
    let k = Keeps_trans _ _ _ c.literal.ensures.keeps (Keeps_trans _ _ _ c.literal-2.ensures.keeps (Keeps_trans _ _ _ c.both.ensures.keeps c.either.ensures.keeps)) in
    grown_same _ _ _ _ _ c.in_err-add-2.ensures.err (grown_add _ _ _ _ _ _ (grown_keeps _ _ _ k c.requires.fits) (body_lasts _ _ k _ _ c.requires.bodies.further) c.in_ok-add.ensures.ok)

pub returns-clause-grown : goal.returns-clause-grown
returns-clause-grown c =
    let k = Keeps_trans _ _ _ c.literal.ensures.keeps (Keeps_trans _ _ _ c.literal-2.ensures.keeps (Keeps_trans _ _ _ c.both.ensures.keeps c.either.ensures.keeps)) in
    let e = length-one _ _ _ c.in_ok-add.ensures.ok in
    grown_add _ _ _ _ _ _ (grown_add _ _ _ _ _ _ (grown_keeps _ _ _ k c.requires.fits) (body_lasts _ _ k _ _ c.requires.bodies.further) c.in_ok-add.ensures.ok)
    (body_wider _ _ _ _ (omega (arith, e)) (body_lasts _ _ k _ _ c.requires.bodies.stays)) c.in_ok-add-2.ensures.ok

pub returns-clause-claim : goal.returns-clause-claim
returns-clause-claim c =
    let k = Keeps_trans _ _ _ c.literal.ensures.keeps (Keeps_trans _ _ _ c.literal-2.ensures.keeps (Keeps_trans _ _ _ c.both.ensures.keeps c.either.ensures.keeps)) in
    let e = length-one _ _ _ c.in_ok-add.ensures.ok in
    let d = length-one _ _ _ c.in_ok-add-2.ensures.ok in
    let n = c.len-first.ensures.number in
    rest_claim _ _ k c.len-first.result (c.len-first.result + 1) _ _ c.args.later _ (omega (arith, e, d, n)) (omega (arith, e, d, n)) (omega (arith, e, d)) c.requires.later
    (rest_says _ _ _ _ _ c.literal.ensures.keeps c.literal-2.ensures.keeps c.both.ensures.keeps c.either.ensures.keeps c.len-first.result (c.len-first.result + 1) c.args.later _ _ _ _ c.requires.later.live
    c.in_ok-further.ensures.id c.in_ok-stays.ensures.id c.in_ok-stays_later.ensures.id c.in_ok-next.ensures.id)

pub returns-clause-rest : goal.returns-clause-rest
returns-clause-rest c =
    let k = Keeps_trans _ _ _ c.literal.ensures.keeps (Keeps_trans _ _ _ c.literal-2.ensures.keeps (Keeps_trans _ _ _ c.both.ensures.keeps c.either.ensures.keeps)) in
    let e = length-one _ _ _ c.in_ok-add.ensures.ok in
    let d = length-one _ _ _ c.in_ok-add-2.ensures.ok in
    let n = c.len-first.ensures.number in
    rest_right c.args.store.now c.either.new.store k c.len-first.result (c.len-first.result + 1) c.args.cells.now c.add-2.new.self (omega (arith, n)) (omega (arith, n)) (omega (arith, e, d, n)) (omega (arith, e, d, n))
    c.args.later c.in_ok-next.next c.args.lead c.requires.later.live (rw n (kept_two _ _ _ c.args.lead c.in_ok-add.ensures.ok c.in_ok-add-2.ensures.ok))
    (rest_says _ _ _ _ _ c.literal.ensures.keeps c.literal-2.ensures.keeps c.both.ensures.keeps c.either.ensures.keeps c.len-first.result (c.len-first.result + 1) c.args.later _ _ _ _ c.requires.later.live
    c.in_ok-further.ensures.id c.in_ok-stays.ensures.id c.in_ok-stays_later.ensures.id c.in_ok-next.ensures.id)
