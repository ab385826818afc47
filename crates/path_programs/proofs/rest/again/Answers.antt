use Rattle.std.proofs.Common.{refl, arith, length}
use Rattle.diagrams.proofs.Meaning.{Keeps_trans, truth_lasts}
use Rattle.path_programs.proofs.Making.{claim_truth, one_body}
use Rattle.path_programs.proofs.Growing.{grown_keeps, grown_same, grown_add}
use Rattle.path_programs.proofs.Resting.{again_says, again_claim, length-one}
use Rattle.path_programs.proofs.rest.again.Goals as goal

pub returns-in_err-turn-clause-grown : goal.returns-in_err-turn-clause-grown
returns-in_err-turn-clause-grown c = grown_keeps _ _ _ c.literal.ensures.keeps c.requires.fits

pub either-requires-clause-g : goal.either-requires-clause-g
either-requires-clause-g c = truth_lasts _ _ c.literal.ensures.keeps c.args.later (claim_truth _ _ _ c.requires.later)

pub returns-in_err-next-clause-grown : goal.returns-in_err-next-clause-grown
returns-in_err-next-clause-grown c = grown_keeps _ _ _ (Keeps_trans _ _ _ c.literal.ensures.keeps c.either.ensures.keeps) c.requires.fits

pub returns-in_err-none-clause-grown : goal.returns-in_err-none-clause-grown
returns-in_err-none-clause-grown c = grown_keeps _ _ _ (Keeps_trans _ _ _ c.literal.ensures.keeps (Keeps_trans _ _ _ c.either.ensures.keeps c.never.ensures.keeps)) c.requires.fits

pub returns-in_err-add-clause-grown : goal.returns-in_err-add-clause-grown
returns-in_err-add-clause-grown c = grown_same _ _ _ _ _ c.in_err-add.ensures.err (grown_keeps _ _ _ (Keeps_trans _ _ _ c.literal.ensures.keeps (Keeps_trans _ _ _ c.either.ensures.keeps c.never.ensures.keeps)) c.requires.fits)

pub returns-clause-grown : goal.returns-clause-grown
returns-clause-grown c =
    grown_add _ _ _ _ _ _ (grown_keeps _ _ _ (Keeps_trans _ _ _ c.literal.ensures.keeps (Keeps_trans _ _ _ c.either.ensures.keeps c.never.ensures.keeps)) c.requires.fits)
    (one_body _ _ _ _ c.in_ok-none.ensures.id (λ a b same. refl)) c.in_ok-add.ensures.ok

pub returns-clause-claim : goal.returns-clause-claim
returns-clause-claim c =
    let e = length-one _ _ _ c.in_ok-add.ensures.ok in
    again_claim _ _ (Keeps_trans _ _ _ c.literal.ensures.keeps (Keeps_trans _ _ _ c.either.ensures.keeps c.never.ensures.keeps)) (length c.args.cells.now) _ _ c.args.later _ (omega (arith, e)) (omega (arith, e)) c.requires.later
    (again_says _ _ _ _ c.literal.ensures.keeps c.either.ensures.keeps c.never.ensures.keeps c.len.result _ c.len.ensures.number c.args.later c.in_ok-turn.turn c.in_ok-next.next c.requires.later.live c.in_ok-turn.ensures.id c.in_ok-next.ensures.id)

pub returns-clause-again : goal.returns-clause-again
returns-clause-again c =
    again_says _ _ _ _ c.literal.ensures.keeps c.either.ensures.keeps c.never.ensures.keeps c.len.result _ c.len.ensures.number c.args.later c.in_ok-turn.turn c.in_ok-next.next c.requires.later.live c.in_ok-turn.ensures.id c.in_ok-next.ensures.id
