use Rattle.std.proofs.Common.{◌+◌, length, arith}
use Rattle.automata.proofs.Lasts.{fits_lasts}
use Rattle.obligations.proofs.Holds.{fits_cells_lasts}
use Rattle.path_programs.proofs.Growing.{grown_keeps}
use Rattle.path_programs.proofs.Arms.{lead_test, test_bodies}
use Rattle.path_programs.proofs.walk.test.Goals as goal

pub returns-in_err-further-clause-grown : goal.returns-in_err-further-clause-grown
returns-in_err-further-clause-grown c = grown_keeps _ _ _ c.never.ensures.keeps c.requires.fits

pub find_inclusions-requires : goal.find_inclusions-requires
find_inclusions-requires c = record { fits = fits_lasts _ _ c.never.ensures.keeps c.args.automaton.now c.requires.automaton }

pub returns-in_err-wider-clause-grown : goal.returns-in_err-wider-clause-grown
returns-in_err-wider-clause-grown c = grown_keeps _ _ _ c.never.ensures.keeps c.requires.fits

pub follow-requires-clause-fits : goal.follow-requires-clause-fits
follow-requires-clause-fits c = fits_lasts _ _ c.never.ensures.keeps c.args.automaton.now c.requires.automaton

pub follow-requires-clause-cells : goal.follow-requires-clause-cells
follow-requires-clause-cells c = fits_cells_lasts _ _ c.never.ensures.keeps c.args.cells.now c.requires.fits

pub returns-clause-bodies : goal.returns-clause-bodies
returns-clause-bodies c =
    let o = c.in_ok-base.ensures in
    let x = c.first-first.ensures in
    test_bodies _ _ c.follow.ensures.keeps c.follow.new.cells c.follow.ensures.cells (c.in_ok-base.base + c.first-first.result) (omega (arith, o.count, x.within)) _ c.in_ok-further.ensures.id c.body.ensures

pub returns-clause-lead : goal.returns-clause-lead
returns-clause-lead c =
    let o = c.in_ok-base.ensures in
    let x = c.first-first.ensures in
    lead_test _ _ _ c.never.ensures.keeps c.follow.ensures.keeps c.follow.new.cells c.args.automaton.now (length c.args.cells.now) c.in_ok-base.base (c.in_ok-base.base + c.first-first.result) o.base o.stands
    (omega (arith, x.first, x.within)) (omega (arith, x.first)) (omega (arith, o.count, x.within)) _ c.in_ok-further.ensures.id c.body.ensures c.ends.ensures
