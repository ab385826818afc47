use Rattle.std.proofs.Common.{length}
use Rattle.diagrams.proofs.Meaning.{Keeps_trans}
use Rattle.diagrams.proofs.Composed.{right_for_lasts}
use Rattle.obligations.proofs.Cuts.{claims_last, kept_cut_lasts, grows_refl}
use Rattle.obligations.proofs.Holds.{fits_cells_lasts}
use Rattle.obligations.proofs.Explored.{located_cut, bodies_truth}
use Rattle.obligations.proofs.explore.explored.Goals as goal

pub returns-in_err-whole-clause-claims : goal.returns-in_err-whole-clause-claims
returns-in_err-whole-clause-claims c = claims_last c.args.store.now c.compose_with.new.self c.compose_with.ensures.keeps (length c.args.cells.now) c.args.frontier.now c.requires.claims

pub returns-in_err-whole-clause-rows : goal.returns-in_err-whole-clause-rows
returns-in_err-whole-clause-rows c = kept_cut_lasts c.args.store.now c.compose_with.new.self c.compose_with.ensures.keeps (length c.args.cells.now) c.args.frontier.now c.args.frontier.now (grows_refl c.args.frontier.now) c.requires.claims c.args.rows.now c.requires.rows

pub cut-requires-clause-claims : goal.cut-requires-clause-claims
cut-requires-clause-claims c = rw c.len.ensures.number (claims_last c.args.store.now c.compose_with.new.self c.compose_with.ensures.keeps (length c.args.cells.now) c.args.frontier.now c.requires.claims)

pub cut-requires-clause-right : goal.cut-requires-clause-right
cut-requires-clause-right c = kept_cut_lasts c.args.store.now c.compose_with.new.self c.compose_with.ensures.keeps (length c.args.cells.now) c.args.frontier.now c.args.frontier.now (grows_refl c.args.frontier.now) c.requires.claims c.args.rows.now c.requires.rows

pub returns-clause-located : goal.returns-clause-located
returns-clause-located c =
    located_cut c.args.store.now c.compose_with.new.self c.cut.new.store c.compose_with.ensures.keeps c.cut.ensures.keeps c.args.cells.now c.args.bodies.now c.requires.fits c.requires.bodies c.cut.new.frontier c.args.claim c.in_ok-whole.whole c.in_ok-row.row c.at_end-mark.result
    c.requires.claim c.in_ok-whole.ensures.id c.in_ok-row.ensures.row c.at_end-mark.ensures (Keeps_trans _ _ _ c.compose_with.ensures.keeps c.cut.ensures.keeps)

pub returns-in_err-row-clause-composed : goal.returns-in_err-row-clause-composed
returns-in_err-row-clause-composed c =
    right_for_lasts c.compose_with.new.self c.cut.new.store c.cut.ensures.keeps c.args.bodies.now
    (bodies_truth c.compose_with.new.self c.args.cells.now c.args.bodies.now (fits_cells_lasts c.args.store.now c.compose_with.new.self c.compose_with.ensures.keeps c.args.cells.now c.requires.fits) c.requires.bodies)
    c.compose_with.new.memo c.compose_with.ensures.right

pub returns-clause-composed : goal.returns-clause-composed
returns-clause-composed c =
    right_for_lasts c.compose_with.new.self c.cut.new.store c.cut.ensures.keeps c.args.bodies.now
    (bodies_truth c.compose_with.new.self c.args.cells.now c.args.bodies.now (fits_cells_lasts c.args.store.now c.compose_with.new.self c.compose_with.ensures.keeps c.args.cells.now c.requires.fits) c.requires.bodies)
    c.compose_with.new.memo c.compose_with.ensures.right
