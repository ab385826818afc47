use Rattle.obligations.proofs.Cuts.{claims_last, claims_placed, cuts_end_ok}
use Rattle.obligations.proofs.cut.placed.Goals as goal

pub returns-in_err-at-clause-claims : goal.returns-in_err-at-clause-claims
returns-in_err-at-clause-claims c = claims_placed c.args.store.now c.args.count c.args.frontier.now c.place.new.self c.args.f c.requires.claims c.requires.f c.place.ensures.grows c.place.ensures.others

pub returns-clause-claims : goal.returns-clause-claims
returns-clause-claims c =
    claims_last c.args.store.now c.terminal.new.self c.terminal.ensures.keeps c.args.count c.place.new.self
    (claims_placed c.args.store.now c.args.count c.args.frontier.now c.place.new.self c.args.f c.requires.claims c.requires.f c.place.ensures.grows c.place.ensures.others)

pub returns-clause-row : goal.returns-clause-row
returns-clause-row c =
    cuts_end_ok c.terminal.result c.args.store.now c.terminal.new.self c.terminal.ensures.keeps c.args.count c.place.new.self c.args.f c.in_ok-at.at c.requires.f c.in_ok-at.ensures.within c.in_ok-at.ensures.placed c.terminal.ensures.id
