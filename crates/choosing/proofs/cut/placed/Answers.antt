use Rattle.choosing.proofs.CutLemmas.{items_last, items_placed, cuts_end_ok}
use Rattle.choosing.proofs.FitLemmas.{fits_placed}
use Rattle.choosing.proofs.cut.placed.Goals as goal

pub returns-in_err-at-clause-diagrams : goal.returns-in_err-at-clause-diagrams
returns-in_err-at-clause-diagrams c = items_placed c.args.bound c.args.store.now c.args.below.now c.place.new.self c.args.f c.requires.diagrams c.requires.f c.place.ensures.grows c.place.ensures.others

pub returns-clause-diagrams : goal.returns-clause-diagrams
returns-clause-diagrams c =
    items_last c.args.bound c.args.store.now c.terminal.new.self c.terminal.ensures.keeps c.place.new.self
    (items_placed c.args.bound c.args.store.now c.args.below.now c.place.new.self c.args.f c.requires.diagrams c.requires.f c.place.ensures.grows c.place.ensures.others)

pub returns-clause-row : goal.returns-clause-row
returns-clause-row c =
    cuts_end_ok c.args.bound c.terminal.result c.args.store.now c.terminal.new.self c.terminal.ensures.keeps c.place.new.self c.args.f c.in_ok-at.at c.requires.f c.in_ok-at.ensures.within c.in_ok-at.ensures.placed c.terminal.ensures.id

pub returns-clause-fits : goal.returns-clause-fits
returns-clause-fits c = fits_placed c.args.bound c.args.store.now c.terminal.new.self c.terminal.ensures.keeps c.args.below.now c.place.new.self c.args.f c.requires.diagrams c.requires.f.live c.place.ensures.grows c.place.ensures.others
