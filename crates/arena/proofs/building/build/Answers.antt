use Rattle.std.proofs.Common.{sym, ◌∙◌, subst, ◌<◌}
use Rattle.std.specs.Option.{option_copied}
use Rattle.diagrams.specs.Eval.{letter_truth}
use Rattle.diagrams.proofs.Meaning.{Keeps_trans}
use Rattle.automata.specs.Table.{size_of, moves_of}
use Rattle.automata.proofs.Lasts.{fits_lasts}
use Rattle.arena.specs.Building.{aims_of, claim_where}
use Rattle.legality.specs.Legal.{claim_of}
use Rattle.arena.specs.Left.{locations_of}
use Rattle.arena.proofs.BuildingLemmas.{fits_where_last, keeps_five, told_kinds, least_live, built, each_goes_on}
use Rattle.game.proofs.ArenaPlay.{arena_playable}
use Rattle.arena.proofs.CountLemmas.{count_bound, legal_decided}
use Rattle.arena.proofs.EvenLemmas.{arena_even}
use Rattle.arena.proofs.building.build.Goals as goal

pub duty_part-requires : goal.duty_part-requires
duty_part-requires c = fits_where_last c.args.store.now c.legal_part.new.store (option_copied c.args.duty) c.legal_part.ensures.keeps c.requires.duty

pub kinds_of-requires-clause-legal : goal.kinds_of-requires-clause-legal
kinds_of-requires-clause-legal c = fits_lasts c.legal_part.new.store c.duty_part.new.store c.duty_part.ensures.keeps c.in_ok-legal.legal c.in_ok-legal.ensures.fits

pub kinds_of-requires-clause-goal : goal.kinds_of-requires-clause-goal
kinds_of-requires-clause-goal c =
    fits_lasts c.args.store.now c.duty_part.new.store (Keeps_trans c.args.store.now c.legal_part.new.store c.duty_part.new.store c.legal_part.ensures.keeps c.duty_part.ensures.keeps) c.args.goal.now c.requires.goal

pub left_of-requires-clause-live : goal.left_of-requires-clause-live
left_of-requires-clause-live c =
    least_live (aims_of c.args.store.now c.args.partition c.args.goal.now (option_copied c.args.keep) (option_copied c.args.duty)) c.kinds_of.new.store c.minimise.new.store c.in_ok-kinds.kinds c.in_ok-least.least
    c.in_ok-least.ensures.marks c.in_ok-least.ensures.first
    (told_kinds c.args.partition c.args.store.now c.legal_part.new.store c.duty_part.new.store c.args.goal.now c.in_ok-legal.legal c.in_ok-watched.watched (option_copied c.args.keep) (option_copied c.args.duty)
    c.legal_part.ensures.keeps c.duty_part.ensures.keeps c.requires.width c.requires.goal (subst (λ z. z < size_of c.args.goal.now) c.first.ensures.first c.first.ensures.within) c.requires.marks c.requires.duty
    c.in_ok-legal.ensures.fits (subst (λ z. z < size_of c.in_ok-legal.legal) c.first-2.ensures.first c.first-2.ensures.within) c.in_ok-legal.ensures.legal c.in_ok-watched.ensures.duty
    (moves_of c.kinds_of.new.store c.in_ok-kinds.kinds) c.in_ok-kinds.ensures.kinds)

pub returns-in_err-left_of-clause-keeps : goal.returns-in_err-left_of-clause-keeps
returns-in_err-left_of-clause-keeps c =
    keeps_five c.args.store.now c.legal_part.new.store c.duty_part.new.store c.kinds_of.new.store c.minimise.new.store c.left_of.new.store
    c.legal_part.ensures.keeps c.duty_part.ensures.keeps c.kinds_of.ensures.keeps c.minimise.ensures.keeps c.left_of.ensures.keeps

pub returns-clause-keeps : goal.returns-clause-keeps
returns-clause-keeps c =
    keeps_five c.args.store.now c.legal_part.new.store c.duty_part.new.store c.kinds_of.new.store c.minimise.new.store c.left_of.new.store
    c.legal_part.ensures.keeps c.duty_part.ensures.keeps c.kinds_of.ensures.keeps c.minimise.ensures.keeps c.left_of.ensures.keeps

pub returns-clause-arena : goal.returns-clause-arena
returns-clause-arena c =
    let k02 = Keeps_trans c.args.store.now c.legal_part.new.store c.duty_part.new.store c.legal_part.ensures.keeps c.duty_part.ensures.keeps in
    let k03 = Keeps_trans c.args.store.now c.duty_part.new.store c.kinds_of.new.store k02 c.kinds_of.ensures.keeps in
    built (aims_of c.args.store.now c.args.partition c.args.goal.now (option_copied c.args.keep) (option_copied c.args.duty)) c.kinds_of.new.store c.minimise.new.store c.left_of.new.store c.in_ok-kinds.kinds c.in_ok-least.least
    (locations_of c.left_of.new.store c.in_ok-left_of.field-0) c.minimise.ensures.keeps c.left_of.ensures.keeps (c.requires.width ∙ sym k03.extends.props) c.in_ok-least.ensures.fits c.in_ok-least.ensures.marks
    c.in_ok-least.ensures.least c.in_ok-least.ensures.numbered
    (told_kinds c.args.partition c.args.store.now c.legal_part.new.store c.duty_part.new.store c.args.goal.now c.in_ok-legal.legal c.in_ok-watched.watched (option_copied c.args.keep) (option_copied c.args.duty)
    c.legal_part.ensures.keeps c.duty_part.ensures.keeps c.requires.width c.requires.goal (subst (λ z. z < size_of c.args.goal.now) c.first.ensures.first c.first.ensures.within) c.requires.marks c.requires.duty
    c.in_ok-legal.ensures.fits (subst (λ z. z < size_of c.in_ok-legal.legal) c.first-2.ensures.first c.first-2.ensures.within) c.in_ok-legal.ensures.legal c.in_ok-watched.ensures.duty
    (moves_of c.kinds_of.new.store c.in_ok-kinds.kinds) c.in_ok-kinds.ensures.kinds)
    c.in_ok-left_of.ensures.left

pub returns-clause-few : goal.returns-clause-few
returns-clause-few c =
    let k02 = Keeps_trans c.args.store.now c.legal_part.new.store c.duty_part.new.store c.legal_part.ensures.keeps c.duty_part.ensures.keeps in
    let k03 = Keeps_trans c.args.store.now c.duty_part.new.store c.kinds_of.new.store k02 c.kinds_of.ensures.keeps in
    count_bound c.args.store.now c.args.partition c.args.goal.now (option_copied c.args.keep) (option_copied c.args.duty) (locations_of c.left_of.new.store c.in_ok-left_of.field-0) c.requires.goal
    (subst (λ z. z < size_of c.args.goal.now) c.first.ensures.first c.first.ensures.within) c.requires.keep c.known.ensures c.requires.duty c.known-2.ensures
    (legal_decided (aims_of c.args.store.now c.args.partition c.args.goal.now (option_copied c.args.keep) (option_copied c.args.duty)) (moves_of c.legal_part.new.store c.in_ok-legal.legal) c.in_ok-legal.ensures.legal)
    (built (aims_of c.args.store.now c.args.partition c.args.goal.now (option_copied c.args.keep) (option_copied c.args.duty)) c.kinds_of.new.store c.minimise.new.store c.left_of.new.store c.in_ok-kinds.kinds c.in_ok-least.least
    (locations_of c.left_of.new.store c.in_ok-left_of.field-0) c.minimise.ensures.keeps c.left_of.ensures.keeps (c.requires.width ∙ sym k03.extends.props) c.in_ok-least.ensures.fits c.in_ok-least.ensures.marks
    c.in_ok-least.ensures.least c.in_ok-least.ensures.numbered
    (told_kinds c.args.partition c.args.store.now c.legal_part.new.store c.duty_part.new.store c.args.goal.now c.in_ok-legal.legal c.in_ok-watched.watched (option_copied c.args.keep) (option_copied c.args.duty)
    c.legal_part.ensures.keeps c.duty_part.ensures.keeps c.requires.width c.requires.goal (subst (λ z. z < size_of c.args.goal.now) c.first.ensures.first c.first.ensures.within) c.requires.marks c.requires.duty
    c.in_ok-legal.ensures.fits (subst (λ z. z < size_of c.in_ok-legal.legal) c.first-2.ensures.first c.first-2.ensures.within) c.in_ok-legal.ensures.legal c.in_ok-watched.ensures.duty
    (moves_of c.kinds_of.new.store c.in_ok-kinds.kinds) c.in_ok-kinds.ensures.kinds)
    c.in_ok-left_of.ensures.left)

pub returns-clause-playable : goal.returns-clause-playable
returns-clause-playable c =
    let k02 = Keeps_trans c.args.store.now c.legal_part.new.store c.duty_part.new.store c.legal_part.ensures.keeps c.duty_part.ensures.keeps in
    let k03 = Keeps_trans c.args.store.now c.duty_part.new.store c.kinds_of.new.store k02 c.kinds_of.ensures.keeps in
    arena_playable (aims_of c.args.store.now c.args.partition c.args.goal.now (option_copied c.args.keep) (option_copied c.args.duty)) (locations_of c.left_of.new.store c.in_ok-left_of.field-0)
    (built (aims_of c.args.store.now c.args.partition c.args.goal.now (option_copied c.args.keep) (option_copied c.args.duty)) c.kinds_of.new.store c.minimise.new.store c.left_of.new.store c.in_ok-kinds.kinds c.in_ok-least.least
    (locations_of c.left_of.new.store c.in_ok-left_of.field-0) c.minimise.ensures.keeps c.left_of.ensures.keeps (c.requires.width ∙ sym k03.extends.props) c.in_ok-least.ensures.fits c.in_ok-least.ensures.marks
    c.in_ok-least.ensures.least c.in_ok-least.ensures.numbered
    (told_kinds c.args.partition c.args.store.now c.legal_part.new.store c.duty_part.new.store c.args.goal.now c.in_ok-legal.legal c.in_ok-watched.watched (option_copied c.args.keep) (option_copied c.args.duty)
    c.legal_part.ensures.keeps c.duty_part.ensures.keeps c.requires.width c.requires.goal (subst (λ z. z < size_of c.args.goal.now) c.first.ensures.first c.first.ensures.within) c.requires.marks c.requires.duty
    c.in_ok-legal.ensures.fits (subst (λ z. z < size_of c.in_ok-legal.legal) c.first-2.ensures.first c.first-2.ensures.within) c.in_ok-legal.ensures.legal c.in_ok-watched.ensures.duty
    (moves_of c.kinds_of.new.store c.in_ok-kinds.kinds) c.in_ok-kinds.ensures.kinds)
    c.in_ok-left_of.ensures.left)
    (c.in_ok-legal.ensures.playable (claim_of c.args.store.now c.args.goal.now) (claim_where c.args.store.now (option_copied c.args.duty)))

pub returns-clause-even : goal.returns-clause-even
returns-clause-even c =
    let k02 = Keeps_trans c.args.store.now c.legal_part.new.store c.duty_part.new.store c.legal_part.ensures.keeps c.duty_part.ensures.keeps in
    let k03 = Keeps_trans c.args.store.now c.duty_part.new.store c.kinds_of.new.store k02 c.kinds_of.ensures.keeps in
    arena_even (aims_of c.args.store.now c.args.partition c.args.goal.now (option_copied c.args.keep) (option_copied c.args.duty)) (locations_of c.left_of.new.store c.in_ok-left_of.field-0)
    (built (aims_of c.args.store.now c.args.partition c.args.goal.now (option_copied c.args.keep) (option_copied c.args.duty)) c.kinds_of.new.store c.minimise.new.store c.left_of.new.store c.in_ok-kinds.kinds c.in_ok-least.least
    (locations_of c.left_of.new.store c.in_ok-left_of.field-0) c.minimise.ensures.keeps c.left_of.ensures.keeps (c.requires.width ∙ sym k03.extends.props) c.in_ok-least.ensures.fits c.in_ok-least.ensures.marks
    c.in_ok-least.ensures.least c.in_ok-least.ensures.numbered
    (told_kinds c.args.partition c.args.store.now c.legal_part.new.store c.duty_part.new.store c.args.goal.now c.in_ok-legal.legal c.in_ok-watched.watched (option_copied c.args.keep) (option_copied c.args.duty)
    c.legal_part.ensures.keeps c.duty_part.ensures.keeps c.requires.width c.requires.goal (subst (λ z. z < size_of c.args.goal.now) c.first.ensures.first c.first.ensures.within) c.requires.marks c.requires.duty
    c.in_ok-legal.ensures.fits (subst (λ z. z < size_of c.in_ok-legal.legal) c.first-2.ensures.first c.first-2.ensures.within) c.in_ok-legal.ensures.legal c.in_ok-watched.ensures.duty
    (moves_of c.kinds_of.new.store c.in_ok-kinds.kinds) c.in_ok-kinds.ensures.kinds)
    c.in_ok-left_of.ensures.left)
    (λ at a h met l. c.in_ok-left_of.ensures.fits.rests at h met (letter_truth c.left_of.new.store.props a))

pub returns-clause-rounds : goal.returns-clause-rounds
returns-clause-rounds c = c.in_ok-legal.ensures.playable (claim_of c.args.store.now c.args.goal.now) (claim_where c.args.store.now (option_copied c.args.duty))

pub returns-clause-goes_on : goal.returns-clause-goes_on
returns-clause-goes_on c =
    each_goes_on c.args.partition (claim_of c.args.store.now c.args.goal.now) (claim_where c.args.store.now (option_copied c.args.keep)) (claim_where c.args.store.now (option_copied c.args.duty)) c.in_ok-legal.ensures.playable
