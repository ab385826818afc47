use Rattle.attractor.specs.Graph.{number_at}
use Rattle.arena.proofs.LastingArenas.{arena_fits, goes_on_by_input, stays_playable, ranks_last, distances_last}
use Rattle.tests_of_solving.proofs.solving_tests.hopes.Goals as goal

pub losses-requires-clause-fits : goal.losses-requires-clause-fits
losses-requires-clause-fits c = arena_fits c.args.store.now c.distances.new.store c.distances.ensures.keeps c.args.arena.now c.requires.ready.fits

pub losses-requires-clause-even : goal.losses-requires-clause-even
losses-requires-clause-even c =
    goes_on_by_input c.args.store.now c.distances.new.store c.distances.ensures.keeps c.args.arena.now c.requires.ready.fits c.args.arena.now.partition c.requires.ready.even

pub losses-requires-clause-playable : goal.losses-requires-clause-playable
losses-requires-clause-playable c =
    stays_playable c.args.store.now c.distances.new.store c.distances.ensures.keeps c.args.arena.now c.requires.ready.fits c.args.arena.now.partition c.args.arena.now.has_duty c.requires.ready.playable

pub losses-requires-clause-ranks : goal.losses-requires-clause-ranks
losses-requires-clause-ranks c =
    ranks_last c.args.store.now c.distances.new.store c.distances.ensures.keeps c.args.arena.now c.requires.ready.fits c.args.arena.now.partition c.args.arena.now.has_duty (number_at c.args.ranks.now) c.requires.ranks

pub losses-requires-clause-distances : goal.losses-requires-clause-distances
losses-requires-clause-distances c =
    distances_last c.args.store.now c.distances.new.store c.distances.ensures.keeps c.args.arena.now c.requires.ready.fits c.args.arena.now.partition c.args.arena.now.has_duty (number_at c.in_ok-near.near) c.in_ok-near.ensures.distances

pub returns-in_err-near-clause-fits : goal.returns-in_err-near-clause-fits
returns-in_err-near-clause-fits c = arena_fits c.args.store.now c.distances.new.store c.distances.ensures.keeps c.args.arena.now c.requires.ready.fits

pub returns-in_err-lost-clause-fits : goal.returns-in_err-lost-clause-fits
returns-in_err-lost-clause-fits c = rw c.losses.ensures.same (arena_fits c.args.store.now c.distances.new.store c.distances.ensures.keeps c.args.arena.now c.requires.ready.fits)

pub returns-clause-fits : goal.returns-clause-fits
returns-clause-fits c = rw c.losses.ensures.same (arena_fits c.args.store.now c.distances.new.store c.distances.ensures.keeps c.args.arena.now c.requires.ready.fits)
