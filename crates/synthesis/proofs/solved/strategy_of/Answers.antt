use Rattle.std.proofs.Common.{sym, subst}
use Rattle.diagrams.specs.Live.{Keeps}
use Rattle.diagrams.proofs.Meaning.{Keeps_trans}
use Rattle.attractor.specs.Graph.{number_at}
use Rattle.game.specs.Arena.{IsArenaOf}
use Rattle.game.specs.Same.{aims_with}
use Rattle.layers.specs.Ranked.{IsPlayableArena}
use Rattle.arena.specs.Left.{FitsArena, locations_of}
use Rattle.adversarial.specs.Answered.{AreAnswers}
use Rattle.strategy.specs.Found.{AreFound}
use Rattle.synthesis.proofs.AlikeLemmas.{answer_diagrams_last}
use Rattle.synthesis.proofs.LastingLemmas.{arena_lasts, even_lasts, playable_lasts, ranks_last, distances_last, answers_last, arena_of_lasts}
use Rattle.synthesis.proofs.solved.strategy_of.Goals as goal

pub distances-requires-clause-fits : goal.distances-requires-clause-fits
distances-requires-clause-fits c =
    let keeps_b = subst (λ z. Keeps z c.answers.new.store) c.solve.ensures.same c.answers.ensures.keeps in
    arena_lasts c.args.store.now c.answers.new.store keeps_b c.args.arena c.requires.fits

pub distances-requires-clause-even : goal.distances-requires-clause-even
distances-requires-clause-even c =
    let keeps_b = subst (λ z. Keeps z c.answers.new.store) c.solve.ensures.same c.answers.ensures.keeps in
    even_lasts c.args.store.now c.answers.new.store keeps_b c.args.arena c.requires.fits c.requires.even

pub distances-requires-clause-playable : goal.distances-requires-clause-playable
distances-requires-clause-playable c =
    let keeps_b = subst (λ z. Keeps z c.answers.new.store) c.solve.ensures.same c.answers.ensures.keeps in
    playable_lasts c.args.store.now c.answers.new.store keeps_b c.args.arena c.requires.fits c.requires.playable

pub distances-requires-clause-ranks : goal.distances-requires-clause-ranks
distances-requires-clause-ranks c =
    let keeps_b = subst (λ z. Keeps z c.answers.new.store) c.solve.ensures.same c.answers.ensures.keeps in
    ranks_last c.args.store.now c.answers.new.store keeps_b c.args.arena c.requires.fits (number_at c.in_ok-ranks.ranks) c.in_ok-ranks.ensures.ranks

pub losses_where-requires-clause-fits : goal.losses_where-requires-clause-fits
losses_where-requires-clause-fits c =
    let keeps_b = subst (λ z. Keeps z c.answers.new.store) c.solve.ensures.same c.answers.ensures.keeps in
    let keeps_d = Keeps_trans c.args.store.now c.answers.new.store c.distances.new.store keeps_b c.distances.ensures.keeps in
    arena_lasts c.args.store.now c.distances.new.store keeps_d c.args.arena c.requires.fits

pub losses_where-requires-clause-even : goal.losses_where-requires-clause-even
losses_where-requires-clause-even c =
    let keeps_b = subst (λ z. Keeps z c.answers.new.store) c.solve.ensures.same c.answers.ensures.keeps in
    let keeps_d = Keeps_trans c.args.store.now c.answers.new.store c.distances.new.store keeps_b c.distances.ensures.keeps in
    even_lasts c.args.store.now c.distances.new.store keeps_d c.args.arena c.requires.fits c.requires.even

pub losses_where-requires-clause-playable : goal.losses_where-requires-clause-playable
losses_where-requires-clause-playable c =
    let keeps_b = subst (λ z. Keeps z c.answers.new.store) c.solve.ensures.same c.answers.ensures.keeps in
    let keeps_d = Keeps_trans c.args.store.now c.answers.new.store c.distances.new.store keeps_b c.distances.ensures.keeps in
    playable_lasts c.args.store.now c.distances.new.store keeps_d c.args.arena c.requires.fits c.requires.playable

pub losses_where-requires-clause-ranks : goal.losses_where-requires-clause-ranks
losses_where-requires-clause-ranks c =
    let keeps_b = subst (λ z. Keeps z c.answers.new.store) c.solve.ensures.same c.answers.ensures.keeps in
    let keeps_d = Keeps_trans c.args.store.now c.answers.new.store c.distances.new.store keeps_b c.distances.ensures.keeps in
    ranks_last c.args.store.now c.distances.new.store keeps_d c.args.arena c.requires.fits (number_at c.in_ok-ranks.ranks) c.in_ok-ranks.ensures.ranks

pub losses_where-requires-clause-distances : goal.losses_where-requires-clause-distances
losses_where-requires-clause-distances c =
    let keeps_b = subst (λ z. Keeps z c.answers.new.store) c.solve.ensures.same c.answers.ensures.keeps in
    distances_last c.answers.new.store c.distances.new.store c.distances.ensures.keeps c.args.arena (arena_lasts c.args.store.now c.answers.new.store keeps_b c.args.arena c.requires.fits) (number_at c.in_ok-near.near) c.in_ok-near.ensures.distances

pub merge-requires-clause-fits : goal.merge-requires-clause-fits
merge-requires-clause-fits c =
    let keeps_b = subst (λ z. Keeps z c.answers.new.store) c.solve.ensures.same c.answers.ensures.keeps in
    let keeps_d = Keeps_trans c.args.store.now c.answers.new.store c.distances.new.store keeps_b c.distances.ensures.keeps in
    subst (λ z. FitsArena z c.args.arena) (sym c.losses_where.ensures.same) (arena_lasts c.args.store.now c.distances.new.store keeps_d c.args.arena c.requires.fits)

pub merge-requires-clause-playable : goal.merge-requires-clause-playable
merge-requires-clause-playable c =
    let keeps_b = subst (λ z. Keeps z c.answers.new.store) c.solve.ensures.same c.answers.ensures.keeps in
    let keeps_d = Keeps_trans c.args.store.now c.answers.new.store c.distances.new.store keeps_b c.distances.ensures.keeps in
    subst (λ z. IsPlayableArena c.args.arena.partition c.args.arena.has_duty (locations_of z c.args.arena)) (sym c.losses_where.ensures.same) (playable_lasts c.args.store.now c.distances.new.store keeps_d c.args.arena c.requires.fits c.requires.playable)

pub merge-requires-clause-found : goal.merge-requires-clause-found
merge-requires-clause-found c =
    let keeps_b = subst (λ z. Keeps z c.answers.new.store) c.solve.ensures.same c.answers.ensures.keeps in
    let keeps_d = Keeps_trans c.args.store.now c.answers.new.store c.distances.new.store keeps_b c.distances.ensures.keeps in
    let rank = number_at c.in_ok-ranks.ranks in
    let table = c.in_ok-table.table in
    let answers = subst (λ z. AreAnswers c.answers.new.store c.args.arena.partition c.args.arena.has_duty (locations_of z c.args.arena) (number_at c.in_ok-ranks.ranks) c.in_ok-table.table) c.solve.ensures.same c.in_ok-table.ensures.answers in
    subst (λ z. AreFound z c.args.arena c.in_ok-ranks.ranks c.in_ok-near.near c.in_ok-table.table c.in_ok-lost.lost) (sym c.losses_where.ensures.same) (record {
      rank_count = c.in_ok-ranks.ensures.size;
      distance_count = c.in_ok-near.ensures.size;
      rank = ranks_last c.args.store.now c.distances.new.store keeps_d c.args.arena c.requires.fits rank c.in_ok-ranks.ensures.ranks;
      rank_below = c.in_ok-ranks.ensures.below c.requires.playable;
      distance = distances_last c.answers.new.store c.distances.new.store c.distances.ensures.keeps c.args.arena (arena_lasts c.args.store.now c.answers.new.store keeps_b c.args.arena c.requires.fits) (number_at c.in_ok-near.near) c.in_ok-near.ensures.distances;
      distance_below = c.in_ok-near.ensures.below;
      answer = answers_last c.args.store.now c.distances.new.store keeps_d c.args.arena c.requires.fits c.answers.new.store c.distances.ensures.keeps rank c.in_ok-ranks.ensures.ranks table answers;
      answer_over = answer_diagrams_last c.answers.new.store c.distances.new.store c.distances.ensures.keeps c.args.arena.partition table c.in_ok-table.ensures.over;
      loss = c.in_ok-lost.ensures.losses;
    })

pub returns-clause-keeps : goal.returns-clause-keeps
returns-clause-keeps c =
    let keeps_b = subst (λ z. Keeps z c.answers.new.store) c.solve.ensures.same c.answers.ensures.keeps in
    let keeps_d = Keeps_trans c.args.store.now c.answers.new.store c.distances.new.store keeps_b c.distances.ensures.keeps in
    Keeps_trans c.args.store.now c.distances.new.store c.merge.new.store keeps_d (subst (λ z. Keeps z c.merge.new.store) c.losses_where.ensures.same c.merge.ensures.keeps)

pub returns-clause-printed : goal.returns-clause-printed
returns-clause-printed c x y agree given arena keep =
    let keeps_b = subst (λ z. Keeps z c.answers.new.store) c.solve.ensures.same c.answers.ensures.keeps in
    let keeps_d = Keeps_trans c.args.store.now c.answers.new.store c.distances.new.store keeps_b c.distances.ensures.keeps in
    c.merge.ensures.printed x y agree given
    (subst (λ z. IsArenaOf (aims_with c.args.arena.partition x) (locations_of z c.args.arena)) (sym c.losses_where.ensures.same)
    (arena_of_lasts c.args.store.now c.distances.new.store keeps_d c.args.arena c.requires.fits (aims_with c.args.arena.partition x) arena)) keep
