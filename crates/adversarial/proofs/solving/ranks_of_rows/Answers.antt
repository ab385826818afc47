use Rattle.std.proofs.Common.{sym, subst, true, false}
use Rattle.attractor.specs.Graph.{number_at}
use Rattle.attractor.specs.Rows.{IsAttraction}
use Rattle.layers.specs.Ranked.{AreRanks}
use Rattle.layers.specs.ArenaRows.{agent_sides, locations_of}
use Rattle.layers.proofs.ArenaLemmas.{attraction_ranks, attraction_small}
use Rattle.layers.proofs.NarrowedLemmas.{narrowed_ranks}
use Rattle.adversarial.proofs.solving.ranks_of_rows.Goals as goal

pub narrowed-requires-clause-small : goal.narrowed-requires-clause-small
narrowed-requires-clause-small c =
    let t : IsAttraction c.args.store.now (agent_sides c.args.partition.now) c.args.rows.now c.args.goals.now true c.in_ok-numbers.numbers.items =
    subst (λ z. IsAttraction c.args.store.now z c.args.rows.now c.args.goals.now true c.in_ok-numbers.numbers.items) c.agent_sides-sides.ensures c.in_ok-numbers.ensures in
    rw c.deref.ensures.value (attraction_small c.args.store.now c.args.partition.now false c.args.rows.now c.args.goals.now c.args.goals.now c.requires.arena c.in_ok-numbers.numbers.items t c.requires.few)

pub returns-clause-ranks : goal.returns-clause-ranks
returns-clause-ranks c =
    let t : IsAttraction c.args.store.now (agent_sides c.args.partition.now) c.args.rows.now c.args.goals.now true c.in_ok-numbers.numbers.items =
    subst (λ z. IsAttraction c.args.store.now z c.args.rows.now c.args.goals.now true c.in_ok-numbers.numbers.items) c.agent_sides-sides.ensures c.in_ok-numbers.ensures in
    subst (λ z. AreRanks c.args.partition.now false (locations_of c.args.store.now c.args.rows.now c.args.goals.now c.args.goals.now) (number_at z)) (sym c.of.ensures)
    (narrowed_ranks c.args.store.now c.args.partition.now false c.args.rows.now c.args.goals.now c.args.goals.now c.deref.result.now c.in_ok-made.made.items c.in_ok-made.ensures
    (rw c.deref.ensures.value (attraction_ranks c.args.store.now c.args.partition.now false c.args.rows.now c.args.goals.now c.args.goals.now c.requires.arena c.in_ok-numbers.numbers.items t)))
