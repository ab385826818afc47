use Rattle.std.proofs.Common.{◌≡◌, ◌<◌, ◌≤◌, suc, false, length, sym, subst, ap}
use Rattle.std.proofs.lemmas.Result.{IfOk-weaker}
use Rattle.attractor.specs.Graph.{number_at}
use Rattle.attractor.specs.Rows.{IsAttraction}
use Rattle.layers.specs.ArenaRows.{locations_of}
use Rattle.layers.proofs.Bounds.{rank_most}
use Rattle.cooperative.proofs.NumberLemmas.{rows_fit, lesser_sides}
use Rattle.cooperative.proofs.FarLemmas.{made_all, far_distances}
use Rattle.cooperative.proofs.hoping.distances_of_rows.Goals as goal

pub rows_made-requires-clause-small : goal.rows_made-requires-clause-small
rows_made-requires-clause-small c at k h e =
    rank_most c.args.partition.now false (locations_of c.args.store.now c.args.rows.now c.args.goals.now c.args.goals.now) (number_at c.args.ranks.now) c.requires.ranks at k h e

pub attract-requires-clause-rows : goal.attract-requires-clause-rows
attract-requires-clause-rows c =
    let m = c.in_ok-made.ensures.rows in
    let sides = c.agent_sides-sides.ensures in
    rw c.deref.ensures.value
    (rows_fit c.args.store.now c.with_numbers.new.store _ _ (length c.args.rows.now) m.0 c.args.rows.now c.in_ok-made.made.items c.in_ok-all.all.items c.args.ranks.now c.in_ok-all.ensures.rows
    (made_all c.args.store.now c.rows_made.new.store c.with_numbers.new.store c.args.partition.now c.agent_sides-sides.result.lesser_before c.agent_sides-sides.result.before (ap (λ z. z.lesser_before) sides) (ap (λ z. z.before) sides) c.args.rows.now c.args.ranks.now
    (length c.args.rows.now) (suc (length c.args.rows.now)) m.0 c.in_ok-made.made.items c.in_ok-all.all.items m.2 c.in_ok-all.ensures.keeps c.in_ok-all.ensures.rows)
    (λ at a h. (c.requires.arena.rows_are at h).1 a))

pub returns-clause-distances : goal.returns-clause-distances
returns-clause-distances c =
    let m = c.in_ok-made.ensures.rows in
    let sides = c.agent_sides-sides.ensures in
    IfOk-weaker c.attract.result _ _
    (λ numbers t. far_distances c.args.store.now c.with_numbers.new.store c.in_ok-all.ensures.keeps.now c.args.partition.now c.args.rows.now c.args.goals.now c.requires.arena c.requires.loops c.args.ranks.now c.requires.size
    c.requires.ranks m.0 m.1 c.in_ok-made.made.items c.in_ok-all.all.items
    (made_all c.args.store.now c.rows_made.new.store c.with_numbers.new.store c.args.partition.now c.agent_sides-sides.result.lesser_before c.agent_sides-sides.result.before (ap (λ z. z.lesser_before) sides) (ap (λ z. z.before) sides) c.args.rows.now c.args.ranks.now
    (length c.args.rows.now) (suc (length c.args.rows.now)) m.0 c.in_ok-made.made.items c.in_ok-all.all.items m.2 c.in_ok-all.ensures.keeps c.in_ok-all.ensures.rows)
    c.in_ok-all.ensures.rows c.in_ok-first.first.items c.in_ok-first.ensures numbers.items
    (subst (λ xs. IsAttraction c.with_numbers.new.store lesser_sides xs c.in_ok-first.first.items false numbers.items) c.deref.ensures.value
    (subst (λ fs. IsAttraction c.with_numbers.new.store lesser_sides c.deref.result.now fs false numbers.items) c.deref-2.ensures.value t)))
    c.attract.ensures
