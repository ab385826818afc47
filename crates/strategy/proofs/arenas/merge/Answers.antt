use Rattle.std.proofs.Common.{◌<◌, ◌∙◌, ap, arith, length}
use Rattle.std.proofs.lemmas.Result.{IfOk-weaker}
use Rattle.strategy.specs.Plan.{plan_of}
use Rattle.strategy.proofs.FoundLemmas.{answers-asked, printed-asked}
use Rattle.strategy.proofs.arenas.merge.Goals as goal

pub merge_rows-requires-clause-answers : goal.merge_rows-requires-clause-answers
merge_rows-requires-clause-answers c =
    let few : length c.args.arena.rows < 4294967295 = omega (arith, c.size.ensures.few, c.size.ensures.size) in
    answers-asked c.args.store.now c.args.arena c.requires.fits c.requires.width few c.args.ranks c.args.distances c.args.answers c.args.losses c.requires.found
    c.in_ok-numbers.numbers c.in_ok-numbers.ensures c.partition.result.now c.in_ok-rows.rows.items c.goals.result.now c.in_ok-tables.tables.items
    c.partition.ensures (c.in_ok-rows.ensures.items ∙ c.rows.ensures) c.goals.ensures.items (c.in_ok-tables.ensures.items ∙ c.items.ensures)

pub returns-clause-size : goal.returns-clause-size
returns-clause-size c =
    IfOk-weaker c.merge_rows.result _ _ (λ made size. size ∙ ap length (c.in_ok-rows.ensures.items ∙ c.rows.ensures)) c.merge_rows.ensures.size

pub returns-clause-printed : goal.returns-clause-printed
returns-clause-printed c x d agree given arena keep =
    let few : length c.args.arena.rows < 4294967295 = omega (arith, c.size.ensures.few, c.size.ensures.size) in
    IfOk-weaker c.merge_rows.result _ _
    (λ made merged. printed-asked c.args.store.now c.args.arena c.requires.fits c.requires.width few c.args.ranks c.args.distances c.args.answers c.args.losses c.requires.found
    c.in_ok-numbers.numbers c.in_ok-numbers.ensures c.partition.result.now c.in_ok-rows.rows.items c.goals.result.now c.in_ok-tables.tables.items
    c.partition.ensures (c.in_ok-rows.ensures.items ∙ c.rows.ensures) c.goals.ensures.items (c.in_ok-tables.ensures.items ∙ c.items.ensures)
    c.requires.playable (plan_of c.merge_rows.new.store made) merged x d agree given arena keep)
    c.merge_rows.ensures.merged
