use Rattle.std.proofs.Common.{◌≡◌, ◌<◌, ◌≤◌, ◌+◌, suc, ◌∙◌, sym, arith}
use Rattle.std.proofs.lemmas.Result.{IfOk-weaker}
use Rattle.layers.proofs.FoldingLemmas.{all_least_last}
use Rattle.layers.proofs.FoldingEnds.{on_any, instead_item, instead_number, instead_same, instead_sink, instead_kept}
use Rattle.layers.proofs.folding.instead.Goals as goal

pub returns-in-Item-clause-id : goal.returns-in-Item-clause-id
returns-in-Item-clause-id c =
    IfOk-weaker c.terminal.result _ _
    (λ id m. instead_item c.args.store.now c.terminal.new.self c.args.below c.args.table.now c.args.f id c.in_ok-item.item c.in-Item.is c.in_ok-item.ensures.least m)
    c.terminal.ensures.id

pub returns-in-Item-clause-found : goal.returns-in-Item-clause-found
returns-in-Item-clause-found c =
    on_any c.terminal.result (all_least_last c.args.store.now c.terminal.new.self c.terminal.ensures.keeps c.args.table.now c.least.new.found.items c.in_ok-item.ensures.found)

pub returns-then-item-size-clause-id : goal.returns-then-item-size-clause-id
returns-then-item-size-clause-id c =
    instead_same c.args.store.now c.args.below c.args.table.now c.args.f c.in-Place.size c.in_ok-item.item c.in-Place.is (omega (arith, c.if-item-size.true)) c.requires.live c.in_ok-item.ensures.least

pub returns-else-item-size-clause-id : goal.returns-else-item-size-clause-id
returns-else-item-size-clause-id c =
    IfOk-weaker c.terminal-in-Place.result _ _
    (λ id m. instead_number c.args.store.now c.terminal-in-Place.new.self c.args.below c.args.table.now c.args.f id c.in-Place.size c.in_ok-item.item (c.in-Place.size + 1 + c.in_ok-item.item) c.in-Place.is
    (omega (arith, c.if-item-size.false)) (omega arith) c.in_ok-item.ensures.least m)
    c.terminal-in-Place.ensures.id

pub returns-else-item-size-clause-found : goal.returns-else-item-size-clause-found
returns-else-item-size-clause-found c =
    on_any c.terminal-in-Place.result
    (all_least_last c.args.store.now c.terminal-in-Place.new.self c.terminal-in-Place.ensures.keeps c.args.table.now c.least.new.found.items c.in_ok-item.ensures.found)

pub returns-then-item-ne0-clause-id : goal.returns-then-item-ne0-clause-id
returns-then-item-ne0-clause-id c =
    instead_kept c.args.store.now c.args.below c.args.table.now c.args.f c.in-Sink.sink c.in_ok-item.item c.in-Sink.is c.if-item-ne0.true c.requires.live c.in_ok-item.ensures.least

pub returns-else-item-ne0-clause-id : goal.returns-else-item-ne0-clause-id
returns-else-item-ne0-clause-id c =
    IfOk-weaker c.terminal-in-Sink.result _ _
    (λ id m. instead_sink c.args.store.now c.terminal-in-Sink.new.self c.args.below c.args.table.now c.args.f id c.in-Sink.sink c.in_ok-item.item c.in-Sink.is (omega (arith, c.if-item-ne0.false)) c.in_ok-item.ensures.least m)
    c.terminal-in-Sink.ensures.id

pub returns-else-item-ne0-clause-found : goal.returns-else-item-ne0-clause-found
returns-else-item-ne0-clause-found c =
    on_any c.terminal-in-Sink.result
    (all_least_last c.args.store.now c.terminal-in-Sink.new.self c.terminal-in-Sink.ensures.keeps c.args.table.now c.least.new.found.items c.in_ok-item.ensures.found)
