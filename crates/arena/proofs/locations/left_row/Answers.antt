use Rattle.std.proofs.lemmas.Result.{IfOk-weaker}
use Rattle.diagrams.specs.Transformed.{IsTableItem}
use Rattle.diagrams.proofs.Transformed.{all_transformed_last}
use Rattle.arena.proofs.LeftOfLemmas.{left_transformed}
use Rattle.arena.proofs.locations.left_row.Goals as goal

pub returns-then-mark-eq1-clause-right : goal.returns-then-mark-eq1-clause-right
returns-then-mark-eq1-clause-right c =
    all_transformed_last c.args.store.now c.terminal.new.self c.terminal.ensures.keeps (IsTableItem c.args.table.now) c.args.memo.now c.requires.right

pub returns-clause-row : goal.returns-clause-row
returns-clause-row c =
    IfOk-weaker c.map_terminals_with.result _ _
    (λ id t. left_transformed c.args.store.now c.map_terminals_with.new.self c.args.table.now c.args.row id c.args.mark c.args.own c.if-mark-eq1.false t)
    c.map_terminals_with.ensures.id
