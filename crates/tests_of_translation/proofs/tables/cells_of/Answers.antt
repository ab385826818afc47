use Rattle.std.proofs.Common.{arith}
use Rattle.diagrams.proofs.Meaning.{Keeps_trans}
use Rattle.tests_of_translation.proofs.TableLemmas.{table_first, table_next, table_done}
use Rattle.tests_of_translation.proofs.tables.cells_of.Goals as goal

pub loop-ends-init : goal.loop-ends-init
loop-ends-init c = table_first c.args.store.now c.requires.canonical c.args.count _ c.new-cells.ensures

pub loop-ends-preserved : goal.loop-ends-preserved
loop-ends-preserved c =
    table_next c.args.store.now c.loop-ends.store c.disjunction.new.store c.args.count c.loop-ends.cells c.add.new.self _ c.in_ok-body.body c.requires.props c.loop-ends.invariant
    c.disjunction.ensures.keeps c.in_ok-body.ensures.truth c.in_ok-body.ensures.over c.in_ok-add.ensures.ok

pub returns-in_err-body-clause-keeps : goal.returns-in_err-body-clause-keeps
returns-in_err-body-clause-keeps c = Keeps_trans _ _ _ c.loop-ends.invariant.keeps c.disjunction.ensures.keeps

pub returns-in_err-add-clause-keeps : goal.returns-in_err-add-clause-keeps
returns-in_err-add-clause-keeps c = Keeps_trans _ _ _ c.loop-ends.invariant.keeps c.disjunction.ensures.keeps

pub returns-then-len-count-clause-keeps : goal.returns-then-len-count-clause-keeps
returns-then-len-count-clause-keeps c = c.loop-ends.invariant.keeps

pub returns-clause-keeps : goal.returns-clause-keeps
returns-clause-keeps c = c.loop-ends.invariant.keeps

pub returns-clause-fits : goal.returns-clause-fits
returns-clause-fits c = table_done c.args.store.now c.loop-ends.store c.args.count c.loop-ends.cells c.loop-ends.invariant (omega (arith, c.len.ensures.number, c.if-len-count.false))
