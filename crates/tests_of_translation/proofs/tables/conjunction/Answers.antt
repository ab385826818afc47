use Rattle.std.proofs.Common.{arith}
use Rattle.std.specs.Prelude.{slice_index}
use Rattle.diagrams.specs.declared.work.Op.TheVariants.{And}
use Rattle.diagrams.proofs.Meaning.{live_lasts}
use Rattle.test_support.proofs.DiagramLemmas.{literal_truth, literal_over}
use Rattle.tests_of_translation.proofs.TableLemmas.{made_first, made_next, and_small, can_and, variable_among}
use Rattle.tests_of_translation.proofs.tables.conjunction.Goals as goal

pub loop-var-init : goal.loop-var-init
loop-var-init c = made_first c.args.store.now c.terminal.new.self c.args.from c.args.to 1 _ (omega arith) c.terminal.ensures.keeps c.in_ok-whole.ensures.id

pub combine-requires-clause-f_live : goal.combine-requires-clause-f_live
combine-requires-clause-f_live c = live_lasts c.loop-var.store c.literal.new.self c.literal.ensures.keeps.extends c.loop-var.whole c.loop-var.invariant.truth.live

pub combine-requires-clause-fit : goal.combine-requires-clause-fit
combine-requires-clause-fit c = can_and c.loop-var.store c.literal.new.self c.literal.ensures.keeps c.loop-var.whole c.in_ok-next.next c.loop-var.invariant.truth (literal_truth c.literal.new.self c.in_ok-next.next _ c.in_ok-next.ensures.id)

pub loop-var-preserved : goal.loop-var-preserved
loop-var-preserved c =
    made_next And and_small c.args.store.now c.loop-var.store c.literal.new.self c.combine.new.self c.args.from c.args.to c.loop-var.whole c.in_ok-next.next _ c.loop-var.invariant
    c.literal.ensures.keeps (literal_truth c.literal.new.self c.in_ok-next.next _ c.in_ok-next.ensures.id)
    (variable_among c.literal.new.self c.in_ok-next.next (slice_index c.args.vars.now c.loop-var.var-index) c.args.from c.args.to (omega (arith, c.if-var-from.false)) (omega (arith, c.if-var-to.false)) (literal_over c.literal.new.self c.in_ok-next.next _ c.in_ok-next.ensures.id))
    c.combine.ensures.keeps c.in_ok-whole-2.ensures.id

pub returns-clause-keeps : goal.returns-clause-keeps
returns-clause-keeps c = c.loop-var.invariant.keeps

pub returns-clause-truth : goal.returns-clause-truth
returns-clause-truth c = c.loop-var.invariant.truth

pub returns-clause-over : goal.returns-clause-over
returns-clause-over c = c.loop-var.invariant.over
