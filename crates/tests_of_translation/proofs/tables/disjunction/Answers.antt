use Rattle.std.proofs.Common.{arith}
use Rattle.diagrams.specs.declared.work.Op.TheVariants.{Or}
use Rattle.diagrams.proofs.Meaning.{live_lasts}
use Rattle.tests_of_translation.proofs.TableLemmas.{made_first, made_next, or_small, can_or, over_before}
use Rattle.tests_of_translation.proofs.tables.disjunction.Goals as goal

pub loop-term-init : goal.loop-term-init
loop-term-init c = made_first c.args.store.now c.terminal.new.self 0 c.args.to 0 _ (omega arith) c.terminal.ensures.keeps c.in_ok-whole.ensures.id

pub combine-requires-clause-f_live : goal.combine-requires-clause-f_live
combine-requires-clause-f_live c = live_lasts c.loop-term.store c.conjunction.new.store c.conjunction.ensures.keeps.extends c.loop-term.whole c.loop-term.invariant.truth.live

pub combine-requires-clause-fit : goal.combine-requires-clause-fit
combine-requires-clause-fit c = can_or c.loop-term.store c.conjunction.new.store c.conjunction.ensures.keeps c.loop-term.whole c.in_ok-next.next c.loop-term.invariant.truth c.in_ok-next.ensures.truth

pub loop-term-preserved : goal.loop-term-preserved
loop-term-preserved c =
    made_next Or or_small c.args.store.now c.loop-term.store c.conjunction.new.store c.combine.new.self 0 c.args.to c.loop-term.whole c.in_ok-next.next _ c.loop-term.invariant
    c.conjunction.ensures.keeps c.in_ok-next.ensures.truth c.in_ok-next.ensures.over c.combine.ensures.keeps c.in_ok-whole-2.ensures.id

pub returns-clause-over : goal.returns-clause-over
returns-clause-over c = over_before c.loop-term.store c.loop-term.whole c.args.to c.loop-term.invariant.over
