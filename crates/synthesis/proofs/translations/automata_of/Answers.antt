use Rattle.synthesis.specs.Formulas.{asked}
use Rattle.synthesis.proofs.FormulaLemmas.{all-automata, all-counted}
use Rattle.synthesis.proofs.translations.automata_of.Goals as goal

pub returns-clause-automata : goal.returns-clause-automata
returns-clause-automata c =
    all-automata c.args.store.now c.automaton_where.new.store c.automaton_of.new.store c.automaton_where-2.new.store
    c.automaton_where.ensures.keeps c.automaton_of.ensures.keeps c.automaton_where-2.ensures.keeps (asked c.args.formulas.now)
    (record { keep = c.in_ok-keep.keep; goal = c.in_ok-goal.goal; duty = c.in_ok-duty.duty })
    c.in_ok-keep.ensures.automaton c.in_ok-goal.ensures.automaton c.in_ok-duty.ensures.automaton

pub returns-clause-counts : goal.returns-clause-counts
returns-clause-counts c =
    all-counted c.args.store.now c.automaton_where.new.store c.automaton_of.new.store c.automaton_where.ensures.keeps c.automaton_of.ensures.keeps
    (asked c.args.formulas.now) (record { keep = c.in_ok-keep.keep; goal = c.in_ok-goal.goal; duty = c.in_ok-duty.duty })
    c.in_ok-keep.ensures.count c.in_ok-goal.ensures.count c.in_ok-duty.ensures.count
