use Rattle.std.proofs.Common.{sym, subst}
use Rattle.diagrams.proofs.Meaning.{Keeps_trans}
use Rattle.arena.proofs.BuildingLemmas.{fits_where_last}
use Rattle.arena.specs.Building.{FitsWhere}
use Rattle.tests_of_solving.proofs.arenas.arena_of.Goals as goal

pub build-requires-clause-keep : goal.build-requires-clause-keep
build-requires-clause-keep c =
    subst (λ o. FitsWhere c.automaton_of.new.store o) (sym c.as_ref.ensures.value)
    (fits_where_last c.automaton_where.new.store c.automaton_of.new.store c.in_ok-keep.keep (Keeps_trans _ _ _ c.automaton_where-2.ensures.keeps c.automaton_of.ensures.keeps) c.in_ok-keep.ensures.fits)

pub build-requires-clause-duty : goal.build-requires-clause-duty
build-requires-clause-duty c =
    subst (λ o. FitsWhere c.automaton_of.new.store o) (sym c.as_ref-2.ensures.value)
    (fits_where_last c.automaton_where-2.new.store c.automaton_of.new.store c.in_ok-duty.duty c.automaton_of.ensures.keeps c.in_ok-duty.ensures.fits)

pub returns-clause-keeps : goal.returns-clause-keeps
returns-clause-keeps c =
    Keeps_trans _ _ _ c.automaton_where.ensures.keeps (Keeps_trans _ _ _ c.automaton_where-2.ensures.keeps (Keeps_trans _ _ _ c.automaton_of.ensures.keeps c.build.ensures.keeps))
