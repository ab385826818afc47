use Rattle.std.proofs.Common.{subst}
use Rattle.std.proofs.lemmas.Result.{IfOk-weaker}
use Rattle.diagrams.specs.Terminals.{AreTerminals}
use Rattle.automata.specs.Table.{size_of, row_of}
use Rattle.dividing.specs.Divisions.{AreTargets}
use Rattle.dividing.proofs.DivisionLemmas.{terminals_are_targets}
use Rattle.dividing.proofs.targets.targets_of.Goals as goal

pub returns : goal.returns
returns c =
    let s = c.args.store.now in
    let t = c.args.automaton.now in
    let row = row_of t c.args.at in
    IfOk-weaker c.next_terminals.result (λ xs. AreTerminals s c.row.result xs.items) (λ xs. AreTargets s (size_of t) row xs.items)
    (λ xs a. terminals_are_targets s (size_of t) row xs.items (c.requires.fits c.args.at c.requires.at) (subst (λ r. AreTerminals s r xs.items) c.row.ensures a))
    c.next_terminals.ensures
