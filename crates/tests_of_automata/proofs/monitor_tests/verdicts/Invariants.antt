use Rattle.monitor.specs.Configuration.{IsReady}
use Rattle.tests_of_automata.proofs.monitor_tests.verdicts.Given as goal

abbrev pub invariant-loop-letter : goal.invariant-loop-letter
invariant-loop-letter l = IsReady l.store l.monitor
