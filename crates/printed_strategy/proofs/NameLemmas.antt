-- A text names inputs before outputs; in a specification the first mover's names come first.
use Rattle.std.proofs.Common.{◌≡◌, ℕ, ◌++◌, List}
use Rattle.std.proofs.lemmas.List.{take-append-drop}
use Rattle.game.specs.Board.{Agent, Environment, Partition}
use Rattle.printed_strategy.specs.StrategyText.{input_names, output_names}

-- agent first the specification's names are the outputs and then the inputs of the text
pub agent_first_names : (parts : Partition) (names : List (List ℕ)) → output_names Agent parts names ++ input_names Agent parts names ≡ names
agent_first_names parts names = take-append-drop parts.outputs names

-- environment first they are in the order of the text
pub environment_first_names : (parts : Partition) (names : List (List ℕ)) → input_names Environment parts names ++ output_names Environment parts names ≡ names
environment_first_names parts names = take-append-drop parts.inputs names
