-- The locations of an arena whose rows are diagrams, and the sides of the agent and of the environment.
use Rattle.std.specs.Prelude.{◌≡◌, ◌<◌, ℕ, Bool, true, false, List, length, Option}
use Rattle.diagrams.specs.declared.top.Id.{Id}
use Rattle.diagrams.specs.Eval.{Diagrams, eval, id_at, letter_truth, DependsOn}
use Rattle.diagrams.specs.Live.{IsCanonical}
use Rattle.game.specs.Board.{width}
use Rattle.forms.specs.declared.partition.Partition.{Partition}
use Rattle.forms.specs.declared.partition.Mover.TheVariants.{Agent, Environment}
use Rattle.game.specs.Arena.{Locations}
use Rattle.layers.specs.Ranked.{GoesByInput}
use Rattle.attractor.specs.declared.rows.Sides.{Sides}
use Rattle.attractor.specs.Graph.{number_at}
use Rattle.attractor.specs.Rows.{is_first_at, AreRows}

-- the locations with these rows
abbrev pub locations_of : Diagrams → List Id → List Bool → List Bool → Locations
locations_of s rows goals broken = record {
  size = length rows;
  next = λ at a. eval s (id_at rows at) (letter_truth s.props a);
  is_goal = is_first_at goals;
  is_broken = is_first_at broken;
}

-- the rows of an arena of these parts
pub record AreArenaRows (s : Diagrams) (parts : Partition) (rows : List Id) (goals broken : List Bool) : Type 0 where
  pub canonical : IsCanonical s
  pub props : s.props ≡ width parts
  pub rows_are : AreRows s rows
  pub letters : (at : ℕ) → at < length rows → DependsOn s (id_at rows at) (λ v. v < s.props)
  pub even : GoesByInput parts (locations_of s rows goals broken)

-- the lesser number is taken at outputs
abbrev pub agent_sides : Partition → Sides
agent_sides s = elim s.first [ Agent ↦ record { before = s.outputs; lesser_before = true } | Environment ↦ record { before = s.inputs; lesser_before = false } ]

-- the lesser number is taken at inputs
abbrev pub environment_sides : Partition → Sides
environment_sides s = elim s.first [ Agent ↦ record { before = s.outputs; lesser_before = false } | Environment ↦ record { before = s.inputs; lesser_before = true } ]
