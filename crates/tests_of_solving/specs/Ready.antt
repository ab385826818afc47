-- Arenas that can be solved.
use Rattle.std.specs.Prelude.{◌≡◌}
use Rattle.diagrams.specs.Eval.{Diagrams}
use Rattle.game.specs.Board.{width}
use Rattle.layers.specs.Ranked.{GoesByInput, IsPlayableArena}
use Rattle.arena.specs.Left.{ArenaTable, FitsArena, locations_of}

-- the arena fits the store, and the game goes on there
pub record IsReady (s : Diagrams) (t : ArenaTable) : Type 0 where
  pub fits : FitsArena s t
  pub width : width t.partition ≡ s.props
  pub even : GoesByInput t.partition (locations_of s t)
  pub playable : IsPlayableArena t.partition t.has_duty (locations_of s t)
