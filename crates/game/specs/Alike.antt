-- Histories that nothing tells apart.
use Rattle.std.specs.Prelude.{◌≡◌, ◌↔◌, ◌++◌}
use Rattle.forms.specs.Word.{Word, IsOver}
use Rattle.game.specs.Board.{width}
use Rattle.game.specs.Histories.{Aims, IsViolated}

-- with each continuation the two agree on the goal, on what is assumed and on the duty
pub record AreAlike (s : Aims) (u v : Word) : Type 0 where
  pub goal : (w : Word) → IsOver (width s.parts) w → s.goal (u ++ w) ≡ s.goal (v ++ w)
  pub assumed : (w : Word) → IsOver (width s.parts) w → IsViolated s.assumed (u ++ w) ↔ IsViolated s.assumed (v ++ w)
  pub duty : (w : Word) → IsOver (width s.parts) w → IsViolated s.duty (u ++ w) ↔ IsViolated s.duty (v ++ w)
