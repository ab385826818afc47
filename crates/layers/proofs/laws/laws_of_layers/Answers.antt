use Rattle.std.proofs.Common.{◌<◌}
use Rattle.game.specs.Arena.{locations}
use Rattle.layers.proofs.Layers.{wins_stable, fails_stable}
use Rattle.layers.proofs.laws.laws_of_layers.Goals as goal

pub returns : goal.returns
returns c = record {
  stable = λ s duty m n one k at h w. wins_stable (locations s duty m) (λ i. i < m.size) (λ i a x l g. g) n one k at h w;
  losses = λ s duty m n one k at h w. fails_stable (locations s duty m) (λ i. i < m.size) (λ i a x l g. g) n one k at h w;
}
