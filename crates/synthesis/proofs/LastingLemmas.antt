-- Arenas as their stores grow.
use Rattle.std.proofs.Common.{◌≡◌, ◌<◌, ◌+◌, ℕ, List, Option, refl, sym, ◌∙◌, ap, true, length}
use Rattle.diagrams.specs.declared.top.Id.{Id}
use Rattle.diagrams.specs.Eval.{Diagrams, eval, id_at, letter_truth}
use Rattle.diagrams.specs.Live.{Keeps}
use Rattle.diagrams.proofs.Meaning.{eval-lasts}
use Rattle.automata.proofs.Lasts.{row_lasts}
use Rattle.arena.specs.Left.{ArenaTable, FitsArena, locations_of}
use Rattle.game.specs.Board.{width}
use Rattle.game.specs.Histories.{Aims}
use Rattle.game.specs.Arena.{IsArenaOf}
use Rattle.layers.specs.Ranked.{AreRanks, AreDistances, GoesByInput, IsPlayableArena}
use Rattle.adversarial.specs.Answered.{AreAnswers}
use Rattle.synthesis.proofs.AlikeLemmas.{AreAlike, alike_even, alike_playable, alike_ranks, alike_distances, alike_answers, alike_arena}

-- an arena stays one that fits
pub arena_lasts : (s n : Diagrams) → Keeps s n → (t : ArenaTable) → FitsArena s t → FitsArena n t
arena_lasts s n k t fit = record {
  rows = λ at h. row_lasts s n k (length t.rows + 1) (id_at t.rows at) (fit.rows at h);
  rests = λ at h goal a. eval-lasts s n k.was k.now k.extends (id_at t.rows at) (fit.rows at h).live a ∙ fit.rests at h goal a;
}

-- its locations stay as they are
pub locations_last : (s n : Diagrams) → Keeps s n → (t : ArenaTable) → FitsArena s t → AreAlike (locations_of s t) (locations_of n t)
locations_last s n k t fit = record {
  size = refl;
  goal = λ at. refl;
  broken = λ at. refl;
  next = λ at a h.
      ap (λ p. eval s (id_at t.rows at) (letter_truth p a)) (sym k.extends.props)
      ∙ sym (eval-lasts s n k.was k.now k.extends (id_at t.rows at) (fit.rows at h).live (letter_truth n.props a));
}

-- what is said of its locations stays so
module _ (s n : Diagrams) (k : Keeps s n) (t : ArenaTable) (fit : FitsArena s t) where
  pub width_lasts : width t.partition ≡ s.props → width t.partition ≡ n.props
  width_lasts e = e ∙ sym k.extends.props

  pub even_lasts : GoesByInput t.partition (locations_of s t) → GoesByInput t.partition (locations_of n t)
  even_lasts even = alike_even t.partition (locations_of s t) (locations_of n t) (locations_last s n k t fit) even

  pub playable_lasts : IsPlayableArena t.partition t.has_duty (locations_of s t) → IsPlayableArena t.partition t.has_duty (locations_of n t)
  playable_lasts play = alike_playable t.partition t.has_duty (locations_of s t) (locations_of n t) (locations_last s n k t fit) play

  pub ranks_last : (rank : ℕ → Option ℕ) → AreRanks t.partition t.has_duty (locations_of s t) rank → AreRanks t.partition t.has_duty (locations_of n t) rank
  ranks_last rank r = alike_ranks t.partition t.has_duty (locations_of s t) (locations_of n t) (locations_last s n k t fit) rank r

  pub distances_last : (distance : ℕ → Option ℕ) → AreDistances t.partition t.has_duty (locations_of s t) distance
      → AreDistances t.partition t.has_duty (locations_of n t) distance
  distances_last distance r = alike_distances t.partition t.has_duty (locations_of s t) (locations_of n t) (locations_last s n k t fit) distance r

  pub answers_last : (m : Diagrams) → Keeps m n → (rank : ℕ → Option ℕ) → AreRanks t.partition t.has_duty (locations_of s t) rank → (tables : List (Option Id))
      → AreAnswers m t.partition t.has_duty (locations_of s t) rank tables → AreAnswers n t.partition t.has_duty (locations_of n t) rank tables
  answers_last m j rank r tables x =
      alike_answers t.partition t.has_duty (locations_of s t) (locations_of n t) (locations_last s n k t fit) m n j rank r tables x

  pub arena_of_lasts : (a : Aims) → IsArenaOf a (locations_of s t) → IsArenaOf a (locations_of n t)
  arena_of_lasts a arena = alike_arena a (locations_of s t) (locations_of n t) (locations_last s n k t fit) arena
