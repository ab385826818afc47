-- An arena as its store grows.
use Rattle.std.proofs.Common.{◌≡◌, ◌<◌, ◌+◌, ℕ, length, sym, ◌∙◌, ap, Bool, Option}
use Rattle.diagrams.specs.Eval.{Diagrams, eval, letter_truth, id_at}
use Rattle.diagrams.specs.Live.{Keeps}
use Rattle.diagrams.proofs.Meaning.{eval-lasts}
use Rattle.automata.proofs.Lasts.{row_lasts}
use Rattle.game.specs.Board.{Partition}
use Rattle.game.specs.Histories.{Aims}
use Rattle.game.specs.Arena.{IsArenaOf}
use Rattle.layers.specs.Ranked.{AreRanks, AreDistances, GoesByInput, IsPlayableArena}
use Rattle.layers.proofs.SameLocations.{goes_alike, playable_alike, ranks_alike, distances_alike, arena_alike}
use Rattle.arena.specs.Left.{ArenaTable, FitsArena, locations_of}

module _ (s n : Diagrams) (k : Keeps s n) (t : ArenaTable) (fit : FitsArena s t) where
  -- each letter leads where it led
  next-lasts : (at a : ℕ) → at < length t.rows → (locations_of s t).next at a ≡ (locations_of n t).next at a
  next-lasts at a h =
      sym (ap (λ p. eval n (id_at t.rows at) (letter_truth p a)) k.extends.props
      ∙ eval-lasts s n k.was k.now k.extends (id_at t.rows at) (fit.rows at h).live (letter_truth s.props a))

  -- an arena that fits a store fits it when it has grown
  pub arena_fits : FitsArena n t
  arena_fits = record {
    rows = λ at h. row_lasts s n k (length t.rows + 1) (id_at t.rows at) (fit.rows at h);
    rests = λ at h e a. eval-lasts s n k.was k.now k.extends (id_at t.rows at) (fit.rows at h).live a ∙ fit.rests at h e a;
  }

  pub goes_on_by_input : (p : Partition) → GoesByInput p (locations_of s t) → GoesByInput p (locations_of n t)
  goes_on_by_input p even = goes_alike p (locations_of s t) (locations_of n t).next (λ at a h l. next-lasts at a h) even

  pub stays_playable : (p : Partition) (duty : Bool) → IsPlayableArena p duty (locations_of s t) → IsPlayableArena p duty (locations_of n t)
  stays_playable p duty g = playable_alike p (locations_of s t) (locations_of n t).next (λ at a h l. next-lasts at a h) duty g

  -- ranks, distances and what it is an arena of stay
  pub ranks_last : (p : Partition) (duty : Bool) (rank : ℕ → Option ℕ) → AreRanks p duty (locations_of s t) rank → AreRanks p duty (locations_of n t) rank
  ranks_last p duty rank r = ranks_alike p (locations_of s t) (locations_of n t).next (λ at a h l. next-lasts at a h) duty rank r

  pub distances_last : (p : Partition) (duty : Bool) (distance : ℕ → Option ℕ) → AreDistances p duty (locations_of s t) distance → AreDistances p duty (locations_of n t) distance
  distances_last p duty distance d = distances_alike p (locations_of s t) (locations_of n t).next (λ at a h l. next-lasts at a h) duty distance d

  pub arena_lasts : (a : Aims) → IsArenaOf a (locations_of s t) → IsArenaOf a (locations_of n t)
  arena_lasts a i = arena_alike a (locations_of s t) (locations_of n t).next (λ at c h l. next-lasts at c h) i
