-- On an arena, environment first, the rounds of one input are legal together.
use Rattle.std.proofs.Common.{◌≡◌, ◌<◌, ◌^◌, ◌+◌, ℕ, inl, inr, sym, ◌∙◌, subst, true, Option}
use Rattle.std.proofs.lemmas.Bool.{cases_Bool, true≢false}
use Rattle.forms.specs.Word.{Claim}
use Rattle.game.specs.Board.{Mover, Agent, Environment, width}
use Rattle.game.specs.Histories.{Aims, IsDone}
use Rattle.game.specs.Arena.{Locations, IsArenaOf}
use Rattle.game.proofs.ArenaLemmas.{arena_simulates}
use Rattle.layers.specs.Ranked.{GoesByInput}

-- each letter leads from a location that meets the goal to itself
abbrev pub Rests : ℕ → Locations → Type 0
Rests p m = (at a : ℕ) → at < m.size → m.is_goal at ≡ true → a < 2 ^ p → m.next at a ≡ at

even_by : (d : Mover) (i o : ℕ) (g : Claim) (k u : Option Claim) (m : Locations) → IsArenaOf (record { parts = record { first = d; inputs = i; outputs = o }; goal = g; assumed = k; duty = u }) m → Rests (i + o) m
    → GoesByInput (record { first = d; inputs = i; outputs = o }) m
even_by Agent i o g k u m arena rests = tt
even_by Environment i o g k u m arena rests =
    let s : Aims = record { parts = record { first = Environment; inputs = i; outputs = o }; goal = g; assumed = k; duty = u } in
    let sim = arena_simulates s m arena in
    λ at a c h j l e legal. elim (cases_Bool (m.is_goal at)) [
      | inl met ↦ subst (λ z. z < m.size) (sym (rests at c h met l)) h
      | inr unmet_there ↦
          let word = arena.numbered.word at in
          let leads = (arena.numbered.least at h).leads in
          let unmet : ¬ IsDone s word = λ d. true≢false (sym ((arena.goal word at leads).1 d) ∙ unmet_there) in
          let all = (sim.legal word at leads unmet a j).1 legal in
          (sim.legal word at leads unmet c l).0 (λ b f same. all b f (same ∙ sym e))
    ]

pub arena_even : (s : Aims) (m : Locations) → IsArenaOf s m → Rests (width s.parts) m → GoesByInput s.parts m
arena_even s m arena rests = even_by s.parts.first s.parts.inputs s.parts.outputs s.goal s.assumed s.duty m arena rests
