-- Least numbers of locations are those of the histories that lead to them.
use Rattle.std.proofs.Common.{◌≡◌, ◌<◌, ℕ, suc, [], ◌∷◌, inl, inr, refl, sym, ◌∙◌, ap, subst, Bool, true, false, Option, Some, None, nat_lt, if◌then◌else◌}
use Rattle.std.proofs.lemmas.Bool.{cases_Bool, ltb-true}
use Rattle.forms.specs.Word.{Word}
use Rattle.game.specs.Board.{width}
use Rattle.game.specs.Winning.{WinsWithin, ReachesWithin, CanMeetWithin, FailsDutyWithin}
use Rattle.game.specs.Following.{RefutesWithin}
use Rattle.game.specs.Histories.{Aims, histories, is_given, IsDecisionAt}
use Rattle.game.specs.Arena.{Locations, locations, location_from, LeadsTo, IsArenaOf, IsDecisionThere}
use Rattle.game.specs.Numbers.{IsLeastOrNone}
use Rattle.game.proofs.ArenaLemmas.{arena_simulates}
use Rattle.game.proofs.Simulation.{turned, wins, reaches, can_meet}
use Rattle.game.proofs.SimulatedPlay.{refutes}
use Rattle.game.specs.Marks.{CanKeepDuty}
use Rattle.game.proofs.SimulatedDuty.{fails_duty, keeps_duty, never_there, never_after}
use Rattle.layers.specs.Ranked.{AreRanks, AreDistances}
use Rattle.layers.specs.HistoryNumbers.{AreHistoryRanks, AreHistoryDistances, answers_there, history_answers}

-- one step of a walk
abbrev step : Bool → Bool → Option ℕ → Option ℕ
step goal legal o = if goal then None else (if legal then o else None)

step_legal : (g l : Bool) (o : Option ℕ) (q : ℕ) → step g l o ≡ Some q → (l ≡ true) × (o ≡ Some q)
step_legal true l o q e = cc
step_legal false true o q e = (refl, e)
step_legal false false o q e = cc

-- a walk ends at a location
from_within : (m : Locations) (at r : ℕ) (h : Word) → at < m.size → location_from m at h ≡ Some r → r < m.size
from_within m at r [] l e = let f : at ≡ r = cc in subst (λ z. z < m.size) f l
from_within m at r (a ∷ h) l e =
    let p = step_legal (m.is_goal at) (nat_lt (m.next at a) m.size) (location_from m (m.next at a) h) r e in
    from_within m (m.next at a) r h (ltb-true (m.next at a) m.size p.0) p.1

-- what a word leads to is a location
pub leads_within : (s : Aims) (m : Locations) → IsArenaOf s m → (h : Word) (at : ℕ) → LeadsTo (width s.parts) m h at → at < m.size
leads_within s m arena h at x = from_within m 0 at h arena.numbered.some x.leads

-- a least number is that of what holds at the same numbers
pub least_carried : (P Q : ℕ → Type 0) → ((n : ℕ) → P n → Q n) → ((n : ℕ) → Q n → P n) → (v : Option ℕ) → IsLeastOrNone P v → IsLeastOrNone Q v
least_carried P Q to back None f = λ k q. f k (back k q)
least_carried P Q to back (Some n) f = record { holds = to n f.holds; least = λ k h q. f.least k h (back k q) }

module _ (s : Aims) (m : Locations) (arena : IsArenaOf s m) where
  -- a history that leads to a location, and that location
  abbrev Leads : Word → ℕ → Type 0
  Leads h at = LeadsTo (width s.parts) m h at

  -- ranks of locations are those of histories
  pub history_ranks : (rank : ℕ → Option ℕ) → AreRanks s.parts (is_given s.duty) m rank → AreHistoryRanks s m rank
  history_ranks rank r h at x =
      let b = histories s in
      let c = locations s.parts (is_given s.duty) m in
      let sim = arena_simulates s m arena in
      least_carried (λ n. WinsWithin (locations s.parts (is_given s.duty) m) n at) (λ n. WinsWithin (histories s) n h)
      (λ n w. wins c b (λ k g. Leads g k) (turned b c Leads sim) n at h x w) (λ n w. wins b c Leads sim n h at x w) (rank at) (r at (leads_within s m arena h at x))

  -- and so are distances
  pub history_distances : (distance : ℕ → Option ℕ) → AreDistances s.parts (is_given s.duty) m distance → AreHistoryDistances s m distance
  history_distances distance r h at x =
      let b = histories s in
      let c = locations s.parts (is_given s.duty) m in
      let sim = arena_simulates s m arena in
      least_carried (λ n. ReachesWithin (locations s.parts (is_given s.duty) m) n at) (λ n. ReachesWithin (histories s) n h)
      (λ n w. reaches c b (λ k g. Leads g k) (turned b c Leads sim) n at h x w) (λ n w. reaches b c Leads sim n h at x w) (distance at) (r at (leads_within s m arena h at x))

  -- what can be met from a location can be from its histories
  pub history_meets : (n : ℕ) (h : Word) (at : ℕ) → LeadsTo (width s.parts) m h at → CanMeetWithin (locations s.parts (is_given s.duty) m) n at → CanMeetWithin (histories s) n h
  history_meets n h at x w =
      let b = histories s in
      let c = locations s.parts (is_given s.duty) m in
      can_meet c b (λ k g. Leads g k) (turned b c Leads (arena_simulates s m arena)) n at h x w

  -- and the other way round
  pub location_meets : (n : ℕ) (h : Word) (at : ℕ) → LeadsTo (width s.parts) m h at → CanMeetWithin (histories s) n h → CanMeetWithin (locations s.parts (is_given s.duty) m) n at
  location_meets n h at x w = can_meet (histories s) (locations s.parts (is_given s.duty) m) Leads (arena_simulates s m arena) n h at x w

  -- answers that refute from a location do so from its histories
  pub history_refutes : (answer : ℕ → Option (ℕ → ℕ)) (n : ℕ) (h : Word) (at : ℕ) → LeadsTo (width s.parts) m h at
      → RefutesWithin (locations s.parts (is_given s.duty) m) answer n at → RefutesWithin (histories s) (history_answers m answer) n h
  history_refutes answer n h at x w =
      let b = histories s in
      let c = locations s.parts (is_given s.duty) m in
      refutes c b (λ k g. Leads g k) answer (history_answers m answer) (turned b c Leads (arena_simulates s m arena))
      (λ k g y unmet. ap (answers_there answer) (sym y.leads)) n at h x w

  -- where the goal can't be met, losses of locations are those of histories
  pub history_losses : (loss : Option ℕ) (h : Word) (at : ℕ) → LeadsTo (width s.parts) m h at → ((k : ℕ) → ¬ CanMeetWithin (locations s.parts (is_given s.duty) m) k at)
      → IsLeastOrNone (λ n. FailsDutyWithin (locations s.parts (is_given s.duty) m) n at) loss → IsLeastOrNone (λ n. FailsDutyWithin (histories s) n h) loss
  history_losses loss h at x never f =
      let b = histories s in
      let c = locations s.parts (is_given s.duty) m in
      let sim = arena_simulates s m arena in
      let back = turned b c Leads sim in
      least_carried (λ n. FailsDutyWithin (locations s.parts (is_given s.duty) m) n at) (λ n. FailsDutyWithin (histories s) n h)
      (λ n w. fails_duty c b (λ k g. Leads g k) back n at h x never w)
      (λ n w. fails_duty b c Leads sim n h at x (never_there c b (λ k g. Leads g k) back at h x never) w) loss f

  -- where the goal can't be met, a decision at a history is one at the location
  pub decision_leads : (h : Word) (at x : ℕ) → LeadsTo (width s.parts) m h at → ((k : ℕ) → ¬ CanMeetWithin (locations s.parts (is_given s.duty) m) k at) → IsDecisionAt s h x → IsDecisionThere s.parts m at x
  decision_leads h at x l never d =
      let sim = arena_simulates s m arena in
      (sim.decision h at l (λ e. never 0 ((sim.met h at l).0 e)) x).0 d

  -- and an output that keeps the duty there keeps it at the history
  pub history_keeps : (h : Word) (at x : ℕ) → LeadsTo (width s.parts) m h at → ((k : ℕ) → ¬ CanMeetWithin (locations s.parts (is_given s.duty) m) k at)
      → CanKeepDuty (locations s.parts (is_given s.duty) m) at x → CanKeepDuty (histories s) h x
  history_keeps h at x l never (y, o, keeps) =
      let b = histories s in
      let c = locations s.parts (is_given s.duty) m in
      (y, o, keeps_duty c b (λ k g. Leads g k) (turned b c Leads (arena_simulates s m arena)) at h l (never 0) x (λ z a r legal. never_after c at never a r.letter legal) y keeps)
