-- An arena can be played on.
use Rattle.std.proofs.Common.{◌≡◌, ◌<◌, ℕ, true}
use Rattle.forms.specs.Word.{IsOver}
use Rattle.game.specs.Board.{width, decision_of}
use Rattle.game.specs.Histories.{Aims, IsDone, IsLegalHistory, histories, is_given}
use Rattle.game.specs.Arena.{Locations, locations, LeadsTo, IsArenaOf}
use Rattle.game.specs.Playable.{IsPlayable}
use Rattle.game.proofs.HistoryLemmas.{live_legal}
use Rattle.game.proofs.ArenaLemmas.{arena_simulates}

-- from a location its least history goes on as it does
pub arena_playable : (s : Aims) (m : Locations) → IsArenaOf s m → IsPlayable (histories s) (λ h. IsOver (width s.parts) h × IsLegalHistory s h)
    → IsPlayable (locations s.parts (is_given s.duty) m) (λ at. at < m.size)
arena_playable s m arena play =
    let p = width s.parts in
    let sim = arena_simulates s m arena in
    let word = arena.numbered.word in
    let leads : (at : ℕ) → at < m.size → LeadsTo p m (word at) at = λ at h. (arena.numbered.least at h).leads in
    let legal : (at : ℕ) (h : at < m.size) → IsOver p (word at) × IsLegalHistory s (word at) =
    λ at h. let x = leads at h in (x.over, live_legal s (word at) ((arena.live (word at) x.over).1 (at, x))) in
    let unmet : (at : ℕ) (h : at < m.size) → (m.is_goal at ≡ true → ⊥) → IsDone s (word at) → ⊥ = λ at h no_goal d. no_goal ((arena.goal (word at) at (leads at h)).1 d) in
    record {
      kept = λ at h no_goal a l k. k;
      belongs = λ at h no_goal a l k.
          let x = leads at h in
          (sim.decision (word at) at x (unmet at h no_goal) (decision_of s.parts a)).0
          (play.belongs (word at) (legal at h) (unmet at h no_goal) a l ((sim.legal (word at) at x (unmet at h no_goal) a l).1 k));
      decides = λ at h no_goal.
          let d = play.decides (word at) (legal at h) (unmet at h no_goal) in
          (d.0, (sim.decision (word at) at (leads at h) (unmet at h no_goal) d.0).0 d.1);
      goes_on = λ at h no_goal x y d o.
          let q = leads at h in
          let r = play.goes_on (word at) (legal at h) (unmet at h no_goal) x y ((sim.decision (word at) at q (unmet at h no_goal) x).1 d) o in
          (r.0, r.1, (sim.legal (word at) at q (unmet at h no_goal) r.0 r.1.letter).0 r.2);
    }
