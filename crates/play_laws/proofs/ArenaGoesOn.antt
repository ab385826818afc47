-- The game goes on at the locations of an arena.
use Rattle.std.proofs.Common.{◌≡◌, ◌<◌, ◌⊎◌, ℕ, [], refl, sym, ◌∙◌, inl, inr, Option, Some, None}
use Rattle.std.proofs.lemmas.Option.{none-some}
use Rattle.forms.specs.Word.{Word}
use Rattle.game.specs.Board.{Partition, Board, width}
use Rattle.game.specs.Histories.{Aims, histories, IsHistory, IsLiveHistory, IsKeepable, IsLive, is_given}
use Rattle.game.specs.Arena.{Locations, locations, location_from as location_on, LeadsTo, IsArenaOf}
use Rattle.game.specs.Simulates.{Simulates}
use Rattle.game.proofs.Simulation.{turned}
use Rattle.game.proofs.ArenaLemmas.{arena_simulates, walk-within}
use Rattle.game.specs.Playing.{GoesOn}
use Rattle.play_laws.proofs.HistoriesGoOn.{goes_on_same, live_go_on}

-- where one board goes on, so does one that simulates it, at related places
pub goes_on_there : {s : Partition} (b c : Board s) (R : b.Place → c.Place → Type 0) → Simulates b c R → (I : b.Place → Type 0) → GoesOn b I
    → GoesOn c (λ g. (h : b.Place) × I h × R h g)
goes_on_there b c R sim I on =
    let unmet_here : (h : b.Place) (g : c.Place) → R h g → ¬ c.IsMet g → ¬ b.IsMet h = λ h g r unmet m. unmet ((sim.met h g r).0 m) in
    record {
      playable = record {
        kept = λ g (h, i, r) unmet a k l.
            let u = unmet_here h g r unmet in
            let l2 = (sim.legal h g r u a k).1 l in
            (b.after h a, on.playable.kept h i u a k l2, sim.kept h g r u a k l2);
        belongs = λ g (h, i, r) unmet a k l.
            let u = unmet_here h g r unmet in
            (sim.decision h g r u _).0 (on.playable.belongs h i u a k ((sim.legal h g r u a k).1 l));
        decides = λ g (h, i, r) unmet.
            let u = unmet_here h g r unmet in
            let d = on.playable.decides h i u in
            (d.0, (sim.decision h g r u d.0).0 d.1);
        goes_on = λ g (h, i, r) unmet x y d o.
            let u = unmet_here h g r unmet in
            let w = on.playable.goes_on h i u x y ((sim.decision h g r u x).1 d) o in
            (w.0, w.1, (sim.legal h g r u w.0 w.1.letter).0 w.2);
      };
      met = λ g (h, i, r). (turned b c R sim).decided g h r;
      broken = λ g a (h, i, r) unmet k l w.
          let u = unmet_here h g r unmet in
          let l2 = (sim.legal h g r u a k).1 l in
          (sim.broken (b.after h a) (c.after g a) (sim.kept h g r u a k l2)).0 (on.broken h a i u k l2 ((sim.broken h g r).1 w));
    }

module _ (s : Aims) (m : Locations) (arena : IsArenaOf s m) where
  live-by : (h : Word) → IsHistory s h → (o : Option ℕ) → location_on m 0 h ≡ o → IsLive s h ⊎ (¬ IsLive s h)
  live-by h over None e = inr (λ live. let x = (arena.live h over).0 live in none-some x.0 (sym e ∙ x.1.leads))
  live-by h over (Some at) e = inl ((arena.live h over).1 (at, record { over = over; leads = e }))

  -- the locations of an arena
  pub arena_goes_on : IsKeepable s [] → GoesOn (locations s.parts (is_given s.duty) m) (λ at. at < m.size)
  arena_goes_on keep =
      let R : Word → ℕ → Type 0 = λ h at. LeadsTo (width s.parts) m h at in
      let board = locations s.parts (is_given s.duty) m in
      let on = goes_on_there (histories s) board R (arena_simulates s m arena) (IsLiveHistory s)
      (live_go_on s (λ h over. live-by h over (location_on m 0 h) refl) keep) in
      goes_on_same board (λ at. (h : Word) × IsLiveHistory s h × R h at) (λ at. at < m.size)
      (λ at (h, live, x). walk-within m 0 at h arena.numbered.some x.leads)
      (λ at l.
      let x = (arena.numbered.least at l).leads in
      (arena.numbered.word at, (x.over, (arena.live (arena.numbered.word at) x.over).1 (at, x)), x))
      on
