-- Locations that lead alike are one arena: what a store that grows keeps of an arena.
use Rattle.std.proofs.Common.{◌≡◌, ◌<◌, ◌+◌, ◌^◌, ℕ, [], ◌∷◌, inl, inr, refl, sym, ◌∙◌, ap, subst, Bool, true, false, Option, Some, None, nat_lt, if◌then◌else◌}
use Rattle.std.specs.Prelude.{◌↔◌}
use Rattle.std.proofs.lemmas.Bool.{ltb-true}
use Rattle.automata.proofs.Words.{over-head, over-tail}
use Rattle.forms.specs.Word.{Word, IsOver}
use Rattle.forms.specs.declared.partition.Partition.{Partition}
use Rattle.forms.specs.declared.partition.Mover.{Mover}
use Rattle.forms.specs.declared.partition.Mover.TheVariants.{Agent, Environment}
use Rattle.game.specs.Board.{width}
use Rattle.game.specs.Winning.{WinsWithin, ReachesWithin}
use Rattle.game.specs.Histories.{Aims}
use Rattle.game.specs.Arena.{Locations, locations, location_from, LeadsTo, IsArenaOf, IsDecisionThere}
use Rattle.game.specs.Simulates.{Simulates}
use Rattle.game.proofs.Simulation.{turned, wins, reaches}
use Rattle.layers.specs.Ranked.{AreRanks, AreDistances, GoesByInput, IsPlayableArena}
use Rattle.layers.proofs.DistanceLemmas.{met_or_not}
use Rattle.layers.proofs.HistoryLemmas.{least_carried}

-- the same locations, with letters leading elsewhere
abbrev pub leading : Locations → (ℕ → ℕ → ℕ) → Locations
leading m next = record { size = m.size; next = next; is_goal = m.is_goal; is_broken = m.is_broken }

-- at each location each letter leads to the same
abbrev pub LeadAlike : Partition → Locations → (ℕ → ℕ → ℕ) → Type 0
LeadAlike s m next = (at a : ℕ) → at < m.size → a < 2 ^ width s → m.next at a ≡ next at a

decisions_alike : (f : Mover) (i o : ℕ) (m : Locations) (next : ℕ → ℕ → ℕ) (at x : ℕ) → ((a : ℕ) → a < 2 ^ (i + o) → m.next at a ≡ next at a)
    → IsDecisionThere (record { first = f; inputs = i; outputs = o }) m at x ↔ IsDecisionThere (record { first = f; inputs = i; outputs = o }) (leading m next) at x
decisions_alike Agent i o m next at x e = (λ d. d, λ d. d)
decisions_alike Environment i o m next at x e = (
  λ (l, d). (l, λ a k q. subst (λ z. z < m.size) (e a k) (d a k q)),
  λ (l, d). (l, λ a k q. subst (λ z. z < m.size) (sym (e a k)) (d a k q)),
)

even_alike : (f : Mover) (i o : ℕ) (m : Locations) (next : ℕ → ℕ → ℕ) → ((at a : ℕ) → at < m.size → a < 2 ^ (i + o) → m.next at a ≡ next at a)
    → GoesByInput (record { first = f; inputs = i; outputs = o }) m → GoesByInput (record { first = f; inputs = i; outputs = o }) (leading m next)
even_alike Agent i o m next e even = tt
even_alike Environment i o m next e even = λ at a c h k l q g. subst (λ z. z < m.size) (e at c h l) (even at a c h k l q (subst (λ z. z < m.size) (sym (e at a h k)) g))

-- one step of a walk
abbrev step : Bool → Bool → Option ℕ → Option ℕ
step goal legal o = if goal then None else (if legal then o else None)

module _ (s : Partition) (m : Locations) (next : ℕ → ℕ → ℕ) (alike : LeadAlike s m next) where
  -- a location, and itself
  Same : ℕ → ℕ → Type 0
  Same h g = (h < m.size) × (h ≡ g)

  same_simulates : (duty : Bool) → Simulates (locations s duty m) (locations s duty (leading m next)) Same
  unfolding Same
  same_simulates duty = record {
    duty = refl;
    decided = λ h g r. met_or_not s duty m h r.0;
    met = λ h g r. (λ e. subst (λ z. m.is_goal z ≡ true) r.1 e, λ e. subst (λ z. m.is_goal z ≡ true) (sym r.1) e);
    broken = λ h g r. (λ e. subst (λ z. m.is_broken z ≡ true) r.1 e, λ e. subst (λ z. m.is_broken z ≡ true) (sym r.1) e);
    decision = λ h g r unmet x. subst (λ z. IsDecisionThere s m h x ↔ IsDecisionThere s (leading m next) z x) r.1 (decisions_alike s.first s.inputs s.outputs m next h x (λ a k. alike h a r.0 k));
    legal = λ h g r unmet a k. let e : m.next h a ≡ next g a = subst (λ z. m.next h a ≡ next z a) r.1 (alike h a r.0 k) in
        (λ l. subst (λ z. z < m.size) e l, λ l. subst (λ z. z < m.size) (sym e) l);
    kept = λ h g r unmet a k l. (l, subst (λ z. m.next h a ≡ next z a) r.1 (alike h a r.0 k));
  }

  -- ranks last
  pub ranks_alike : (duty : Bool) (rank : ℕ → Option ℕ) → AreRanks s duty m rank → AreRanks s duty (leading m next) rank
  unfolding Same
  ranks_alike duty rank r at h =
      let b = locations s duty m in
      let c = locations s duty (leading m next) in
      let sim = same_simulates duty in
      least_carried (λ n. WinsWithin (locations s duty m) n at) (λ n. WinsWithin (locations s duty (leading m next)) n at)
      (λ n w. wins b c Same sim n at at (h, refl) w) (λ n w. wins c b (λ k g. Same g k) (turned b c Same sim) n at at (h, refl) w) (rank at) (r at h)

  -- and so do distances
  pub distances_alike : (duty : Bool) (distance : ℕ → Option ℕ) → AreDistances s duty m distance → AreDistances s duty (leading m next) distance
  unfolding Same
  distances_alike duty distance r at h =
      let b = locations s duty m in
      let c = locations s duty (leading m next) in
      let sim = same_simulates duty in
      least_carried (λ n. ReachesWithin (locations s duty m) n at) (λ n. ReachesWithin (locations s duty (leading m next)) n at)
      (λ n w. reaches b c Same sim n at at (h, refl) w) (λ n w. reaches c b (λ k g. Same g k) (turned b c Same sim) n at at (h, refl) w) (distance at) (r at h)

  -- what goes by input still does
  pub goes_alike : GoesByInput s m → GoesByInput s (leading m next)
  goes_alike even = even_alike s.first s.inputs s.outputs m next alike even

  -- and what can be played
  pub playable_alike : (duty : Bool) → IsPlayableArena s duty m → IsPlayableArena s duty (leading m next)
  playable_alike duty p = record {
    kept = λ h i unmet a k l. l;
    belongs = λ h i unmet a k l. (decisions_alike s.first s.inputs s.outputs m next h _ (λ b j. alike h b i j)).0 (p.belongs h i unmet a k (subst (λ z. z < m.size) (sym (alike h a i k)) l));
    decides = λ h i unmet. let d = p.decides h i unmet in (d.0, (decisions_alike s.first s.inputs s.outputs m next h d.0 (λ b j. alike h b i j)).0 d.1);
    goes_on = λ h i unmet x y d o.
        let q = p.goes_on h i unmet x y ((decisions_alike s.first s.inputs s.outputs m next h x (λ b j. alike h b i j)).1 d) o in
        (q.0, q.1, subst (λ z. z < m.size) (alike h q.0 i q.1.letter) q.2);
  }

same_step : (g l : Bool) (o q : Option ℕ) → (l ≡ true → o ≡ q) → step g l o ≡ step g l q
same_step true l o q f = refl
same_step false true o q f = f refl
same_step false false o q f = refl

-- words lead to the same
walk_alike : (p : ℕ) (m : Locations) (next : ℕ → ℕ → ℕ) → ((at a : ℕ) → at < m.size → a < 2 ^ p → m.next at a ≡ next at a)
    → (w : Word) (at : ℕ) → IsOver p w → at < m.size → location_from m at w ≡ location_from (leading m next) at w
walk_alike p m next alike [] at o h = refl
walk_alike p m next alike (a ∷ w) at o h =
    let z = m.next at a in
    same_step (m.is_goal at) (nat_lt z m.size) (location_from m z w) (location_from (leading m next) z w)
    (λ t. walk_alike p m next alike w z (over-tail p a w o) (ltb-true z m.size t))
    ∙ ap (λ x. step (m.is_goal at) (nat_lt x m.size) (location_from (leading m next) x w)) (alike at a h (over-head p a w o))

-- what is the arena of a specification still is
pub arena_alike : (s : Aims) (m : Locations) (next : ℕ → ℕ → ℕ) → LeadAlike s.parts m next → IsArenaOf s m → IsArenaOf s (leading m next)
arena_alike s m next alike arena =
    let p = width s.parts in
    let to : (h : Word) (at : ℕ) → LeadsTo (width s.parts) m h at → LeadsTo (width s.parts) (leading m next) h at = λ h at x.
    record { over = x.over; leads = sym (walk_alike p m next alike h 0 x.over arena.numbered.some) ∙ x.leads } in
    let back : (h : Word) (at : ℕ) → LeadsTo (width s.parts) (leading m next) h at → LeadsTo (width s.parts) m h at = λ h at x.
    record { over = x.over; leads = walk_alike p m next alike h 0 x.over arena.numbered.some ∙ x.leads } in
    record {
      live = λ h o. let l = arena.live h o in (λ e. let q = l.0 e in (q.0, to h q.0 q.1), λ q. l.1 (q.0, back h q.0 q.1));
      shared = λ u v i j x y. arena.shared u v i j (back u i x) (back v j y);
      goal = λ h at x. arena.goal h at (back h at x);
      broken = λ h at x. arena.broken h at (back h at x);
      numbered = record {
        some = arena.numbered.some;
        word = arena.numbered.word;
        least = λ at h. let l = arena.numbered.least at h in
            record { leads = to (arena.numbered.word at) at l.leads; least = λ v x. l.least v (back v at x) };
        order = arena.numbered.order;
      };
    }
