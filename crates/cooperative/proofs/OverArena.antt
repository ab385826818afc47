-- What is said of an arena's rows is said of the arena, and of the histories of a specification whose arena it is.
use Rattle.std.proofs.Common.{◌≡◌, ◌<◌, ◌^◌, ◌⊎◌, ℕ, zero, suc, inl, inr, refl, sym, ◌∙◌, ap, subst, Bool, true, false, List, length, Option, Some, None}
use Rattle.std.specs.Prelude.{◌↔◌, IsSome}
use Rattle.diagrams.specs.declared.top.Id.{Id}
use Rattle.diagrams.specs.Eval.{Diagrams, eval, id_at, letter_truth}
use Rattle.diagrams.specs.Live.{IsCanonical}
use Rattle.attractor.specs.Graph.{number_at}
use Rattle.attractor.specs.Rows.{is_first_at}
use Rattle.forms.specs.declared.partition.Partition.{Partition}
use Rattle.game.specs.Board.{width, decision_of, output_of}
use Rattle.forms.specs.Word.{Word, IsOver}
use Rattle.game.specs.Winning.{ReachesWithin, CanMeetWithin, FailsDutyWithin}
use Rattle.game.specs.Histories.{Aims, histories, one_more, is_given, IsLegalHistory}
use Rattle.game.proofs.HistoryLemmas.{done_or_not}
use Rattle.game.proofs.Rounds.{output_small, own_round}
use Rattle.game.proofs.WinningLemmas.{reaches-by, reaches-won}
use Rattle.game.proofs.Hope.{hope_is_meeting, out_of_reach_is_never_met}
use Rattle.game.specs.Arena.{Locations, locations, LeadsTo, IsArenaOf}
use Rattle.game.specs.Numbers.{IsLeastOrNone}
use Rattle.layers.specs.Ranked.{AreRanks, AreDistances, GoesByInput, IsPlayableArena}
use Rattle.layers.specs.Distances.{AreWon}
use Rattle.layers.specs.Narrowed.{AreNarrowed}
use Rattle.layers.specs.HistoryNumbers.{AreHistoryDistances, AreBelow, AreHopesFew}
use Rattle.layers.specs.ArenaRows.{AreArenaRows}
use Rattle.layers.specs.ArenaRows as table
use Rattle.layers.proofs.ArenaLemmas.{arena_rows, arena_won}
use Rattle.layers.proofs.DistanceLemmas.{can_hope, hope_can}
use Rattle.layers.proofs.MoreBounds.{distance_most, decision_hope_few, loss_less}
use Rattle.layers.proofs.Duty.{holds_along, can_keep, decision_loss_few}
use Rattle.layers.proofs.HistoryLemmas.{leads_within, history_distances, history_meets, location_meets, history_losses, history_keeps, decision_leads}
use Rattle.arena.specs.Left.{ArenaTable, FitsArena, locations_of}
use Rattle.arena.specs.Building.{GoesOnLegally}
use Rattle.cooperative.specs.declared.loss.Loss.{Loss}
use Rattle.cooperative.specs.declared.loss.Loss.TheVariants.{Held, In}
use Rattle.cooperative.specs.Hoped.{MeetsByDistance, HistoriesMeet, IsDecidedWithin, HopeIsPossibility}
use Rattle.cooperative.specs.Lost.{loss_of, loss_where, loss_at, AreListed, IsLoss, AreKeptOrLost, AreHistoryLosses}

-- ranks of an arena are those of its rows
pub ranks_under : (s : Diagrams) (t : ArenaTable) (p : Partition) (rows : List Id) (goals : List Bool) (made ranks : List (Option ℕ)) → p ≡ t.partition → rows ≡ t.rows → goals ≡ t.goals → made ≡ ranks
    → AreRanks t.partition t.has_duty (locations_of s t) (number_at ranks) → AreRanks p false (table.locations_of s rows goals goals) (number_at made)
ranks_under s t p rows goals made ranks e f g h r =
    subst (λ z. AreRanks p false (table.locations_of s rows goals goals) (number_at z)) (sym h)
    (subst (λ z. AreRanks p false (table.locations_of s rows z z) (number_at ranks)) (sym g)
    (subst (λ z. AreRanks p false (table.locations_of s z t.goals t.goals) (number_at ranks)) (sym f)
    (subst (λ z. AreRanks z false (table.locations_of s t.rows t.goals t.goals) (number_at ranks)) (sym e) r)))

-- goals lead to themselves
pub loops_under : (s : Diagrams) (t : ArenaTable) (p : Partition) (rows : List Id) (goals : List Bool) → rows ≡ t.rows → goals ≡ t.goals → FitsArena s t
    → (at c : ℕ) → at < length rows → is_first_at goals at ≡ true → c < 2 ^ width p → eval s (id_at rows at) (letter_truth s.props c) ≡ at
loops_under s t p rows goals f g fit at c h e l =
    subst (λ z. eval s (id_at z at) (letter_truth s.props c) ≡ at) (sym f)
    (fit.rests at (subst (λ z. at < length z) f h) (subst (λ z. is_first_at z at ≡ true) g e) (letter_truth s.props c))

-- distances of the rows are those of the arena
pub distances_over : (s : Diagrams) (t : ArenaTable) (p : Partition) (rows : List Id) (goals : List Bool) (made : List (Option ℕ)) → p ≡ t.partition → rows ≡ t.rows → goals ≡ t.goals
    → AreDistances p false (table.locations_of s rows goals goals) (number_at made) → AreDistances t.partition t.has_duty (locations_of s t) (number_at made)
distances_over s t p rows goals made e f g d =
    subst (λ z. AreDistances z false (table.locations_of s t.rows t.goals t.goals) (number_at made)) e
    (subst (λ z. AreDistances p false (table.locations_of s z t.goals t.goals) (number_at made)) f
    (subst (λ z. AreDistances p false (table.locations_of s rows z z) (number_at made)) g d))

-- and so are they in another list
pub distances_narrowed : (p : Partition) (duty : Bool) (m : Locations) (numbers made : List (Option ℕ)) (count : ℕ) → count ≡ m.size → AreNarrowed numbers made count
    → AreDistances p duty m (number_at numbers) → AreDistances p duty m (number_at made)
distances_narrowed p duty m numbers made count e n d at h =
    subst (λ v. IsLeastOrNone (λ k. ReachesWithin (locations p duty m) k at) v) (sym (n.same at (subst (λ z. at < z) (sym e) h))) (d at h)

-- the list of distances that is made of the numbers over the rows has the distances of the arena
pub distances_made : (s : Diagrams) (t : ArenaTable) (p : Partition) (rows : List Id) (goals : List Bool) (numbers seen made last : List (Option ℕ)) → p ≡ t.partition → rows ≡ t.rows → goals ≡ t.goals
    → seen ≡ numbers → last ≡ made → AreNarrowed seen made (length rows) → AreDistances p false (table.locations_of s rows goals goals) (number_at numbers)
    → AreDistances t.partition t.has_duty (locations_of s t) (number_at last)
distances_made s t p rows goals numbers seen made last e f g x y n d =
    subst (λ z. AreDistances t.partition t.has_duty (locations_of s t) (number_at z)) (sym y)
    (distances_narrowed t.partition t.has_duty (locations_of s t) numbers made (length rows) (ap length f) (subst (λ z. AreNarrowed z made (length rows)) x n) (distances_over s t p rows goals numbers e f g d))

-- losses of the rows are those of the arena
pub losses_over : (s : Diagrams) (t : ArenaTable) (p : Partition) (rows : List Id) (broken : List Bool) (numbers : List (Option ℕ)) → p ≡ t.partition → rows ≡ t.rows → broken ≡ t.broken
    → ((at : ℕ) → at < length rows → IsLeastOrNone (λ n. FailsDutyWithin (locations p true (table.locations_of s rows broken broken)) n at) (number_at numbers at))
    → (at : ℕ) → at < length t.rows → IsLeastOrNone (λ n. FailsDutyWithin (locations t.partition t.has_duty (locations_of s t)) n at) (number_at numbers at)
losses_over s t p rows broken numbers e f g l =
    subst (λ z. (at : ℕ) → at < length t.rows → IsLeastOrNone (λ n. FailsDutyWithin (locations z true (table.locations_of s t.rows t.broken t.broken)) n at) (number_at numbers at)) e
    (subst (λ z. (at : ℕ) → at < length z → IsLeastOrNone (λ n. FailsDutyWithin (locations p true (table.locations_of s z t.broken t.broken)) n at) (number_at numbers at)) f
    (subst (λ z. (at : ℕ) → at < length rows → IsLeastOrNone (λ n. FailsDutyWithin (locations p true (table.locations_of s rows z z)) n at) (number_at numbers at)) g l))

module _ (s : Diagrams) (t : ArenaTable) (can : IsCanonical s) (fit : FitsArena s t) (w : width t.partition ≡ s.props) (even : GoesByInput t.partition (locations_of s t))
    (play : IsPlayableArena t.partition t.has_duty (locations_of s t)) (rank : ℕ → Option ℕ) (r : AreRanks t.partition t.has_duty (locations_of s t) rank) where
  won : (won : ℕ → ℕ → Option ℕ) × AreWon t.partition t.has_duty (locations_of s t) won
  won = arena_won s t.partition t.has_duty t.rows t.goals t.broken (arena_rows s t.partition t.rows t.goals t.broken can w fit.rows even) rank r

  module _ (distance : ℕ → Option ℕ) (d : AreDistances t.partition t.has_duty (locations_of s t) distance) where
    -- where there is hope, and only there, the goal can be met
    pub meets_there : MeetsByDistance t.partition t.has_duty (locations_of s t) distance
    meets_there = record {
      met = λ at n h e. hope_can t.partition t.has_duty (locations_of s t) won.0 won.1 play n at h
          (subst (λ v. IsLeastOrNone (λ k. ReachesWithin (locations t.partition t.has_duty (locations_of s t)) k at) v) e (d at h)).holds;
      never = λ at h e n c.
          let k = can_hope t.partition t.has_duty (locations_of s t) won.0 won.1 play n at h c in
          subst (λ v. IsLeastOrNone (λ k. ReachesWithin (locations t.partition t.has_duty (locations_of s t)) k at) v) e (d at h) k.0 k.1;
    }

    pub distances_below : AreBelow (length t.rows) distance
    distances_below at n h e = distance_most t.partition t.has_duty (locations_of s t) rank r won.0 won.1 play distance d at n h e

    pub hopes_few : AreHopesFew t.partition t.has_duty (locations_of s t)
    hopes_few at x n h f least = decision_hope_few t.partition t.has_duty (locations_of s t) rank r won.0 won.1 play distance d at x n h f least

-- distances of an arena are those of histories
pub distances_of_histories : (s : Aims) (p : Partition) (duty : Bool) (m : Locations) (distance : ℕ → Option ℕ) → s.parts ≡ p → IsArenaOf s m → AreDistances p duty m distance
    → AreHistoryDistances s m distance
distances_of_histories s p duty m distance e arena d = history_distances s m arena distance (subst (λ q. AreDistances q duty m distance) (sym e) d)

-- and so is what can be met
pub meets_of_histories : (s : Aims) (p : Partition) (duty : Bool) (m : Locations) (distance : ℕ → Option ℕ) → s.parts ≡ p → IsArenaOf s m → MeetsByDistance p duty m distance → HistoriesMeet s m distance
meets_of_histories s p duty m distance e arena x =
    let z = subst (λ q. MeetsByDistance q duty m distance) (sym e) x in
    record {
      met = λ h at n l i. history_meets s m arena n h at l (z.met at n (leads_within s m arena h at l) i);
      never = λ h at l i n c. z.never at (leads_within s m arena h at l) i n (location_meets s m arena n h at l c);
    }

none_by : (r d v : Option ℕ) (o : Option Loss) → o ≡ loss_where r d v → (o ≡ None) ↔ (IsSome r ⊎ IsSome d)
none_by (Some k) d v o e = (λ _. inl refl, λ _. e)
none_by None (Some j) v o e = (λ _. inr refl, λ _. e)
none_by None None v o e = (λ n. absurd (cc), λ q. elim q [ inl z ↦ absurd (cc) | inr z ↦ absurd (cc) ])

where_some : (r d v : Option ℕ) (loss : Loss) → loss_where r d v ≡ Some loss → (d ≡ None) × (loss_of v ≡ loss)
where_some (Some k) d v loss e = absurd (cc)
where_some None (Some j) v loss e = absurd (cc)
where_some None None v loss e = (refl, cc)

loss_right : (P : ℕ → Type 0) (v : Option ℕ) → IsLeastOrNone P v → IsLoss P (loss_of v)
loss_right P None f = f
loss_right P (Some n) f = f

held_none : (v : Option ℕ) → loss_of v ≡ Held → v ≡ None
held_none None e = refl
held_none (Some k) e = absurd (cc)

loss_in : (v : Option ℕ) (n : ℕ) → loss_of v ≡ In n → v ≡ Some n
loss_in None n e = absurd (cc)
loss_in (Some k) n e = let z : k ≡ n = cc in ap (λ i. Some i) z

-- what was listed of other lists
pub listed_over : (ranks r distances d numbers n : List (Option ℕ)) (losses : List (Option Loss)) (size : ℕ) → r ≡ ranks → d ≡ distances → n ≡ numbers → length ranks ≡ size
    → AreListed r d n losses (length r) → AreListed ranks distances numbers losses size
listed_over ranks r distances d numbers n losses size e f g q l =
    subst (λ z. AreListed ranks distances numbers losses z) q
    (subst (λ z. AreListed z distances numbers losses (length z)) e
    (subst (λ z. AreListed r z numbers losses (length r)) f
    (subst (λ z. AreListed r d z losses (length r)) g l)))

-- the losses that were listed are right
pub kept_or_lost : (p : Partition) (duty : Bool) (m : Locations) (ranks distances numbers : List (Option ℕ)) (losses : List (Option Loss))
    → ((at : ℕ) → at < m.size → IsLeastOrNone (λ n. FailsDutyWithin (locations p duty m) n at) (number_at numbers at))
    → AreListed ranks distances numbers losses m.size → AreKeptOrLost p duty m (number_at ranks) (number_at distances) losses
kept_or_lost p duty m ranks distances numbers losses c l = record {
  size = l.size;
  none = λ at h. none_by (number_at ranks at) (number_at distances at) (number_at numbers at) (loss_at losses at) (l.each at h);
  right = right;
  below = λ at n h e.
      let q = where_some (number_at ranks at) (number_at distances at) (number_at numbers at) (In n) (sym (l.each at h) ∙ e) in
      loss_less p duty m (number_at numbers) c at n h (loss_in (number_at numbers at) n q.1);
  kept = λ at x h e d. can_keep p duty m (number_at numbers) c at x h (right at Held h e) d;
  holds = λ move at n h e along. holds_along (locations p duty m) move n at (right at Held h e) along;
}
  where
    right : (at : ℕ) (loss : Loss) → at < m.size → loss_at losses at ≡ Some loss → IsLoss (λ n. FailsDutyWithin (locations p duty m) n at) loss
    right at loss h e =
        let q = where_some (number_at ranks at) (number_at distances at) (number_at numbers at) loss (sym (l.each at h) ∙ e) in
        subst (IsLoss (λ n. FailsDutyWithin (locations p duty m) n at)) q.1 (loss_right (λ n. FailsDutyWithin (locations p duty m) n at) (number_at numbers at) (c at h))

-- a location of which something is said is out of reach
said_none : (ranks distances numbers : List (Option ℕ)) (losses : List (Option Loss)) (size : ℕ) → AreListed ranks distances numbers losses size
    → (at : ℕ) (loss : Loss) → at < size → loss_at losses at ≡ Some loss → (number_at distances at ≡ None) × (loss_of (number_at numbers at) ≡ loss)
said_none ranks distances numbers losses size l at loss k i = where_some (number_at ranks at) (number_at distances at) (number_at numbers at) loss (sym (l.each at k) ∙ i)

module _ (s : Aims) (duty : Bool) (m : Locations) (arena : IsArenaOf s m) (ranks distances numbers : List (Option ℕ)) (losses : List (Option Loss))
    (meets : MeetsByDistance s.parts duty m (number_at distances))
    (c : (at : ℕ) → at < m.size → IsLeastOrNone (λ n. FailsDutyWithin (locations s.parts (is_given s.duty) m) n at) (number_at numbers at))
    (l : AreListed ranks distances numbers losses m.size) where
  never_there : (h : Word) (at : ℕ) (loss : Loss) → LeadsTo (width s.parts) m h at → loss_at losses at ≡ Some loss → (k : ℕ) → ¬ CanMeetWithin (locations s.parts (is_given s.duty) m) k at
  never_there h at loss x i = let k = leads_within s m arena h at x in meets.never at k (said_none ranks distances numbers losses m.size l at loss k i).0

  right_there : (h : Word) (at : ℕ) (loss : Loss) → LeadsTo (width s.parts) m h at → loss_at losses at ≡ Some loss → IsLoss (λ n. FailsDutyWithin (histories s) n h) loss
  right_there h at loss x i =
      let k = leads_within s m arena h at x in
      subst (IsLoss (λ n. FailsDutyWithin (histories s) n h)) (said_none ranks distances numbers losses m.size l at loss k i).1
      (loss_right (λ n. FailsDutyWithin (histories s) n h) (number_at numbers at) (history_losses s m arena (number_at numbers at) h at x (never_there h at loss x i) (c at k)))

  losses_there : AreHistoryLosses s m losses
  losses_there = record {
    right = right_there;
    kept = λ h at x leads i d.
        let k = leads_within s m arena h at leads in
        let never = never_there h at Held leads i in
        history_keeps s m arena h at x leads never
        (can_keep s.parts (is_given s.duty) m (number_at numbers) c at x k
        (subst (λ v. IsLeastOrNone (λ n. FailsDutyWithin (locations s.parts (is_given s.duty) m) n at) v) (held_none (number_at numbers at) (said_none ranks distances numbers losses m.size l at Held k i).1) (c at k))
        (decision_leads s m arena h at x leads never d));
    holds = λ move h at n leads i along. holds_along (histories s) move n h (right_there h at Held leads i) along;
  }

-- and are those of histories
pub losses_of_histories : (s : Aims) (p : Partition) (duty : Bool) (m : Locations) (ranks distances numbers : List (Option ℕ)) (losses : List (Option Loss)) → s.parts ≡ p → IsArenaOf s m
    → MeetsByDistance p duty m (number_at distances) → ((at : ℕ) → at < m.size → IsLeastOrNone (λ n. FailsDutyWithin (locations p duty m) n at) (number_at numbers at))
    → AreListed ranks distances numbers losses m.size → AreHistoryLosses s m losses
losses_of_histories s p duty m ranks distances numbers losses e arena meets c l =
    losses_there s duty m arena ranks distances numbers losses (subst (λ q. MeetsByDistance q duty m (number_at distances)) (sym e) meets)
    (subst (λ q. (at : ℕ) → at < m.size → IsLeastOrNone (λ n. FailsDutyWithin (locations q duty m) n at) (number_at numbers at)) (sym e) c) l

-- where the decisions on the way are decided, what can be met is to be hoped for
decided_reaches : (s : Aims) → GoesOnLegally s → (n : ℕ) (h : Word) → IsOver (width s.parts) h → IsLegalHistory s h → IsDecidedWithin s n h → CanMeetWithin (histories s) n h → (k : ℕ) × ReachesWithin (histories s) k h
decided_reaches s g zero h o l f w = (zero, w)
decided_reaches s g (suc n) h o l f (inl w) = (zero, w)
decided_reaches s g (suc n) h o l f (inr (a, small, legal, w)) = elim (done_or_not s h) [
  | inl m ↦ (zero, m)
  | inr m ↦
      let k = g.kept h (o, l) m a small legal in
      let d = g.belongs h (o, l) m a small legal in
      let c = decided_reaches s g n (one_more h a) k.0 k.1 ((f m).1 a small legal) w in
      elim ((f m).0 (decision_of s.parts a) d) [
        | inl v ↦ (v.0, reaches-by (histories s) v.0 h (decision_of s.parts a) d (reaches-won (histories s) v.0 h (decision_of s.parts a) v.1))
        | inr v ↦ (suc c.0, inr (decision_of s.parts a, d, inr (v, output_of s.parts a, output_small s.parts a small, (a, own_round s.parts a small, legal, c.1))))
      ]
]

-- hope is possibility on legal histories
pub hope_is_possibility : HopeIsPossibility
hope_is_possibility s g = record {
  met = λ h n o l r. hope_is_meeting (histories s) (λ h. IsOver (width s.parts) h × IsLegalHistory s h) g (λ h i. done_or_not s h) n h (o, l) r;
  never = λ h o l f n. out_of_reach_is_never_met (histories s) (λ h. IsOver (width s.parts) h × IsLegalHistory s h) g (λ h i. done_or_not s h) h (o, l) f n;
  some = λ h n o l f r. decided_reaches s g n h o l f r;
}
