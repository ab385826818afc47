-- What is left of the least automaton that tells the kinds of histories is the arena.
use Rattle.std.proofs.Common.{◌≡◌, ◌<◌, ◌↔◌, ◌==◌, ℕ, [], ◌∷◌, ◌++◌, inl, inr, refl, sym, ◌∙◌, ap, subst, true, false, Some, arith, lit<}
use Rattle.std.proofs.lemmas.Bool.{true≢false, cases_lt, cases_eq}
use Rattle.std.proofs.lemmas.List.{append-nil}
use Rattle.forms.specs.Word.{Word, IsOver}
use Rattle.automata.specs.Moves.{Moves, location_after, mark_after}
use Rattle.automata.specs.Numbering.{IsNumbered}
use Rattle.automata.proofs.Words.{over-nil, over-append, location_after-append}
use Rattle.minimise.specs.Minimal.{IsLeast}
use Rattle.game.specs.Board.{width}
use Rattle.game.specs.Histories.{Aims, IsViolated, IsDone, IsRunning, IsLive, ShareLocation, Kind, Running, Broken, Met, Past, Illegal, HasKind, one_more}
use Rattle.game.specs.Arena.{Locations, LeadsTo, AreNumbered, IsArenaOf}
use Rattle.game.specs.Kinds.{kind_number, TellsKinds, IsLeftOf}
use Rattle.game.proofs.HistoryLemmas.{by_last_letter, live-less, over-front, over-last}
use Rattle.game.proofs.KindLemmas.{kind_once, running_not_met, running_not_past, legal_not_illegal}
use Rattle.game.proofs.ArenaLemmas.{leads-more, from-less}

-- kinds of running and of live histories have the lower numbers
running_low : (s : Aims) (h : Word) (k : Kind) → IsRunning s h → HasKind s h k → (kind_number k == 1) ≡ false
running_low s h Running r x = refl
running_low s h Broken r x = refl
running_low s h Met r x = absurd (running_not_met s h r x)
running_low s h Past r x = absurd (running_not_past s h r x)
running_low s h Illegal r x = absurd (legal_not_illegal s h r.0 x)

pub live_low : (s : Aims) (h : Word) (k : Kind) → IsLive s h → HasKind s h k → kind_number k < 3
live_low s h Running (inl r) x = lit< tt
live_low s h Broken (inl r) x = lit< tt
live_low s h Met (inl r) x = lit< tt
live_low s h Past (inl r) x = absurd (running_not_past s h r x)
live_low s h Illegal (inl r) x = absurd (legal_not_illegal s h r.0 x)
live_low s h k (inr m) x = let e = kind_once s h k Met x m in subst (λ j. kind_number j < 3) (sym e) (lit< tt)

low_live : (s : Aims) (h : Word) (k : Kind) → HasKind s h k → kind_number k < 3 → IsLive s h
low_live s h Running x l = inl x.0
low_live s h Broken x l = inl x.0
low_live s h Met x l = inr x
low_live s h Past x l = absurd (omega arith)
low_live s h Illegal x l = absurd (omega arith)

-- kinds with one number are one
number_once : (j k : Kind) → kind_number j ≡ kind_number k → j ≡ k
number_once Running Running e = refl
number_once Broken Broken e = refl
number_once Met Met e = refl
number_once Past Past e = refl
number_once Illegal Illegal e = refl
number_once Running Broken e = absurd (omega arith)
number_once Running Met e = absurd (omega arith)
number_once Running Past e = absurd (omega arith)
number_once Running Illegal e = absurd (omega arith)
number_once Broken Running e = absurd (omega arith)
number_once Broken Met e = absurd (omega arith)
number_once Broken Past e = absurd (omega arith)
number_once Broken Illegal e = absurd (omega arith)
number_once Met Running e = absurd (omega arith)
number_once Met Broken e = absurd (omega arith)
number_once Met Past e = absurd (omega arith)
number_once Met Illegal e = absurd (omega arith)
number_once Past Running e = absurd (omega arith)
number_once Past Broken e = absurd (omega arith)
number_once Past Met e = absurd (omega arith)
number_once Past Illegal e = absurd (omega arith)
number_once Illegal Running e = absurd (omega arith)
number_once Illegal Broken e = absurd (omega arith)
number_once Illegal Met e = absurd (omega arith)
number_once Illegal Past e = absurd (omega arith)

-- where a word leads in the arena, and in the automaton
pub record LeadsAlike (m : Moves) (arena : Locations) (of : ℕ → ℕ) (h : Word) (i : ℕ) : Type 0 where
  pub within : i < arena.size
  pub same : location_after m m.first h ≡ of i

alike : (s : Aims) (m : Moves) (arena : Locations) (r : IsLeftOf (width s.parts) m arena) (h : Word) (i : ℕ) → LeadsTo (width s.parts) arena h i → LeadsAlike m arena r.of h i
alike s m arena r h =
    let p = width s.parts in
    by_last_letter (λ h. (i : ℕ) → LeadsTo p arena h i → LeadsAlike m arena r.of h i)
    (λ i x. let f : Some 0 ≡ Some i = x.leads in let e : 0 ≡ i = cc in
    record { within = subst (λ n. n < arena.size) e r.some; same = sym r.first ∙ ap r.of e })
    (λ u a before i x.
    let b = from-less arena 0 i u a x.leads in
    let k = over-last p u a x.over in
    let y = before b.location (record { over = over-front p u a x.over; leads = b.leads }) in
    let low = sym (r.goal b.location y.within) ∙ b.goal in
    let g = r.goes b.location a y.within low k (r.stops b.location a y.within low k b.within) in
    record {
      within = subst (λ n. n < arena.size) (sym b.next) g.0;
      same = location_after-append m m.first u (a ∷ []) ∙ ap (λ q. m.next q a) y.same ∙ sym g.1 ∙ ap r.of (sym b.next);
    })
    h

-- a live history leads to a location
live_leads : (s : Aims) (m : Moves) (arena : Locations) (r : IsLeftOf (width s.parts) m arena) → TellsKinds s m → (h : Word) → IsOver (width s.parts) h → IsLive s h
    → (i : ℕ) × LeadsTo (width s.parts) arena h i
live_leads s m arena r tells h =
    let p = width s.parts in
    by_last_letter (λ h. IsOver p h → IsLive s h → (i : ℕ) × LeadsTo p arena h i)
    (λ o l. (0, record { over = over-nil p; leads = refl }))
    (λ u a before o l.
    let f = over-front p u a o in
    let run = (live-less s u a l).0 in
    let y = before f (inl run) in
    let z = alike s m arena r u y.0 y.1 in
    let t = tells u f in
    let c = tells (one_more u a) o in
    let low : (m.mark (r.of y.0) == 1) ≡ false = subst (λ n. (n == 1) ≡ false) (sym t.2 ∙ ap m.mark z.same) (running_low s u t.0 run t.1) in
    let next : location_after m m.first (one_more u a) ≡ m.next (r.of y.0) a = location_after-append m m.first u (a ∷ []) ∙ ap (λ q. m.next q a) z.same in
    let live : m.mark (m.next (r.of y.0) a) < 3 = subst (λ n. n < 3) (sym c.2 ∙ ap m.mark next) (live_low s (one_more u a) c.0 l c.1) in
    let k = over-last p u a o in
    let g = r.goes y.0 a z.within low k live in
    (arena.next y.0 a, leads-more p arena u y.0 a y.1 (r.goal y.0 z.within ∙ low) k g.0))
    h

-- locations of the arena are once in the automaton
left_once : (p : ℕ) (m : Moves) (arena : Locations) (r : IsLeftOf p m arena) (i j : ℕ) → i < arena.size → j < arena.size → r.of i ≡ r.of j → i ≡ j
left_once p m arena r i j h k e =
    elim (cases_eq i j) [
      | inl q ↦ q
      | inr d ↦ elim (cases_lt i j) [
        | inl l ↦ let x = r.order i j l k in absurd (omega arith)
        | inr l ↦ let x = r.order j i (omega arith) h in absurd (omega arith)
      ]
    ]

-- the kind of a history that leads to a location has the number that is its mark
kind_there : (s : Aims) (m : Moves) (arena : Locations) (r : IsLeftOf (width s.parts) m arena) → TellsKinds s m → (h : Word) (i : ℕ)
    → LeadsTo (width s.parts) arena h i → (k : Kind) × HasKind s h k × (m.mark (r.of i) ≡ kind_number k)
kind_there s m arena r tells h i x =
    let t = tells h x.over in
    (t.0, t.1, sym (ap m.mark (alike s m arena r h i x).same) ∙ t.2)

-- the kind of that history is live
leads_live : (s : Aims) (m : Moves) (arena : Locations) (r : IsLeftOf (width s.parts) m arena) → TellsKinds s m → (h : Word) (i : ℕ)
    → LeadsTo (width s.parts) arena h i → IsLive s h
leads_live s m arena r tells h i x =
    let k = kind_there s m arena r tells h i x in
    low_live s h k.0 k.1 (subst (λ n. n < 3) k.2 (r.live i (alike s m arena r h i x).within))

-- a live history of one kind meets the goal, or has broken the duty, exactly where that is its kind
met_kind : (s : Aims) (h : Word) (k : Kind) → HasKind s h k → IsLive s h → ((kind_number k == 1) ≡ true) ↔ IsDone s h
met_kind s h Running x l = (λ e. absurd (true≢false (sym e)), λ d. absurd (x.0.1 h [] (sym (append-nil h)) d))
met_kind s h Broken x l = (λ e. absurd (true≢false (sym e)), λ d. absurd (x.0.1 h [] (sym (append-nil h)) d))
met_kind s h Met x l = (λ e. x.1, λ d. refl)
met_kind s h Past x l = absurd (let f : 4 < 3 = live_low s h Past l x in omega arith)
met_kind s h Illegal x l = absurd (let f : 3 < 3 = live_low s h Illegal l x in omega arith)

broken_kind : (s : Aims) (h : Word) (k : Kind) → HasKind s h k → IsLive s h → ((kind_number k == 2) ≡ true) ↔ IsViolated s.duty h
broken_kind s h Running x l = (λ e. absurd (true≢false (sym e)), λ d. absurd (x.1 d))
broken_kind s h Broken x l = (λ e. x.1, λ d. refl)
broken_kind s h Met x l = (λ e. absurd (true≢false (sym e)), λ d. absurd (x.1.0 d))
broken_kind s h Past x l = absurd (let f : 4 < 3 = live_low s h Past l x in omega arith)
broken_kind s h Illegal x l = absurd (let f : 3 < 3 = live_low s h Illegal l x in omega arith)

-- histories that lead to one location share it
left_shares : (s : Aims) (m : Moves) (arena : Locations) (r : IsLeftOf (width s.parts) m arena) → TellsKinds s m → (u v : Word) (i j : ℕ)
    → LeadsTo (width s.parts) arena u i → LeadsTo (width s.parts) arena v j → i ≡ j → ShareLocation s u v
left_shares s m arena r tells u v i j x y e w o =
    let p = width s.parts in
    let a = tells (u ++ w) (over-append p u w x.over o) in
    let b = tells (v ++ w) (over-append p v w y.over o) in
    let same : location_after m m.first u ≡ location_after m m.first v = (alike s m arena r u i x).same ∙ ap r.of e ∙ sym (alike s m arena r v j y).same in
    let after : mark_after m m.first (u ++ w) ≡ mark_after m m.first (v ++ w) =
    ap m.mark (location_after-append m m.first u w) ∙ ap (λ q. mark_after m q w) same ∙ sym (ap m.mark (location_after-append m m.first v w)) in
    let n = number_once a.0 b.0 (sym a.2 ∙ after ∙ b.2) in
    (a.0, a.1, subst (λ k. HasKind s (v ++ w) k) (sym n) b.1)

-- histories that share a location lead to it
shares_left : (s : Aims) (m : Moves) (arena : Locations) (r : IsLeftOf (width s.parts) m arena) → IsLeast (width s.parts) m → TellsKinds s m → (u v : Word) (i j : ℕ)
    → LeadsTo (width s.parts) arena u i → LeadsTo (width s.parts) arena v j → ShareLocation s u v → i ≡ j
shares_left s m arena r least tells u v i j x y share =
    let p = width s.parts in
    let a = alike s m arena r u i x in
    let b = alike s m arena r v j y in
    elim (cases_eq (r.of i) (r.of j)) [
      | inl e ↦ left_once p m arena r i j a.within b.within e
      | inr d ↦
          let t = least.apart (r.of i) (r.of j) (r.within i a.within) (r.within j b.within) d in
          let k = share t.word t.over in
          let f = tells (u ++ t.word) (over-append p u t.word x.over t.over) in
          let g = tells (v ++ t.word) (over-append p v t.word y.over t.over) in
          let one = kind_once s (u ++ t.word) f.0 k.0 f.1 k.1 in
          let two = kind_once s (v ++ t.word) g.0 k.0 g.1 k.2 in
          let left : mark_after m m.first (u ++ t.word) ≡ mark_after m (r.of i) t.word =
          ap m.mark (location_after-append m m.first u t.word) ∙ ap (λ q. mark_after m q t.word) a.same in
          let right : mark_after m m.first (v ++ t.word) ≡ mark_after m (r.of j) t.word =
          ap m.mark (location_after-append m m.first v t.word) ∙ ap (λ q. mark_after m q t.word) b.same in
          absurd (t.differ (sym left ∙ f.2 ∙ ap kind_number (one ∙ sym two) ∙ sym g.2 ∙ right))
    ]

-- the numbering is kept
left_numbered : (s : Aims) (m : Moves) (arena : Locations) (r : IsLeftOf (width s.parts) m arena) → IsLeast (width s.parts) m → IsNumbered (width s.parts) m → TellsKinds s m
    → AreNumbered (width s.parts) arena
left_numbered s m arena r least numbered tells =
    let p = width s.parts in
    record {
      some = r.some;
      word = λ i. numbered.word (r.of i);
      least = λ i h.
          let w = numbered.least (r.of i) (r.within i h) in
          let t = tells (numbered.word (r.of i)) w.over in
          let live = low_live s (numbered.word (r.of i)) t.0 t.1 (subst (λ n. n < 3) (sym (ap m.mark w.leads) ∙ t.2) (r.live i h)) in
          let x = live_leads s m arena r tells (numbered.word (r.of i)) w.over live in
          let a = alike s m arena r (numbered.word (r.of i)) x.0 x.1 in
          let e = left_once p m arena r x.0 i a.within h (sym a.same ∙ w.leads) in
          record {
            leads = subst (λ j. LeadsTo p arena (numbered.word (r.of i)) j) e x.1;
            least = λ v y. w.least v y.over (alike s m arena r v i y).same;
          };
      order = λ i j h k. numbered.order (r.of i) (r.of j) (r.order i j h k) (r.within j k);
    }

-- what is left of the least automaton that tells the kinds of histories is the arena
pub left_is_arena : (s : Aims) (m : Moves) (arena : Locations) → IsLeast (width s.parts) m → IsNumbered (width s.parts) m → TellsKinds s m
    → IsLeftOf (width s.parts) m arena → IsArenaOf s arena
left_is_arena s m arena least numbered tells r =
    record {
      live = λ h o. (live_leads s m arena r tells h o, λ (i, x). leads_live s m arena r tells h i x);
      shared = λ u v i j x y. (left_shares s m arena r tells u v i j x y, shares_left s m arena r least tells u v i j x y);
      goal = λ h i x.
          let k = kind_there s m arena r tells h i x in
          let e : arena.is_goal i ≡ (kind_number k.0 == 1) = r.goal i (alike s m arena r h i x).within ∙ ap (λ n. n == 1) k.2 in
          let f = met_kind s h k.0 k.1 (leads_live s m arena r tells h i x) in
          (λ t. f.0 (sym e ∙ t), λ d. e ∙ f.1 d);
      broken = λ h i x.
          let k = kind_there s m arena r tells h i x in
          let e : arena.is_broken i ≡ (kind_number k.0 == 2) = r.broken i (alike s m arena r h i x).within ∙ ap (λ n. n == 2) k.2 in
          let f = broken_kind s h k.0 k.1 (leads_live s m arena r tells h i x) in
          (λ t. f.0 (sym e ∙ t), λ d. e ∙ f.1 d);
      numbered = left_numbered s m arena r least numbered tells;
    }
