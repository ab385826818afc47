-- The steps of building an arena, over a store that grows.
use Rattle.std.proofs.Common.{◌≡◌, ◌<◌, ◌==◌, ℕ, [], true, false, inl, inr, refl, sym, ◌∙◌, ap, subst, Option, Some, None, arith}
use Rattle.std.specs.Option.{is_some}
use Rattle.std.proofs.lemmas.Bool.{cases_eq}
use Rattle.forms.specs.Word.{Word, Claim}
use Rattle.diagrams.specs.Eval.{Diagrams}
use Rattle.diagrams.specs.Live.{Keeps}
use Rattle.diagrams.proofs.Meaning.{Keeps_trans}
use Rattle.automata.specs.Moves.{Moves, location_after, mark_after, HaveSameMarks}
use Rattle.automata.specs.Table.{Table, size_of, mark_of, Fits, moves_of}
use Rattle.automata.specs.Numbering.{IsNumbered}
use Rattle.automata.proofs.Words.{over-nil, location_after-within}
use Rattle.automata.proofs.Lasts.{next_of-lasts, mark_after-lasts, fits_lasts}
use Rattle.minimise.specs.Minimal.{IsLeast}
use Rattle.products.specs.Watch.{IsWatching}
use Rattle.products.specs.Joins.{IsJoin, IsEnded}
use Rattle.game.specs.Board.{Partition, width}
use Rattle.game.specs.Histories.{Aims, IsViolated, IsLegalHistory, is_given}
use Rattle.game.specs.Arena.{Locations, IsArenaOf}
use Rattle.game.specs.Kinds.{TellsKinds, IsLeftOf}
use Rattle.game.proofs.HistoryLemmas.{live-nil}
use Rattle.legality.specs.Violation.{TellsViolated}
use Rattle.legality.specs.Legal.{claim_of, keeping, TellsLegal, ArePlayable}
use Rattle.legality.proofs.LegalLemmas.{tells_last, closed_of, watch_told, none_legal, none_playable}
use Rattle.arena.specs.Told.{TellsDuty}
use Rattle.arena.specs.Building.{claim_where, FitsWhere, aims_of, TellsGoal, EachHistoryGoesOn}
use Rattle.arena.proofs.LeftLemmas.{live_low, left_is_arena}
use Rattle.arena.proofs.JoinLemmas.{duty_told, kinds_told}

duty_last : (a : Aims) (s n : Diagrams) (t : Table) → Keeps s n → Fits s t → t.first < size_of t → TellsDuty a (moves_of s t) → TellsDuty a (moves_of n t)
duty_last a s n t k fits h tells w o =
    let e = mark_after-lasts s n k t fits t.first w h in
    elim (tells w o) [
      | inl (legal, inl (z, x)) ↦ inl (legal, inl (e ∙ z, x))
      | inl (legal, inr (z, x)) ↦ inl (legal, inr (e ∙ z, x))
      | inr (illegal, z) ↦ inr (illegal, e ∙ z)
    ]

ended_back : (p : ℕ) (s n : Diagrams) (t : Table) (e : Moves) → Keeps s n → Fits s t → IsEnded p (moves_of n t) e → IsEnded p (moves_of s t) e
ended_back p s n t e k fits r =
    record {
      size = r.size;
      first = r.first;
      next = λ at x h l z. r.next at x h l z ∙ next_of-lasts s n k t fits at x h;
      past = r.past;
      stays = r.stays;
      mark = r.mark;
      past_mark = r.past_mark;
    }

-- the automaton that tells kinds
pub kinds_made : (s n1 n2 n3 : Diagrams) (legal duty goal both all made : Table) → Keeps s n1 → Keeps n1 n2 → Keeps n2 n3 → Fits s legal → Fits s duty → Fits s goal → Fits n1 both → Fits n2 all
    → legal.first < size_of legal → duty.first < size_of duty → goal.first < size_of goal
    → IsJoin n1.props (moves_of n1 legal) (moves_of n1 duty) (moves_of n1 both) → IsJoin n2.props (moves_of n2 both) (moves_of n2 goal) (moves_of n2 all) → IsEnded n3.props (moves_of n3 all) (moves_of n3 made)
    → (a : Aims) → width a.parts ≡ s.props → TellsLegal a (moves_of s legal) → TellsViolated s.props (moves_of s duty) 2 a.duty → TellsGoal a (moves_of s goal) → TellsKinds a (moves_of n3 made)
kinds_made s n1 n2 n3 legal duty goal both all made k1 k2 k3 fl fd fg fb fa hl hd hg one two end a w tl td tg =
    let p = width a.parts in
    let e1 : n1.props ≡ p = k1.extends.props ∙ sym w in
    let e2 : n2.props ≡ p = k2.extends.props ∙ e1 in
    let e3 : n3.props ≡ p = k3.extends.props ∙ e2 in
    let j1 = subst (λ q. IsJoin q (moves_of n1 legal) (moves_of n1 duty) (moves_of n1 both)) e1 one in
    let j2 = subst (λ q. IsJoin q (moves_of n2 both) (moves_of n2 goal) (moves_of n2 all)) e2 two in
    let end' = ended_back p n2 n3 all (moves_of n3 made) k3 fa (subst (λ q. IsEnded q (moves_of n3 all) (moves_of n3 made)) e3 end) in
    let l1 = tells_last p s n1 legal (IsLegalHistory a) 3 (λ w. ¬ IsLegalHistory a w) k1 fl hl tl in
    let d1 = tells_last p s n1 duty (λ w. ¬ IsViolated a.duty w) 2 (λ w. IsViolated a.duty w) k1 fd hd (subst (λ q. TellsViolated q (moves_of s duty) 2 a.duty) (sym w) td) in
    let g2 = tells_last p s n2 goal (λ w. a.goal w ≡ false) 1 (λ w. a.goal w ≡ true) (Keeps_trans s n1 n2 k1 k2) fg hg tg in
    let b1 = duty_told a (moves_of n1 legal) (moves_of n1 duty) (moves_of n1 both) l1 d1 j1 in
    let b2 = duty_last a n1 n2 both k2 fb j1.closed.first b1 in
    kinds_told a (moves_of n2 both) (moves_of n2 goal) (moves_of n2 all) (moves_of n3 made) b2 g2 j2 end'

-- the location of the empty history is live
pub first_live : (a : Aims) (m : Moves) → TellsKinds a m → m.mark m.first < 3
first_live a m tells = let k = tells [] (over-nil (width a.parts)) in subst (λ z. z < 3) (sym k.2) (live_low a [] k.0 (live-nil a) k.1)

-- automata with the same marks tell the same kinds
pub kinds_same : (a : Aims) (m e : Moves) → HaveSameMarks m e → TellsKinds a e → TellsKinds a m
kinds_same a m e same tells w o = let k = tells w o in (k.0, k.1, same w ∙ k.2)

-- marks of the goal tell what it accepts
pub goal_told : (p : Partition) (s n : Diagrams) (goal : Table) (assumed duty : Option Claim) → Keeps s n → Fits s goal → goal.first < size_of goal → ((at : ℕ) → at < size_of goal → mark_of goal at < 2)
    → width p ≡ s.props → TellsGoal (record { parts = p; goal = claim_of s goal; assumed = assumed; duty = duty }) (moves_of n goal)
goal_told p s n goal assumed duty k fits h small w x o =
    let at = location_after (moves_of s goal) goal.first x in
    let l : location_after (moves_of s goal) goal.first x < size_of goal = location_after-within (width p) (moves_of s goal) (closed_of (width p) s goal fits h) goal.first x h o in
    let e = mark_after-lasts s n k goal fits goal.first x h in
    let b = small (location_after (moves_of s goal) goal.first x) l in
    elim (cases_eq (mark_after (moves_of s goal) goal.first x) 1) [
      | inl q ↦ inr (e ∙ q, ap (λ z. z == 1) q)
      | inr q ↦ let z : mark_after (moves_of s goal) goal.first x ≡ 0 = omega arith in inl (e ∙ z, ap (λ y. y == 1) z)
    ]

-- the watching automaton of a duty, whatever the store was before
pub duty_told_since : (old n : Diagrams) (t u : Table) → Keeps old n → t.first < size_of t → IsWatching n.props (moves_of n t) (moves_of n u) 2
    → (s : Diagrams) → Keeps s old → Fits s t → TellsViolated s.props (moves_of n u) 2 (Some (claim_of s t))
duty_told_since old n t u k h r s k0 fits = watch_told s.props s n t u 2 refl (Keeps_trans s old n k0 k) fits h r

-- all that tells the kinds of histories
pub told_kinds : (p : Partition) (s s1 s2 : Diagrams) (goal legal watched : Table) (keep duty : Option Table) → Keeps s s1 → Keeps s1 s2 → width p ≡ s.props
    → Fits s goal → goal.first < size_of goal → ((at : ℕ) → at < size_of goal → mark_of goal at < 2) → FitsWhere s duty
    → Fits s1 legal → legal.first < size_of legal → TellsLegal (keeping p (claim_where s keep)) (moves_of s1 legal)
    → ((s' : Diagrams) → Keeps s' s1 → FitsWhere s' duty → TellsViolated s'.props (moves_of s2 watched) 2 (claim_where s' duty))
    → (kinds : Moves) → ((a : Aims) → width a.parts ≡ s2.props → TellsLegal a (moves_of s2 legal) → TellsViolated s2.props (moves_of s2 watched) 2 a.duty → TellsGoal a (moves_of s2 goal) → TellsKinds a kinds)
    → TellsKinds (aims_of s p goal keep duty) kinds
told_kinds p s s1 s2 goal legal watched keep duty k1 k2 w fg hg small fd fl hl tl td kinds all =
    let a = aims_of s p goal keep duty in
    let k = Keeps_trans s s1 s2 k1 k2 in
    all a (w ∙ sym k.extends.props)
    (tells_last (width p) s1 s2 legal (IsLegalHistory a) 3 (λ w. ¬ IsLegalHistory a w) k2 fl hl tl)
    (subst (λ q. TellsViolated q (moves_of s2 watched) 2 (claim_where s duty)) (sym k.extends.props) (td s k1 fd))
    (goal_told p s s2 goal (claim_where s keep) (claim_where s duty) k fg hg small w)

-- the least automaton's location of the empty history is live
pub least_live : (a : Aims) (s n : Diagrams) (kinds least : Table) → HaveSameMarks (moves_of n least) (moves_of s kinds) → least.first ≡ 0 → TellsKinds a (moves_of s kinds) → mark_of least 0 < 3
least_live a s n kinds least same first tells = subst (λ z. mark_of least z < 3) first (first_live a (moves_of n least) (kinds_same a (moves_of n least) (moves_of s kinds) same tells))

-- what is left of an automaton is left of it as it was before the store grew
left_back : (p : ℕ) (s n : Diagrams) (t : Table) (arena : Locations) → Keeps s n → Fits s t → IsLeftOf p (moves_of n t) arena → IsLeftOf p (moves_of s t) arena
left_back p s n t arena k fits r =
    record {
      of = r.of;
      some = r.some;
      first = r.first;
      within = r.within;
      live = r.live;
      order = r.order;
      onto = r.onto;
      goal = r.goal;
      broken = r.broken;
      goes = λ i a h no_goal l live.
          let e = next_of-lasts s n k t fits (r.of i) a (r.within i h) in
          let g = r.goes i a h no_goal l (subst (λ z. mark_of t z < 3) (sym e) live) in
          (g.0, g.1 ∙ e);
      stops = λ i a h no_goal l w.
          let e = next_of-lasts s n k t fits (r.of i) a (r.within i h) in
          subst (λ z. mark_of t z < 3) e (r.stops i a h no_goal l w);
    }

-- the arena
pub built : (a : Aims) (s n e : Diagrams) (kinds least : Table) (arena : Locations) → Keeps s n → Keeps n e → width a.parts ≡ s.props → Fits n least → HaveSameMarks (moves_of n least) (moves_of s kinds)
    → IsLeast s.props (moves_of n least) → IsNumbered s.props (moves_of n least) → TellsKinds a (moves_of s kinds) → IsLeftOf e.props (moves_of e least) arena → IsArenaOf a arena
built a s n e kinds least arena k1 k2 w fits same l numbered tells left =
    let q : e.props ≡ width a.parts = k2.extends.props ∙ k1.extends.props ∙ sym w in
    left_is_arena a (moves_of n least) arena (subst (λ p. IsLeast p (moves_of n least)) (sym w) l) (subst (λ p. IsNumbered p (moves_of n least)) (sym w) numbered)
    (kinds_same a (moves_of n least) (moves_of s kinds) same tells) (left_back (width a.parts) n e least arena k2 fits (subst (λ p. IsLeftOf p (moves_of e least) arena) q left))

pub fits_where_last : (s n : Diagrams) (o : Option Table) → Keeps s n → FitsWhere s o → FitsWhere n o
fits_where_last s n None k f = tt
fits_where_last s n (Some t) k f = fits_lasts s n k t f

pub keeps_five : (a b c d e f : Diagrams) → Keeps a b → Keeps b c → Keeps c d → Keeps d e → Keeps e f → Keeps a f
keeps_five a b c d e f k l m n o = Keeps_trans a b f k (Keeps_trans b c f l (Keeps_trans c d f m (Keeps_trans d e f n o)))

pub some_legal : (p : Partition) (s : Diagrams) (k : Table) (o : Option Table) (m : Moves) → o ≡ Some k → TellsLegal (keeping p (Some (claim_of s k))) m → TellsLegal (keeping p (claim_where s o)) m
some_legal p s k o m e tells = subst (λ q. TellsLegal (keeping p (claim_where s q)) m) (sym e) tells

pub none_legal_where : (p : Partition) (s : Diagrams) (o : Option Table) (m : Moves) → o ≡ None → ((w : Word) → mark_after m m.first w ≡ 0) → TellsLegal (keeping p (claim_where s o)) m
none_legal_where p s o m e always = subst (λ q. TellsLegal (keeping p (claim_where s q)) m) (sym e) (none_legal p m always)

-- where nothing is assumed the game can be played on all histories
pub none_playable_where : (p : Partition) (s : Diagrams) (o : Option Table) → o ≡ None → ArePlayable p (claim_where s o)
none_playable_where p s o e = subst (λ q. ArePlayable p (claim_where s q)) (sym e) (none_playable p)

-- whether a duty is given
pub given_where : (s : Diagrams) (o : Option Table) → is_some o ≡ is_given (claim_where s o)
given_where s None = refl
given_where s (Some t) = refl

-- no history meets a goal that is always false
never_met : (h : Word) → (¬ IsViolated None h) × (false ≡ true) → ⊥
never_met h (calm, met) = cc

-- each legal history goes on, since it does before such a goal
pub each_goes_on : (p : Partition) (goal : Claim) (assumed duty : Option Claim) → ArePlayable p assumed → EachHistoryGoesOn (record { parts = p; goal = goal; assumed = assumed; duty = duty })
each_goes_on p goal assumed duty all =
    let played = all (λ w. false) None in
    record {
      decision = λ h o l. played.decides h (o, l) (never_met h);
      round = λ h x y o l d j. played.goes_on h (o, l) (never_met h) x y d j;
    }
