-- What each arm of the walk gives, in each later store and each table that goes on.
use Rattle.std.proofs.Common.{◌≡◌, ℕ, ◌<◌, ◌≤◌, ◌+◌, Bool, true, false, List, length, refl, sym, ◌∙◌, ap, subst, arith}
use Rattle.std.specs.Prelude.{◌&&◌, ◌||◌, slice_index_or}
use Rattle.forms.specs.Tree.{Formula, Program, Step, Test, Choice, Seq, Star}
use Rattle.forms.specs.Proper.{IsPropositional, IsProper}
use Rattle.forms.specs.Satisfaction.{sat, goes}
use Rattle.forms.proofs.Leads.{IsInward-goes}
use Rattle.diagrams.specs.declared.top.Id.{Id}
use Rattle.diagrams.specs.Tree.{Assignment}
use Rattle.diagrams.specs.Eval.{Diagrams, is_one}
use Rattle.diagrams.specs.Live.{IsLive, Keeps}
use Rattle.diagrams.proofs.Meaning.{Keeps_trans, live_lasts, is_one-lasts}
use Rattle.automata.specs.Table.{Table, size_of, IsMeant}
use Rattle.automata.proofs.Lasts.{meant_lasts}
use Rattle.automata.proofs.Everywhere.{IsMeant-everywhere}
use Rattle.obligations.specs.declared.cells.Obligation.{Obligation}
use Rattle.obligations.specs.Table.{missing, ends_of, body_of, with_body}
use Rattle.obligations.specs.Value.{by_values, cell, holds, IsClaim, IsBody, FitsCells}
use Rattle.obligations.specs.Followed.{HasFrom, StandsFor}
use Rattle.obligations.proofs.Holds.{claim_lasts, body_lasts, body_wider}
use Rattle.path_programs.specs.declared.lead.Lead.{Lead}
use Rattle.path_programs.specs.Made.{truth_of, IsOneWhere}
use Rattle.path_programs.specs.Growth.{HasGrown}
use Rattle.path_programs.specs.Lead.{AreBodies, IsLead, IsRest, IsEither, IsInTurn}
use Rattle.path_programs.proofs.Making.{one_same, one_lasts, one_body, claim_same, body_same}
use Rattle.path_programs.proofs.Growing.{from_later, from_earlier, set-length, set-there, set-others}
use Rattle.path_programs.proofs.Resting.{asked}
use Rattle.path_programs.proofs.Leads.{leads-step, leads-test, leads-choice, leads-seq, leads-star}
use Rattle.path_programs.proofs.Conditions.{truth_of-joint, truth_of-same}

-- the bodies of a lead in a later store, and with more obligations
pub bodies_last : (s n : Diagrams) → Keeps s n → (count more : ℕ) (l : Lead) → count ≤ more → AreBodies s count l → AreBodies n more l
bodies_last s n k count more l h b = record {
  further = body_wider n count more l.further h (body_lasts s n k count l.further b.further);
  stays = body_wider n count more l.stays h (body_lasts s n k count l.stays b.stays);
}

-- the diagrams of a step are bodies
pub bodies_step : (s0 s1 s2 s3 : Diagrams) → Keeps s0 s1 → Keeps s1 s2 → Keeps s2 s3 → (f : Formula) → IsProper s0.props f → (now later : Id) (l : Lead) → IsOneWhere s1 now (truth_of f)
    → IsOneWhere s2 l.further (λ a. is_one s1 now a && is_one s1 later a) → IsOneWhere s3 l.stays (λ _. false) → (count : ℕ) → IsClaim s0 count later → AreBodies s3 count l
bodies_step s0 s1 s2 s3 k1 k2 k3 f proper now later l o m z count claim =
    let e : s3.props ≡ s0.props = (Keeps_trans s0 s1 s3 k1 (Keeps_trans s1 s2 s3 k2 k3)).extends.props in
    let g : Assignment → Bool = λ a. truth_of f a && is_one s0 later a in
    record {
      further = one_body s3 l.further g count
          (one_same s3 l.further (λ a. is_one s1 now a && is_one s1 later a) g (one_lasts s2 s3 k3 l.further (λ a. is_one s1 now a && is_one s1 later a) m)
          (λ a. rw (o.value a, is_one-lasts s0 s1 k1 later claim.live a) refl))
          (λ a b same. rw (truth_of-same s0.props f proper a b (λ i h. same i (omega arith)), claim_same s0 count later claim a b (λ v h. let u : v < s0.props + count = h.1 in same v (omega arith))) refl);
      stays = one_body s3 l.stays (λ _. false) count z (λ a b same. refl);
    }

-- a step reads a letter before which its formula holds, and what comes later holds after it
pub lead_step : (s0 s1 s2 s3 : Diagrams) → Keeps s0 s1 → Keeps s1 s2 → Keeps s2 s3 → (f : Formula) → IsPropositional f → IsProper s0.props f → (now later : Id) (l : Lead) → IsOneWhere s1 now (truth_of f)
    → IsOneWhere s2 l.further (λ a. is_one s1 now a && is_one s1 later a) → IsOneWhere s3 l.stays (λ _. false) → l.ends ≡ false → IsLive s0 later
    → (from : ℕ) (c : List Obligation) → IsClaim s0 (length c) later → IsLead s3 from c (Step f) later l
lead_step s0 s1 s2 s3 k1 k2 k3 f plain proper now later l o m z e live from c claim = λ n d k grows.
    let t2 = Keeps_trans s2 s3 n k3 k in
    let t1 = Keeps_trans s1 s2 n k2 t2 in
    let t0 = Keeps_trans s0 s1 n k1 t1 in
    leads-step n d (length c) (λ w. sat n.props f w) later (claim_lasts s0 n t0 (length c) later claim) (truth_of f)
    (λ a w. truth_of-joint n.props f plain (rw t0.extends.props proper) a (cell n d w) w) l
    (λ a. (one_lasts s2 n t2 l.further (λ a. is_one s1 now a && is_one s1 later a) m).value a ∙ rw (o.value a, sym (is_one-lasts s1 n t1 later (live_lasts s0 s1 k1.extends later live) a)) refl)
    (λ a. (one_lasts s3 n k l.stays (λ _. false) z).value a) e

-- a test stays where the obligation of the first location holds
pub lead_test : (s0 s1 s2 : Diagrams) → Keeps s0 s1 → Keeps s1 s2 → (c : List Obligation) (t : Table) (from base j : ℕ) → base ≡ from → StandsFor s2 c t base → t.first < size_of t → j ≡ base + t.first → j < length c
    → (l : Lead) → IsOneWhere s1 l.further (λ _. false) → l.stays ≡ body_of c j → l.ends ≡ ends_of c j
    → (f : Formula) (later : Id) → IsProper s0.props f → (t.first < size_of t → IsMeant s0 t f) → IsLead s2 from c (Test f) later l
lead_test s0 s1 s2 k1 k2 c t from base j start stands h e lj l z body ends f later proper meant = λ n d k grows.
    let both = Keeps_trans s0 s1 s2 k1 k2 in
    let m : IsMeant s2 t f = meant_lasts s0 s2 both t f h (meant h) in
    let same : slice_index_or d j missing ≡ slice_index_or c j missing = grows.same j (omega arith) lj in
    leads-test n d (λ w. sat n.props f w) (holds n d later) j
    (λ w. ap (cell n d w) e ∙ stands n d k (from_later from base c d (omega arith) grows) t.first h w ∙ IsMeant-everywhere s2 t f (rw both.extends.props proper) m w ∙ ap (λ p. sat p f w) (sym k.extends.props)) l
    (λ a. (one_lasts s1 n (Keeps_trans s1 s2 n k2 k) l.further (λ _. false) z).value a)
    (body ∙ ap (λ o. o.body) (sym same)) (ends ∙ ap (λ o. o.ends) (sym same))

-- the diagrams of a choice are bodies
pub bodies_either : (s n : Diagrams) → Keeps s n → (count : ℕ) (x y l : Lead) → AreBodies s count x → AreBodies s count y → IsEither s n x y l → AreBodies n count l
bodies_either s n k count x y l p q m =
    let e : n.props ≡ s.props = k.extends.props in
    record {
      further = one_body n l.further (λ a. is_one s x.further a || is_one s y.further a) count m.further
          (λ a b same. rw (body_same s count x.further p.further a b (λ v h. same v (omega arith)), body_same s count y.further q.further a b (λ v h. same v (omega arith))) refl);
      stays = one_body n l.stays (λ a. is_one s x.stays a || is_one s y.stays a) count m.stays
          (λ a b same. rw (body_same s count x.stays p.stays a b (λ v h. same v (omega arith)), body_same s count y.stays q.stays a b (λ v h. same v (omega arith))) refl);
    }

-- a choice leads where one of its paths does
pub lead_choice : (s1 s2 s3 : Diagrams) (c0 c1 c2 : List Obligation) → HasGrown s1 c1 s2 c2 → Keeps s2 s3 → length c0 ≤ length c1 → (p q : Program) (later : Id) (x y l : Lead)
    → IsLead s1 (length c0) c1 q later y → IsLead s2 (length c1) c2 p later x → AreBodies s1 (length c1) y → AreBodies s2 (length c2) x → IsEither s2 s3 x y l
    → IsLead s3 (length c0) c2 (Choice p q) later l
lead_choice s1 s2 s3 c0 c1 c2 g k3 h p q later x y l ly lx by bx m = λ n d k from.
    let t2 = Keeps_trans s2 s3 n k3 k in
    let t1 = Keeps_trans s1 s2 n g.keeps t2 in
    let live : (f : Id) → IsLive s1 f → IsLive s2 f = λ f u. live_lasts s1 s2 g.keeps.extends f u in
    leads-choice n d (goes n.props p) (goes n.props q) (holds n d later) x y l
    (lx n d t2 (from_later (length c0) (length c1) c2 d h from))
    (ly n d t1 (from_earlier (length c0) c1 c2 d g.grows from))
    (λ a. (one_lasts s3 n k l.further (λ a. is_one s2 x.further a || is_one s2 y.further a) m.further).value a
    ∙ rw (sym (is_one-lasts s2 n t2 x.further bx.further.live a), sym (is_one-lasts s2 n t2 y.further (live y.further by.further.live) a)) refl)
    (λ a. (one_lasts s3 n k l.stays (λ a. is_one s2 x.stays a || is_one s2 y.stays a) m.stays).value a
    ∙ rw (sym (is_one-lasts s2 n t2 x.stays bx.stays.live a), sym (is_one-lasts s2 n t2 y.stays (live y.stays by.stays.live) a)) refl)
    m.ends

-- the diagrams of a sequence are bodies
pub bodies_in_turn : (s n : Diagrams) → Keeps s n → (count : ℕ) (x y l : Lead) → AreBodies s count x → AreBodies s count y → IsInTurn s n x y l → AreBodies n count l
bodies_in_turn s n k count x y l p q m =
    let e : n.props ≡ s.props = k.extends.props in
    record {
      further = one_body n l.further (λ a. is_one s x.further a || is_one s x.stays a && is_one s y.further a) count m.further
          (λ a b same. rw (
            body_same s count x.further p.further a b (λ v h. same v (omega arith)),
            body_same s count x.stays p.stays a b (λ v h. same v (omega arith)),
            body_same s count y.further q.further a b (λ v h. same v (omega arith)),
          ) refl);
      stays = one_body n l.stays (λ a. is_one s x.stays a && is_one s y.stays a) count m.stays
          (λ a b same. rw (body_same s count x.stays p.stays a b (λ v h. same v (omega arith)), body_same s count y.stays q.stays a b (λ v h. same v (omega arith))) refl);
    }

-- c1 is the table after the second path, c2 with its rest, c3 after the first path
pub lead_seq : (s1 s2 s3 s4 : Diagrams) (c0 c1 c2 c3 : List Obligation) → HasGrown s1 c1 s2 c2 → HasGrown s2 c2 s3 c3 → Keeps s3 s4 → length c0 ≤ length c1 → (p q : Program) (later next : Id) (x y l : Lead)
    → IsLead s1 (length c0) c1 q later y → IsRest s2 (length c1) c2 y later next → IsLead s3 (length c2) c3 p next x → AreBodies s1 (length c1) y → AreBodies s3 (length c3) x → IsInTurn s3 s4 x y l
    → IsLead s4 (length c0) c3 (Seq p q) later l
lead_seq s1 s2 s3 s4 c0 c1 c2 c3 g2 g3 k4 h p q later next x y l ly rest lx by bx m = λ n d k from.
    let t3 = Keeps_trans s3 s4 n k4 k in
    let t2 = Keeps_trans s2 s3 n g3.keeps t3 in
    let t1 = Keeps_trans s1 s2 n g2.keeps t2 in
    let u13 = Keeps_trans s1 s2 s3 g2.keeps g3.keeps in
    let l12 = g2.grows.longer in
    let at2 : HasFrom (length c0) c2 d = from_earlier (length c0) c2 c3 d g3.grows from in
    let second = ly n d t1 (from_earlier (length c0) c1 c2 d g2.grows at2) in
    let live : (f : Id) → IsLive s1 f → IsLive s3 f = λ f u. live_lasts s1 s3 u13.extends f u in
    leads-seq n d (goes n.props p) (goes n.props q) (IsInward-goes n.props q) (holds n d later) (holds n d next)
    (rest n d (goes n.props q) t2 (from_later (length c0) (length c1) c2 d h at2) second)
    x y l (lx n d t3 (from_later (length c0) (length c2) c3 d (omega arith) from)) second
    (λ a. (one_lasts s4 n k l.further (λ a. is_one s3 x.further a || is_one s3 x.stays a && is_one s3 y.further a) m.further).value a
    ∙ rw (sym (is_one-lasts s3 n t3 x.further bx.further.live a), sym (is_one-lasts s3 n t3 x.stays bx.stays.live a), sym (is_one-lasts s3 n t3 y.further (live y.further by.further.live) a)) refl)
    (λ a. (one_lasts s4 n k l.stays (λ a. is_one s3 x.stays a && is_one s3 y.stays a) m.stays).value a
    ∙ rw (sym (is_one-lasts s3 n t3 x.stays bx.stays.live a), sym (is_one-lasts s3 n t3 y.stays (live y.stays by.stays.live) a)) refl)
    m.ends

-- c1 is the table with the obligation j of a further turn, c2 after the path; then the body of j is set
pub lead_star : (s0 s1 s2 s3 : Diagrams) → Keeps s0 s1 → (c0 c1 c2 : List Obligation) → HasGrown s1 c1 s2 c2 → Keeps s2 s3 → (j : ℕ) → j ≡ length c0 → length c1 ≡ length c0 + 1 → ends_of c1 (length c0) ≡ false
    → (p : Program) (later next : Id) (x l : Lead) → IsLive s0 later → IsOneWhere s1 next (λ a. a (s1.props + length c0) || is_one s0 later a) → IsLead s2 (length c1) c2 p next x
    → l.further ≡ x.further → IsOneWhere s3 l.stays (λ _. true) → l.ends ≡ true → (c3 : List Obligation) → c3 ≡ with_body c2 j x.further → IsLead s3 (length c0) c3 (Star p) later l
lead_star s0 s1 s2 s3 k1 c0 c1 c2 g k3 j e one ends p later next x l live o lx same_further z true_end c3 set = λ n d k from.
    let t2 = Keeps_trans s2 s3 n k3 k in
    let t1 = Keeps_trans s1 s2 n g.keeps t2 in
    let t0 = Keeps_trans s0 s1 n k1 t1 in
    let more = g.grows.longer in
    let len : length c3 ≡ length c2 = rw set (set-length c2 j x.further) in
    let lj : j < length c2 = omega arith in
    let own : slice_index_or d j missing ≡ record { ends = ends_of c2 j; body = x.further } = from.same j (omega arith) (omega arith) ∙ rw set (set-there c2 j x.further lj) in
    let was : ends_of c2 j ≡ false = ap (λ o. o.ends) (g.grows.same j (omega arith) (omega arith)) ∙ ap (λ i. ends_of c1 i) e ∙ ends in
    let inner : HasFrom (length c1) c2 d = record {
      longer = let h = from.longer in omega arith;
      same = λ i h m. from.same i (omega arith) (omega arith) ∙ rw set (set-others c2 j i x.further (λ u. omega arith));
    } in
    leads-star n d (goes n.props p) (holds n d later) (holds n d next) j
    (λ w. (one_lasts s1 n t1 next (λ a. a (s1.props + length c0) || is_one s0 later a) o).value (by_values n.props (cell n d w))
    ∙ rw (asked s1.props n t1.extends.props d w (length c0), sym (is_one-lasts s0 n t0 later live (by_values n.props (cell n d w))), sym e) refl)
    x (lx n d t2 inner) (ap (λ o. o.ends) own ∙ was) (ap (λ o. o.body) own)
    l same_further (λ a. (one_lasts s3 n k l.stays (λ _. true) z).value a) true_end

-- the diagrams of a test are bodies
pub test_bodies : (s1 s2 : Diagrams) → Keeps s1 s2 → (c : List Obligation) → FitsCells s2 c → (j : ℕ) → j < length c → (l : Lead) → IsOneWhere s1 l.further (λ _. false) → l.stays ≡ body_of c j
    → AreBodies s2 (length c) l
test_bodies s1 s2 k c f j h l z e = record {
  further = one_body s2 l.further (λ _. false) (length c) (one_lasts s1 s2 k l.further (λ _. false) z) (λ a b same. refl);
  stays = let P : Id → Type 0 = λ x. IsBody s2 (length c) x in subst P (sym e) (f j h);
}

-- the diagrams of a star are bodies
pub star_bodies : (s n : Diagrams) → Keeps s n → (c d : List Obligation) (j : ℕ) (x : Id) → d ≡ with_body c j x → (l : Lead) → l.further ≡ x → IsBody s (length c) x → IsOneWhere n l.stays (λ _. true)
    → AreBodies n (length d) l
star_bodies s n k c d j x set l e b z = record {
  further = rw (e, set, set-length c j x) (body_lasts s n k (length c) x b);
  stays = one_body n l.stays (λ _. true) (length d) z (λ a b same. refl);
}
