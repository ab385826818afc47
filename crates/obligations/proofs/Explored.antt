-- Locations as the store and the list of claims grow, and one location more.
use Rattle.std.proofs.Common.{◌≡◌, ℕ, ◌<◌, ◌-◌, Bool, if◌then◌else◌, List, length, refl, sym, ◌∙◌, ap, arith, Some}
use Rattle.std.specs.Prelude.{◌==◌}
use Rattle.diagrams.specs.declared.top.Id.{Id}
use Rattle.diagrams.specs.declared.top.Look.TheVariants.{Node}
use Rattle.diagrams.specs.Tree.{Assignment}
use Rattle.diagrams.specs.Eval.{Diagrams, top_of, eval, tree}
use Rattle.diagrams.specs.Live.{IsCanonical, Keeps}
use Rattle.diagrams.specs.Composed.{IsObligation, AllTruths, replaced, Composes}
use Rattle.diagrams.proofs.Canon.{tree_size}
use Rattle.diagrams.proofs.Meaning.{eval-lasts, eval-node, live-above}
use Rattle.diagrams.proofs.CofactorLemmas.{own}
use Rattle.diagrams.proofs.Composed.{lo_over, hi_over, top_obligation}
use Rattle.diagrams.proofs.Transformed.{down}
use Rattle.automata.proofs.Lasts.{row_lasts}
use Rattle.obligations.specs.declared.cells.Obligation.{Obligation}
use Rattle.obligations.specs.Table.{ends_of, body_of}
use Rattle.obligations.specs.Value.{by_values, IsClaim, FitsCells}
use Rattle.obligations.specs.Located.{Grows, AllClaims, Cuts, IsLocated, HasBodies, by_bodies}
use Rattle.obligations.proofs.Holds.{claim_lasts, by_values-obligations}
use Rattle.obligations.proofs.Cuts.{row_grown, item-grown}

below_count : (p count v : ℕ) → IsObligation p count v → v - p < count
below_count p count v h = let a = h.0 in let b = h.1 in omega arith

-- the values of bodies as the store grows
by_bodies-lasts : (s n : Diagrams) → Keeps s n → (c : List Obligation) → FitsCells s c → (a : Assignment) (v : ℕ) → IsObligation s.props (length c) v → by_bodies n c a v ≡ by_bodies s c a v
by_bodies-lasts s n k c f a v h =
    let j = v - s.props in
    let e : eval n (body_of c j) a ≡ eval s (body_of c j) a = eval-lasts s n k.was k.now k.extends (body_of c j) (f j (below_count s.props (length c) v h)).live a in
    ap (λ p. eval n (body_of c (v - p)) a == 1) k.extends.props ∙ ap (λ x. x == 1) e

-- what is left of a claim, in the grown store
left-lasts : (s n : Diagrams) → Keeps s n → (c : List Obligation) → FitsCells s c → (claim : Id) → IsClaim s (length c) claim → (a : Assignment)
    → eval n claim (by_bodies n c a) ≡ eval s claim (by_bodies s c a)
left-lasts s n k c f claim q a =
    eval-lasts s n k.was k.now k.extends claim q.live (by_bodies n c a) ∙ q.over (by_bodies n c a) (by_bodies s c a) (λ v h. by_bodies-lasts s n k c f a v h)

-- a location stays right as the store and the list grow
pub located_lasts : (s n : Diagrams) → Keeps s n → (c : List Obligation) → FitsCells s c → (old new : List Id) → Grows old new → AllClaims s (length c) old
    → (claim row : Id) (mark : ℕ) → IsLocated s c old claim row mark → IsLocated n c new claim row mark
located_lasts s n k c f old new g all claim row mark l = record {
  sound = claim_lasts s n k (length c) claim l.sound;
  leads = record {
    fits = row_lasts s n k (length new) row (row_grown s old new g row l.leads.fits);
    left = λ a.
        rw (eval-lasts s n k.was k.now k.extends row l.leads.fits.live a)
        (item-grown s n k (length c) old new g all (eval s row a) (l.leads.fits.targets a) a ∙ l.leads.left a ∙ sym (left-lasts s n k c f claim l.sound a));
  };
  end = l.end ∙ sym (eval-lasts s n k.was k.now k.extends claim l.sound.live (by_values s.props (ends_of c))) ∙ ap (λ p. eval n claim (by_values p (ends_of c))) (sym k.extends.props);
}

replaced-bodies : (s : Diagrams) (c : List Obligation) (bodies : List Id) → HasBodies c bodies → (a : Assignment) (v : ℕ) → IsObligation s.props (length c) v → replaced s bodies a v ≡ by_bodies s c a v
replaced-bodies s c bodies b a v h = ap (λ i. eval s i a == 1) (b.each (v - s.props) (below_count s.props (length c) v h))

-- bodies have the terminals 0 and 1
pub bodies_truth : (s : Diagrams) (c : List Obligation) (bodies : List Id) → FitsCells s c → HasBodies c bodies → AllTruths s bodies
bodies_truth s c bodies f b k h =
    let l : k < length c = rw b.count at h in
    let body = f k l in
    rw (b.each k l) (record { live = body.live; truth = body.truth })

-- the row that is cut from what a claim composes to
pub located_cut : (s0 s1 s2 : Diagrams) → Keeps s0 s1 → Keeps s1 s2 → (c : List Obligation) (bodies : List Id) → FitsCells s0 c → HasBodies c bodies → (claims : List Id) (claim whole row : Id) (mark : ℕ)
    → IsClaim s0 (length c) claim → Composes s0 s1 bodies claim whole → Cuts s1 s2 claims whole row → mark ≡ eval s0 claim (by_values s0.props (ends_of c)) → Keeps s0 s2
    → IsLocated s2 c claims claim row mark
located_cut s0 s1 s2 k0 k1 c bodies f b claims claim whole row mark q m u e k = record {
  sound = claim_lasts s0 s2 k (length c) claim q;
  leads = record {
    fits = u.fits;
    left = λ a.
        u.left a ∙ m.value a
        ∙ q.over (replaced s0 bodies a) (by_bodies s0 c a) (λ v h. replaced-bodies s0 c bodies b a v h)
        ∙ sym (left-lasts s0 s2 k c f claim q a);
  };
  end = e ∙ sym (eval-lasts s0 s2 k.was k.now k.extends claim q.live (by_values s0.props (ends_of c))) ∙ ap (λ p. eval s2 claim (by_values p (ends_of c))) (sym k.extends.props);
}

-- what the value at the end may use of the children
pub record ClaimsDown (s : Diagrams) (count : ℕ) (f lo hi : Id) (v : ℕ) : Type 0 where
  pub lo_claim : IsClaim s count lo
  pub hi_claim : IsClaim s count hi
  pub own_obligation : IsObligation s.props count v
  pub lo_less : tree_size (tree s lo) < tree_size (tree s f)
  pub hi_less : tree_size (tree s hi) < tree_size (tree s f)

-- the children of a node of a claim
pub claims_down : (s : Diagrams) → IsCanonical s → (count : ℕ) (f lo hi : Id) (v : ℕ) → top_of s f ≡ Some (Node v lo hi) → IsClaim s count f → ClaimsDown s count f lo hi v
claims_down s c count f lo hi v e b =
    let d = down s c f lo hi v e in
    let p = own s c v f lo hi e in
    record {
      lo_claim = record { live = live-above v _ d.lo_above; over = lo_over s c _ v f lo hi p b.over; truth = d.lo_fit _ b.truth };
      hi_claim = record { live = live-above v _ d.hi_above; over = hi_over s c _ v f lo hi p b.over; truth = d.hi_fit _ b.truth };
      own_obligation = top_obligation s c count v f lo hi e b.over;
      lo_less = d.lo_less;
      hi_less = d.hi_less;
    }

-- the value at the end goes by the end value of the top
pub end-node : (s : Diagrams) → IsCanonical s → (count : ℕ) (f lo hi : Id) (v : ℕ) (ends : ℕ → Bool) (x : Bool) → top_of s f ≡ Some (Node v lo hi) → IsObligation s.props count v
    → ends (v - s.props) ≡ x → eval s f (by_values s.props ends) ≡ (if x then eval s hi (by_values s.props ends) else eval s lo (by_values s.props ends))
end-node s c count f lo hi v ends x e h q =
    eval-node s c f v lo hi e (by_values s.props ends) ∙ rw (by_values-obligations s.props ends v h.0, q) refl
