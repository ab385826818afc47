-- The step of a walk that cuts a diagram where its propositions end.
use Rattle.std.proofs.Common.{◌≡◌, ℕ, ◌<◌, ◌≤◌, ◌+◌, Bool, true, false, if◌then◌else◌, List, length, refl, sym, ◌∙◌, arith, inl, inr, Some, Result, IfOk}
use Rattle.std.specs.Prelude.{nat_lt}
use Rattle.std.proofs.lemmas.Bool.Decides.{nat_tests}
use Rattle.std.proofs.lemmas.Result.{IfOk-weaker}
use Rattle.diagrams.specs.declared.top.Id.{Id}
use Rattle.diagrams.specs.declared.top.Look.TheVariants.{Terminal, Node}
use Rattle.diagrams.specs.declared.memo.Memo.{Memo}
use Rattle.diagrams.specs.Tree.{Assignment}
use Rattle.diagrams.specs.Eval.{Diagrams, top_of, eval, tree, DependsOn}
use Rattle.diagrams.specs.Live.{IsLive, IsCanonical, Keeps, Means}
use Rattle.diagrams.specs.Composed.{IsObligation}
use Rattle.diagrams.specs.Eval.{id_at}
use Rattle.diagrams.specs.Kept.{AllKept}
use Rattle.diagrams.specs.Transformed.{same_id}
use Rattle.diagrams.proofs.Canon.{tree_size}
use Rattle.diagrams.proofs.Meaning.{eval-lasts, live_lasts, eval-node, eval-terminal, live-above}
use Rattle.diagrams.proofs.Expansion.{depends_from_stands}
use Rattle.diagrams.proofs.CofactorLemmas.{own}
use Rattle.std.proofs.lemmas.Bool.{cases_Bool}
use Rattle.diagrams.proofs.Composed.{lo_over, hi_over, top_over}
use Rattle.diagrams.proofs.Kept.{kept_weaker}
use Rattle.diagrams.proofs.Transformed.{down}
use Rattle.diagrams.proofs.Windows.{if_below}
use Rattle.automata.specs.Table.{IsRow}
use Rattle.automata.proofs.Lasts.{row_lasts}
use Rattle.obligations.specs.Value.{IsClaim, IsBody}
use Rattle.obligations.specs.Located.{Grows, AllClaims, Cuts, IsCut}
use Rattle.obligations.proofs.Holds.{claim_lasts}

-- the low child of a node depends on later variables alone
pub lo_depends : (s : Diagrams) → IsCanonical s → (v : ℕ) (f lo hi : Id) → top_of s f ≡ Some (Node v lo hi) → DependsOn s lo (λ w. v < w)
lo_depends s c v f lo hi e = depends_from_stands s c v lo (c.nodes f v lo hi e).lo_above

-- and so does the high child
pub hi_depends : (s : Diagrams) → IsCanonical s → (v : ℕ) (f lo hi : Id) → top_of s f ≡ Some (Node v lo hi) → DependsOn s hi (λ w. v < w)
hi_depends s c v f lo hi e = depends_from_stands s c v hi (c.nodes f v lo hi e).hi_above

-- a diagram depends on no variable before the one at its top
pub depends_top : (s : Diagrams) → IsCanonical s → (p v : ℕ) (f lo hi : Id) → top_of s f ≡ Some (Node v lo hi) → p ≤ v → DependsOn s f (λ w. p ≤ w)
depends_top s c p v f lo hi e h a b same =
    eval-node s c f v lo hi e a
    ∙ (rw (
      same v h,
      lo_depends s c v f lo hi e a b (λ w l. same w (omega arith)),
      hi_depends s c v f lo hi e a b (λ w l. same w (omega arith)),
    ) refl)
    ∙ sym (eval-node s c f v lo hi e b)

-- a constant depends on nothing
pub depends_terminal : (s : Diagrams) (f : Id) (t : ℕ) → top_of s f ≡ Some (Terminal t) → (P : ℕ → Type 0) → DependsOn s f P
depends_terminal s f t e P a b same = eval-terminal s f t e a ∙ sym (eval-terminal s f t e b)

-- a diagram that depends on variables from p on, and on variables before p + count, depends on obligations
pub depends_both : (s : Diagrams) (p count : ℕ) (f : Id) → DependsOn s f (λ v. v < p + count) → DependsOn s f (λ v. p ≤ v) → DependsOn s f (IsObligation p count)
depends_both s p count f d e a b same =
    let c : Assignment = λ v. if nat_lt v p then b v else a v in
    e a c (λ v h. from-p a b p v h) ∙ d c b (λ v h. below p count a b same v h)
  where
    from-p : (a b : Assignment) (p v : ℕ) → p ≤ v → a v ≡ (if nat_lt v p then b v else a v)
    from-p a b p v h = let t : nat_lt v p ≡ false = grind (arith, nat_tests) in rw t refl

    below : (p count : ℕ) (a b : Assignment) → ((v : ℕ) → IsObligation p count v → a v ≡ b v) → (v : ℕ) → v < p + count → (if nat_lt v p then b v else a v) ≡ b v
    below p count a b same v h =
        elim (cases_Bool (nat_lt v p)) [
          | inl t ↦ rw t refl
          | inr t ↦ let l : p ≤ v = grind (arith, nat_tests) in rw t (same v (l, h))
        ]

-- a list goes on as itself
pub grows_refl : (c : List Id) → Grows c c
grows_refl c = record { longer = omega arith; same = λ at h. refl }

-- claims stay claims as the store grows
pub claims_last : (s n : Diagrams) → Keeps s n → (count : ℕ) (claims : List Id) → AllClaims s count claims → AllClaims n count claims
claims_last s n k count claims all at h = claim_lasts s n k count (id_at claims at) (all at h)

-- what a location stands for, in the grown store and the grown list
pub item-grown : (s n : Diagrams) → Keeps s n → (count : ℕ) (c d : List Id) → Grows c d → AllClaims s count c → (at : ℕ) → at < length c → (a : Assignment)
    → eval n (id_at d at) a ≡ eval s (id_at c at) a
item-grown s n k count c d g all at h a = rw (g.same at h) (eval-lasts s n k.was k.now k.extends (id_at c at) (all at h).live a)

-- a row leads to locations of the grown list
pub row_grown : (s : Diagrams) (c d : List Id) → Grows c d → (row : Id) → IsRow s (length c) row → IsRow s (length d) row
row_grown s c d g row r = record { live = r.live; letters = r.letters; targets = λ a. let h = r.targets a in let k = g.longer in omega arith }

-- what was cut stays cut
pub cuts_last : (s0 s n : Diagrams) → Keeps s n → (count : ℕ) (c d : List Id) → Grows c d → AllClaims s count c → (f row : Id) → Cuts s0 s c f row → Cuts s0 n d f row
cuts_last s0 s n k count c d g all f row u = record {
  fits = row_lasts s n k (length d) row (row_grown s c d g row u.fits);
  left = λ a.
      rw (eval-lasts s n k.was k.now k.extends row u.fits.live a)
      (item-grown s n k count c d g all (eval s row a) (u.fits.targets a) a ∙ u.left a);
  above = λ v h x y same.
      eval-lasts s n k.was k.now k.extends row u.fits.live x ∙ u.above v h x y same ∙ sym (eval-lasts s n k.was k.now k.extends row u.fits.live y);
}

-- what a live id depends on in the grown store it depended on before
pub depends_back : (s n : Diagrams) → Keeps s n → (f : Id) → IsLive s f → (P : ℕ → Type 0) → DependsOn n f P → DependsOn s f P
depends_back s n k f l P d x y same = sym (eval-lasts s n k.was k.now k.extends f l x) ∙ d x y same ∙ eval-lasts s n k.was k.now k.extends f l y

-- the cut of a diagram is a cut in the store that made it
pub cuts_now : (s n : Diagrams) → Keeps s n → (c : List Id) (f row : Id) → IsLive s f → Cuts s n c f row → IsCut n c f row
cuts_now s n k c f row l u = record {
  live = live_lasts s n k.extends f l;
  cuts = record {
    fits = u.fits;
    left = λ a. u.left a ∙ sym (eval-lasts s n k.was k.now k.extends f l a);
    above = λ v d. u.above v (depends_back s n k f l (λ w. v < w) d);
  };
}

-- a cut stays one as the store and the list grow
pub cut_lasts : (s n : Diagrams) → Keeps s n → (count : ℕ) (c d : List Id) → Grows c d → AllClaims s count c → (f row : Id) → IsCut s c f row → IsCut n d f row
cut_lasts s n k count c d g all f row u = cuts_now s n k d f row u.live (cuts_last s s n k count c d g all f row u.cuts)

-- and so do those in a memo
pub kept_cut_lasts : (s n : Diagrams) → Keeps s n → (count : ℕ) (c d : List Id) → Grows c d → AllClaims s count c → (m : Memo Id) → AllKept same_id (IsCut s c) m → AllKept same_id (IsCut n d) m
kept_cut_lasts s n k count c d g all m r = kept_weaker same_id (IsCut s c) (IsCut n d) m (λ f row u. cut_lasts s n k count c d g all f row u) r

-- a diagram that depends on variables above v has its top above v
pub top_after : (s : Diagrams) → IsCanonical s → (v w : ℕ) (f lo hi : Id) → top_of s f ≡ Some (Node w lo hi) → DependsOn s f (λ x. v < x) → v < w
top_after s c v w f lo hi e d =
    elim (cases_Bool (nat_lt v w)) [
      | inl t ↦ grind (arith, nat_tests)
      | inr t ↦ absurd (top_over s c (λ x. v < x) w f lo hi e d (λ l. let h : w ≤ v = grind (arith, nat_tests) in omega arith))
    ]

-- below the propositions the row is the number of the claim
pub cuts_end : (s n : Diagrams) → Keeps s n → (count : ℕ) (claims : List Id) (f row : Id) (at : ℕ) → IsClaim s count f → at < length claims → id_at claims at ≡ f
    → Means n row (λ _. at) → Cuts s n claims f row
cuts_end s n k count claims f row at q h e m = record {
  fits = record { live = m.live; letters = λ a b same. m.value a ∙ sym (m.value b); targets = λ a. rw (m.value a) h };
  left = λ a. rw (m.value a, e) (eval-lasts s n k.was k.now k.extends f q.live a);
  above = λ v d a b same. m.value a ∙ sym (m.value b);
}

-- where both children are cut, the node is cut
pub cuts_node : (s n m : Diagrams) → Keeps s n → Keeps n m → (count : ℕ) (claims : List Id) → AllClaims n count claims → (v : ℕ) (f lo hi low high row : Id)
    → top_of s f ≡ Some (Node v lo hi) → v < s.props → Cuts s n claims lo low → Cuts s n claims hi high
    → Means m row (λ a. if a v then eval n high a else eval n low a) → Cuts s m claims f row
cuts_node s n m k j count claims all v f lo hi low high row e small x y t =
    let p : n.props ≡ s.props = k.extends.props in
    let q : m.props ≡ n.props = j.extends.props in
    record {
      fits = record {
        live = t.live;
        letters = λ a b same.
            t.value a ∙ (rw (
              same v (rw (q ∙ p) small),
              x.fits.letters a b (λ w h. same w (rw q h)),
              y.fits.letters a b (λ w h. same w (rw q h)),
            ) refl) ∙ sym (t.value b);
        targets = λ a. rw (t.value a) (if_below (a v) (eval n high a) (eval n low a) (length claims) (y.fits.targets a) (x.fits.targets a));
      };
      left = λ a.
          rw (t.value a, eval-node s k.was f v lo hi e a)
          (if_left (λ i. eval m (id_at claims i) a) (a v) (eval n high a) (eval n low a) (eval s hi a) (eval s lo a)
          (eval-lasts n m j.was j.now j.extends (id_at claims (eval n high a)) (all _ (y.fits.targets a)).live a ∙ y.left a)
          (eval-lasts n m j.was j.now j.extends (id_at claims (eval n low a)) (all _ (x.fits.targets a)).live a ∙ x.left a));
      above = λ w d a b same.
          let l : w < v = top_after s k.was w v f lo hi e d in
          t.value a ∙ (rw (
            same v l,
            x.above v (lo_depends s k.was v f lo hi e) a b (λ z h. same z (omega arith)),
            y.above v (hi_depends s k.was v f lo hi e) a b (λ z h. same z (omega arith)),
          ) refl) ∙ sym (t.value b);
    }
  where
    if_left : (g : ℕ → ℕ) (b : Bool) (x y p q : ℕ) → g x ≡ p → g y ≡ q → g (if b then x else y) ≡ (if b then p else q)
    if_left g true x y p q h k = h
    if_left g false x y p q h k = k

-- a constant body is a claim
pub claim_terminal : (s : Diagrams) (count : ℕ) (f : Id) (t : ℕ) → IsBody s count f → top_of s f ≡ Some (Terminal t) → IsClaim s count f
claim_terminal s count f t b e = record { live = b.live; over = depends_terminal s f t e (IsObligation s.props count); truth = b.truth }

-- a body whose top is an obligation is a claim
pub claim_node : (s : Diagrams) → IsCanonical s → (count v : ℕ) (f lo hi : Id) → IsBody s count f → top_of s f ≡ Some (Node v lo hi) → s.props ≤ v → IsClaim s count f
claim_node s c count v f lo hi b e h = record { live = b.live; over = depends_both s s.props count f b.over (depends_top s c s.props v f lo hi e h); truth = b.truth }

-- what the walk may use of the children
pub record WalksDown (s : Diagrams) (count : ℕ) (f lo hi : Id) (v : ℕ) : Type 0 where
  pub lo_body : IsBody s count lo
  pub hi_body : IsBody s count hi
  pub lo_less : tree_size (tree s lo) < tree_size (tree s f)
  pub hi_less : tree_size (tree s hi) < tree_size (tree s f)

-- the children of a node of a body
pub walks_down : (s : Diagrams) → IsCanonical s → (count : ℕ) (f lo hi : Id) (v : ℕ) → top_of s f ≡ Some (Node v lo hi) → IsBody s count f → WalksDown s count f lo hi v
walks_down s c count f lo hi v e b =
    let d = down s c f lo hi v e in
    let p = own s c v f lo hi e in
    record {
      lo_body = record { live = live-above v _ d.lo_above; over = lo_over s c _ v f lo hi p b.over; truth = d.lo_fit _ b.truth };
      hi_body = record { live = live-above v _ d.hi_above; over = hi_over s c _ v f lo hi p b.over; truth = d.hi_fit _ b.truth };
      lo_less = d.lo_less;
      hi_less = d.hi_less;
    }

-- a cut in a grown store is one of the store before
pub cuts_from : (s0 s1 n : Diagrams) → Keeps s0 s1 → (c : List Id) (f row : Id) → IsLive s0 f → Cuts s1 n c f row → Cuts s0 n c f row
cuts_from s0 s1 n k c f row l u = record {
  fits = u.fits;
  left = λ a. u.left a ∙ eval-lasts s0 s1 k.was k.now k.extends f l a;
  above = λ v d. u.above v (λ a b same. eval-lasts s0 s1 k.was k.now k.extends f l a ∙ d a b same ∙ sym (eval-lasts s0 s1 k.was k.now k.extends f l b));
}

-- the cut children in the store before the node is made
pub record CutsChildren (s0 s2 : Diagrams) (claims : List Id) (v : ℕ) (lo hi low high : Id) : Type 0 where
  pub low_cut : Cuts s0 s2 claims lo low
  pub high_cut : Cuts s0 s2 claims hi high
  pub low_above : DependsOn s2 low (λ w. v < w)
  pub high_above : DependsOn s2 high (λ w. v < w)

-- both children are cut
pub cuts_children : (s0 s1 s2 : Diagrams) → Keeps s0 s1 → Keeps s1 s2 → (count : ℕ) (c1 c2 : List Id) → Grows c1 c2 → AllClaims s1 count c1 → (v : ℕ) (f lo hi low high : Id)
    → top_of s0 f ≡ Some (Node v lo hi) → IsLive s0 hi → Cuts s0 s1 c1 lo low → Cuts s1 s2 c2 hi high → CutsChildren s0 s2 c2 v lo hi low high
cuts_children s0 s1 s2 k0 k1 count c1 c2 g all v f lo hi low high e l x y =
    let low_cut : Cuts s0 s2 c2 lo low = cuts_last s0 s1 s2 k1 count c1 c2 g all lo low x in
    let high_cut : Cuts s0 s2 c2 hi high = cuts_from s0 s1 s2 k0 c2 hi high l y in
    record {
      low_cut = low_cut;
      high_cut = high_cut;
      low_above = low_cut.above v (lo_depends s0 k0.was v f lo hi e);
      high_above = high_cut.above v (hi_depends s0 k0.was v f lo hi e);
    }

-- one claim more
pub claims_placed : (s : Diagrams) (count : ℕ) (c d : List Id) (f : Id) → AllClaims s count c → IsClaim s count f → Grows c d
    → ((at : ℕ) → length c ≤ at → at < length d → id_at d at ≡ f) → AllClaims s count d
claims_placed s count c d f all q g others at h =
    elim (cases_Bool (nat_lt at (length c))) [
      | inl t ↦ let l : at < length c = grind (arith, nat_tests) in rw (g.same at l) (all at l)
      | inr t ↦ let l : length c ≤ at = grind (arith, nat_tests) in rw (others at l h) q
    ]

-- the same of a call that may fail
pub cuts_end_ok : {E : Type 0} (r : Result Id E) (s n : Diagrams) → Keeps s n → (count : ℕ) (claims : List Id) (f : Id) (at : ℕ) → IsClaim s count f → at < length claims → id_at claims at ≡ f
    → IfOk r (λ row. Means n row (λ _. at)) → IfOk r (λ row. Cuts s n claims f row)
cuts_end_ok r s n k count claims f at q h e =
    IfOk-weaker r (λ row. Means n row (λ _. at)) (λ row. Cuts s n claims f row) (λ row m. cuts_end s n k count claims f row at q h e m)
