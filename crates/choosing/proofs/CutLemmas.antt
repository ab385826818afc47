-- The step of a walk that cuts a diagram at a variable.
use Rattle.std.proofs.Common.{◌≡◌, ℕ, ◌<◌, ◌≤◌, Bool, true, false, if◌then◌else◌, List, length, refl, sym, ◌∙◌, arith, inl, inr, Some, Result, IfOk}
use Rattle.std.specs.Prelude.{nat_lt}
use Rattle.std.proofs.lemmas.Bool.Decides.{nat_tests}
use Rattle.std.proofs.lemmas.Result.{IfOk-weaker}
use Rattle.diagrams.specs.declared.top.Id.{Id}
use Rattle.diagrams.specs.declared.top.Look.TheVariants.{Terminal, Node}
use Rattle.diagrams.specs.declared.memo.Memo.{Memo}
use Rattle.diagrams.specs.Tree.{Assignment}
use Rattle.diagrams.specs.Eval.{Diagrams, top_of, eval, DependsOn}
use Rattle.diagrams.specs.Live.{IsLive, IsCanonical, Keeps, Means}
use Rattle.diagrams.specs.Eval.{id_at}
use Rattle.diagrams.specs.Kept.{AllKept}
use Rattle.diagrams.specs.Transformed.{same_id}
use Rattle.diagrams.proofs.Meaning.{eval-lasts, live_lasts, eval-node, eval-terminal}
use Rattle.diagrams.proofs.Expansion.{depends_from_stands}
use Rattle.std.proofs.lemmas.Bool.{cases_Bool}
use Rattle.diagrams.proofs.Composed.{top_over}
use Rattle.diagrams.proofs.DependsLemmas.{over_later}
use Rattle.diagrams.proofs.Kept.{kept_weaker}
use Rattle.diagrams.proofs.Windows.{if_below}
use Rattle.choosing.specs.Cuts.{Grows, AllBelow, IsBelow, IsCutRow, Cuts, IsCut}

-- the low child of a node depends on later variables alone
pub lo_depends : (s : Diagrams) → IsCanonical s → (v : ℕ) (f lo hi : Id) → top_of s f ≡ Some (Node v lo hi) → DependsOn s lo (λ w. v < w)
lo_depends s c v f lo hi e = depends_from_stands s c v lo (c.nodes f v lo hi e).lo_above

-- and so does the high child
pub hi_depends : (s : Diagrams) → IsCanonical s → (v : ℕ) (f lo hi : Id) → top_of s f ≡ Some (Node v lo hi) → DependsOn s hi (λ w. v < w)
hi_depends s c v f lo hi e = depends_from_stands s c v hi (c.nodes f v lo hi e).hi_above

-- a diagram depends on no variable before the one at its top
pub depends_top : (s : Diagrams) → IsCanonical s → (p v : ℕ) (f lo hi : Id) → top_of s f ≡ Some (Node v lo hi) → p ≤ v → DependsOn s f (λ w. p ≤ w)
depends_top s c p v f lo hi e h a b same =
    eval-node s c f v lo hi e a
    ∙ (rw (
      same v h,
      lo_depends s c v f lo hi e a b (λ w l. same w (omega arith)),
      hi_depends s c v f lo hi e a b (λ w l. same w (omega arith)),
    ) refl)
    ∙ sym (eval-node s c f v lo hi e b)

-- a constant depends on nothing
pub depends_terminal : (s : Diagrams) (f : Id) (t : ℕ) → top_of s f ≡ Some (Terminal t) → (P : ℕ → Type 0) → DependsOn s f P
depends_terminal s f t e P a b same = eval-terminal s f t e a ∙ sym (eval-terminal s f t e b)

module _ (bound : ℕ) where
  -- a diagram below the bound stays one as the store grows
  pub below_lasts : (s n : Diagrams) → Keeps s n → (f : Id) → IsBelow s bound f → IsBelow n bound f
  below_lasts s n k f b = record { live = live_lasts s n k.extends f b.live; over = over_later s n k f (λ v. bound ≤ v) b.live b.over }

  row_lasts : (s n : Diagrams) → Keeps s n → (size : ℕ) (row : Id) → IsCutRow s bound size row → IsCutRow n bound size row
  row_lasts s n k size row r = record {
    live = live_lasts s n k.extends row r.live;
    letters = over_later s n k row (λ v. v < bound) r.live r.letters;
    targets = λ a. rw (eval-lasts s n k.was k.now k.extends row r.live a) (r.targets a);
  }

  -- a list goes on as itself
  pub grows_refl : (c : List Id) → Grows c c
  grows_refl c = record { longer = omega arith; same = λ at h. refl }

  -- items stay items as the store grows
  pub items_last : (s n : Diagrams) → Keeps s n → (items : List Id) → AllBelow s bound items → AllBelow n bound items
  items_last s n k items all at h = below_lasts s n k (id_at items at) (all at h)

  -- what a location stands for, in the grown store and the grown list
  pub item-grown : (s n : Diagrams) → Keeps s n → (c d : List Id) → Grows c d → AllBelow s bound c → (at : ℕ) → at < length c → (a : Assignment)
      → eval n (id_at d at) a ≡ eval s (id_at c at) a
  item-grown s n k c d g all at h a = rw (g.same at h) (eval-lasts s n k.was k.now k.extends (id_at c at) (all at h).live a)

  -- a row leads to locations of the grown list
  pub row_grown : (s : Diagrams) (c d : List Id) → Grows c d → (row : Id) → IsCutRow s bound (length c) row → IsCutRow s bound (length d) row
  row_grown s c d g row r = record { live = r.live; letters = r.letters; targets = λ a. let h = r.targets a in let k = g.longer in omega arith }

  -- what was cut stays cut
  pub cuts_last : (s0 s n : Diagrams) → Keeps s n → (c d : List Id) → Grows c d → AllBelow s bound c → (f row : Id) → Cuts s0 s bound c f row → Cuts s0 n bound d f row
  cuts_last s0 s n k c d g all f row u = record {
    fits = row_lasts s n k (length d) row (row_grown s c d g row u.fits);
    left = λ a.
        rw (eval-lasts s n k.was k.now k.extends row u.fits.live a)
        (item-grown s n k c d g all (eval s row a) (u.fits.targets a) a ∙ u.left a);
    above = λ v h x y same.
        eval-lasts s n k.was k.now k.extends row u.fits.live x ∙ u.above v h x y same ∙ sym (eval-lasts s n k.was k.now k.extends row u.fits.live y);
  }

  -- what a live id depends on in the grown store it depended on before
  pub depends_back : (s n : Diagrams) → Keeps s n → (f : Id) → IsLive s f → (P : ℕ → Type 0) → DependsOn n f P → DependsOn s f P
  depends_back s n k f l P d x y same = sym (eval-lasts s n k.was k.now k.extends f l x) ∙ d x y same ∙ eval-lasts s n k.was k.now k.extends f l y

  -- the cut of a diagram is a cut in the store that made it
  pub cuts_now : (s n : Diagrams) → Keeps s n → (c : List Id) (f row : Id) → IsLive s f → Cuts s n bound c f row → IsCut n bound c f row
  cuts_now s n k c f row l u = record {
    live = live_lasts s n k.extends f l;
    cuts = record {
      fits = u.fits;
      left = λ a. u.left a ∙ sym (eval-lasts s n k.was k.now k.extends f l a);
      above = λ v d. u.above v (depends_back s n k f l (λ w. v < w) d);
    };
  }

  -- a cut stays one as the store and the list grow
  pub cut_lasts : (s n : Diagrams) → Keeps s n → (c d : List Id) → Grows c d → AllBelow s bound c → (f row : Id) → IsCut s bound c f row → IsCut n bound d f row
  cut_lasts s n k c d g all f row u = cuts_now s n k d f row u.live (cuts_last s s n k c d g all f row u.cuts)

  -- and so do those in a memo
  pub kept_cut_lasts : (s n : Diagrams) → Keeps s n → (c d : List Id) → Grows c d → AllBelow s bound c → (m : Memo Id) → AllKept same_id (IsCut s bound c) m → AllKept same_id (IsCut n bound d) m
  kept_cut_lasts s n k c d g all m r = kept_weaker same_id (IsCut s bound c) (IsCut n bound d) m (λ f row u. cut_lasts s n k c d g all f row u) r

  -- a diagram that depends on variables above v has its top above v
  pub top_after : (s : Diagrams) → IsCanonical s → (v w : ℕ) (f lo hi : Id) → top_of s f ≡ Some (Node w lo hi) → DependsOn s f (λ x. v < x) → v < w
  top_after s c v w f lo hi e d =
      elim (cases_Bool (nat_lt v w)) [
        | inl t ↦ grind (arith, nat_tests)
        | inr t ↦ absurd (top_over s c (λ x. v < x) w f lo hi e d (λ l. let h : w ≤ v = grind (arith, nat_tests) in omega arith))
      ]

  -- below the propositions the row is the number of the item
  pub cuts_end : (s n : Diagrams) → Keeps s n → (items : List Id) (f row : Id) (at : ℕ) → IsBelow s bound f → at < length items → id_at items at ≡ f
      → Means n row (λ _. at) → Cuts s n bound items f row
  cuts_end s n k items f row at q h e m = record {
    fits = record { live = m.live; letters = λ a b same. m.value a ∙ sym (m.value b); targets = λ a. rw (m.value a) h };
    left = λ a. rw (m.value a, e) (eval-lasts s n k.was k.now k.extends f q.live a);
    above = λ v d a b same. m.value a ∙ sym (m.value b);
  }

  -- where both children are cut, the node is cut
  pub cuts_node : (s n m : Diagrams) → Keeps s n → Keeps n m → (items : List Id) → AllBelow n bound items → (v : ℕ) (f lo hi low high row : Id)
      → top_of s f ≡ Some (Node v lo hi) → v < bound → Cuts s n bound items lo low → Cuts s n bound items hi high
      → Means m row (λ a. if a v then eval n high a else eval n low a) → Cuts s m bound items f row
  cuts_node s n m k j items all v f lo hi low high row e small x y t =
      record {
        fits = record {
          live = t.live;
          letters = λ a b same.
              t.value a ∙ (rw (
                same v small,
                x.fits.letters a b same,
                y.fits.letters a b same,
              ) refl) ∙ sym (t.value b);
          targets = λ a. rw (t.value a) (if_below (a v) (eval n high a) (eval n low a) (length items) (y.fits.targets a) (x.fits.targets a));
        };
        left = λ a.
            rw (t.value a, eval-node s k.was f v lo hi e a)
            (if_left (λ i. eval m (id_at items i) a) (a v) (eval n high a) (eval n low a) (eval s hi a) (eval s lo a)
            (eval-lasts n m j.was j.now j.extends (id_at items (eval n high a)) (all _ (y.fits.targets a)).live a ∙ y.left a)
            (eval-lasts n m j.was j.now j.extends (id_at items (eval n low a)) (all _ (x.fits.targets a)).live a ∙ x.left a));
        above = λ w d a b same.
            let l : w < v = top_after s k.was w v f lo hi e d in
            t.value a ∙ (rw (
              same v l,
              x.above v (lo_depends s k.was v f lo hi e) a b (λ z h. same z (omega arith)),
              y.above v (hi_depends s k.was v f lo hi e) a b (λ z h. same z (omega arith)),
            ) refl) ∙ sym (t.value b);
      }
    where
      if_left : (g : ℕ → ℕ) (b : Bool) (x y p q : ℕ) → g x ≡ p → g y ≡ q → g (if b then x else y) ≡ (if b then p else q)
      if_left g true x y p q h k = h
      if_left g false x y p q h k = k

  -- a cut in a grown store is one of the store before
  pub cuts_from : (s0 s1 n : Diagrams) → Keeps s0 s1 → (c : List Id) (f row : Id) → IsLive s0 f → Cuts s1 n bound c f row → Cuts s0 n bound c f row
  cuts_from s0 s1 n k c f row l u = record {
    fits = u.fits;
    left = λ a. u.left a ∙ eval-lasts s0 s1 k.was k.now k.extends f l a;
    above = λ v d. u.above v (λ a b same. eval-lasts s0 s1 k.was k.now k.extends f l a ∙ d a b same ∙ sym (eval-lasts s0 s1 k.was k.now k.extends f l b));
  }

  -- the cut children in the store before the node is made
  pub record CutsChildren (s0 s2 : Diagrams) (items : List Id) (v : ℕ) (lo hi low high : Id) : Type 0 where
    pub low_cut : Cuts s0 s2 bound items lo low
    pub high_cut : Cuts s0 s2 bound items hi high
    pub low_above : DependsOn s2 low (λ w. v < w)
    pub high_above : DependsOn s2 high (λ w. v < w)

  -- both children are cut
  pub cuts_children : (s0 s1 s2 : Diagrams) → Keeps s0 s1 → Keeps s1 s2 → (c1 c2 : List Id) → Grows c1 c2 → AllBelow s1 bound c1 → (v : ℕ) (f lo hi low high : Id)
      → top_of s0 f ≡ Some (Node v lo hi) → IsLive s0 hi → Cuts s0 s1 bound c1 lo low → Cuts s1 s2 bound c2 hi high → CutsChildren s0 s2 c2 v lo hi low high
  cuts_children s0 s1 s2 k0 k1 c1 c2 g all v f lo hi low high e l x y =
      let low_cut : Cuts s0 s2 bound c2 lo low = cuts_last s0 s1 s2 k1 c1 c2 g all lo low x in
      let high_cut : Cuts s0 s2 bound c2 hi high = cuts_from s0 s1 s2 k0 c2 hi high l y in
      record {
        low_cut = low_cut;
        high_cut = high_cut;
        low_above = low_cut.above v (lo_depends s0 k0.was v f lo hi e);
        high_above = high_cut.above v (hi_depends s0 k0.was v f lo hi e);
      }

  -- one claim more
  pub items_placed : (s : Diagrams) (c d : List Id) (f : Id) → AllBelow s bound c → IsBelow s bound f → Grows c d
      → ((at : ℕ) → length c ≤ at → at < length d → id_at d at ≡ f) → AllBelow s bound d
  items_placed s c d f all q g others at h =
      elim (cases_Bool (nat_lt at (length c))) [
        | inl t ↦ let l : at < length c = grind (arith, nat_tests) in rw (g.same at l) (all at l)
        | inr t ↦ let l : length c ≤ at = grind (arith, nat_tests) in rw (others at l h) q
      ]

  -- the same of a call that may fail
  pub cuts_end_ok : {E : Type 0} (r : Result Id E) (s n : Diagrams) → Keeps s n → (items : List Id) (f : Id) (at : ℕ) → IsBelow s bound f → at < length items → id_at items at ≡ f
      → IfOk r (λ row. Means n row (λ _. at)) → IfOk r (λ row. Cuts s n bound items f row)
  cuts_end_ok r s n k items f at q h e =
      IfOk-weaker r (λ row. Means n row (λ _. at)) (λ row. Cuts s n bound items f row) (λ row m. cuts_end s n k items f row at q h e m)
