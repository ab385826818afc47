-- The step of a walk over two rows.
use Rattle.std.proofs.Common.{◌≡◌, ◌<◌, inl, inr, ℕ, Bool, true, false, Some, sym, ◌∙◌, ap, if◌then◌else◌, List, Result, OnOk, IfOk, Ok, Err}
use Rattle.std.specs.Prelude.{slice_get}
use Rattle.diagrams.specs.declared.top.Id.{Id}
use Rattle.diagrams.specs.declared.top.Look.TheVariants.{Terminal}
use Rattle.diagrams.specs.declared.memo.Memo.{Memo}
use Rattle.diagrams.specs.Tree.{put}
use Rattle.diagrams.proofs.CofactorLemmas.{low-value, high-value}
use Rattle.diagrams.specs.Eval.{Diagrams, top_of, eval, DependsOn}
use Rattle.diagrams.specs.Branch.{split_value}
use Rattle.diagrams.specs.Kept.{AllKept}
use Rattle.diagrams.specs.Live.{IsLive, Keeps, Means}
use Rattle.diagrams.proofs.Meaning.{eval-lasts, live_lasts, live-above, eval-terminal}
use Rattle.diagrams.proofs.Expansion.{depends_from_stands}
use Rattle.diagrams.proofs.Growth.{stands_lasts}
use Rattle.diagrams.proofs.Combines.{IsStep}
use Rattle.products.specs.declared.places.Place.{Place}
use Rattle.products.specs.declared.places.Rows.{Rows}
use Rattle.products.specs.Places.{same_rows, ArePlaces, AreMet, Grows, IsPairing, IsPaired}
use Rattle.products.proofs.PlaceLemmas.{pairing_depends, pairing_lasts, paired_lasts}

-- what a memo keeps stays right as the store and the places grow
pub all_paired_last : (s n : Diagrams) (old new : List Place) (m : Memo Rows) → Keeps s n → Grows old new → AllKept same_rows (IsPaired s old) m → AllKept same_rows (IsPaired n new) m
all_paired_last s n old new m k grows right rows id e = paired_lasts s n old new rows id k grows (right rows id e)

pub all_paired_last_ok : {E : Type 0} (r : Result Id E) (s n : Diagrams) (old new : List Place) (m : Memo Rows) → Keeps s n → Grows old new → AllKept same_rows (IsPaired s old) m
    → OnOk r (AllKept same_rows (IsPaired n new) m)
all_paired_last_ok (Ok id) s n old new m k grows right = all_paired_last s n old new m k grows right
all_paired_last_ok (Err e) s n old new m k grows right = tt

-- of two terminals, the number of their pair is the diagram
pub pairing_terminal_ok : {E : Type 0} (r : Result Id E) (s n : Diagrams) (places : List Place) (f g : Id) (x y at : ℕ) → top_of s f ≡ Some (Terminal x) → top_of s g ≡ Some (Terminal y)
    → slice_get places at ≡ Some (record { left = x; right = y }) → IfOk r (λ id. Means n id (λ _. at)) → IfOk r (λ id. IsPairing n places (eval s f) (eval s g) id)
pairing_terminal_ok (Ok id) s n places f g x y at ef eg here m =
    let T : ℕ → ℕ → Place = λ x y. record { left = x; right = y } in
    record {
      live = m.live;
      value = λ a. ap (λ k. slice_get places k) (m.value a) ∙ here
          ∙ ap (λ z. Some (T z y)) (sym (eval-terminal s f x ef a)) ∙ ap (λ z. Some (T (eval s f a) z)) (sym (eval-terminal s g y eg a));
    }
pairing_terminal_ok (Err e) s n places f g x y at ef eg here m = tt

-- the two children depend on variables above the branch's
pub lo_depends : (s0 s1 s2 : Diagrams) (p1 p2 : List Place) → Keeps s0 s1 → Keeps s1 s2 → Grows p1 p2 → ArePlaces p2 → (v : ℕ) (f g fl fh gl gh lo : Id) → IsStep s0 v f g fl fh gl gh
    → IsPairing s1 p1 (eval s0 fl) (eval s0 gl) lo → DependsOn s2 lo (λ w. v < w)
lo_depends s0 s1 s2 p1 p2 k0 k1 grows r v f g fl fh gl gh lo t p =
    pairing_depends s2 p2 (eval s0 fl) (eval s0 gl) lo r (pairing_lasts s1 s2 p1 p2 (eval s0 fl) (eval s0 gl) lo k1 grows p) (λ w. v < w)
    (depends_from_stands s0 k0.was v fl t.first.lo_above) (depends_from_stands s0 k0.was v gl t.second.lo_above)

pub hi_depends : (s0 s1 s2 : Diagrams) (p2 : List Place) → Keeps s0 s1 → ArePlaces p2 → (v : ℕ) (f g fl fh gl gh hi : Id) → IsStep s0 v f g fl fh gl gh
    → IsPairing s2 p2 (eval s1 fh) (eval s1 gh) hi → DependsOn s2 hi (λ w. v < w)
hi_depends s0 s1 s2 p2 k0 r v f g fl fh gl gh hi t p =
    pairing_depends s2 p2 (eval s1 fh) (eval s1 gh) hi r p (λ w. v < w)
    (depends_from_stands s1 k0.now v fh (stands_lasts s0 s1 k0.extends v fh t.first.hi_above))
    (depends_from_stands s1 k0.now v gh (stands_lasts s0 s1 k0.extends v gh t.second.hi_above))

branch_value : (b : Bool) (places : List Place) (x y fl fh gl gh : ℕ) → slice_get places x ≡ Some (record { left = fh; right = gh }) → slice_get places y ≡ Some (record { left = fl; right = gl })
    → slice_get places (if b then x else y) ≡ Some (record { left = (if b then fh else fl); right = (if b then gh else gl) })
branch_value true places x y fl fh gl gh h l = h
branch_value false places x y fl fh gl gh h l = l

-- the node over the walks of the cofactors is the walk of the rows
pub pairing_branch : (s0 s1 s2 s3 : Diagrams) (p1 p2 : List Place) → Keeps s0 s1 → Keeps s1 s2 → Keeps s2 s3 → Grows p1 p2 → (v : ℕ) (f g fl fh gl gh lo hi id : Id) → IsStep s0 v f g fl fh gl gh
    → IsPairing s1 p1 (eval s0 fl) (eval s0 gl) lo → IsPairing s2 p2 (eval s1 fh) (eval s1 gh) hi → Means s3 id (split_value s2 v lo hi)
    → IsPairing s3 p2 (eval s0 f) (eval s0 g) id
pairing_branch s0 s1 s2 s3 p1 p2 k0 k1 k2 grows v f g fl fh gl gh lo hi id t low high m =
    let T : ℕ → ℕ → Place = λ x y. record { left = x; right = y } in
    let low2 = pairing_lasts s1 s2 p1 p2 (eval s0 fl) (eval s0 gl) lo k1 grows low in
    record {
      live = m.live;
      value = λ a.
          let high' : slice_get p2 (eval s2 hi a) ≡ Some (T (eval s0 fh a) (eval s0 gh a)) =
          high.value a ∙ ap (λ z. Some (T z (eval s1 gh a))) (eval-lasts s0 s1 k0.was k0.now k0.extends fh (live-above v _ t.first.hi_above) a)
          ∙ ap (λ z. Some (T (eval s0 fh a) z)) (eval-lasts s0 s1 k0.was k0.now k0.extends gh (live-above v _ t.second.hi_above) a) in
          ap (λ k. slice_get p2 k) (m.value a)
          ∙ branch_value (a v) p2 (eval s2 hi a) (eval s2 lo a) (eval s0 fl a) (eval s0 fh a) (eval s0 gl a) (eval s0 gh a) high' (low2.value a)
          ∙ ap (λ z. Some (T z (if a v then eval s0 gh a else eval s0 gl a))) (sym (t.first.splits a)) ∙ ap (λ z. Some (T (eval s0 f a) z)) (sym (t.second.splits a));
    }

-- the walk of two live rows is what a memo may keep for them
pub paired_now : (s n : Diagrams) (places : List Place) (f g id : Id) → Keeps s n → IsLive s f → IsLive s g → IsPairing n places (eval s f) (eval s g) id
    → IsPaired n places (record { left = f; right = g }) id
paired_now s n places f g id k hf hg p =
    let T : ℕ → ℕ → Place = λ x y. record { left = x; right = y } in
    record {
      left = live_lasts s n k.extends f hf;
      right = live_lasts s n k.extends g hg;
      pairing = record {
        live = p.live;
        value = λ a. p.value a
            ∙ ap (λ x. Some (T x (eval s g a))) (sym (eval-lasts s n k.was k.now k.extends f hf a))
            ∙ ap (λ y. Some (T (eval n f a) y)) (sym (eval-lasts s n k.was k.now k.extends g hg a));
      };
    }

-- the pair of two terminals is met
pub met_terminal : (s : Diagrams) (old new : List Place) (f g : Id) (x y : ℕ) → top_of s f ≡ Some (Terminal x) → top_of s g ≡ Some (Terminal y)
    → AreMet old new (λ _. x) (λ _. y) → AreMet old new (eval s f) (eval s g)
met_terminal s old new f g x y ef eg met i place e =
    let T : ℕ → ℕ → Place = λ x y. record { left = x; right = y } in
    elim (met i place e) [
      | inl h ↦ inl h
      | inr (a, h) ↦ inr (a, h ∙ ap (λ z. T z y) (sym (eval-terminal s f x ef a)) ∙ ap (λ z. T (eval s f a) z) (sym (eval-terminal s g y eg a)))
    ]

pub met_terminal_ok : {E : Type 0} (r : Result Id E) (s : Diagrams) (old new : List Place) (f g : Id) (x y : ℕ) → top_of s f ≡ Some (Terminal x) → top_of s g ≡ Some (Terminal y)
    → AreMet old new (λ _. x) (λ _. y) → OnOk r (AreMet old new (eval s f) (eval s g))
met_terminal_ok (Ok id) s old new f g x y ef eg met = met_terminal s old new f g x y ef eg met
met_terminal_ok (Err e) s old new f g x y ef eg met = tt

-- what the walks of the cofactors meet is met by the walk of the rows
pub met_branch : (s0 s1 : Diagrams) (p0 p1 p2 : List Place) → Keeps s0 s1 → (v : ℕ) (f g fl fh gl gh : Id) → IsStep s0 v f g fl fh gl gh
    → AreMet p0 p1 (eval s0 fl) (eval s0 gl) → AreMet p1 p2 (eval s1 fh) (eval s1 gh) → AreMet p0 p2 (eval s0 f) (eval s0 g)
met_branch s0 s1 p0 p1 p2 k v f g fl fh gl gh t low high i place e =
    let T : ℕ → ℕ → Place = λ x y. record { left = x; right = y } in
    elim (high i place e) [
      | inr (a, h) ↦ inr (
        put a v true,
        h
            ∙ ap (λ z. T z (eval s1 gh a)) (eval-lasts s0 s1 k.was k.now k.extends fh (live-above v _ t.first.hi_above) a ∙ sym (high-value s0 k.was v f fl fh t.first a))
            ∙ ap (λ z. T (eval s0 f (put a v true)) z) (eval-lasts s0 s1 k.was k.now k.extends gh (live-above v _ t.second.hi_above) a ∙ sym (high-value s0 k.was v g gl gh t.second a)),
      )
      | inl h ↦ elim (low i place h) [
        | inl h' ↦ inl h'
        | inr (a, h') ↦ inr (
          put a v false,
          h'
              ∙ ap (λ z. T z (eval s0 gl a)) (sym (low-value s0 k.was v f fl fh t.first a)) ∙ ap (λ z. T (eval s0 f (put a v false)) z) (sym (low-value s0 k.was v g gl gh t.second a)),
        )
      ]
    ]
