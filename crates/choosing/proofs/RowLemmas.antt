-- Rows whose values are looked up, and the choices that they lead to.
use Rattle.std.proofs.Common.{◌≡◌, ◌<◌, ◌≤◌, ◌+◌, ◌++◌, ℕ, List, [], ◌∷◌, Bool, false, Option, Some, refl, sym, ◌∙◌, ap, subst, arith, inl, inr, length, length-append, ◌⊎◌}
use Rattle.std.specs.Prelude.{slice_get, slice_index, if◌then◌else◌}
use Rattle.std.proofs.lemmas.Bool.{cases_lt, lt-ltb, le-ltb}
use Rattle.std.proofs.lemmas.List.{get_or_append_left, get_or_at}
use Rattle.std.proofs.lemmas.Option.{slice_get_within}
use Rattle.diagrams.specs.declared.top.Id.{Id}
use Rattle.diagrams.specs.Tree.{Assignment, AllVars, value_at}
use Rattle.diagrams.specs.Eval.{Diagrams, DependsOn, eval, tree, id_at}
use Rattle.diagrams.specs.Live.{IsLive, IsCanonical, Keeps}
use Rattle.diagrams.proofs.Table.{get-push_old, get-append_next}
use Rattle.diagrams.proofs.Canon.{all_vars_from_depends}
use Rattle.diagrams.proofs.Meaning.{tree-reduced, eval-lasts, live_lasts}
use Rattle.choosing.specs.declared.choice.Chosen.{Chosen}
use Rattle.choosing.specs.declared.choice.Outputs.{Outputs}
use Rattle.choosing.specs.declared.choice.Tables.{Tables}
use Rattle.choosing.specs.Cuts.{AllBelow, AllFit, IsBelow, AreCutRows, Cuts}
use Rattle.choosing.specs.Choices.{AreChoicesBelow, AreNumbered, AreLookedUp, AreChoices, IsAllIllegal, IsChoiceBelow, mixed}

pub tree-value : (s : Diagrams) (f : Id) (a : Assignment) → value_at (tree s f) a ≡ eval s f a
unfolding eval
tree-value s f a = refl

-- a diagram below the bound has its variables from the bound on
pub vars-below : (n : Diagrams) → IsCanonical n → (bound : ℕ) (f : Id) → IsBelow n bound f → AllVars (λ v. bound ≤ v) (tree n f)
vars-below n canonical bound f below =
    let P : ℕ → Type 0 = λ v. bound ≤ v in
    let told : (v : ℕ) → (P v → ⊥) ⊎ P v = λ v. elim (cases_lt v bound) [ inl l ↦ inl (λ h. omega (arith, l, h)) | inr l ↦ inr l ] in
    let depends : (a c : Assignment) → ((v : ℕ) → P v → a v ≡ c v) → value_at (tree n f) a ≡ value_at (tree n f) c =
    λ a c e. tree-value n f a ∙ below.over a c e ∙ sym (tree-value n f c) in
    all_vars_from_depends P told (tree n f) (tree-reduced n canonical f below.live) depends

-- a diagram that leads to no location
pub illegal-terminal : (s : Diagrams) (f : Id) (size at : ℕ) → ((a : Assignment) → eval s f a ≡ at) → size ≤ at → IsAllIllegal size (tree s f)
illegal-terminal s f size at e l a = rw (tree-value s f a, e a) l

-- one that leads to some location
pub legal-terminal : (s : Diagrams) (f : Id) (size at : ℕ) → ((a : Assignment) → eval s f a ≡ at) → at < size → IsAllIllegal size (tree s f) → ⊥
legal-terminal s f size at e l all =
    let h = all (λ v. false) in
    let q : value_at (tree s f) (λ v. false) ≡ at = tree-value s f (λ v. false) ∙ e (λ v. false) in
    omega (arith, h, q, l)

-- a node leads to different locations
pub legal-node : (s : Diagrams) (f : Id) (size v : ℕ) → ((a : Assignment) → eval s f a < size + 1) → (DependsOn s f (λ w. v < w) → ⊥) → IsAllIllegal size (tree s f) → ⊥
legal-node s f size v fit own all = own (λ a b same. value a ∙ sym (value b))
  where
    value : (a : Assignment) → eval s f a ≡ size
    value a =
        let h = all a in
        let q = tree-value s f a in
        let l = fit a in
        omega (arith, h, q, l)

-- one more choice
pub below_more : (s : Diagrams) (outputs : Outputs) (size : ℕ) (duty : Bool) (tables : Tables) (items : List Id) (choices : List (Option Chosen)) (count : ℕ) (f : Id) (c : Option Chosen)
    → f ≡ id_at items count → IsChoiceBelow outputs size duty tables (tree s f) c → AreChoicesBelow s outputs size duty tables items choices count
    → AreChoicesBelow s outputs size duty tables items (choices ++ c ∷ []) (count + 1)
below_more s outputs size duty tables items choices count f c e is are = record {
  long = let q = are.long in length-append choices (c ∷ []) ∙ omega (arith, q);
  each = λ k h. elim (cases_lt k count) [
    | inl l ↦ let r = are.each k l in (r.0, get-push_old choices c r.0 k r.1, r.2)
    | inr l ↦
        let same : count ≡ k = omega (arith, h, l) in
        let long : length choices ≡ k = are.long ∙ same in
        (c, subst (λ z. slice_get (choices ++ c ∷ []) z ≡ Some c) long (get-append_next choices [] c), subst (λ z. IsChoiceBelow outputs size duty tables (tree s z) c) (e ∙ ap (id_at items) same) is)
  ];
}

-- one more row
pub looked_more : (s n m : Diagrams) → Keeps n m → (numbers : List ℕ) (rows made : List Id) (at : ℕ) (row : Id) → IsLive m row
    → ((a : Assignment) → eval m row a ≡ slice_index numbers (eval s (id_at rows at) a))
    → AreLookedUp s n numbers rows made at → AreLookedUp s m numbers rows (made ++ row ∷ []) (at + 1)
looked_more s n m k numbers rows made at row live value are = record {
  size = let e = are.size in length-append made (row ∷ []) ∙ omega (arith, e);
  live = λ i h. elim (cases_lt i at) [
    | inl l ↦ subst (IsLive m) (sym (old i l)) (live_lasts n m k.extends (id_at made i) (are.live i l))
    | inr l ↦ subst (IsLive m) (sym (new i (omega (arith, h, l)))) live
  ];
  value = λ i h a. elim (cases_lt i at) [
    | inl l ↦ ap (λ z. eval m z a) (old i l) ∙ eval-lasts n m k.was k.now k.extends (id_at made i) (are.live i l) a ∙ are.value i l a
    | inr l ↦
        let same : i ≡ at = omega (arith, h, l) in
        ap (λ z. eval m z a) (new i same) ∙ value a ∙ ap (λ z. slice_index numbers (eval s (id_at rows z) a)) (sym same)
  ];
}
  where
    old : (i : ℕ) → i < at → id_at (made ++ row ∷ []) i ≡ id_at made i
    old i l = let e = are.size in get_or_append_left made (row ∷ []) _ i (omega (arith, l, e))

    new : (i : ℕ) → i ≡ at → id_at (made ++ row ∷ []) i ≡ row
    new i same = let e = are.size in ap (id_at (made ++ row ∷ [])) same ∙ get_or_at made row [] _ at e

mixed-before : (bound : ℕ) (a c : Assignment) (v : ℕ) → v < bound → mixed bound a c v ≡ a v
mixed-before bound a c v l = ap (λ z. if z then a v else c v) (lt-ltb v bound l)

mixed-after : (bound : ℕ) (a c : Assignment) (v : ℕ) → bound ≤ v → mixed bound a c v ≡ c v
mixed-after bound a c v l = ap (λ z. if z then a v else c v) (le-ltb v bound l)

-- what is left of a row under an assignment of the decision's variables is the item to which the cut row leads
left-value : (s n : Diagrams) (bound : ℕ) (items : List Id) (row made : Id) → Cuts s n bound items row made → AllBelow n bound items → (a c : Assignment)
    → value_at (tree n (id_at items (eval n made a))) c ≡ eval s row (mixed bound a c)
left-value s n bound items row made cuts below a c =
    let b = mixed bound a c in
    let index : eval n made b ≡ eval n made a = cuts.fits.letters b a (λ v l. mixed-before bound a c v l) in
    let same : eval n (id_at items (eval n made a)) c ≡ eval n (id_at items (eval n made a)) b =
    (below (eval n made a) (cuts.fits.targets a)).over c b (λ v l. sym (mixed-after bound a c v l)) in
    tree-value n (id_at items (eval n made a)) c ∙ same ∙ ap (λ k. eval n (id_at items k) b) (sym index) ∙ cuts.left b

-- the choices that are made below cut rows are those of the rows
pub choices_made : (s n m : Diagrams) → Keeps s n → Keeps n m → (outputs : Outputs) (size : ℕ) (duty : Bool) (tables : Tables) (rows items cut moves : List Id)
    (choices distinct : List (Option Chosen)) (numbers : List ℕ) → AllBelow n outputs.from items → AreCutRows s n outputs.from items rows cut (length rows)
    → AreChoicesBelow n outputs size duty tables items choices (length items) → AreNumbered choices numbers distinct (length choices)
    → AreLookedUp n m numbers cut moves (length cut) → AreChoices s m outputs size duty tables rows moves distinct
choices_made s n m k j outputs size duty tables rows items cut moves choices distinct numbers below cuts chosen numbered looked = record {
  long = let e = cuts.size in let f = looked.size in omega (arith, e, f);
  cut = λ i h. record {
    live = looked.live i (here i h);
    letters = λ a b same. looked.value i (here i h) a ∙ ap (slice_index numbers) ((cuts.each i h).fits.letters a b same) ∙ sym (looked.value i (here i h) b);
    targets = λ a. slice_get_within distinct (eval m (id_at moves i) a) _ (found i h a).1;
  };
  distinct = numbered.once;
  each = λ i h a. let f = found i h a in (
    f.0,
    f.1,
    record {
      rest = tree n (id_at items (eval n (id_at cut i) a));
      values = left-value s n outputs.from items (id_at rows i) (id_at cut i) (cuts.each i h) below a;
      vars = vars-below n k.now outputs.from (id_at items (eval n (id_at cut i) a)) (below (eval n (id_at cut i) a) (within i h a));
      reduced = tree-reduced n k.now (id_at items (eval n (id_at cut i) a)) (below (eval n (id_at cut i) a) (within i h a)).live;
      chosen = f.2;
    },
  );
}
  where
    here : (i : ℕ) → i < length rows → i < length cut
    here i h = let e = cuts.size in omega (arith, h, e)

    within : (i : ℕ) → i < length rows → (a : Assignment) → eval n (id_at cut i) a < length items
    within i h a = (cuts.each i h).fits.targets a

    found : (i : ℕ) → i < length rows → (a : Assignment)
        → (c : Option Chosen) × (slice_get distinct (eval m (id_at moves i) a) ≡ Some c) × IsChoiceBelow outputs size duty tables (tree n (id_at items (eval n (id_at cut i) a))) c
    found i h a =
        let r = chosen.each (eval n (id_at cut i) a) (within i h a) in
        let e = chosen.long in
        let l : eval n (id_at cut i) a < length choices = let w = within i h a in omega (arith, w, e) in
        (r.0, ap (slice_get distinct) (looked.value i (here i h) a) ∙ numbered.choice (eval n (id_at cut i) a) l ∙ r.1, r.2)

-- what is cut from rows leads to the items
pub cut-fit : (s n : Diagrams) (bound : ℕ) (items rows made : List Id) (count : ℕ) → AreCutRows s n bound items rows made count → AllFit n (length items) made
cut-fit s n bound items rows made count cuts at h a = let e = cuts.size in (cuts.each at (omega (arith, h, e))).fits.targets a

-- and lives
pub cut-live : (s n : Diagrams) (bound : ℕ) (items rows made : List Id) (count : ℕ) → AreCutRows s n bound items rows made count → (at : ℕ) → at < length made → IsLive n (id_at made at)
cut-live s n bound items rows made count cuts at h = let e = cuts.size in (cuts.each at (omega (arith, h, e))).fits.live
