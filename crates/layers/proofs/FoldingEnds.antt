-- What rows folded over the outputs have as values.
use Rattle.std.proofs.Common.{◌≡◌, ◌≢◌, ℕ, ◌<◌, ◌≤◌, ◌+◌, suc, inl, inr, refl, sym, ◌∙◌, ap, subst, arith, true, false, List, length, Result, Ok, Err}
use Rattle.std.specs.Prelude.{◌==◌, nat_lt, slice_index}
use Rattle.std.proofs.lemmas.Bool.Decides.{nat_tests}
use Rattle.std.specs.Result.{OnOk}
use Rattle.diagrams.specs.declared.top.Id.{Id}
use Rattle.diagrams.specs.declared.work.Op.TheVariants.{Least}
use Rattle.diagrams.specs.Tree.{Assignment}
use Rattle.diagrams.specs.Eval.{Diagrams, eval, DependsOn}
use Rattle.diagrams.specs.Live.{IsLive, IsTruth, Means}
use Rattle.diagrams.specs.Folded.{IsExtreme}
use Rattle.layers.specs.declared.folding.Below.{Below}
use Rattle.layers.specs.declared.folding.Below.TheVariants.{Item, Place, Sink}
use Rattle.layers.specs.Folding.{IsLeastItem, instead_of, IsInstead, IsLeastAfter, IsFoldedRow}
use Rattle.layers.proofs.FoldedRows.{mixed, mixed_below, mixed_beyond}
use Rattle.layers.proofs.Rounds.{below, beyond}

-- what holds whatever a call answers
pub on_any : {T E P : Type 0} (r : Result T E) → P → OnOk r P
on_any (Ok x) p = p
on_any (Err e) p = tt

-- the item itself
pub instead_item : (s n : Diagrams) (what : Below) (table : List ℕ) (f id : Id) (x : ℕ) → what ≡ Item → IsLeastItem s table f x → Means n id (λ _. x) → IsInstead s n what table f id
instead_item s n what table f id x e p m = record {
  item = x;
  least = p;
  live = m.live;
  value = λ a. m.value a ∙ sym (ap (λ w. instead_of w x (eval s f a)) e);
}

-- the location of a number
pub instead_number : (s n : Diagrams) (what : Below) (table : List ℕ) (f id : Id) (size x t : ℕ) → what ≡ Place size → x ≤ size → t ≡ suc size + x → IsLeastItem s table f x → Means n id (λ _. t)
    → IsInstead s n what table f id
instead_number s n what table f id size x t e h q p m =
    let is : nat_lt x (suc size) ≡ true = below (suc size) x (omega arith) in
    record {
      item = x;
      least = p;
      live = m.live;
      value = λ a. m.value a ∙ q ∙ sym (ap (λ w. instead_of w x (eval s f a)) e ∙ (rw is refl));
    }

-- what is there, where no number is low enough
pub instead_same : (s : Diagrams) (what : Below) (table : List ℕ) (f : Id) (size x : ℕ) → what ≡ Place size → size < x → IsLive s f → IsLeastItem s table f x → IsInstead s s what table f f
instead_same s what table f size x e h l p =
    let is : nat_lt x (suc size) ≡ false = beyond (suc size) x (omega arith) in
    record {
      item = x;
      least = p;
      live = l;
      value = λ a. sym (ap (λ w. instead_of w x (eval s f a)) e ∙ (rw is refl));
    }

-- the sink, where the least item is 0
pub instead_sink : (s n : Diagrams) (what : Below) (table : List ℕ) (f id : Id) (sink x : ℕ) → what ≡ Sink sink → x ≡ 0 → IsLeastItem s table f x → Means n id (λ _. sink) → IsInstead s n what table f id
instead_sink s n what table f id sink x e zero p m =
    let is : (x == 0) ≡ true = grind (arith, nat_tests) in
    record {
      item = x;
      least = p;
      live = m.live;
      value = λ a. m.value a ∙ sym (ap (λ w. instead_of w x (eval s f a)) e ∙ (rw is refl));
    }

-- what is there, where it isn't
pub instead_kept : (s : Diagrams) (what : Below) (table : List ℕ) (f : Id) (sink x : ℕ) → what ≡ Sink sink → x ≢ 0 → IsLive s f → IsLeastItem s table f x → IsInstead s s what table f f
instead_kept s what table f sink x e some l p =
    let is : (x == 0) ≡ false = grind (arith, nat_tests) in
    record {
      item = x;
      least = p;
      live = l;
      value = λ a. sym (ap (λ w. instead_of w x (eval s f a)) e ∙ (rw is refl));
    }

-- where the value goes by the propositions, no more than they need change
pub extreme_after : (inputs props : ℕ) → inputs ≤ props → (h : Assignment → ℕ) → ((a b : Assignment) → ((v : ℕ) → v < props → a v ≡ b v) → h a ≡ h b) → (a : Assignment) (x : ℕ)
    → IsLeastAfter inputs h a x → IsExtreme Least inputs props h a x
extreme_after inputs props l h d a x p =
    let t = p.taken in
    record {
      bounds = λ b agree. p.bounds b (λ v k. agree v (inl k));
      taken = (
        mixed props t.0 a,
        λ v o. elim o [
          | inl k ↦ mixed_below props t.0 a v (omega arith) ∙ t.1 v k
          | inr k ↦ mixed_beyond props t.0 a v k
        ],
        d (mixed props t.0 a) t.0 (λ v k. mixed_below props t.0 a v k) ∙ t.2,
      );
    }

after_less : (inputs : ℕ) (h : Assignment → ℕ) (a b : Assignment) → ((v : ℕ) → v < inputs → a v ≡ b v) → (x y : ℕ) → IsLeastAfter inputs h a x → IsLeastAfter inputs h b y → x ≤ y
after_less inputs h a b same x y p q =
    let t = q.taken in
    subst (λ z. x ≤ z) t.2 (p.bounds t.0 (λ v k. t.1 v k ∙ sym (same v k)))

-- the least value goes by the inputs
pub after_same : (inputs : ℕ) (h : Assignment → ℕ) (a b : Assignment) → ((v : ℕ) → v < inputs → a v ≡ b v) → (x y : ℕ) → IsLeastAfter inputs h a x → IsLeastAfter inputs h b y → x ≡ y
after_same inputs h a b same x y p q =
    let u = after_less inputs h a b same x y p q in
    let w = after_less inputs h b a (λ v k. sym (same v k)) y x q p in
    omega arith

-- the row of least items of a table of 0 and 1 has those values
pub items_truth : (s n : Diagrams) (inputs : ℕ) (table : List ℕ) (f row : Id) → IsFoldedRow s n Item inputs table f row → ((a : Assignment) → eval s f a < length table)
    → ((k : ℕ) → k < length table → slice_index table k < 2) → IsTruth n row
items_truth s n inputs table f row u fit small = record {
  live = u.live;
  truth = λ a.
      let v = u.value a in
      let t = v.1.taken in
      subst (λ z. z < 2) (sym v.2) (subst (λ z. z < 2) t.2 (small (eval s f t.0) (fit t.0)));
}

-- and goes by the inputs
pub items_depend : (s n : Diagrams) (inputs : ℕ) (table : List ℕ) (f row : Id) → IsFoldedRow s n Item inputs table f row → DependsOn n row (λ v. v < inputs)
items_depend s n inputs table f row u a b same =
    let x = u.value a in
    let y = u.value b in
    x.2 ∙ after_same inputs (λ c. slice_index table (eval s f c)) a b same x.0 y.0 x.1 y.1 ∙ sym y.2
