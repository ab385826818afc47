-- Counts that are taken one after another.
use Rattle.std.proofs.Common.{◌≡◌, ℕ, suc, ◌<◌, ◌≤◌, ◌+◌, List, [], ◌∷◌, ◌++◌, length, refl, sym, ◌∙◌, ap, arith, append_assoc, append-nil, length-append}
use Rattle.std.specs.List.{AllZip}
use Rattle.forms.specs.Tree.{Formula}
use Rattle.forms.specs.Satisfaction.{sat}
use Rattle.forms.specs.Equivalence.{HasClassCount}
use Rattle.translate.specs.Tally.{HasCountWithin, AddsCounts, StopsAt}

-- two pairs of lists, one after the other
pub AllZip-append : {A B : Type 0} (R : A → B → Type 0) (xs zs : List A) (ys ws : List B) → AllZip R xs ys → AllZip R zs ws → AllZip R (xs ++ zs) (ys ++ ws)
AllZip-append R [] zs [] ws h k = k
AllZip-append R [] zs (y ∷ ys) ws h k = absurd h
AllZip-append R (x ∷ xs) zs [] ws h k = absurd h
AllZip-append R (x ∷ xs) zs (y ∷ ys) ws h k = (h.0, AllZip-append R xs zs ys ws h.1 k)

-- the lists have one length
pub AllZip-length : {A B : Type 0} (R : A → B → Type 0) (xs : List A) (ys : List B) → AllZip R xs ys → length ys ≡ length xs
AllZip-length R [] [] h = refl
AllZip-length R [] (y ∷ ys) h = absurd h
AllZip-length R (x ∷ xs) [] h = absurd h
AllZip-length R (x ∷ xs) (y ∷ ys) h = ap suc (AllZip-length R xs ys h.1)

-- the counts of no formula
pub adds_none : (p limit : ℕ) (a : List ℕ) → AddsCounts p limit [] a a
adds_none p limit a = record { added = []; appended = sym (append-nil a); counts = tt }

-- the count of one formula
pub adds_one : (p limit : ℕ) (f : Formula) (a b : List ℕ) (count : ℕ) → HasClassCount p (λ w. sat p f w) count → count ≤ limit → b ≡ a ++ count ∷ []
    → AddsCounts p limit (f ∷ []) a b
adds_one p limit f a b count h l e = record {
  added = count ∷ [];
  appended = e;
  counts = (record { has = h; within = l }, tt);
}

-- the counts of formulas, and then those of others
pub adds_more : (p limit : ℕ) (fs gs : List Formula) (a b c : List ℕ) → AddsCounts p limit fs a b → AddsCounts p limit gs b c → AddsCounts p limit (fs ++ gs) a c
adds_more p limit fs gs a b c x y = record {
  added = x.added ++ y.added;
  appended = y.appended ∙ ap (λ z. z ++ y.added) x.appended ∙ append_assoc a x.added y.added;
  counts = AllZip-append (HasCountWithin p limit) fs gs x.added y.added x.counts y.counts;
}

-- the one formula is over the limit
pub stops_one : (p limit : ℕ) (f : Formula) (a : List ℕ) (number count : ℕ) → HasClassCount p (λ w. sat p f w) count → limit < count → number ≡ length a + 1
    → StopsAt p limit (f ∷ []) a number count
stops_one p limit f a number count h l e = record {
  before = [];
  stop = f;
  after = [];
  split = refl;
  added = [];
  counts = tt;
  counted = omega (arith, e);
  has = h;
  over = l;
}

-- what comes later changes nothing
pub stops_before : (p limit : ℕ) (fs gs : List Formula) (a : List ℕ) (number count : ℕ) → StopsAt p limit fs a number count → StopsAt p limit (fs ++ gs) a number count
stops_before p limit fs gs a number count x = record {
  before = x.before;
  stop = x.stop;
  after = x.after ++ gs;
  split = ap (λ z. z ++ gs) x.split ∙ append_assoc x.before (x.stop ∷ x.after) gs;
  added = x.added;
  counts = x.counts;
  counted = x.counted;
  has = x.has;
  over = x.over;
}

-- the counts of formulas come before
pub stops_after : (p limit : ℕ) (fs gs : List Formula) (a b : List ℕ) (number count : ℕ) → AddsCounts p limit fs a b → StopsAt p limit gs b number count
    → StopsAt p limit (fs ++ gs) a number count
stops_after p limit fs gs a b number count x y = record {
  before = fs ++ y.before;
  stop = y.stop;
  after = y.after;
  split = ap (λ z. fs ++ z) y.split ∙ sym (append_assoc fs y.before (y.stop ∷ y.after));
  added = x.added ++ y.added;
  counts = AllZip-append (HasCountWithin p limit) fs y.before x.added y.added x.counts y.counts;
  counted = omega (arith, y.counted, ap length x.appended, length-append a x.added, length-append fs y.before, AllZip-length (HasCountWithin p limit) fs x.added x.counts);
  has = y.has;
  over = y.over;
}
