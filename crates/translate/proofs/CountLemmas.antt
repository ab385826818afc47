-- The first part over a limit, and the counts of all parts.
use Rattle.std.proofs.Common.{◌≡◌, ℕ, zero, suc, ◌<◌, ◌≤◌, ◌+◌, ◌-◌, List, [], ◌∷◌, ◌++◌, length, get_or, refl, sym, ◌∙◌, ap, subst, arith, inl, inr, append-nil, length-append}
use Rattle.std.specs.Prelude.{Bool, Some, slice_get, slice_index}
use Rattle.std.specs.List.{AllZip}
use Rattle.std.proofs.lemmas.Bool.{cases_lt, cases_order}
use Rattle.std.proofs.lemmas.Option.{slice_get_past}
use Rattle.forms.specs.Tree.{Formula}
use Rattle.forms.specs.Parts.{parts, part}
use Rattle.forms.specs.Satisfaction.{sat}
use Rattle.forms.specs.Equivalence.{HasClassCount}
use Rattle.diagrams.proofs.Table.{get-append, get-append_next}
use Rattle.minimise.proofs.Once.{class_count_is_one}
use Rattle.translate.specs.Counting.{IfTooMany, whole_claim, claim_of, HasCount, AreCounts, IsWithin, IsFirstOver, FirstOverIsOne, FirstOverIsNotWithin}
use Rattle.translate.specs.declared.fault.TranslateFault.{TranslateFault}
use Rattle.translate.specs.declared.fault.TranslateFault.TheVariants.{TooMany, Memory}
use Rattle.translate.specs.Tally.{HasCountWithin, AddsCounts, StopsAt}
use Rattle.translate.proofs.TallyLemmas.{AllZip-length}

-- no part before the first over the limit is over it
not_before : (p : ℕ) (f : Formula) (empty : Bool) (limit i j m n : ℕ) → IsFirstOver p f empty limit i m → IsFirstOver p f empty limit j n → i < j → ⊥
not_before p f empty limit i j m n x y h =
    let w = y.before i x.some h in
    let e = class_count_is_one p (claim_of p f empty (part f i)) m w.count x.has w.has in
    omega (arith, e, x.over, w.within)

-- the first part over the limit is one, with one count
pub first_over_is_one : FirstOverIsOne
first_over_is_one p f empty limit i j m n x y =
    elim (cases_order i j) [
      | inl e ↦ (e, class_count_is_one p (claim_of p f empty (part f j)) m n (subst (λ k. HasCount p f empty k m) e x.has) y.has)
      | inr r ↦ elim r [
        | inl h ↦ absurd (not_before p f empty limit i j m n x y h)
        | inr h ↦ absurd (not_before p f empty limit j i n m y x h)
      ]
    ]

-- there is no part after the last, so what is counted there is the whole
whole_at : (p : ℕ) (f : Formula) (empty : Bool) → claim_of p f empty (part f (suc (length (parts f)))) ≡ whole_claim p f empty
whole_at p f empty = ap (claim_of p f empty) (slice_get_past (parts f) (length (parts f)) (omega arith))

-- and not all counts are within the limit
pub first_over_is_not_within : FirstOverIsNotWithin
first_over_is_not_within p f empty limit k count whole counts x a within h l =
    elim (cases_lt (k - 1) (length counts)) [
      | inl b ↦
          let e : suc (k - 1) ≡ k = omega (arith, x.some) in
          let same = class_count_is_one p (claim_of p f empty (part f k)) count (slice_index counts (k - 1)) x.has (subst (λ i. HasCount p f empty i (slice_index counts (k - 1))) e (a.count (k - 1) empty b)) in
          let small = within (k - 1) 0 b in
          omega (arith, same, small, x.over)
      | inr b ↦
          let e : k ≡ suc (length (parts f)) = omega (arith, x.some, x.last, a.size, b) in
          let has = subst (λ c. HasClassCount p c count) (whole_at p f empty) (subst (λ i. HasCount p f empty i count) e x.has) in
          let same = class_count_is_one p (whole_claim p f empty) count whole has h in
          omega (arith, same, l, x.over)
    ]

-- item k of the formulas has the count at k
zipped : (p limit : ℕ) (fs : List Formula) (ns : List ℕ) → AllZip (HasCountWithin p limit) fs ns → (k : ℕ) → k < length ns
    → (f : Formula) × (slice_get fs k ≡ Some f) × HasCountWithin p limit f (slice_index ns k)
zipped p limit [] [] h k l = absurd (omega arith)
zipped p limit [] (n ∷ ns) h k l = absurd h
zipped p limit (f ∷ fs) [] h k l = absurd h
zipped p limit (f ∷ fs) (n ∷ ns) h zero l = (f, refl, h.0)
zipped p limit (f ∷ fs) (n ∷ ns) h (suc k) l = zipped p limit fs ns h.1 k (omega arith)

-- the count of a part is that of its place
count_at : (p : ℕ) (f g : Formula) (empty : Bool) (k count : ℕ) → slice_get (parts f) k ≡ Some g → HasClassCount p (λ w. sat p g w) count → HasCount p f empty (suc k) count
count_at p f g empty k count e h = subst (λ o. HasClassCount p (claim_of p f empty o) count) (sym e) h

-- the counts of the parts, taken from none on
pub counts_of : (p limit : ℕ) (f : Formula) (counts : List ℕ) → AddsCounts p limit (parts f) [] counts → AreCounts p f counts
counts_of p limit f counts x = record {
  size = ap length x.appended ∙ AllZip-length (HasCountWithin p limit) (parts f) x.added x.counts;
  count = λ k empty h.
      let l : k < length x.added = subst (λ z. k < length z) x.appended h in
      let z = zipped p limit (parts f) x.added x.counts k l in
      subst (λ ns. HasCount p f empty (suc k) (slice_index ns k)) (sym x.appended) (count_at p f z.0 empty k (slice_index x.added k) z.1 z.2.has);
}

-- and they are within the limit
pub counts_within : (p limit : ℕ) (fs : List Formula) (counts : List ℕ) → AddsCounts p limit fs [] counts → (k d : ℕ) → k < length counts → get_or counts k d ≤ limit
counts_within p limit fs counts x k d h =
    let l : k < length x.added = subst (λ z. k < length z) x.appended h in
    rw x.appended (within_at fs x.added x.counts k l)
  where
    within_at : (fs : List Formula) (ns : List ℕ) → AllZip (HasCountWithin p limit) fs ns → (k : ℕ) → k < length ns → get_or ns k d ≤ limit
    within_at [] [] h k l = absurd (omega arith)
    within_at [] (n ∷ ns) h k l = absurd h
    within_at (f ∷ fs) [] h k l = absurd h
    within_at (f ∷ fs) (n ∷ ns) h zero l = h.0.within
    within_at (f ∷ fs) (n ∷ ns) h (suc k) l = within_at fs ns h.1 k (omega arith)

-- a part among those that were counted is within the limit
within_limit : (p limit : ℕ) (f : Formula) (empty : Bool) (fs gs : List Formula) (ns : List ℕ) → parts f ≡ fs ++ gs → AllZip (HasCountWithin p limit) fs ns
    → (j : ℕ) → 0 < j → j < length fs + 1 → IsWithin p f empty limit j
within_limit p limit f empty fs gs ns e h zero s l = absurd (omega (arith, s))
within_limit p limit f empty fs gs ns e h (suc k) s l =
    let n : k < length ns = omega (arith, l, AllZip-length (HasCountWithin p limit) fs ns h) in
    let z = zipped p limit fs ns h k n in
    record {
      count = slice_index ns k;
      has = count_at p f z.0 empty k (slice_index ns k) (ap (λ xs. slice_get xs k) e ∙ get-append fs gs k (omega (arith, l)) ∙ z.1) z.2.has;
      within = z.2.within;
    }

-- the part at which the counting stops is the first over the limit
pub first_over_part : (p limit : ℕ) (f : Formula) (empty : Bool) (number count : ℕ) → StopsAt p limit (parts f) [] number count → IsFirstOver p f empty limit number count
first_over_part p limit f empty number count x =
    let e : number ≡ suc (length x.before) = omega (arith, x.counted) in
    record {
      some = omega (arith, e);
      last = omega (arith, e, ap length x.split, length-append x.before (x.stop ∷ x.after));
      has = subst (λ k. HasCount p f empty k count) (sym e) (count_at p f x.stop empty (length x.before) count (ap (λ xs. slice_get xs (length x.before)) x.split ∙ get-append_next x.before x.after x.stop) x.has);
      over = x.over;
      before = λ j s l. within_limit p limit f empty x.before (x.stop ∷ x.after) x.added x.split x.counts j s (omega (arith, l, e));
    }

-- where all parts are within the limit and the whole isn't, it is the first
pub first_over_whole : (p limit : ℕ) (f : Formula) (empty : Bool) (counts : List ℕ) (number count : ℕ) → AddsCounts p limit (parts f) [] counts
    → HasClassCount p (whole_claim p f empty) count → limit < count → number ≡ length counts + 1 → IsFirstOver p f empty limit number count
first_over_whole p limit f empty counts number count x h l q =
    let size = ap length x.appended ∙ AllZip-length (HasCountWithin p limit) (parts f) x.added x.counts in
    let e : number ≡ suc (length (parts f)) = omega (arith, q, size) in
    record {
      some = omega (arith, e);
      last = omega (arith, e);
      has = subst (λ k. HasCount p f empty k count) (sym e) (subst (λ c. HasClassCount p c count) (sym (whole_at p f empty)) h);
      over = l;
      before = λ j s b. within_limit p limit f empty (parts f) [] x.added (sym (append-nil (parts f))) x.counts j s (omega (arith, b, e));
    }

-- counts that began with none
pub adds_from : (p q limit : ℕ) (fs : List Formula) (a ns : List ℕ) → q ≡ p → a ≡ [] → AddsCounts q limit fs a ns → AddsCounts p limit fs [] ns
adds_from p q limit fs a ns e n x = subst (λ z. AddsCounts p limit fs z ns) n (subst (λ z. AddsCounts z limit fs a ns) e x)

-- and stopped at a part
pub first_over_from : (p q limit : ℕ) (f : Formula) (empty : Bool) (a : List ℕ) (fault : TranslateFault) → q ≡ p → a ≡ [] → IfTooMany fault (StopsAt q limit (parts f) a) → IfTooMany fault (IsFirstOver p f empty limit)
first_over_from p q limit f empty a (TooMany number count) e n x =
    first_over_part p limit f empty number count (subst (λ z. StopsAt p limit (parts f) z number count) n (subst (λ z. StopsAt z limit (parts f) a number count) e x))
first_over_from p q limit f empty a Memory e n x = x

-- the whole is over the limit
pub whole_over : (p limit : ℕ) (f : Formula) (empty : Bool) (counts : List ℕ) (size whole : ℕ) (fault : TranslateFault) → AddsCounts p limit (parts f) [] counts → HasClassCount p (whole_claim p f empty) whole
    → size ≡ whole → IfTooMany fault (λ number count. (number ≡ length counts + 1) × (count ≡ size) × (limit < size)) → IfTooMany fault (IsFirstOver p f empty limit)
whole_over p limit f empty counts size whole (TooMany number count) x h e r =
    first_over_whole p limit f empty counts number count x (subst (λ n. HasClassCount p (whole_claim p f empty) n) (sym (r.1 ∙ e)) h) (subst (λ n. limit < n) (sym r.1) r.2) r.0
whole_over p limit f empty counts size whole Memory x h e r = r
