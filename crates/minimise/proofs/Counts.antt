-- The number of locations of a least automaton is the class count of what it decides.
use Rattle.std.proofs.Common.{◌≡◌, ◌≢◌, ℕ, ◌<◌, ◌==◌, List, [], ◌++◌, refl, sym, ◌∙◌, ap, subst, arith, length, All, inl, inr, map, get_or}
use Rattle.std.specs.Prelude.{AllPairs, Any}
use Rattle.std.specs.List.{range_with_len}
use Rattle.std.proofs.lemmas.List.Elements.{All-map}
use Rattle.std.proofs.lemmas.List.FromFn.{get_or-map-range_with_len, length-map-range_with_len}
use Rattle.std.proofs.lemmas.Bool.{cases_lt}
use Rattle.bes_io.proofs.Bits.{same_bit}
use Rattle.forms.specs.Word.{Word, IsOver}
use Rattle.automata.specs.Moves.{Moves, location_after, mark_after}
use Rattle.minimise.specs.Minimal.{IsLeast}
use Rattle.forms.specs.Word.{Claim}
use Rattle.forms.specs.Equivalence.{AreEquivalent, AreDistinguishable}
use Rattle.minimise.specs.Minimal.{Decides, SizeIsClassCount}
use Rattle.automata.proofs.Words.{over-append, location_after-append, location_after-within}

-- a word that leads to the location, if it is one
pub record Named (p : ℕ) (m : Moves) (at : ℕ) : Type 0 where
  pub word : Word
  pub over : IsOver p word
  pub leads : at < m.size → location_after m m.first word ≡ at

-- some word leads to each location of a least automaton
pub named : (p : ℕ) (m : Moves) → IsLeast p m → (at : ℕ) → Named p m at
named p m l at =
    elim (cases_lt at m.size) [
      | inl h ↦ let r = l.reached at h in record { word = r.word; over = r.over; leads = λ _. r.leads }
      | inr h ↦ record { word = []; over = λ k d e. absurd (omega (arith, e)); leads = λ e. absurd (omega (arith, h, e)) }
    ]

-- what the claim says after a word is what the location's mark says
claim-append : (p : ℕ) (m : Moves) (f : Claim) → Decides p m f → (u w : Word) → IsOver p u → IsOver p w
    → (at : ℕ) → location_after m m.first u ≡ at → f (u ++ w) ≡ (mark_after m at w == 1)
claim-append p m f d u w h k at e =
    d.accepts (u ++ w) (over-append p u w h k)
    ∙ ap (λ x. m.mark x == 1) (location_after-append m m.first u w ∙ ap (λ x. location_after m x w) e)

separated : (p : ℕ) (m : Moves) (f : Claim) → IsLeast p m → Decides p m f → (i j : ℕ) → i < m.size → j < m.size → i ≢ j
    → (u v : Word) → IsOver p u → IsOver p v → location_after m m.first u ≡ i → location_after m m.first v ≡ j → AreDistinguishable p f u v
separated p m f l d i j h k n u v o q e g =
    let t = l.apart i j h k n in
    record {
      word = t.word;
      over = t.over;
      differ = λ same. t.differ (same_bit (mark_after m i t.word) (mark_after m j t.word)
          (d.marks _ (location_after-within p m l.closed i t.word h t.over))
          (d.marks _ (location_after-within p m l.closed j t.word k t.over))
          (sym (claim-append p m f d u t.word o t.over i e) ∙ same ∙ claim-append p m f d v t.word q t.over j g));
    }

least_word_of : (p : ℕ) (m : Moves) → IsLeast p m → ℕ → Word
least_word_of p m l at = (named p m l at).word

words_of : (p : ℕ) (m : Moves) → IsLeast p m → List Word
words_of p m l = map (least_word_of p m l) (range_with_len 0 m.size)

words_of-length : (p : ℕ) (m : Moves) (l : IsLeast p m) → length (words_of p m l) ≡ m.size
unfolding words_of
words_of-length p m l = length-map-range_with_len (least_word_of p m l) 0 m.size

words_of-at : (p : ℕ) (m : Moves) (l : IsLeast p m) (i : ℕ) (e : Word) → i < m.size → get_or (words_of p m l) i e ≡ least_word_of p m l i
unfolding words_of
words_of-at p m l i e h = get_or-map-range_with_len (least_word_of p m l) 0 m.size i i e h (omega arith)

words_of-over : (p : ℕ) (m : Moves) (l : IsLeast p m) → All (IsOver p) (words_of p m l)
unfolding words_of least_word_of
words_of-over p m l = All-map (IsOver p) (least_word_of p m l) (range_with_len 0 m.size) (λ k e h. (named p m l _).over)

words_of-differ : (p : ℕ) (m : Moves) (f : Claim) (l : IsLeast p m) → Decides p m f → AllPairs (AreDistinguishable p f) (words_of p m l)
unfolding least_word_of
words_of-differ p m f l d i j e h k =
    let k2 : j < m.size = subst (λ n. j < n) (words_of-length p m l) k in
    let h2 : i < m.size = omega (arith, h, k2) in
    let a = named p m l i in
    let b = named p m l j in
    rw (words_of-at p m l i e h2, words_of-at p m l j e k2)
    (separated p m f l d i j h2 k2 (λ q. absurd (omega (arith, h, q))) a.word b.word a.over b.over (a.leads h2) (b.leads k2))

words_of-cover : (p : ℕ) (m : Moves) (f : Claim) (l : IsLeast p m) → Decides p m f → (u : Word) → IsOver p u → Any (AreEquivalent p f u) (words_of p m l)
unfolding least_word_of
words_of-cover p m f l d u o =
    let at = location_after m m.first u in
    let h = location_after-within p m l.closed m.first u l.closed.first o in
    let a = named p m l at in (
      at,
      a.word,
      subst (λ n. at < n) (sym (words_of-length p m l)) h,
      words_of-at p m l at a.word h,
      λ w q. claim-append p m f d u w o q at refl ∙ sym (claim-append p m f d a.word w a.over q at (a.leads h)),
    )

-- a least automaton has as many locations as its claim has classes of equivalent words
pub size_is_class_count : SizeIsClassCount
size_is_class_count p m f l d =
    record {
      words = words_of p m l;
      count = words_of-length p m l;
      over = words_of-over p m l;
      differ = words_of-differ p m f l d;
      cover = words_of-cover p m f l d;
    }
