-- From an automaton to the least one, and to the one that accepts what it does not.
use Rattle.std.proofs.Common.{◌≡◌, ◌≢◌, ℕ, ◌<◌, Bool, true, false, if◌then◌else◌, List, [], ◌∷◌, length, refl, sym, ◌∙◌, ap, subst, arith, Result, Ok, Err, IfOk}
use Rattle.std.specs.Prelude.{◌==◌, not, slice_index}
use Rattle.std.proofs.lemmas.Bool.Decides.{nat_tests}
use Rattle.std.proofs.lemmas.Result.{IfOk-weaker}
use Rattle.forms.specs.Word.{Word, Claim}
use Rattle.diagrams.specs.declared.top.Id.{Id}
use Rattle.diagrams.specs.Eval.{Diagrams, letter_truth}
use Rattle.diagrams.specs.Live.{Keeps}
use Rattle.diagrams.specs.Eval.{id_at}
use Rattle.automata.specs.Moves.{location_after, mark_after, HaveSameMarks}
use Rattle.automata.specs.Table.{Table, size_of, mark_of, row_of, Fits, next_of, moves_of}
use Rattle.automata.specs.Numbering.{IsNumbered}
use Rattle.minimise.specs.Minimal.{IsLeast}
use Rattle.translate.specs.Exact.{accepted, IsLeastOf}
use Rattle.translate.specs.Standing.{IsFlipped}

-- every list of numbers leads from locations to locations
pub location_after-fits : (s : Diagrams) (t : Table) → Fits s t → (at : ℕ) → at < size_of t → (w : Word) → location_after (moves_of s t) at w < size_of t
location_after-fits s t f at h [] = h
location_after-fits s t f at h (a ∷ w) = location_after-fits s t f (next_of s t at a) ((f at h).targets (letter_truth s.props a)) w

-- a least automaton with the marks of another accepts what it does, and has the marks 0 and 1 where that one has
pub IsLeastOf-minimised : (s n : Diagrams) (t q : Table) → Keeps s n → Fits s t → t.first < size_of t → ((at : ℕ) → at < size_of t → mark_of t at < 2)
    → Fits n q → HaveSameMarks (moves_of n q) (moves_of s t) → IsLeast s.props (moves_of n q) → IsNumbered s.props (moves_of n q) → IsLeastOf n q (accepted s t)
IsLeastOf-minimised s n t q k f h small g same l m = record {
  fits = g;
  marks = λ at b.
      let r = l.reached at b in
      let e : mark_of q at ≡ mark_after (moves_of s t) t.first r.word = ap (mark_of q) (sym r.leads) ∙ same r.word in
      rw e (small (location_after (moves_of s t) t.first r.word) (location_after-fits s t f t.first h r.word));
  same = λ w. ap (λ x. x == 1) (same w);
  least = subst (λ p. IsLeast p (moves_of n q)) (sym k.extends.props) l;
  numbered = subst (λ p. IsNumbered p (moves_of n q)) (sym k.extends.props) m;
}

-- what is minimised is least
pub minimised_ok : {E : Type 0} (r : Result Table E) (s n : Diagrams) (t : Table) → Keeps s n → Fits s t → t.first < size_of t → ((at : ℕ) → at < size_of t → mark_of t at < 2)
    → IfOk r (λ q. Fits n q) → IfOk r (λ q. HaveSameMarks (moves_of n q) (moves_of s t)) → IfOk r (λ q. IsLeast s.props (moves_of n q)) → IfOk r (λ q. IsNumbered s.props (moves_of n q))
    → IfOk r (λ q. IsLeastOf n q (accepted s t))
minimised_ok (Ok q) s n t k f h small g same l m = IsLeastOf-minimised s n t q k f h small g same l m
minimised_ok (Err e) s n t k f h small g same l m = tt

-- the least automaton of a claim is that of each claim that holds of the same words
pub IsLeastOf-same : (s : Diagrams) (t : Table) (f g : Claim) → ((w : Word) → f w ≡ g w) → IsLeastOf s t f → IsLeastOf s t g
IsLeastOf-same s t f g e x = record { fits = x.fits; marks = x.marks; same = λ w. x.same w ∙ e w; least = x.least; numbered = x.numbered }

-- a flipped automaton as far as it is made
pub record IsFlippedTo (t : Table) (marks : List ℕ) (rows : List Id) (n : ℕ) : Type 0 where
  pub mark_count : length marks ≡ n
  pub row_count : length rows ≡ n
  pub mark : (at : ℕ) → at < n → slice_index marks at ≡ (if mark_of t at == 1 then 0 else 1)
  pub row : (at : ℕ) → at < n → id_at rows at ≡ row_of t at

-- a flipped automaton fits the store
pub flipped_fits : (s : Diagrams) (t q : Table) → Fits s t → IsFlipped t q → Fits s q
flipped_fits s t q f x at h = let l : at < size_of t = rw x.size at h in rw (x.size, x.row at l) (f at l)

flipped_small : (b : Bool) (m : ℕ) → m ≡ (if b then 0 else 1) → m < 2
flipped_small true m e = omega arith
flipped_small false m e = omega arith

-- its marks are 0 and 1
pub flipped_marks : (t q : Table) → IsFlipped t q → (at : ℕ) → at < size_of q → mark_of q at < 2
flipped_marks t q x at h = let l : at < size_of t = rw x.size at h in flipped_small (mark_of t at == 1) (mark_of q at) (x.mark at l)

-- words lead in it where they lead
location_after-flipped : (s : Diagrams) (t q : Table) → Fits s t → IsFlipped t q → (at : ℕ) → at < size_of t → (w : Word) → location_after (moves_of s q) at w ≡ location_after (moves_of s t) at w
location_after-flipped s t q f x at h [] = refl
location_after-flipped s t q f x at h (a ∷ w) =
    let e : next_of s q at a ≡ next_of s t at a = rw (x.row at h) refl in
    rw e (location_after-flipped s t q f x (next_of s t at a) ((f at h).targets (letter_truth s.props a)) w)

flipped_one : (b : Bool) (m : ℕ) → m ≡ (if b then 0 else 1) → (m == 1) ≡ not b
flipped_one true m e = rw e refl
flipped_one false m e = rw e refl

mark_after-flipped : (s : Diagrams) (t q : Table) → Fits s t → IsFlipped t q → (at : ℕ) → at < size_of t → (w : Word)
    → mark_after (moves_of s q) at w ≡ (if mark_after (moves_of s t) at w == 1 then 0 else 1)
mark_after-flipped s t q f x at h w =
    ap (mark_of q) (location_after-flipped s t q f x at h w) ∙ x.mark (location_after (moves_of s t) at w) (location_after-fits s t f at h w)

-- it accepts what the other does not
pub accepted-flipped : (s : Diagrams) (t q : Table) → Fits s t → t.first < size_of t → IsFlipped t q → (w : Word) → accepted s q w ≡ not (accepted s t w)
accepted-flipped s t q f h x w =
    ap (λ at. mark_after (moves_of s q) at w == 1) x.first
    ∙ flipped_one (mark_after (moves_of s t) t.first w == 1) (mark_after (moves_of s q) t.first w) (mark_after-flipped s t q f x t.first h w)

apart_flipped : (a b c d : ℕ) → a < 2 → b < 2 → c ≡ (if a == 1 then 0 else 1) → d ≡ (if b == 1 then 0 else 1) → a ≢ b → c ≢ d
apart_flipped a b c d h k e f n g = grind (arith, nat_tests)

flipped_least : (s : Diagrams) (t q : Table) → Fits s t → t.first < size_of t → ((at : ℕ) → at < size_of t → mark_of t at < 2) → IsFlipped t q → IsLeast s.props (moves_of s t) → IsLeast s.props (moves_of s q)
flipped_least s t q f h small x l = record {
  closed = record {
    first = rw (x.first, x.size) h;
    next = λ at a b c. (flipped_fits s t q f x at b).targets (letter_truth s.props a);
  };
  reached = λ at b.
      let r = l.reached at (rw x.size at b) in
      record { word = r.word; over = r.over; leads = ap (λ z. location_after (moves_of s q) z r.word) x.first ∙ location_after-flipped s t q f x t.first h r.word ∙ r.leads };
  apart = λ i j b c n.
      let y : i < size_of t = rw x.size at b in
      let z : j < size_of t = rw x.size at c in
      let d = l.apart i j y z n in
      record {
        word = d.word;
        over = d.over;
        differ = apart_flipped (mark_after (moves_of s t) i d.word) (mark_after (moves_of s t) j d.word) (mark_after (moves_of s q) i d.word) (mark_after (moves_of s q) j d.word)
            (small (location_after (moves_of s t) i d.word) (location_after-fits s t f i y d.word)) (small (location_after (moves_of s t) j d.word) (location_after-fits s t f j z d.word))
            (mark_after-flipped s t q f x i y d.word) (mark_after-flipped s t q f x j z d.word) d.differ;
      };
}

flipped_leads : (s : Diagrams) (t q : Table) → Fits s t → t.first < size_of t → IsFlipped t q → (w : Word) → location_after (moves_of s q) q.first w ≡ location_after (moves_of s t) t.first w
flipped_leads s t q f h x w = ap (λ z. location_after (moves_of s q) z w) x.first ∙ location_after-flipped s t q f x t.first h w

flipped_numbered : (s : Diagrams) (t q : Table) → Fits s t → t.first < size_of t → IsFlipped t q → IsNumbered s.props (moves_of s t) → IsNumbered s.props (moves_of s q)
flipped_numbered s t q f h x m = record {
  word = m.word;
  least = λ at b.
      let y = m.least at (rw x.size at b) in
      record {
        over = y.over;
        leads = flipped_leads s t q f h x (m.word at) ∙ y.leads;
        least = λ v o e. y.least v o (sym (flipped_leads s t q f h x v) ∙ e);
      };
  order = λ i j b c. m.order i j b (rw x.size at c);
}

-- the flipped least automaton is the least one of what the other does not accept
pub IsLeastOf-flipped : (s : Diagrams) (t q : Table) → Fits s t → t.first < size_of t → ((at : ℕ) → at < size_of t → mark_of t at < 2) → IsLeast s.props (moves_of s t) → IsNumbered s.props (moves_of s t)
    → IsFlipped t q → IsLeastOf s q (λ w. not (accepted s t w))
IsLeastOf-flipped s t q f h small l m x = record {
  fits = flipped_fits s t q f x;
  marks = flipped_marks t q x;
  same = accepted-flipped s t q f h x;
  least = flipped_least s t q f h small x l;
  numbered = flipped_numbered s t q f h x m;
}

-- the least automaton of a claim, where there is one, is that of each claim that holds of the same words
pub least_same_ok : {E : Type 0} (r : Result Table E) (n : Diagrams) (f g : Claim) → ((w : Word) → f w ≡ g w) → IfOk r (λ q. IsLeastOf n q f) → IfOk r (λ q. IsLeastOf n q g)
least_same_ok (Ok q) n f g e x = IsLeastOf-same n q f g e x
least_same_ok (Err d) n f g e x = tt

-- what is flipped is the least automaton of what the other does not accept
pub flipped_ok : {E : Type 0} (r : Result Table E) (s : Diagrams) (t : Table) → Fits s t → t.first < size_of t → ((at : ℕ) → at < size_of t → mark_of t at < 2) → IsLeast s.props (moves_of s t) → IsNumbered s.props (moves_of s t)
    → IfOk r (IsFlipped t) → IfOk r (λ q. IsLeastOf s q (λ w. not (accepted s t w)))
flipped_ok r s t f h small l m = IfOk-weaker r (IsFlipped t) (λ q. IsLeastOf s q (λ w. not (accepted s t w))) (λ q x. IsLeastOf-flipped s t q f h small l m x)

-- the least automaton of what a flipped automaton accepts is that of what the other does not accept
pub negated : (s n : Diagrams) (t other q : Table) → Fits s t → t.first < size_of t → IsFlipped t other → IsLeastOf n q (accepted s other) → IsLeastOf n q (λ w. not (accepted s t w))
negated s n t other q f h x l = IsLeastOf-same n q (accepted s other) (λ w. not (accepted s t w)) (λ w. accepted-flipped s t other f h x w) l
