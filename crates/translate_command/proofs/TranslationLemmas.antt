-- A formula is translated in one way.
use Rattle.std.proofs.Common.{◌≡◌, ℕ, ◌≤◌, List, [], suc, false, refl, sym, ◌∙◌, ap, subst, length}
use Rattle.std.specs.Prelude.{slice_index, All}
use Rattle.std.proofs.lemmas.List.{ext_get_or}
use Rattle.forms.specs.Tree.{Formula}
use Rattle.forms.specs.Word.{Word, IsOver}
use Rattle.forms.specs.Equivalence.{HasClassCount}
use Rattle.forms.specs.Parts.{part}
use Rattle.forms.specs.Satisfaction.{meets}
use Rattle.diagrams.specs.Eval.{Diagrams, eval}
use Rattle.automata.specs.Table.{Table, size_of, row_of, Fits, moves_of}
use Rattle.automata.specs.Listing.{Lists}
use Rattle.minimise.specs.Minimal.{AreTheSame, IsLeastFor, IsOnlyFor}
use Rattle.minimise.proofs.Counts.{size_is_class_count}
use Rattle.minimise.proofs.Once.{class_count_is_one}
use Rattle.minimise.proofs.Only.{least_is_only}
use Rattle.translate.specs.Exact.{IsLeastOf}
use Rattle.translate.specs.Counting.{AreCounts, IsFirstOver, claim_of}
use Rattle.translate.proofs.CountLemmas.{first_over_is_not_within}
use Rattle.translate.proofs.MeantLemmas.{least_for}
use Rattle.distinguish.specs.Telling.{IsTellingList}
use Rattle.distinguish.proofs.Unique.{telling_list_is_unique}
use Rattle.class_limit.specs.Limits.{most_classes}
use Rattle.translate_command.specs.Translation.{IsTranslation, AgreeButForParts, IsOnlyTranslation}
use Rattle.translate_command.specs.AutomatonText.{ListsMoves, automaton_text}
use Rattle.translate_command.proofs.TextLemmas.{lists-one}

-- the parts of a formula have one list of counts
counts-one : (p : ℕ) (f : Formula) (xs ys : List ℕ) → AreCounts p f xs → AreCounts p f ys → xs ≡ ys
counts-one p f xs ys x y =
    let size : length xs ≡ length ys = x.size ∙ sym y.size in
    ext_get_or 0 xs ys size
    (λ i h. class_count_is_one p (claim_of p f false (part f (suc i))) (slice_index xs i) (slice_index ys i) (x.count i false h) (y.count i false (rw (sym size) h)))

-- the automaton of a translation is the only one, and none is smaller
pub only-automaton : (names : List (List ℕ)) (f : Formula) (text : List ℕ) (t : IsTranslation names f text) → IsOnlyFor (length names) t.automaton (λ w. meets (length names) f w)
only-automaton names f text t = least_is_only (length names) t.automaton (λ w. meets (length names) f w) t.least

-- formulas with the same traces have texts that agree but for the lines of parts
pub agree-but-for-parts : (names : List (List ℕ)) (f g : Formula) (xs ys : List ℕ) (x : IsTranslation names f xs) (y : IsTranslation names g ys)
    → ((w : Word) → IsOver (length names) w → meets (length names) f w ≡ meets (length names) g w) → AgreeButForParts names f g xs ys x y
agree-but-for-parts names f g xs ys x y same = record {
  size = automata.size;
  table = lists-one p x.automaton y.automaton automata x.table y.table x.lists y.lists;
  words = telling_list_is_unique p x.automaton y.automaton x.words y.words x.least.least.closed automata x.telling y.telling;
}
  where
    p : ℕ
    p = length names

    automata : AreTheSame p x.automaton y.automaton
    automata = (only-automaton names g ys y).unique (λ w. meets p f w) x.automaton same x.least

-- so what is printed is fixed by the traces
pub only-translation : (names : List (List ℕ)) (f : Formula) (text : List ℕ) (t : IsTranslation names f text) → IsOnlyTranslation names f text t
only-translation names f text t = record {
  automaton = only-automaton names f text t;
  others = λ g other u same. agree-but-for-parts names f g text other t u same;
}

-- a formula has one text
pub translation-one : (names : List (List ℕ)) (f : Formula) (xs ys : List ℕ) → IsTranslation names f xs → IsTranslation names f ys → xs ≡ ys
translation-one names f xs ys x y =
    let counts = counts-one (length names) f x.counts y.counts x.counted y.counted in
    let others = agree-but-for-parts names f f xs ys x y (λ w o. refl) in
    x.whole
    ∙ ap (λ z. automaton_text names f z x.automaton.size x.table x.words) counts
    ∙ ap (λ z. automaton_text names f y.counts z x.table x.words) others.size
    ∙ ap (λ z. automaton_text names f y.counts y.automaton.size z x.words) others.table
    ∙ ap (λ z. automaton_text names f y.counts y.automaton.size y.table z) others.words
    ∙ sym y.whole

-- a formula that is over the limit has no text
pub over-or-translated : (names : List (List ℕ)) (f : Formula) (part count : ℕ) (text : List ℕ) → IsFirstOver (length names) f false most_classes part count → IsTranslation names f text → ⊥
over-or-translated names f part count text over t =
    first_over_is_not_within (length names) f false most_classes part count t.automaton.size t.counts over t.counted t.within
    (size_is_class_count (length names) t.automaton (λ w. meets (length names) f w) t.least.least t.least.decides) t.small

-- the lines of a table are those of what it does
pub lists_moves : (s : Diagrams) (t : Table) (text : List ℕ) → Fits s t → Lists s t (size_of t) text → ListsMoves s.props (moves_of s t) text
lists_moves s t text fits l = record {
  cubes = l.cubes;
  rows = λ at h. record {
    value = eval s (row_of t at);
    letters = λ letter small. refl;
    over = (fits at h).letters;
    plain = (l.rows at h).0;
    are = (l.rows at h).1;
    cubes_printed = (l.rows at h).2;
  };
  lines = l.lines;
}

-- a formula's text, by its automaton in a store
pub translation_of : (p : ℕ) (names : List (List ℕ)) (f : Formula) (n : Diagrams) (t : Table) (counts : List ℕ) (words : List Word) (table text : List ℕ)
    → p ≡ length names → n.props ≡ p → AreCounts p f counts → All (λ count. count ≤ most_classes) counts → IsLeastOf n t (λ w. meets p f w) → size_of t ≤ most_classes
    → Lists n t (size_of t) table → IsTellingList n.props (moves_of n t) words → text ≡ automaton_text names f counts (size_of t) table words → IsTranslation names f text
translation_of p names f n t counts words table text e d counted within least small lists telling whole = record {
  counts = counts;
  counted = subst (λ q. AreCounts q f counts) e counted;
  within = within;
  automaton = moves_of n t;
  least = subst (λ q. IsLeastFor q (moves_of n t) (λ w. meets q f w)) e own;
  whole_count = subst (λ q. HasClassCount q (λ w. meets q f w) (size_of t)) e (size_is_class_count p (moves_of n t) (λ w. meets p f w) own.least own.decides);
  small = small;
  words = words;
  telling = subst (λ q. IsTellingList q (moves_of n t) words) (d ∙ e) telling;
  table = table;
  lists = subst (λ q. ListsMoves q (moves_of n t) table) (d ∙ e) (lists_moves n t table least.fits lists);
  whole = whole;
}
  where
    own : IsLeastFor p (moves_of n t) (λ w. meets p f w)
    own = least_for n t (λ w. meets p f w) p d least

-- the text of an automaton is not empty
pub text-some : (names : List (List ℕ)) (f : Formula) (counts : List ℕ) (size : ℕ) (table : List ℕ) (words : List Word) → automaton_text names f counts size table words ≡ [] → ⊥
text-some names f counts size table words e = cc
