-- The counts of a formula's parts, joined from those of its operands.
use Rattle.std.proofs.Common.{◌≡◌, ℕ, ◌<◌, ◌≤◌, ◌+◌, List, [], ◌∷◌, ◌++◌, length, refl, sym, ◌∙◌, subst, append-nil, IfErr}
use Rattle.std.specs.Prelude.{Result, Ok, Err}
use Rattle.forms.specs.Tree.{Formula, Program}
use Rattle.forms.specs.Parts.{parts, test_parts}
use Rattle.forms.specs.Equivalence.{HasClassCount}
use Rattle.diagrams.specs.Eval.{Diagrams}
use Rattle.automata.specs.Table.{Table, size_of}
use Rattle.translate.specs.declared.fault.TranslateFault.{TranslateFault}
use Rattle.translate.specs.declared.fault.TranslateFault.TheVariants.{TooMany, Memory}
use Rattle.translate.specs.declared.operation.Unary.{Unary}
use Rattle.translate.specs.declared.operation.Binary.{Binary}
use Rattle.translate.specs.declared.operation.Modal.{Modal}
use Rattle.translate.specs.declared.operation.Unary.TheVariants.{Not, Next, WeakNext, Eventually, Always}
use Rattle.translate.specs.declared.operation.Binary.TheVariants.{And, Or, Implies, Iff, Until, Release}
use Rattle.translate.specs.declared.operation.Modal.TheVariants.{Diamond, BoxAll}
use Rattle.translate.specs.Exact.{IsLeastMeant}
use Rattle.translate.specs.Operation.{unary_form, binary_form, modal_form}
use Rattle.translate.specs.Counting.{IfTooMany}
use Rattle.translate.specs.Tally.{AddsCounts, StopsAt}
use Rattle.translate.proofs.MeantLemmas.{said, class_count}
use Rattle.translate.proofs.TallyLemmas.{adds_none, adds_one, adds_more, stops_one, stops_before, stops_after}

-- the last part is the formula
pub parts-unary : (op : Unary) (f : Formula) → parts (unary_form op f) ≡ parts f ++ unary_form op f ∷ []
parts-unary Not f = refl
parts-unary Next f = refl
parts-unary WeakNext f = refl
parts-unary Eventually f = refl
parts-unary Always f = refl

-- after the parts of the two operands
pub parts-binary : (op : Binary) (f g : Formula) → parts (binary_form op f g) ≡ parts f ++ parts g ++ binary_form op f g ∷ []
parts-binary And f g = refl
parts-binary Or f g = refl
parts-binary Implies f g = refl
parts-binary Iff f g = refl
parts-binary Until f g = refl
parts-binary Release f g = refl

-- after those of the path's tests and of the operand
pub parts-modal : (op : Modal) (r : Program) (f : Formula) → parts (modal_form op r f) ≡ test_parts r ++ parts f ++ modal_form op r f ∷ []
parts-modal Diamond r f = refl
parts-modal BoxAll r f = refl

-- the number of locations is the class count of the formula
pub made_count : (p : ℕ) (s : Diagrams) (t : Table) (f : Formula) → s.props ≡ p → IsLeastMeant s t f → HasClassCount p (said p f) (size_of t)
made_count p s t f e h = subst (λ q. HasClassCount q (said q f) (size_of t)) e (class_count s t (said s.props f) s.props refl h)

-- what is so of a part that is over the limit
pub too_many-weaker : (fault : TranslateFault) (P Q : ℕ → ℕ → Type 0) → ((m n : ℕ) → P m n → Q m n) → IfTooMany fault P → IfTooMany fault Q
too_many-weaker (TooMany m n) P Q f h = f m n h
too_many-weaker Memory P Q f h = h

-- the refusal of the next count
abbrev pub IsNext : ℕ → List ℕ → ℕ → ℕ → ℕ → Type 0
IsNext limit b size number count = (number ≡ length b + 1) × (count ≡ size) × (limit < size)

-- the parts before are counted, and then the formula
pub adds_last : (p limit : ℕ) (fs all : List Formula) (g : Formula) (s : Diagrams) (t : Table) (a b c : List ℕ) (size : ℕ) → all ≡ fs ++ g ∷ [] → s.props ≡ p
    → IsLeastMeant s t g → AddsCounts p limit fs a b → c ≡ b ++ size ∷ [] → size ≡ size_of t → size ≤ limit → AddsCounts p limit all a c
adds_last p limit fs all g s t a b c size split e h x new same l =
    subst (λ z. AddsCounts p limit z a c) (sym split)
    (adds_more p limit fs (g ∷ []) a b c x (adds_one p limit g b c size (subst (λ n. HasClassCount p (said p g) n) (sym same) (made_count p s t g e h)) l new))

-- the parts before are counted, and the formula is over the limit
pub stops_last : (p limit : ℕ) (fs all : List Formula) (g : Formula) (s : Diagrams) (t : Table) (a b : List ℕ) (size : ℕ) (fault : TranslateFault) → all ≡ fs ++ g ∷ [] → s.props ≡ p
    → IsLeastMeant s t g → AddsCounts p limit fs a b → size ≡ size_of t → IfTooMany fault (IsNext limit b size) → IfTooMany fault (StopsAt p limit all a)
stops_last p limit fs all g s t a b size fault split e h x same =
    too_many-weaker fault (IsNext limit b size) (StopsAt p limit all a)
    (λ number count r.
    subst (λ z. StopsAt p limit z a number count) (sym split)
    (stops_after p limit fs (g ∷ []) a b number count x
    (stops_one p limit g b number count (subst (λ n. HasClassCount p (said p g) n) (sym (r.1 ∙ same)) (made_count p s t g e h)) (subst (λ n. limit < n) (sym r.1) r.2) r.0)))

-- the parts before are counted, and one of the next is over the limit
pub stops_within : (p q limit : ℕ) (fs gs hs all : List Formula) (a b : List ℕ) (fault : TranslateFault) → all ≡ fs ++ gs ++ hs → q ≡ p
    → AddsCounts p limit fs a b → IfTooMany fault (StopsAt q limit gs b) → IfTooMany fault (StopsAt p limit all a)
stops_within p q limit fs gs hs all a b fault split e x =
    too_many-weaker fault (StopsAt q limit gs b) (StopsAt p limit all a)
    (λ number count y.
    subst (λ z. StopsAt p limit z a number count) (sym split)
    (stops_before p limit (fs ++ gs) hs a number count
    (stops_after p limit fs gs a b number count x (subst (λ z. StopsAt z limit gs b number count) e y))))

-- the same of counts
pub adds_within : (p q limit : ℕ) (fs gs : List Formula) (a b c : List ℕ) → q ≡ p → AddsCounts p limit fs a b → AddsCounts q limit gs b c → AddsCounts p limit (fs ++ gs) a c
adds_within p q limit fs gs a b c e x y = adds_more p limit fs gs a b c x (subst (λ z. AddsCounts z limit gs b c) e y)

-- what follows from what a clause says of the error
pub if_err_weaker : {X Y : Type 0} (r : Result X Y) (P Q : Y → Type 0) → ((y : Y) → P y → Q y) → IfErr r P → IfErr r Q
if_err_weaker (Ok x) P Q f h = h
if_err_weaker (Err y) P Q f h = f y h

-- the counts of two lists of formulas, the second in a later store
pub adds_two : (p q limit : ℕ) (fs gs all : List Formula) (a b c : List ℕ) → all ≡ fs ++ gs → q ≡ p → AddsCounts p limit fs a b → AddsCounts q limit gs b c → AddsCounts p limit all a c
adds_two p q limit fs gs all a b c split e x y = subst (λ z. AddsCounts p limit z a c) (sym split) (adds_within p q limit fs gs a b c e x y)

-- one of the second list is over the limit
pub stops_second : (p q limit : ℕ) (fs gs all : List Formula) (a b : List ℕ) (fault : TranslateFault) → all ≡ fs ++ gs → q ≡ p
    → AddsCounts p limit fs a b → IfTooMany fault (StopsAt q limit gs b) → IfTooMany fault (StopsAt p limit all a)
stops_second p q limit fs gs all a b fault split = stops_within p q limit fs gs [] all a b fault (split ∙ sym (append-nil (fs ++ gs)))

-- one of the first list is over the limit
pub stops_first : (p limit : ℕ) (fs gs all : List Formula) (a : List ℕ) (fault : TranslateFault) → all ≡ fs ++ gs
    → IfTooMany fault (StopsAt p limit fs a) → IfTooMany fault (StopsAt p limit all a)
stops_first p limit fs gs all a fault split = stops_within p p limit [] fs gs all a a fault split refl (adds_none p limit a)
