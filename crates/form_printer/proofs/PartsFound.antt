-- The search for a part, list after list.
use Rattle.std.proofs.Common.{◌≡◌, ℕ, zero, suc, ◌+◌, ◌-◌, ◌≤◌, List, [], ◌∷◌, ◌++◌, Some, Result, Ok, Err, IfOk, refl, sym, ap, ◌∙◌, arith, length, slice_get, All, length-append, subst}
use Rattle.std.proofs.lemmas.List.Elements.{All-cons, All-nil, All-append, All-push, All-get_or}
use Rattle.std.proofs.lemmas.Option.{slice_get_within, get_or_from_slice_get}
use Rattle.std.specs.Option.{option_map}
use Rattle.std.specs.Borrow.{Bor}
use Rattle.forms.specs.declared.form.Form.{Form}
use Rattle.forms.specs.Tree.{tree, Formula, Program, True, False, Atom, Not, And, Or, Implies, Iff, Next, WeakNext, Until, Release, Eventually, Always, Diamond, BoxAll, Step, Test, Choice, Seq, Star}
use Rattle.forms.specs.Parts.{parts, test_parts, part}
use Rattle.forms.specs.Proper.{IsProper, IsProperProgram}
use Rattle.forms.proofs.PartLemmas.{part-at}
use Rattle.form_printer.specs.Printed.{printed}
use Rattle.form_printer.specs.PartSearch.{IsItem, IsPast, Finds, operand_parts}

slice_get-left : {A : Type 0} (xs ys : List A) (k : ℕ) (x : A) → slice_get xs k ≡ Some x → slice_get (xs ++ ys) k ≡ Some x
slice_get-left [] ys k x e = cc
slice_get-left (z ∷ xs) ys zero x e = e
slice_get-left (z ∷ xs) ys (suc k) x e = slice_get-left xs ys k x e

slice_get-right : {A : Type 0} (xs ys : List A) (k : ℕ) → slice_get (xs ++ ys) (length xs + k) ≡ slice_get ys k
slice_get-right [] ys k = let e : 0 + k ≡ k = omega arith in rw e
slice_get-right (x ∷ xs) ys k = let e : suc (length xs) + k ≡ suc (length xs + k) = omega arith in rw e (slice_get-right xs ys k)

-- an item of the first list
pub IsItem-left : {A : Type 0} (xs ys : List A) (k : ℕ) (x : A) → IsItem xs k x → IsItem (xs ++ ys) k x
IsItem-left xs ys k x h = record { at = slice_get-left xs ys (k - 1) x h.at }

-- an item of the second
pub IsItem-right : {A : Type 0} (xs ys : List A) (k left : ℕ) (x : A) → IsPast xs k left → IsItem ys left x → IsItem (xs ++ ys) k x
IsItem-right xs ys k left x h i =
    let e : k - 1 ≡ length xs + (left - 1) = omega (arith, h.by, h.some_left) in
    record { at = ap (slice_get (xs ++ ys)) e ∙ slice_get-right xs ys (left - 1) ∙ i.at }

-- past both lists
pub IsPast-both : {A : Type 0} (xs ys : List A) (k left rest : ℕ) → IsPast xs k left → IsPast ys left rest → IsPast (xs ++ ys) k rest
IsPast-both xs ys k left rest h i = record { by = omega (arith, h.by, i.by, length-append xs ys); some_left = i.some_left }

-- the search goes on in the next list
pub search-next : (fs gs : List Formula) (k left : ℕ) (r : Result (Bor Form) ℕ) → IsPast fs k left → Finds r gs left → Finds r (fs ++ gs) k
search-next fs gs k left (Ok found) h i = IsItem-right fs gs k left (tree found.now) h i
search-next fs gs k left (Err rest) h i = IsPast-both fs gs k left rest h i

-- past no item
pub IsPast-none : {A : Type 0} (k : ℕ) → 1 ≤ k → IsPast {A = A} [] k k
IsPast-none k h = record { by = omega arith; some_left = h }

-- the formula itself is the last of its parts
parts-last : (f : Formula) → parts f ≡ operand_parts f ++ f ∷ []
parts-last True = refl
parts-last False = refl
parts-last (Atom i) = refl
parts-last (Not f) = refl
parts-last (And f g) = refl
parts-last (Or f g) = refl
parts-last (Implies f g) = refl
parts-last (Iff f g) = refl
parts-last (Next f) = refl
parts-last (WeakNext f) = refl
parts-last (Until f g) = refl
parts-last (Release f g) = refl
parts-last (Eventually f) = refl
parts-last (Always f) = refl
parts-last (Diamond p f) = refl
parts-last (BoxAll p f) = refl

-- a part before the formula itself
pub IsItem-operand : (f : Formula) (k : ℕ) (g : Formula) → IsItem (operand_parts f) k g → IsItem (parts f) k g
IsItem-operand f k g h = rw (parts-last f) (IsItem-left (operand_parts f) (f ∷ []) k g h)

-- the formula itself
pub IsItem-itself : (f : Formula) (k : ℕ) → IsPast (operand_parts f) k 1 → IsItem (parts f) k f
IsItem-itself f k h = rw (parts-last f) (IsItem-right (operand_parts f) (f ∷ []) k 1 f h (record { at = refl }))

-- past the formula too
pub IsPast-itself : (f : Formula) (k left : ℕ) → IsPast (operand_parts f) k left → (left ≡ 1 → ⊥) → IsPast (parts f) k (left - 1)
IsPast-itself f k left h ne =
    rw (parts-last f) (IsPast-both (operand_parts f) (f ∷ []) k left (left - 1) h (record { by = omega (arith, h.some_left); some_left = omega (arith, h.some_left, ne) }))

-- the parts of a proper formula are proper
mutual
  parts-proper : (n : ℕ) (f : Formula) → IsProper n f → All (IsProper n) (parts f)
  parts-proper n True h = All-cons (IsProper n) True [] h (All-nil (IsProper n))
  parts-proper n False h = All-cons (IsProper n) False [] h (All-nil (IsProper n))
  parts-proper n (Atom i) h = All-cons (IsProper n) (Atom i) [] h (All-nil (IsProper n))
  parts-proper n (Not f) h = All-push (IsProper n) (parts f) (Not f) (parts-proper n f h) h
  parts-proper n (And f g) h = All-push (IsProper n) (parts f ++ parts g) (And f g) (All-append (IsProper n) (parts f) (parts g) (parts-proper n f h.0) (parts-proper n g h.1)) h
  parts-proper n (Or f g) h = All-push (IsProper n) (parts f ++ parts g) (Or f g) (All-append (IsProper n) (parts f) (parts g) (parts-proper n f h.0) (parts-proper n g h.1)) h
  parts-proper n (Implies f g) h = All-push (IsProper n) (parts f ++ parts g) (Implies f g) (All-append (IsProper n) (parts f) (parts g) (parts-proper n f h.0) (parts-proper n g h.1)) h
  parts-proper n (Iff f g) h = All-push (IsProper n) (parts f ++ parts g) (Iff f g) (All-append (IsProper n) (parts f) (parts g) (parts-proper n f h.0) (parts-proper n g h.1)) h
  parts-proper n (Next f) h = All-push (IsProper n) (parts f) (Next f) (parts-proper n f h) h
  parts-proper n (WeakNext f) h = All-push (IsProper n) (parts f) (WeakNext f) (parts-proper n f h) h
  parts-proper n (Until f g) h = All-push (IsProper n) (parts f ++ parts g) (Until f g) (All-append (IsProper n) (parts f) (parts g) (parts-proper n f h.0) (parts-proper n g h.1)) h
  parts-proper n (Release f g) h = All-push (IsProper n) (parts f ++ parts g) (Release f g) (All-append (IsProper n) (parts f) (parts g) (parts-proper n f h.0) (parts-proper n g h.1)) h
  parts-proper n (Eventually f) h = All-push (IsProper n) (parts f) (Eventually f) (parts-proper n f h) h
  parts-proper n (Always f) h = All-push (IsProper n) (parts f) (Always f) (parts-proper n f h) h
  parts-proper n (Diamond p f) h = All-push (IsProper n) (test_parts p ++ parts f) (Diamond p f) (All-append (IsProper n) (test_parts p) (parts f) (test_parts-proper n p h.0) (parts-proper n f h.1)) h
  parts-proper n (BoxAll p f) h = All-push (IsProper n) (test_parts p ++ parts f) (BoxAll p f) (All-append (IsProper n) (test_parts p) (parts f) (test_parts-proper n p h.0) (parts-proper n f h.1)) h

  test_parts-proper : (n : ℕ) (p : Program) → IsProperProgram n p → All (IsProper n) (test_parts p)
  test_parts-proper n (Step f) h = All-nil (IsProper n)
  test_parts-proper n (Test f) h = parts-proper n f h
  test_parts-proper n (Choice p q) h = All-append (IsProper n) (test_parts p) (test_parts q) (test_parts-proper n p h.0) (test_parts-proper n q h.1)
  test_parts-proper n (Seq p q) h = All-append (IsProper n) (test_parts p) (test_parts q) (test_parts-proper n p h.0) (test_parts-proper n q h.1)
  test_parts-proper n (Star p) h = test_parts-proper n p h

-- each part of a proper formula is proper
pub IsItem-proper : (n : ℕ) (f : Formula) (k : ℕ) (g : Formula) → IsProper n f → IsItem (parts f) k g → IsProper n g
IsItem-proper n f k g h i =
    subst (IsProper n) (get_or_from_slice_get (parts f) (k - 1) g g i.at) (All-get_or (IsProper n) (parts f) (k - 1) g (slice_get_within (parts f) (k - 1) g i.at) (parts-proper n f h))

-- the item with the number of a part is that part
IsItem-part : (f : Formula) (k : ℕ) (g : Formula) → 1 ≤ k → IsItem (parts f) k g → part f k ≡ Some g
IsItem-part f k g h i = part-at f k h ∙ i.at

-- the text of the item is that of the part
pub IsItem-printed : {E : Type 0} (ns : List (List ℕ)) (f : Formula) (k : ℕ) (g : Formula) (r : Result (List ℕ) E) → 1 ≤ k → IsItem (parts f) k g
    → IfOk r (λ text. text ≡ printed ns g) → IfOk r (λ text. option_map (printed ns) (part f k) ≡ Some text)
IsItem-printed ns f k g (Ok text) h i e = ap (option_map (printed ns)) (IsItem-part f k g h i) ∙ ap Some (sym e)
IsItem-printed ns f k g (Err e) h i d = tt

-- what a search through one list after another goes by
pub ruleset found = (IsItem-left, IsItem-right, IsPast-both, IsPast-none)

-- what a search among all the parts goes by, the formula itself the last
pub ruleset itself = (IsItem-operand, IsItem-itself, IsPast-itself)
