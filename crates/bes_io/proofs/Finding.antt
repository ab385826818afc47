-- A call finds what stands at the front of the bytes still to come.
use Rattle.std.proofs.Common.{◌≡◌, ℕ, ◌+◌, ◌<◌, ◌≤◌, ◌∷◌, List, [], ◌++◌, length, take, arith, sym, refl, ◌∙◌, ap, subst, cond, nat_lt, nat_eq, true, false, Option, Some, None, Result, Ok, Err, min, not, length-append}
use Rattle.std.proofs.lemmas.Grind.{common_steps}
use Rattle.std.proofs.lemmas.Bool.Decides.{nat_tests}
use Rattle.std.proofs.lemmas.List.{drop-append-le, take-append-le, append-nil}
use Rattle.std.proofs.lemmas.List.Sums.{prefix_len-le-length}
use Rattle.std.specs.List.{before_first, after_first, Contains, slice_index_or}
use Prim.Native.Nat.{zero, suc}
use Rattle.std.specs.Io.KnownBytes.{prepend_known}
use Rattle.std.specs.Str.Lines.{strip_carriage_return}
use Rattle.bes_io.specs.Bytes.{is_lf, text_len}
use Rattle.bes_io.specs.Reader.{Reader, next_of, line_len, first_line, input, allowed, Finds}
use Rattle.bes_io.specs.Steps.{decided, settled, closed, holding}
use Rattle.bes_io.specs.declared.lines.Found.{Found}
use Rattle.bes_io.specs.declared.lines.Found.TheVariants.{Line, End}
use Rattle.bes_io.specs.declared.lines.LineFault.{LineFault}
use Rattle.bes_io.specs.declared.lines.LineFault.TheVariants.{ReadFault, LineTooLong, InputTooLong}
use Rattle.bes_io.specs.declared.lines.Phase.TheVariants.{Reading, Closed}
use Rattle.bes_io.proofs.Deciding.{text-append, text-append_more}

-- the same over numbers: t and T for the places of the first LF, n and N for the lengths, of the held bytes and of all
numbers : (t n T N most : ℕ) (r : Result Found LineFault) → (t < n → T ≡ t) → (n ≤ t → n ≤ T) → T ≤ N → n ≤ N → t ≤ n → n ≤ 4097
    → Some r ≡ cond (nat_lt t n) (Some (cond (nat_lt t most) (Ok Line) (Err InputTooLong))) (cond (nat_lt most n) (Some (Err InputTooLong)) (cond (nat_lt 4096 n) (Some (Err LineTooLong)) None))
    → r ≡ cond (nat_eq N 0) (Ok End) (cond (nat_lt most (min (min (T + 1) N) 4097)) (Err InputTooLong) (cond (nat_lt 4096 T) (Err LineTooLong) (Ok Line)))
numbers t n T N most r same more short long within room e = grind (arith, nat_tests)

-- what the held bytes decide is what all bytes still to come give
pub next-decided : (most : ℕ) (held rest : List ℕ) (r : Result Found LineFault) → length held ≤ 4097 → Some r ≡ decided most held → r ≡ next_of most (held ++ rest)
next-decided most held rest r room e =
    numbers (text_len held) (length held) (text_len (held ++ rest)) (length (held ++ rest)) most r (text-append held rest)
    (λ h. omega (arith, text-append_more held rest h)) (prefix_len-le-length (λ x. not (is_lf x)) (held ++ rest)) (omega (arith, length-append held rest)) (prefix_len-le-length (λ x. not (is_lf x)) held) room e

-- a line is decided only where an LF is held
decided-lf : (most : ℕ) (held : List ℕ) → Some (Ok Line) ≡ decided most held → text_len held < length held
decided-lf most held e = grind (arith, nat_tests)

-- the held bytes never decide that the input ends
pub not_end : (most : ℕ) (held : List ℕ) → Some (Ok End) ≡ decided most held → ⊥
not_end most held e = grind (arith, nat_tests)

-- the held bytes never decide a fault of reading
pub not_fault : (most : ℕ) (held : List ℕ) → Some (Err ReadFault) ≡ decided most held → ⊥
not_fault most held e = grind (arith, nat_tests)

-- the first line of bytes that hold an LF
first_line-lf : (held rest : List ℕ) → text_len held < length held → first_line (held ++ rest) ≡ strip_carriage_return (before_first is_lf held)
first_line-lf held rest lf =
    let t : text_len (held ++ rest) ≡ text_len held = text-append held rest lf in
    let lt : nat_lt (text_len (held ++ rest)) (length (held ++ rest)) ≡ true = rw t (grind (arith, nat_tests, length-append held rest)) in
    let front : take (text_len (held ++ rest)) (held ++ rest) ≡ take (text_len held) held = rw t (take-append-le (text_len held) held rest (omega arith)) in
    ap (λ b. cond b (strip_carriage_return (before_first is_lf (held ++ rest))) (held ++ rest)) lt ∙ ap strip_carriage_return front

-- the bytes after the first line, where an LF is held
after_first-lf : (held rest : List ℕ) → text_len held < length held → after_first is_lf (held ++ rest) ≡ after_first is_lf held ++ rest
after_first-lf held rest lf = rw (text-append held rest lf) (drop-append-le (text_len held + 1) held rest (omega arith))

-- the length of the first line with its LF
line_len-lf : (held rest : List ℕ) → text_len held < length held → line_len (held ++ rest) ≡ text_len held + 1
line_len-lf held rest lf = rw (text-append held rest lf) (grind (arith, common_steps))

-- an LF that is held stands in all bytes still to come
lf-after : (held rest : List ℕ) → text_len held < length held → nat_lt (text_len (held ++ rest)) (length (held ++ rest)) ≡ true
lf-after held rest lf = rw (text-append held rest lf) (grind (arith, nat_tests, length-append held rest))

-- a fact of the held bytes before any rest holds of the bytes still to come
placed : (P : List ℕ → Option (List ℕ) → Type 0) (held bytes : List ℕ) (left : Option (List ℕ)) → ((rest : List ℕ) → P (held ++ rest) (Some rest)) → prepend_known held left ≡ Some bytes → P bytes left
placed P held bytes None f e = cc
placed P held bytes (Some rest) f e = let q : held ++ rest ≡ bytes = cc in subst (λ b. P b (Some rest)) q (f rest)

-- a held line is found
finds-line : (old : Reader) (held rest : List ℕ) → old.phase ≡ Reading → length held ≤ 4097 → Some (Ok Line) ≡ decided (allowed old) held
    → Finds old (held ++ rest) (Ok Line) (settled (holding old held) (Some (Ok Line))) (Some rest)
finds-line old held rest going room e =
    let lf = decided-lf (allowed old) held e in (
      rw going (next-decided (allowed old) held rest (Ok Line) room e),
      record {
        rest = ap Some (sym (after_first-lf held rest lf));
        line = ap Some (sym (first_line-lf held rest lf));
        before = rw (line_len-lf held rest lf) (omega arith);
        most = refl;
        phase = going ∙ sym (ap (λ b. cond b Reading Closed) (lf-after held rest lf));
      },
    )

-- an answer by the held bytes is that of all bytes still to come
pub finds-settled : (old : Reader) (held bytes : List ℕ) (left : Option (List ℕ)) (r : Result Found LineFault) → old.phase ≡ Reading → length held ≤ 4097
    → prepend_known held left ≡ Some bytes → Some r ≡ decided (allowed old) held → Finds old bytes r (settled (holding old held) (Some r)) left
finds-settled old held bytes left (Ok Line) going room all e =
    placed (λ b l. Finds old b (Ok Line) (settled (holding old held) (Some (Ok Line))) l) held bytes left (λ rest. finds-line old held rest going room e) all
finds-settled old held bytes left (Ok End) going room all e = absurd (not_end (allowed old) held e)
finds-settled old held bytes left (Err ReadFault) going room all e = absurd (not_fault (allowed old) held e)
finds-settled old held bytes left (Err LineTooLong) going room all e =
    placed (λ b l. Finds old b (Err LineTooLong) (settled (holding old held) (Some (Err LineTooLong))) l) held bytes left
    (λ rest. (rw going (next-decided (allowed old) held rest (Err LineTooLong) room e), record { rest = refl; line = refl; before = refl; most = refl; phase = refl })) all
finds-settled old held bytes left (Err InputTooLong) going room all e =
    placed (λ b l. Finds old b (Err InputTooLong) (settled (holding old held) (Some (Err InputTooLong))) l) held bytes left
    (λ rest. (rw going (next-decided (allowed old) held rest (Err InputTooLong) room e), record { rest = refl; line = refl; before = refl; most = refl; phase = refl })) all

-- undecided bytes hold no LF
pub no_lf : (most : ℕ) (held : List ℕ) → decided most held ≡ None → length held ≤ text_len held
no_lf most held e = grind (arith, nat_tests)

-- the end is found only where no bytes are left
pub end-empty : (most : ℕ) (bytes : List ℕ) → Ok End ≡ next_of most bytes → length bytes ≡ 0
end-empty most bytes e = grind (arith, nat_tests)

-- a line is found only where bytes are left
pub line-some : (most : ℕ) (bytes : List ℕ) → Ok Line ≡ next_of most bytes → 0 < length bytes
line-some most bytes e = grind (arith, nat_tests)

-- at the end of input the held bytes are the last line, or there is none
finds-last : (old : Reader) (held : List ℕ) (f : Found) → old.phase ≡ Reading → decided (allowed old) held ≡ None → Ok f ≡ next_of (allowed old) held
    → Finds old held (Ok f) (closed (holding old held)) (Some [])
finds-last old held Line going none e =
    let more : length held ≤ text_len held = no_lf (allowed old) held none in
    let some : 0 < length held = line-some (allowed old) held e in
    let lt : nat_lt (text_len held) (length held) ≡ false = grind (arith, nat_tests) in
    let nz : nat_eq (length held) 0 ≡ false = grind (arith, nat_tests) in (
      rw going e,
      record {
        rest = ap Some (grind (arith, common_steps));
        line = ap (λ b. cond b None (Some held)) nz ∙ sym (ap (λ b. Some (cond b (strip_carriage_return (before_first is_lf held)) held)) lt);
        before = grind (arith, common_steps);
        most = refl;
        phase = sym (ap (λ b. cond b Reading Closed) lt);
      },
    )
finds-last old held End going none e =
    let z : length held ≡ 0 = end-empty (allowed old) held e in
    let nil : [] ≡ held = grind (arith, common_steps) in
    let nz : nat_eq (length held) 0 ≡ true = grind (arith, nat_tests) in (
      rw going e,
      record { rest = ap Some nil; line = ap (λ b. cond b None (Some held)) nz; before = omega arith; most = refl; phase = refl },
    )

-- the same over a source that has told its end
pub finds-closed : (old : Reader) (held bytes : List ℕ) (left : Option (List ℕ)) (f : Found) → old.phase ≡ Reading → decided (allowed old) held ≡ None
    → Ok f ≡ next_of (allowed old) held → prepend_known held left ≡ Some bytes → ((rest : List ℕ) → left ≡ Some rest → rest ≡ [])
    → Finds old bytes (Ok f) (closed (holding old held)) left
finds-closed old held bytes None f going none e all end = cc
finds-closed old held bytes (Some rest) f going none e all end =
    let nil : rest ≡ [] = end rest refl in
    let q : held ≡ bytes = sym (append-nil held) ∙ ap (λ r. held ++ r) (sym nil) ∙ (cc) in
    subst (λ b. Finds old b (Ok f) (closed (holding old held)) (Some rest)) q
    (subst (λ r. Finds old held (Ok f) (closed (holding old held)) (Some r)) (sym nil) (finds-last old held f going none e))

-- what `settle` answers and leaves is what the call owes
pub settled-at : (old now after : Reader) (o : Option (Result Found LineFault)) (r : Result Found LineFault) (bytes : List ℕ) (left : Option (List ℕ))
    → now ≡ holding old now.held → old.phase ≡ Reading → length now.held ≤ 4097 → input now left ≡ Some bytes → o ≡ decided (allowed now) now.held → o ≡ Some r → after ≡ settled now o → Finds old bytes r after left
settled-at old now after o r bytes left same going room all answer is after_is =
    let e : Some r ≡ decided (allowed old) now.held = sym is ∙ answer ∙ ap (λ m. decided (allowed m) now.held) same in
    let whole : after ≡ settled (holding old now.held) (Some r) = after_is ∙ ap (settled now) is ∙ ap (λ m. settled m (Some r)) same in
    subst (λ m. Finds old bytes r m left) (sym whole) (finds-settled old now.held bytes left r going room all e)

-- what `close` answers and leaves is what the call owes
pub closed-at : (old now after : Reader) (f : Found) (bytes : List ℕ) (left : Option (List ℕ))
    → now ≡ holding old now.held → old.phase ≡ Reading → decided (allowed now) now.held ≡ None → Ok f ≡ next_of (allowed now) now.held → input now left ≡ Some bytes
    → ((rest : List ℕ) → left ≡ Some rest → rest ≡ []) → after ≡ closed now → Finds old bytes (Ok f) after left
closed-at old now after f bytes left same going none answer all end after_is =
    let none' : decided (allowed old) now.held ≡ None = ap (λ m. decided (allowed m) now.held) (sym same) ∙ none in
    let answer' : Ok f ≡ next_of (allowed old) now.held = answer ∙ ap (λ m. next_of (allowed m) now.held) same in
    let whole : after ≡ closed (holding old now.held) = after_is ∙ ap closed same in
    subst (λ m. Finds old bytes (Ok f) m left) (sym whole) (finds-closed old now.held bytes left f going none' answer' all end)

-- a call from the reader as it gathered is one from the reader as it was
same-old : (old new : Reader) (held bytes : List ℕ) (r : Result Found LineFault) (left : Option (List ℕ)) → Finds (holding old held) bytes r new left → Finds old bytes r new left
same-old old new held bytes (Ok Line) left (a, t) = (a, record { rest = t.rest; line = t.line; before = t.before; most = t.most; phase = t.phase })
same-old old new held bytes (Ok End) left (a, t) = (a, record { rest = t.rest; line = t.line; before = t.before; most = t.most; phase = t.phase })
same-old old new held bytes (Err ReadFault) left (a, t) = (a, record { rest = t.rest; line = t.line; before = t.before; most = t.most; phase = t.phase })
same-old old new held bytes (Err LineTooLong) left (a, t) = (a, record { rest = t.rest; line = t.line; before = t.before; most = t.most; phase = t.phase })
same-old old new held bytes (Err InputTooLong) left (a, t) = (a, record { rest = t.rest; line = t.line; before = t.before; most = t.most; phase = t.phase })

-- the first LF stands before the end, where there is one
pub contained : (xs : List ℕ) (k : ℕ) → k < length xs → slice_index_or xs k 10 ≡ 10 → text_len xs < length xs
contained [] k lt e = absurd (omega arith)
contained (x ∷ xs) zero lt e = rw e (omega arith)
contained (x ∷ xs) (suc k) lt e = grind (arith, nat_tests, contained xs k (omega arith) e)

-- bytes with an LF decide
pub contains-lf : (most : ℕ) (held : List ℕ) → Contains held 10 → decided most held ≡ None → ⊥
contains-lf most held (k, lt, e) none = omega (arith, no_lf most held none, contained held k lt e)

-- a `settle` with no answer leaves the reader but for its line
pub undecided-at : (old now after : Reader) (o : Option (Result Found LineFault)) → now ≡ holding old old.held → o ≡ decided (allowed now) now.held → o ≡ None → after ≡ settled now o
    → (after ≡ holding old old.held) × (decided (allowed old) old.held ≡ None)
undecided-at old now after o same answer none after_is = (
  after_is ∙ ap (settled now) none ∙ ap (λ m. settled m None) same,
  sym (ap (λ m. decided (allowed m) m.held) same) ∙ sym answer ∙ none,
)

-- a call from the reader without its line is one from the reader as it was
pub found-after : (old now new : Reader) (bytes : List ℕ) (r : Result Found LineFault) (left : Option (List ℕ)) → now ≡ holding old old.held → Finds now bytes r new left → Finds old bytes r new left
found-after old now new bytes r left same f = same-old old new old.held bytes r left (subst (λ m. Finds m bytes r new left) same f)
