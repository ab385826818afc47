-- What the held bytes tell of an answer.
use Rattle.std.proofs.Common.{◌≡◌, ℕ, ◌<◌, ◌≤◌, List, [], length, take, arith, sym, ◌∙◌, ap, subst, inr, Option, Some, None, Result, Ok, Err}
use Rattle.std.proofs.lemmas.Grind.{common_steps}
use Rattle.std.proofs.lemmas.Bool.Decides.{nat_tests}
use Rattle.std.proofs.lemmas.List.{take_all}
use Rattle.std.specs.List.{Contains}
use Rattle.std.specs.Io.{StartsWith}
use Rattle.bes_io.specs.Bytes.{text_len}
use Rattle.bes_io.specs.Reader.{Reader, next_of, line_len, allowed, after_held_line, HeldTells, MayGoOn, IsTooLong}
use Rattle.bes_io.specs.Steps.{decided, settled, holding}
use Rattle.bes_io.specs.declared.lines.Found.{Found}
use Rattle.bes_io.specs.declared.lines.Found.TheVariants.{Line, End}
use Rattle.bes_io.specs.declared.lines.LineFault.{LineFault}
use Rattle.bes_io.specs.declared.lines.LineFault.TheVariants.{ReadFault, LineTooLong, InputTooLong}
use Rattle.bes_io.proofs.Finding.{not_end, not_fault, contained, contains-lf, end-empty}

-- bytes whose text is all of them hold no LF
pub holds-none : (held : List ℕ) → length held ≤ text_len held → Contains held 10 → ⊥
holds-none held all (k, lt, e) = omega (arith, all, contained held k lt e)

-- undecided bytes may be the front of a line
may-go-on : (most : ℕ) (held : List ℕ) → decided most held ≡ None → MayGoOn most held
may-go-on most held none = record { no_lf = λ has. contains-lf most held has none; no_longer = grind (arith, nat_tests); within = grind (arith, nat_tests) }

-- bytes decided as too long for a line
too-long : (most : ℕ) (held : List ℕ) → length held ≤ 4097 → Some (Err LineTooLong) ≡ decided most held → IsTooLong held
too-long most held room e =
    let all : length held ≤ text_len held = grind (arith, nat_tests) in
    let many : 4096 < length held = grind (arith, nat_tests) in
    (omega arith, holds-none held all)

-- bytes decided as too many for the input
too-many : (most : ℕ) (held : List ℕ) → Some (Err InputTooLong) ≡ decided most held → most < line_len held
too-many most held e = grind (arith, nat_tests)

-- what `settle` decides over held bytes
tells-held : (old : Reader) (held : List ℕ) (r : Result Found LineFault) → StartsWith held old.held → (Contains old.held 10 → held ≡ old.held) → length held ≤ 4097
    → Some r ≡ decided (allowed old) held → HeldTells old r (settled (holding old held) (Some r))
tells-held old held (Ok Line) starts same room e = λ has. ap (λ h. after_held_line (holding old h)) (same has)
tells-held old held (Ok End) starts same room e = absurd (not_end (allowed old) held e)
tells-held old held (Err ReadFault) starts same room e = absurd (not_fault (allowed old) held e)
tells-held old held (Err LineTooLong) starts same room e = (starts, λ going. too-long (allowed old) held room e)
tells-held old held (Err InputTooLong) starts same room e = (starts, λ going. too-many (allowed old) held e)

-- what `settle` answers and leaves tells what it owes
pub tells-settled : (old now after : Reader) (o : Option (Result Found LineFault)) (r : Result Found LineFault)
    → now ≡ holding old now.held → StartsWith now.held old.held → (Contains old.held 10 → now.held ≡ old.held) → length now.held ≤ 4097
    → o ≡ decided (allowed now) now.held → o ≡ Some r → after ≡ settled now o → HeldTells old r after
tells-settled old now after o r same starts kept room answer is after_is =
    let e : Some r ≡ decided (allowed old) now.held = sym is ∙ answer ∙ ap (λ m. decided (allowed m) now.held) same in
    let whole : after ≡ settled (holding old now.held) (Some r) = after_is ∙ ap (settled now) is ∙ ap (λ m. settled m (Some r)) same in
    subst (HeldTells old r) (sym whole) (tells-held old now.held r starts kept room e)

-- a fault of reading where the bytes were undecided
pub tells-fault : (old new : Reader) (held : List ℕ) → new.held ≡ held → StartsWith held old.held → decided (allowed old) held ≡ None → HeldTells old (Err ReadFault) new
tells-fault old new held same starts none = (
  subst (λ h. StartsWith h old.held) (sym same) starts,
  subst (MayGoOn (allowed old)) (sym same) (may-go-on (allowed old) held none),
)

-- bytes that go on others that go on the first go on the first
pub starts-trans : (long middle short : List ℕ) → StartsWith long middle → StartsWith middle short → StartsWith long short
starts-trans long middle short more some = grind (arith, common_steps)

-- the fault of a failed call is the one that it answered
pub fault-is : (r : Result ℕ LineFault) (e : LineFault) → r ≡ Err e → r ≡ Err ReadFault → e ≡ ReadFault
fault-is r e is fault = cc

-- bytes go on themselves
pub starts-refl : (held : List ℕ) → StartsWith held held
starts-refl held = take_all (length held) held (omega arith)

-- no bytes go on no bytes alone
goes-on-none : (held old : List ℕ) → StartsWith held old → length held ≡ 0 → old ≡ []
goes-on-none held old starts z =
    let nil : held ≡ [] = grind (arith, common_steps) in
    let short : take (length old) [] ≡ old = subst (λ h. take (length old) h ≡ old) nil starts in
    grind (arith, common_steps)

-- what a call tells that came to the end of its input
pub tells-closed : (old new : Reader) (held : List ℕ) (f : Found) → StartsWith held old.held → (Contains old.held 10 → ⊥) → Ok f ≡ next_of (allowed old) held → HeldTells old (Ok f) new
tells-closed old new held Line starts without answer = λ has. absurd (without has)
tells-closed old new held End starts without answer = inr (goes-on-none held old.held starts (end-empty (allowed old) held answer))

-- a call from the reader without its line tells what one from the reader as it was does
tells-same : (old new : Reader) (r : Result Found LineFault) → HeldTells (holding old old.held) r new → HeldTells old r new
tells-same old new (Ok Line) t = t
tells-same old new (Ok End) t = t
tells-same old new (Err ReadFault) t = t
tells-same old new (Err LineTooLong) t = t
tells-same old new (Err InputTooLong) t = t

-- the same, where the reader without its line is given by an equation
pub tells-after : (old now new : Reader) (r : Result Found LineFault) → now ≡ holding old old.held → HeldTells now r new → HeldTells old r new
tells-after old now new r same t = tells-same old new r (subst (λ m. HeldTells m r new) same t)

-- after a fault of reading no LF is held
pub no_lf-held : (old new : Reader) (r : Result Found LineFault) → HeldTells old r new → r ≡ Err ReadFault → Contains new.held 10 → ⊥
no_lf-held old new r tells is has = (subst (λ a. HeldTells old a new) is tells).1.no_lf has
