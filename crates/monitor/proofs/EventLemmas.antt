-- Why the row and the mark of a location say the verdict there.
use Rattle.std.proofs.Common.{◌≡◌, ◌≢◌, ℕ, ◌<◌, ◌^◌, ◌==◌, [], ◌∷◌, ◌++◌, true, false, refl, sym, ◌∙◌, ap, subst, arith, inl, inr, ◌⊎◌}
use Rattle.std.proofs.lemmas.Bool.{cases_eq}
use Rattle.forms.specs.Word.{Word, Claim, IsOver}
use Rattle.forms.specs.Verdict.{Verdict, IsVerdict, PermTrue, PermFalse, TempTrue, TempFalse}
use Rattle.diagrams.specs.declared.top.Id.{Id}
use Rattle.diagrams.specs.Tree.{Assignment}
use Rattle.diagrams.specs.Eval.{Diagrams, eval, letter_truth}
use Rattle.automata.specs.Moves.{Moves, location_after, mark_after}
use Rattle.automata.specs.Table.{Table, size_of, mark_of, row_of, IsRow, next_of, moves_of}
use Rattle.automata.proofs.Letters.{spelt, spelt-less, spelt-truth, agree_or_differ}
use Rattle.automata.proofs.Words.{over-append, over-cons, over-push, location_after-append, location_after-within}
use Rattle.minimise.specs.Minimal.{IsLeast}
use Rattle.monitor.specs.Configuration.{Configuration, IsReady, LeadsTo, IsClaimOf, IsVerdictAfter, IsMovedBy}

-- a function has one value below n, or another somewhere
pub one_value_or_other : (f : ℕ → ℕ) (x n : ℕ) → ((b : ℕ) → b < n → f b ≡ x) ⊎ ((b : ℕ) × (b < n) × (f b ≢ x))
one_value_or_other f x n = elim (agree_or_differ f (λ _. x) n) [ inl e ↦ inl e | inr r ↦ inr (r.0, r.1, r.2.differ) ]

-- a row that is not the constant leads to another location at some letter
leads_elsewhere : (s : Diagrams) (size : ℕ) (row : Id) → IsRow s size row → (at : ℕ) → (((a : Assignment) → eval s row a ≡ at) → ⊥)
    → (b : ℕ) × (b < 2 ^ s.props) × (eval s row (letter_truth s.props b) ≢ at)
leads_elsewhere s size row r at varies =
    elim (one_value_or_other (λ b. eval s row (letter_truth s.props b)) at (2 ^ s.props)) [
      | inl e ↦ absurd (varies (λ a.
          r.letters a (letter_truth s.props (spelt a s.props)) (λ v l. sym (spelt-truth a s.props v l))
          ∙ e (spelt a s.props) (spelt-less a s.props)))
      | inr d ↦ d
    ]

-- some word leads from the location to a mark other than its own
record Changes (p : ℕ) (m : Moves) (at : ℕ) : Type 0 where
  word : Word
  over : IsOver p word
  differ : mark_after m at word ≢ m.mark at

-- in a least automaton, a location that some letter leaves has a word to another mark
changes : (p : ℕ) (m : Moves) → IsLeast p m → (at b : ℕ) → at < m.size → b < 2 ^ p → m.next at b ≢ at → Changes p m at
changes p m l at b h k d =
    let t = l.apart at (m.next at b) h (l.closed.next at b h k) (λ e. d (sym e)) in
    elim (cases_eq (mark_after m at t.word) (m.mark at)) [
      | inl e ↦ record { word = b ∷ t.word; over = over-cons p b t.word k t.over; differ = λ q. t.differ (e ∙ sym q) }
      | inr e ↦ record { word = t.word; over = t.over; differ = e }
    ]

-- where all letters lead back, so do all words
stays : (s : Diagrams) (t : Table) (at : ℕ) → ((a : Assignment) → eval s (row_of t at) a ≡ at) → (w : Word) → location_after (moves_of s t) at w ≡ at
stays s t at same [] = refl
stays s t at same (a ∷ w) = ap (λ x. location_after (moves_of s t) x w) (same (letter_truth s.props a)) ∙ stays s t at same w

-- a word and one more letter lead to where the letter leads from the location
moved : (s : Diagrams) (m : Configuration) (letter : ℕ) → IsMovedBy s m (record { automaton = m.automaton; location = next_of s m.automaton m.location letter }) letter
moved s m letter w o e =
    location_after-append (moves_of s m.automaton) m.automaton.first w (letter ∷ [])
    ∙ ap (λ x. next_of s m.automaton x letter) e

-- what the claim says of a word and a continuation is what the mark after the continuation says
continued : (s : Diagrams) (m : Configuration) (f : Claim) → IsClaimOf s m.automaton f → (w v : Word) → IsOver s.props w → IsOver s.props v → LeadsTo s m w
    → f (w ++ v) ≡ (mark_after (moves_of s m.automaton) m.location v == 1)
continued s m f c w v o q e =
    c (w ++ v) (over-append s.props w v o q)
    ∙ ap (λ x. mark_of m.automaton x == 1) (location_after-append (moves_of s m.automaton) m.automaton.first w v
    ∙ ap (λ x. location_after (moves_of s m.automaton) x v) e)

-- the same of the word itself
now : (s : Diagrams) (m : Configuration) (f : Claim) → IsClaimOf s m.automaton f → (w : Word) → IsOver s.props w → LeadsTo s m w
    → f w ≡ (mark_of m.automaton m.location == 1)
now s m f c w o e = c w o ∙ ap (λ x. mark_of m.automaton x == 1) e

other_false : (x y : ℕ) → x < 2 → x ≢ y → (y == 1) ≡ true → (x == 1) ≡ false
other_false x y h d e = grind (arith, h, d, e)

other_true : (x y : ℕ) → x < 2 → y < 2 → x ≢ y → (y == 1) ≡ false → (x == 1) ≡ true
other_true x y h k d e = grind (arith, h, k, d, e)

-- the verdict of every word that leads to the location
abbrev pub HasVerdict : Diagrams → Configuration → Verdict → Type 0
HasVerdict s m verdict = (f : Claim) → IsClaimOf s m.automaton f → (w : Word) → IsOver s.props w → LeadsTo s m w → IsVerdict s.props f w verdict

-- all letters lead from the location to itself
abbrev pub IsSettled : Diagrams → Configuration → Type 0
IsSettled s m = (a : Assignment) → eval s (row_of m.automaton m.location) a ≡ m.location

-- where all letters lead back, every continuation has the location's mark
continued-settled : (s : Diagrams) (m : Configuration) → IsSettled s m → (f : Claim) → IsClaimOf s m.automaton f → (w v : Word) → IsOver s.props w → IsOver s.props v
    → LeadsTo s m w → f (w ++ v) ≡ (mark_of m.automaton m.location == 1)
continued-settled s m same f c w v o q e =
    continued s m f c w v o q e ∙ ap (λ x. mark_of m.automaton x == 1) (stays s m.automaton m.location same v)

-- where all letters lead back and the mark is 1, the verdict is permanently true
pub perm_true : (s : Diagrams) (m : Configuration) → IsSettled s m → (mark_of m.automaton m.location == 1) ≡ true → HasVerdict s m PermTrue
perm_true s m same met f c w o e v q = continued-settled s m same f c w v o q e ∙ met

-- where all letters lead back and the mark is not 1, the verdict is permanently false
pub perm_false : (s : Diagrams) (m : Configuration) → IsSettled s m → (mark_of m.automaton m.location == 1) ≡ false → HasVerdict s m PermFalse
perm_false s m same met f c w o e v q = continued-settled s m same f c w v o q e ∙ met

-- where some letter leads elsewhere, some word leads to another mark
unsettled : (s : Diagrams) (m : Configuration) → IsReady s m → (IsSettled s m → ⊥) → Changes s.props (moves_of s m.automaton) m.location
unsettled s m r varies =
    let d = leads_elsewhere s (size_of m.automaton) (row_of m.automaton m.location) (r.fits m.location r.within) m.location varies in
    changes s.props (moves_of s m.automaton) r.least m.location d.0 r.within d.1 d.2

mark_small : (s : Diagrams) (m : Configuration) → IsReady s m → (v : Word) → IsOver s.props v → mark_after (moves_of s m.automaton) m.location v < 2
mark_small s m r v o =
    r.marks (location_after (moves_of s m.automaton) m.location v)
    (location_after-within s.props (moves_of s m.automaton) r.least.closed m.location v r.within o)

-- where not all letters lead back and the mark is 1, the verdict is true for now
pub temp_true : (s : Diagrams) (m : Configuration) → IsReady s m → (IsSettled s m → ⊥) → (mark_of m.automaton m.location == 1) ≡ true → HasVerdict s m TempTrue
temp_true s m r varies met f c w o e =
    let d = unsettled s m r varies in (
      now s m f c w o e ∙ met,
      (d.word, d.over, continued s m f c w d.word o d.over e ∙ other_false _ _ (mark_small s m r d.word d.over) d.differ met),
    )

-- where not all letters lead back and the mark is not 1, the verdict is false for now
pub temp_false : (s : Diagrams) (m : Configuration) → IsReady s m → (IsSettled s m → ⊥) → (mark_of m.automaton m.location == 1) ≡ false → HasVerdict s m TempFalse
temp_false s m r varies met f c w o e =
    let d = unsettled s m r varies in (
      now s m f c w o e ∙ met,
      (d.word, d.over, continued s m f c w d.word o d.over e ∙ other_true _ _ (mark_small s m r d.word d.over) (r.marks m.location r.within) d.differ met),
    )

-- the location moved to where the letter leads
abbrev pub at_location : Configuration → ℕ → Configuration
at_location m at = record { automaton = m.automaton; location = at }

-- after a letter the monitor is ready
pub ready_at : (s : Diagrams) (v m : Configuration) (at : ℕ) → v ≡ m → IsReady s m → at < size_of v.automaton → IsReady s (at_location v at)
ready_at s v m at view ready h =
    let r : IsReady s v = subst (λ z. IsReady s z) (sym view) ready in
    record { fits = r.fits; marks = r.marks; least = r.least; within = h }

-- a letter moves the monitor to the location that the row gives for it
pub moved_to : (s : Diagrams) (v m : Configuration) (letter at : ℕ) → v ≡ m → at ≡ next_of s v.automaton v.location letter → IsMovedBy s m (at_location v at) letter
moved_to s v m letter at view next w o e = moved s v letter w o (subst (λ z. LeadsTo s z w) (sym view) e) ∙ sym next

-- the verdict of the words that lead to the location after a letter is that of the words before, with the letter
pub verdict_to : (s : Diagrams) (v m : Configuration) (letter at : ℕ) (verdict : Verdict) → v ≡ m → at ≡ next_of s v.automaton v.location letter → letter < 2 ^ s.props
    → HasVerdict s (at_location v at) verdict → IsVerdictAfter s m letter verdict
verdict_to s v m letter at verdict view next h k f c w o e =
    k f (subst (λ z. IsClaimOf s z.automaton f) (sym view) c) (w ++ letter ∷ []) (over-push s.props w letter o h) (moved_to s v m letter at view next w o e)
