-- Lines have their letters in one way, and are refused in one way.
use Rattle.std.proofs.Common.{◌≡◌, ◌∷◌, ℕ, List, [], sym, refl, ◌∙◌, ap, subst, Some, None}
use Rattle.bes_io.specs.Lines.{Stop, at_end, HasLines}
use Rattle.bes_io.proofs.LinesLemmas.{one-reading}
use Rattle.spec_reader.specs.declared.events.Mode.TheVariants.{Ignore}
use Rattle.spec_reader.proofs.EventLemmas.{one_letter}
use Rattle.command_endings.specs.declared.endings.Refusal.{Refusal}
use Rattle.input_letters.specs.Traces.{most_input, AreEvents, trace_refusal}
use Rattle.input_letters.proofs.TraceLemmas.{not-refused}

-- lines have their letters in one way
pub one-word : (names lines : List (List ℕ)) (u v : List ℕ) → AreEvents names lines u → AreEvents names lines v → u ≡ v
one-word names [] [] [] h k = refl
one-word names [] [] (b ∷ v) h k = absurd k
one-word names [] (a ∷ u) v h k = absurd h
one-word names (l ∷ ls) [] v h k = absurd h
one-word names (l ∷ ls) (a ∷ u) [] h k = absurd k
one-word names (l ∷ ls) (a ∷ u) (b ∷ v) h k =
    let first : a ≡ b = one_letter names Ignore l a b h.0 k.0 in
    let later = one-word names ls u v h.1 k.1 in cc

-- no lines are no events
pub no-lines-events : (names lines : List (List ℕ)) (letter : ℕ) (word : List ℕ) → [] ≡ lines → AreEvents names lines (letter ∷ word) → ⊥
no-lines-events names lines letter word e h = subst (λ l. AreEvents names l (letter ∷ word)) (sym e) h

-- the refusal of an input goes by its lines
pub one-refusal : (names : List (List ℕ)) {rest : List ℕ} {ls ks : List (List ℕ)} {s t : Stop} {q r : Refusal} → HasLines most_input rest ls s → HasLines most_input rest ks t
    → trace_refusal names 1 ls s ≡ Some q → trace_refusal names 1 ks t ≡ Some r → q ≡ r
one-refusal names {ls = ls} {ks = ks} {s = s} {t = t} h k a b =
    let same = one-reading h k in
    let e : trace_refusal names 1 ls s ≡ trace_refusal names 1 ks t = ap (λ l. trace_refusal names 1 l s) same.0 ∙ ap (trace_refusal names 1 ks) same.1 in
    cc

-- an input that is refused is none whose lines are all events
pub refused-or-events : (names : List (List ℕ)) (word : List ℕ) {rest : List ℕ} {ls ks : List (List ℕ)} {s : Stop} {r : Refusal} → HasLines most_input rest ls s → HasLines most_input rest ks at_end
    → trace_refusal names 1 ls s ≡ Some r → AreEvents names ks word → ⊥
refused-or-events names word {ls = ls} {ks = ks} {s = s} {r = r} h k a b =
    let same = one-reading h k in
    let e : trace_refusal names 1 ls s ≡ trace_refusal names 1 ks at_end = ap (λ l. trace_refusal names 1 l s) same.0 ∙ ap (trace_refusal names 1 ks) same.1 in
    let none : trace_refusal names 1 ks at_end ≡ None = not-refused names ks word 1 b in
    cc
