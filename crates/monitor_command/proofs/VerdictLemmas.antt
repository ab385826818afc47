-- Each word has one verdict, each admitted line a letter.
use Rattle.std.proofs.Common.{◌≡◌, ℕ, ◌<◌, ◌^◌, ◌==◌, ◌&&◌, List, [], ◌++◌, length, Bool, true, false, refl, sym, ◌∙◌, ap, inl, inr, ◌⊎◌, Option, Some, None}
use Rattle.std.proofs.lemmas.Bool.{cases_Bool, lt-ltb}
use Rattle.std.proofs.lemmas.List.{append-nil}
use Rattle.bes_io.specs.Letter.{has}
use Rattle.forms.specs.Word.{Word, Claim, IsOver}
use Rattle.forms.specs.Verdict.{Verdict, IsVerdict, PermTrue, PermFalse, TempTrue, TempFalse}
use Rattle.diagrams.specs.Tree.{Assignment}
use Rattle.diagrams.specs.Eval.{Diagrams, eval, letter_truth}
use Rattle.automata.specs.Moves.{location_after}
use Rattle.automata.specs.Table.{size_of, mark_of, row_of, moves_of}
use Rattle.automata.proofs.Letters.{spelt, spelt-less, spelt-truth}
use Rattle.automata.proofs.Words.{over-nil, location_after-within}
use Rattle.monitor.proofs.EventLemmas.{one_value_or_other}
use Rattle.monitor.specs.Configuration.{Configuration, IsReady, IsClaimOf}
use Rattle.monitor.proofs.EventLemmas.{HasVerdict, IsSettled, at_location, perm_true, perm_false, temp_true, temp_false}
use Rattle.spec_reader.specs.Event.{IsEventOf, event_fault, is_on, pieces}
use Rattle.spec_reader.specs.declared.events.EventFault.{EventFault}
use Rattle.spec_reader.specs.declared.events.Mode.TheVariants.{Ignore}

module _ (p : ℕ) (f : Claim) (w : Word) where
  perm-now : (b : Bool) → ((v : Word) → IsOver p v → f (w ++ v) ≡ b) → f w ≡ b
  perm-now b h = ap f (sym (append-nil w)) ∙ h [] (over-nil p)

  -- a word has one verdict
  pub one-verdict : (u v : Verdict) → IsVerdict p f w u → IsVerdict p f w v → u ≡ v
  one-verdict PermTrue PermTrue h k = refl
  one-verdict PermTrue PermFalse h k = let a = perm-now true h in let b = perm-now false k in cc
  one-verdict PermTrue TempTrue h k = let a = h k.1.0 k.1.1 in let b = k.1.2 in cc
  one-verdict PermTrue TempFalse h k = let a = perm-now true h in let b = k.0 in cc
  one-verdict PermFalse PermTrue h k = let a = perm-now false h in let b = perm-now true k in cc
  one-verdict PermFalse PermFalse h k = refl
  one-verdict PermFalse TempTrue h k = let a = perm-now false h in let b = k.0 in cc
  one-verdict PermFalse TempFalse h k = let a = h k.1.0 k.1.1 in let b = k.1.2 in cc
  one-verdict TempTrue PermTrue h k = let a = k h.1.0 h.1.1 in let b = h.1.2 in cc
  one-verdict TempTrue PermFalse h k = let a = h.0 in let b = perm-now false k in cc
  one-verdict TempTrue TempTrue h k = refl
  one-verdict TempTrue TempFalse h k = let a = h.0 in let b = k.0 in cc
  one-verdict TempFalse PermTrue h k = let a = h.0 in let b = perm-now true k in cc
  one-verdict TempFalse PermFalse h k = let a = k h.1.0 h.1.1 in let b = h.1.2 in cc
  one-verdict TempFalse TempTrue h k = let a = h.0 in let b = k.0 in cc
  one-verdict TempFalse TempFalse h k = refl

-- all letters lead from the location to itself, or not
settled_or_not : (s : Diagrams) (m : Configuration) → IsReady s m → IsSettled s m ⊎ (IsSettled s m → ⊥)
settled_or_not s m r =
    let row = row_of m.automaton m.location in
    elim (one_value_or_other (λ b. eval s row (letter_truth s.props b)) m.location (2 ^ s.props)) [
      | inl e ↦ inl (λ a.
          (r.fits m.location r.within).letters a (letter_truth s.props (spelt a s.props)) (λ v l. sym (spelt-truth a s.props v l))
          ∙ e (spelt a s.props) (spelt-less a s.props))
      | inr d ↦ inr (λ same. d.2 (same (letter_truth s.props d.0)))
    ]

-- the words that lead to a location have a verdict
some-location_verdict : (s : Diagrams) (m : Configuration) → IsReady s m → (v : Verdict) × HasVerdict s m v
some-location_verdict s m r =
    elim (settled_or_not s m r) [
      | inl settled ↦ elim (cases_Bool (mark_of m.automaton m.location == 1)) [
        | inl met ↦ (PermTrue, perm_true s m settled met)
        | inr met ↦ (PermFalse, perm_false s m settled met)
      ]
      | inr varies ↦ elim (cases_Bool (mark_of m.automaton m.location == 1)) [
        | inl met ↦ (TempTrue, temp_true s m r varies met)
        | inr met ↦ (TempFalse, temp_false s m r varies met)
      ]
    ]

-- each word has a verdict
pub some-verdict : (s : Diagrams) (m : Configuration) → IsReady s m → (f : Claim) → IsClaimOf s m.automaton f → (w : Word) → IsOver s.props w
    → (v : Verdict) × IsVerdict s.props f w v
some-verdict s m r f claim w over =
    let moves = moves_of s m.automaton in
    let at = location_after moves m.automaton.first w in
    let within : at < size_of m.automaton = location_after-within s.props moves r.least.closed m.automaton.first w r.least.closed.first over in
    let there : IsReady s (at_location m at) = record { fits = r.fits; marks = r.marks; least = r.least; within = within } in
    let v = some-location_verdict s (at_location m at) there in
    (v.0, v.1 f claim w over refl)

-- a line that is not refused has a letter
some-letter : (names : List (List ℕ)) (text : List ℕ) → event_fault names Ignore text ≡ None → (letter : ℕ) × IsEventOf names Ignore text letter
some-letter names text admitted =
    let p = length names in
    let on : Assignment = λ i. is_on names i (pieces text) in (
      spelt on p,
      record {
        admitted = admitted;
        below = spelt-less on p;
        bits = λ i h. ap (λ b. b && has p i (spelt on p)) (sym (lt-ltb i p h)) ∙ spelt-truth on p i h;
      },
    )

-- a line is an event or has a fault
pub event-or-fault : (names : List (List ℕ)) (text : List ℕ) → ((letter : ℕ) × IsEventOf names Ignore text letter) ⊎ ((fault : EventFault) × (event_fault names Ignore text ≡ Some fault))
event-or-fault names text = by (event_fault names Ignore text) refl
  where
    by : (fault : Option EventFault) → event_fault names Ignore text ≡ fault
        → ((letter : ℕ) × IsEventOf names Ignore text letter) ⊎ ((fault : EventFault) × (event_fault names Ignore text ≡ Some fault))
    by None e = inl (some-letter names text e)
    by (Some fault) e = inr (fault, e)
