-- How a list of numbered diagrams grows.
use Rattle.std.proofs.Common.{◌≡◌, ℕ, ◌<◌, ◌-◌, ◌^◌, ◌++◌, cond, List, [], ◌∷◌, length, length-append, refl, sym, ◌∙◌, arith, inl, inr, Some}
use Rattle.std.specs.HashMap as hash
use Rattle.std.proofs.lemmas.List.{get_or_append_left, get_or_at}
use Rattle.std.proofs.lemmas.Option.{same_Some}
use Rattle.diagrams.specs.declared.top.Id.{Id}
use Rattle.diagrams.specs.Eval.{id_at}
use Rattle.diagrams.specs.Transformed.{same_id}
use Rattle.diagrams.proofs.Works.{id_true}
use Rattle.std.proofs.lemmas.Bool.{cases_Bool}
use Rattle.choosing.specs.declared.below.Below.TheInside.{Inside}
use Rattle.choosing.specs.Numbered.{HasRightNumbers}

id_at-append : (xs : List Id) (x : Id) (k : ℕ) → k < length xs → id_at (xs ++ x ∷ []) k ≡ id_at xs k
id_at-append xs x k h = get_or_append_left xs (x ∷ []) _ k h

id_at-last : (xs : List Id) (x : Id) → id_at (xs ++ x ∷ []) (length xs) ≡ x
id_at-last xs x = get_or_at xs x [] _ (length xs) refl

-- the diagram is in the list, and has no number yet
pub numbered_push : (a b : Inside) (diagram : Id) → HasRightNumbers a → length a.diagrams.items < 2 ^ 32 - 2 → b.diagrams.items ≡ a.diagrams.items ++ diagram ∷ []
    → b.numbers.entries ≡ a.numbers.entries → HasRightNumbers b
numbered_push a b diagram n few e same = record {
  few = rw (e, length-append) (omega arith);
  found = λ i k q.
      let old = n.found i k (rw same at q) in
      let l = old.0 in
      (rw (e, length-append) (omega arith), rw e (id_at-append a.diagrams.items diagram k l ∙ old.1));
}

-- the diagram is in the list, and has its number
pub numbered_insert : (a b : Inside) (diagram : Id) (at : ℕ) → HasRightNumbers a → length a.diagrams.items < 2 ^ 32 - 2 → b.diagrams.items ≡ a.diagrams.items ++ diagram ∷ [] → at ≡ length a.diagrams.items
    → ((i : Id) → hash.get same_id b.numbers i ≡ cond (same_id diagram i) (Some at) (hash.get same_id a.numbers i)) → HasRightNumbers b
numbered_insert a b diagram at n few e place up = record {
  few = rw (e, length-append) (omega arith);
  found = λ i k q.
      elim (cases_Bool (same_id diagram i)) [
        | inl t ↦
            let value : at ≡ k = same_Some at k (sym (rw t at (up i)) ∙ q) in
            let same : diagram ≡ i = id_true diagram i t in
            (rw (e, length-append) (omega arith), rw e (rw (← value, place, ← same) (id_at-last a.diagrams.items diagram)))
        | inr t ↦
            let old = n.found i k (sym (rw t at (up i)) ∙ q) in
            let l = old.0 in
            (rw (e, length-append) (omega arith), rw e (id_at-append a.diagrams.items diagram k l ∙ old.1))
      ];
}

-- nothing has changed
pub numbered_same : (a b : Inside) → HasRightNumbers a → b.diagrams.items ≡ a.diagrams.items → ((i : Id) → hash.get same_id b.numbers i ≡ hash.get same_id a.numbers i) → HasRightNumbers b
numbered_same a b n e same = record {
  few = rw e n.few;
  found = λ i k q. rw e (n.found i k (sym (same i) ∙ q));
}
