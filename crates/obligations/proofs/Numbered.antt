-- How a list of numbered claims grows.
use Rattle.std.proofs.Common.{◌≡◌, ℕ, ◌<◌, ◌-◌, ◌^◌, ◌++◌, cond, List, [], ◌∷◌, length, length-append, refl, sym, ◌∙◌, arith, inl, inr, Some}
use Rattle.std.specs.HashMap as hash
use Rattle.std.proofs.lemmas.List.{get_or_append_left, get_or_at}
use Rattle.std.proofs.lemmas.Option.{same_Some}
use Rattle.diagrams.specs.declared.top.Id.{Id}
use Rattle.diagrams.specs.Eval.{id_at}
use Rattle.diagrams.specs.Transformed.{same_id}
use Rattle.diagrams.proofs.Works.{id_true}
use Rattle.std.proofs.lemmas.Bool.{cases_Bool}
use Rattle.obligations.specs.declared.frontier.Frontier.TheInside.{Inside}
use Rattle.obligations.specs.Numbers.{HasRightNumbers}

id_at-append : (xs : List Id) (x : Id) (k : ℕ) → k < length xs → id_at (xs ++ x ∷ []) k ≡ id_at xs k
id_at-append xs x k h = get_or_append_left xs (x ∷ []) _ k h

id_at-last : (xs : List Id) (x : Id) → id_at (xs ++ x ∷ []) (length xs) ≡ x
id_at-last xs x = get_or_at xs x [] _ (length xs) refl

-- the claim is in the list, and has no number yet
pub numbered_push : (a b : Inside) (claim : Id) → HasRightNumbers a → length a.claims.items < 2 ^ 32 - 2 → b.claims.items ≡ a.claims.items ++ claim ∷ []
    → b.numbers.entries ≡ a.numbers.entries → HasRightNumbers b
numbered_push a b claim n few e same = record {
  few = rw (e, length-append) (omega arith);
  found = λ i k q.
      let old = n.found i k (rw same at q) in
      let l = old.0 in
      (rw (e, length-append) (omega arith), rw e (id_at-append a.claims.items claim k l ∙ old.1));
}

-- the claim is in the list, and has its number
pub numbered_insert : (a b : Inside) (claim : Id) (at : ℕ) → HasRightNumbers a → length a.claims.items < 2 ^ 32 - 2 → b.claims.items ≡ a.claims.items ++ claim ∷ [] → at ≡ length a.claims.items
    → ((i : Id) → hash.get same_id b.numbers i ≡ cond (same_id claim i) (Some at) (hash.get same_id a.numbers i)) → HasRightNumbers b
numbered_insert a b claim at n few e place up = record {
  few = rw (e, length-append) (omega arith);
  found = λ i k q.
      elim (cases_Bool (same_id claim i)) [
        | inl t ↦
            let value : at ≡ k = same_Some at k (sym (rw t at (up i)) ∙ q) in
            let same : claim ≡ i = id_true claim i t in
            (rw (e, length-append) (omega arith), rw e (rw (← value, place, ← same) (id_at-last a.claims.items claim)))
        | inr t ↦
            let old = n.found i k (sym (rw t at (up i)) ∙ q) in
            let l = old.0 in
            (rw (e, length-append) (omega arith), rw e (id_at-append a.claims.items claim k l ∙ old.1))
      ];
}

-- nothing has changed
pub numbered_same : (a b : Inside) → HasRightNumbers a → b.claims.items ≡ a.claims.items → ((i : Id) → hash.get same_id b.numbers i ≡ hash.get same_id a.numbers i) → HasRightNumbers b
numbered_same a b n e same = record {
  few = rw e n.few;
  found = λ i k q. rw e (n.found i k (sym (same i) ∙ q));
}
