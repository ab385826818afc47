-- What is known of diagrams as more is.
use Rattle.std.proofs.Common.{◌≡◌, ℕ, List, sym, ◌∙◌, subst, inl, inr, None}
use Rattle.std.proofs.lemmas.Bool.{cases_Bool}
use Rattle.std.proofs.lemmas.Option.{none-some, same_Some}
use Rattle.diagrams.specs.declared.top.Id.{Id}
use Rattle.diagrams.specs.Transformed.{same_id}
use Rattle.diagrams.specs.Eval.{Diagrams, tree}
use Rattle.diagrams.proofs.Works.{id_true}
use Rattle.choosing.specs.declared.known.Known.{Known}
use Rattle.choosing.specs.declared.walks.Turns.{Turns}
use Rattle.choosing.specs.Known.{number_of, IsNoted, AllRight}
use Rattle.choosing.specs.Best.{best_of}

-- numbers that stay are right
pub right-same : (s : Diagrams) (turns : Turns) (values : List ℕ) (m n : Known) → ((id : Id) → number_of n id ≡ number_of m id) → AllRight s turns values m → AllRight s turns values n
right-same s turns values m n same r id number e = r id number (sym (same id) ∙ e)

-- so is one more that is right
pub right-noted : (s : Diagrams) (turns : Turns) (values : List ℕ) (m n : Known) (f : Id) (x : ℕ) → AllRight s turns values m → x ≡ best_of turns values (tree s f) → IsNoted m n f x → AllRight s turns values n
right-noted s turns values m n f x r t noted id number e =
    elim (cases_Bool (same_id f id)) [
      | inl p ↦
          let same : f ≡ id = id_true f id p in
          let up = noted id in
          let value : x ≡ number = same_Some x number (sym (rw p at up) ∙ e) in
          subst (λ z. number ≡ best_of turns values (tree s z)) same (sym value ∙ t)
      | inr p ↦ let up = noted id in r id number (sym (rw p at up) ∙ e)
    ]

-- where nothing is known, what is known is right
pub right-none : (s : Diagrams) (turns : Turns) (values : List ℕ) (m : Known) → ((id : Id) → number_of m id ≡ None) → AllRight s turns values m
right-none s turns values m none id number e = absurd (none-some number (sym (none id) ∙ e))
