-- Locations that lead to others.
use Rattle.std.proofs.Common.{◌≡◌, ◌<◌, ◌++◌, ℕ, Bool, true, false, List, [], ◌∷◌, refl, sym, ◌∙◌, ap, subst, arith, inl, inr}
use Rattle.std.proofs.lemmas.Bool.{cases_Bool, false≢true}
use Rattle.diagrams.specs.Eval.{Diagrams, eval}
use Rattle.diagrams.specs.Live.{Keeps}
use Rattle.diagrams.proofs.Meaning.{eval-lasts}
use Rattle.automata.specs.Table.{Table, size_of, row_of, Fits}
use Rattle.linked_blocks.specs.Lists.{holds, list_of}
use Rattle.linked_blocks.proofs.LinkLemmas.{holds-cases, holds-append, holds-left, holds-right}
use Rattle.class_laws.specs.Current.{LeadTo}
use Rattle.looking.specs.Predecessors.{HavePredecessors, leaders}

holds-leaders : (lists : List (List ℕ)) (xs : List ℕ) (x at : ℕ) → holds xs x ≡ true → holds (list_of lists x) at ≡ true → holds (leaders lists xs) at ≡ true
holds-leaders lists [] x at h i = absurd (false≢true h)
holds-leaders lists (y ∷ xs) x at h i = elim (holds-cases y x xs h) [
  | inl e ↦ holds-left (list_of lists y) (leaders lists xs) at (subst (λ z. holds (list_of lists z) at ≡ true) (sym e) i)
  | inr t ↦ holds-right (list_of lists y) (leaders lists xs) at (holds-leaders lists xs x at t i)
]

leaders-within : (s : Diagrams) (t : Table) (lists : List (List ℕ)) → HavePredecessors s t lists → (xs : List ℕ) (at : ℕ) → holds (leaders lists xs) at ≡ true → at < size_of t
leaders-within s t lists p [] at h = absurd (false≢true h)
leaders-within s t lists p (x ∷ xs) at h = elim (holds-append (list_of lists x) (leaders lists xs) at h) [
  | inl i ↦ p.within x at i
  | inr i ↦ leaders-within s t lists p xs at i
]

-- the predecessors of what was shifted lead to it, and no others do
pub leaders_lead : (s n : Diagrams) (t : Table) (lists : List (List ℕ)) (shifted : List ℕ) → Keeps s n → Fits s t → HavePredecessors s t lists → LeadTo n t shifted (leaders lists shifted)
leaders_lead s n t lists shifted k f p = record {
  rest = λ at h g a.
      let e = eval-lasts s n k.was k.now k.extends (row_of t at) (f at h).live a in
      elim (cases_Bool (holds shifted (eval n (row_of t at) a))) [
        | inr x ↦ x
        | inl x ↦ absurd (false≢true (sym g ∙ holds-leaders lists shifted (eval n (row_of t at) a) at x (rw (e) (p.all at h a))))
      ];
  within = leaders-within s t lists p shifted;
}
