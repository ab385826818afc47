-- Stores and tables that go on.
use Rattle.std.proofs.Common.{◌≡◌, ℕ, ◌<◌, ◌≤◌, ◌+◌, ◌++◌, true, List, [], ◌∷◌, length, refl, sym, ◌∙◌, ap, subst, arith, inl, inr}
use Rattle.std.specs.Prelude.{nat_lt, ◌==◌, slice_index_or}
use Rattle.std.proofs.lemmas.Bool.{eqb-true, eq-eqb}
use Rattle.std.proofs.lemmas.Bool.Decides.{nat_tests}
use Rattle.std.proofs.lemmas.List.{get_or_append_left, get_or_at, get_or-set_same, get_or-set_other, length-set, length_push}
use Rattle.diagrams.specs.declared.top.Id.{Id}
use Rattle.diagrams.specs.Eval.{Diagrams}
use Rattle.diagrams.specs.Live.{Keeps}
use Rattle.diagrams.proofs.Meaning.{Keeps_trans}
use Rattle.std.proofs.lemmas.Bool.{cases_Bool}
use Rattle.obligations.specs.declared.cells.Obligation.{Obligation}
use Rattle.obligations.specs.Table.{missing, ends_of, body_of, with_body}
use Rattle.obligations.specs.Value.{IsBody, FitsCells}
use Rattle.obligations.specs.Followed.{HasFrom, GoesOn}
use Rattle.obligations.proofs.Holds.{fits_cells_lasts, body_wider}
use Rattle.obligations.proofs.Stands.{from_refl}
use Rattle.path_programs.specs.Growth.{HasGrown}

-- from a later one on
pub from_later : (f g : ℕ) (c d : List Obligation) → f ≤ g → HasFrom f c d → HasFrom g c d
from_later f g c d h a = record { longer = a.longer; same = λ j l m. a.same j (omega arith) m }

-- of a table that went on
pub from_earlier : (f : ℕ) (c d e : List Obligation) → GoesOn c d → HasFrom f d e → HasFrom f c e
from_earlier f c d e p q = record {
  longer = let h = p.longer in let k = q.longer in omega arith;
  same = λ j l m. let h = p.longer in q.same j l (omega arith) ∙ p.same j (omega arith) m;
}

-- twice
pub grown_trans : (s : Diagrams) (c : List Obligation) (m : Diagrams) (d : List Obligation) (n : Diagrams) (e : List Obligation) → HasGrown s c m d → HasGrown m d n e → HasGrown s c n e
grown_trans s c m d n e p q = record { keeps = Keeps_trans s m n p.keeps q.keeps; fits = q.fits; grows = from_earlier 0 c d e p.grows q.grows }

-- the store alone goes on
pub grown_store : (s : Diagrams) (c : List Obligation) (m : Diagrams) (d : List Obligation) (n : Diagrams) → HasGrown s c m d → Keeps m n → HasGrown s c n d
grown_store s c m d n p k = record { keeps = Keeps_trans s m n p.keeps k; fits = fits_cells_lasts m n k d p.fits; grows = p.grows }

-- the store alone, from the table that was there
pub grown_keeps : (s n : Diagrams) (c : List Obligation) → Keeps s n → FitsCells s c → HasGrown s c n c
grown_keeps s n c k f = record { keeps = k; fits = fits_cells_lasts s n k c f; grows = from_refl 0 c }

-- a table that is the same
pub grown_same : (s : Diagrams) (c : List Obligation) (n : Diagrams) (d e : List Obligation) → e ≡ d → HasGrown s c n d → HasGrown s c n e
grown_same s c n d e q p = let P : List Obligation → Type 0 = λ x. HasGrown s c n x in subst P (sym q) p

-- an obligation that stood before
pub entry-old : (c : List Obligation) (o : Obligation) (j : ℕ) → j < length c → slice_index_or (c ++ o ∷ []) j missing ≡ slice_index_or c j missing
entry-old c o j h = get_or_append_left c (o ∷ []) _ j h

-- the obligation that was added
pub entry-new : (c : List Obligation) (o : Obligation) → slice_index_or (c ++ o ∷ []) (length c) missing ≡ o
entry-new c o = get_or_at c o [] _ (length c) refl

-- a table goes on with an obligation at its end
pub goes_on_add : (c : List Obligation) (o : Obligation) → GoesOn c (c ++ o ∷ [])
goes_on_add c o = record { longer = rw (length_push c o) (omega arith); same = λ j h l. entry-old c o j l }

-- a table fits with one obligation more, whose body may ask for that obligation too
pub fits_add : (s : Diagrams) (c : List Obligation) (o : Obligation) → FitsCells s c → IsBody s (length c + 1) o.body → FitsCells s (c ++ o ∷ [])
fits_add s c o f b j h =
    let e : length (c ++ o ∷ []) ≡ length c + 1 = length_push c o in
    let P : Obligation → Type 0 = λ x. IsBody s (length (c ++ o ∷ [])) x.body in
    elim (cases_Bool (nat_lt j (length c))) [
      | inl t ↦
          let l : j < length c = grind (arith, nat_tests) in
          let more : length c ≤ length (c ++ o ∷ []) = omega arith in
          subst P (sym (entry-old c o j l)) (body_wider s (length c) (length (c ++ o ∷ [])) (body_of c j) more (f j l))
      | inr t ↦
          let g : length c ≤ j = grind (arith, nat_tests) in
          let u : j ≡ length c = omega arith in
          let x : slice_index_or (c ++ o ∷ []) j missing ≡ o = ap (λ i. slice_index_or (c ++ o ∷ []) i missing) u ∙ entry-new c o in
          subst P (sym x) (body_wider s (length c + 1) (length (c ++ o ∷ [])) o.body (omega arith) b)
    ]

-- the same of a store and a table
pub grown_add : (s : Diagrams) (c : List Obligation) (n : Diagrams) (d e : List Obligation) (o : Obligation) → HasGrown s c n d → IsBody n (length d) o.body → e ≡ d ++ o ∷ [] → HasGrown s c n e
grown_add s c n d e o p b q =
    let P : List Obligation → Type 0 = λ x. HasGrown s c n x in
    subst P (sym q) (record {
      keeps = p.keeps;
      fits = fits_add n d o p.fits (body_wider n (length d) (length d + 1) o.body (omega arith) b);
      grows = from_earlier 0 c d (d ++ o ∷ []) p.grows (goes_on_add d o);
    })

-- another body for one obligation
pub set-length : (c : List Obligation) (j : ℕ) (x : Id) → length (with_body c j x) ≡ length c
set-length c j x = length-set c j (record { ends = ends_of c j; body = x })

-- the body that was set
pub set-there : (c : List Obligation) (j : ℕ) (x : Id) → j < length c → slice_index_or (with_body c j x) j missing ≡ record { ends = ends_of c j; body = x }
set-there c j x h = get_or-set_same c j (record { ends = ends_of c j; body = x }) missing h

-- the other obligations
pub set-others : (c : List Obligation) (j i : ℕ) (x : Id) → (i ≡ j → ⊥) → slice_index_or (with_body c j x) i missing ≡ slice_index_or c i missing
set-others c j i x h = get_or-set_other c j i (record { ends = ends_of c j; body = x }) missing h

-- the table fits with another body
pub fits_set : (s : Diagrams) (c : List Obligation) (j : ℕ) (x : Id) → FitsCells s c → j < length c → IsBody s (length c) x → FitsCells s (with_body c j x)
fits_set s c j x f l b i h =
    let e : length (with_body c j x) ≡ length c = set-length c j x in
    let P : Obligation → Type 0 = λ o. IsBody s (length (with_body c j x)) o.body in
    elim (cases_Bool (i == j)) [
      | inl t ↦
          let u : i ≡ j = eqb-true i j t in
          let there : slice_index_or (with_body c j x) i missing ≡ record { ends = ends_of c j; body = x } = rw u (set-there c j x l) in
          subst P (sym there) (rw e b)
      | inr t ↦
          let other : i ≡ j → ⊥ = λ u. (let v : (i == j) ≡ true = eq-eqb i j u in cc) in
          subst P (sym (set-others c j i x other)) (rw e (f i (omega arith)))
    ]

-- the obligation at the end of a table, which was added and whose body is then set
pub grown_set : (s : Diagrams) (c : List Obligation) (n : Diagrams) (d : List Obligation) (j : ℕ) (x : Id) → HasGrown s c n d → j ≡ length c → j < length d → IsBody n (length d) x
    → HasGrown s c n (with_body d j x)
grown_set s c n d j x p e l b = record {
  keeps = p.keeps;
  fits = fits_set n d j x p.fits l b;
  grows = record {
    longer = let h = p.grows.longer in omega (arith, set-length d j x);
    same = λ i h k. set-others d j i x (λ u. omega arith) ∙ p.grows.same i h k;
  };
}
