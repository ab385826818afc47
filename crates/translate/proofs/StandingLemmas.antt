-- Obligations that stand for claims, as the store and the table grow.
use Rattle.std.proofs.Common.{◌≡◌, ℕ, ◌<◌, ◌+◌, ◌++◌, Bool, true, false, List, [], ◌∷◌, length, length-append, refl, sym, ◌∙◌, ap, subst, arith}
use Rattle.std.specs.Prelude.{◌==◌, not, slice_index_or}
use Rattle.std.specs.Int.{from_bool}
use Rattle.forms.specs.Word.{Word, Claim}
use Rattle.forms.specs.Operators.{agree}
use Rattle.diagrams.specs.declared.top.Id.{Id}
use Rattle.diagrams.specs.Tree.{Assignment}
use Rattle.diagrams.specs.Eval.{Diagrams, eval}
use Rattle.diagrams.specs.Live.{Keeps, IsCanonical, Means}
use Rattle.diagrams.proofs.Meaning.{eval-lasts, Keeps_refl, Keeps_trans}
use Rattle.automata.specs.Table.{Table, size_of, Fits}
use Rattle.automata.proofs.Lasts.{mark_after-lasts}
use Rattle.automata.proofs.Letters.{from_bool_small}
use Rattle.obligations.specs.declared.cells.Obligation.{Obligation}
use Rattle.obligations.specs.Table.{missing, ends_of, body_of}
use Rattle.obligations.specs.Value.{cell, IsBody, FitsCells, joint}
use Rattle.obligations.specs.Followed.{GoesOn, StandsFor}
use Rattle.obligations.proofs.Holds.{fits_cells_lasts}
use Rattle.path_programs.proofs.Growing.{from_earlier, fits_add, goes_on_add}
use Rattle.path_programs.proofs.Resting.{last-one}
use Rattle.translate.specs.Exact.{accepted}
use Rattle.translate.specs.Joined.{ended}
use Rattle.translate.specs.Standing.{Stands}
use Rattle.obligations.proofs.Stands.{from_refl}

-- a table goes on with one more
pub goes_on_by : (c d : List Obligation) (x : Obligation) → d ≡ c ++ x ∷ [] → GoesOn c d
goes_on_by c d x e = subst (GoesOn c) (sym e) (goes_on_add c x)

-- an obligation stands for its claim in what grows
pub Stands-lasts : (s n : Diagrams) (c d : List Obligation) (j : ℕ) (f : Claim) → Keeps s n → GoesOn c d → Stands s c j f → Stands n d j f
Stands-lasts s n c d j f k g x = record {
  within = let a = g.longer in let b = x.within in omega arith;
  same = λ m e l h w. x.same m e (Keeps_trans s n m k l) (from_earlier 0 c d e g h) w;
}

-- its value is its claim's
pub cell-stands : (s : Diagrams) → IsCanonical s → (c : List Obligation) (j : ℕ) (f : Claim) → Stands s c j f → (w : Word) → cell s c w j ≡ f w
cell-stands s k c j f x w = x.same s c (Keeps_refl s k) (from_refl 0 c) w

-- an obligation stands for each claim that holds of the same words
pub Stands-same : (s : Diagrams) (c : List Obligation) (j : ℕ) (f g : Claim) → ((w : Word) → f w ≡ g w) → Stands s c j f → Stands s c j g
Stands-same s c j f g e x = record { within = x.within; same = λ n d k h w. x.same n d k h w ∙ e w }

-- what an automaton accepts as its store grows
pub accepted_word-lasts : (s n : Diagrams) → Keeps s n → (t : Table) → Fits s t → t.first < size_of t → (w : Word) → accepted n t w ≡ accepted s t w
accepted_word-lasts s n k t f h w = ap (λ v. v == 1) (mark_after-lasts s n k t f t.first w h)

-- the obligation of the first location stands for what the automaton accepts
pub Stands-location : (s0 s : Diagrams) (c : List Obligation) (t : Table) (base : ℕ) → Keeps s0 s → Fits s0 t → t.first < size_of t → length c ≡ base + size_of t → StandsFor s c t base
    → Stands s c (base + t.first) (accepted s0 t)
Stands-location s0 s c t base k f h count x = record {
  within = omega arith;
  same = λ n d l g w.
      x n d l (record { longer = g.longer; same = λ j a b. g.same j (omega arith) b }) t.first h w
      ∙ accepted_word-lasts s0 s k t f h w;
}

-- a constant is a body
pub body_constant : (s : Diagrams) (count x : ℕ) (f : Id) → x < 2 → Means s f (λ _. x) → IsBody s count f
body_constant s count x f h m = record { live = m.live; over = λ a b same. m.value a ∙ sym (m.value b); truth = λ a. rw (m.value a) h }

-- the table with one more obligation fits the store
pub fits_by : (s n : Diagrams) (c d : List Obligation) (x : Obligation) → Keeps s n → FitsCells s c → IsBody n (length c + 1) x.body → d ≡ c ++ x ∷ [] → FitsCells n d
fits_by s n c d x k f b e = subst (FitsCells n) (sym e) (fits_add n c x (fits_cells_lasts s n k c f) b)

-- the constant of a truth value is a body
pub truth_body : (s : Diagrams) (count : ℕ) (b : Bool) (f : Id) → Means s f (λ _. from_bool b) → IsBody s count f
truth_body s count b f m = body_constant s count (from_bool b) f (from_bool_small b) m

agree_true : (b : Bool) → b ≡ agree b true
agree_true true = refl
agree_true false = refl

not_agree : (b : Bool) → (from_bool (not b) == 1) ≡ agree b false
not_agree true = refl
not_agree false = refl

cell-end_of : (n : Diagrams) (d : List Obligation) (j : ℕ) (ends : Bool) → ends_of d j ≡ ends → ((a : Assignment) → eval n (body_of d j) a ≡ from_bool (not ends)) → (w : Word) → cell n d w j ≡ ended ends w
cell-end_of n d j ends e b [] = e ∙ agree_true ends
cell-end_of n d j ends e b (a ∷ w) = ap (λ v. v == 1) (b (joint n.props a (cell n d w))) ∙ not_agree ends

-- an obligation that says whether a letter is left
pub Stands-end : (s : Diagrams) (c d : List Obligation) (ends : Bool) (body : Id) → IsCanonical s → Means s body (λ _. from_bool (not ends)) → d ≡ c ++ record { ends = ends; body = body } ∷ []
    → Stands s d (length c) (ended ends)
Stands-end s c d ends body q m e = record {
  within = rw (e, length-append) (omega arith);
  same = λ n b k g w.
      let x : Obligation = record { ends = ends; body = body } in
      let l : length c < length d = rw (e, length-append) (omega arith) in
      let same : slice_index_or b (length c) missing ≡ x = g.same (length c) (omega arith) l ∙ last-one c d x e in
      cell-end_of n b (length c) ends (ap (λ v. v.ends) same) (λ a. ap (λ v. eval n v.body a) same ∙ eval-lasts s n k.was k.now k.extends body m.live a ∙ m.value a) w;
}
