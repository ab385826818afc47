-- Tables of obligations to which those of locations are added.
use Rattle.std.proofs.Common.{◌≡◌, ℕ, ◌<◌, ◌+◌, List, [], ◌∷◌, length, refl, sym, ◌∙◌, ap, arith, inl, inr}
use Rattle.std.specs.Prelude.{nat_lt, ◌==◌, slice_index_or, slice_set}
use Rattle.std.proofs.lemmas.Bool.Decides.{nat_tests}
use Rattle.std.proofs.lemmas.List.{get_or-set_same, get_or-set_other, length-set}
use Rattle.diagrams.specs.declared.top.Id.{Id}
use Rattle.diagrams.specs.Eval.{Diagrams, eval}
use Rattle.diagrams.specs.Live.{Keeps}
use Rattle.diagrams.specs.Eval.{id_at}
use Rattle.diagrams.proofs.Meaning.{eval-lasts, Keeps_trans, means_lasts}
use Rattle.std.proofs.lemmas.Bool.{cases_Bool, eqb-false}
use Rattle.automata.specs.Table.{Table, size_of, row_of, Fits}
use Rattle.automata.proofs.Lasts.{fits_lasts, mark_after-lasts}
use Rattle.obligations.specs.declared.cells.Obligation.{Obligation}
use Rattle.obligations.specs.Table.{missing, ends_of, body_of, with_body}
use Rattle.obligations.specs.Value.{IsBody, FitsCells}
use Rattle.obligations.specs.Located.{AllClaims}
use Rattle.obligations.specs.Inclusion.{accepts_from, all_later, all_accept, AllBelow, Follows, IsWider}
use Rattle.obligations.specs.Followed.{HasFrom, StandsFor}
use Rattle.obligations.specs.Entered.{AllAsk, AllAreLater, entered_value, Enters, HasEnds, HasOtherBodies, AllEnter}
use Rattle.obligations.proofs.Holds.{body_lasts}
use Rattle.obligations.proofs.InclusionLemmas.{cell-location}
use Rattle.obligations.proofs.Entering.{all_later-lasts, claims_later, entered_now, enters_body, last_place}

-- a table has its own obligations
pub from_refl : (f : ℕ) (c : List Obligation) → HasFrom f c c
from_refl f c = record { longer = omega arith; same = λ j h l. refl }

-- no location has its end value yet
pub ends_none : (c : List Obligation) (t : Table) → HasEnds c t (length c) 0
ends_none c t = record { number = omega arith; ends = λ at h. absurd (omega arith) }

-- what stands while bodies are set: those of the first so many locations are
pub record IsSetting (s0 s : Diagrams) (c d : List Obligation) (t : Table) (base : ℕ) (items : List Id) (count : ℕ) : Type 0 where
  pub keeps : Keeps s0 s
  pub fits : FitsCells s d
  pub others : HasOtherBodies base c d
  pub bodies : AllEnter s d t base items count

-- what was entered in the store before is so in the grown store
enters_last : (s n : Diagrams) → Keeps s n → (items : List Id) → AllAreLater s items → (t : Table) → Fits s t → length items ≡ size_of t → (at : ℕ) → at < size_of t → (id : Id)
    → Enters s s items (row_of t at) id → Enters n n items (row_of t at) id
enters_last s n k items all t f e at h id m =
    (entered_now s n k items all (row_of t at) id (rw e (f at h)) (means_lasts s n k id (entered_value s items (row_of t at)) m)).enters

-- one body more is set
pub setting_next : (s0 s n : Diagrams) (c d : List Obligation) (t : Table) (base : ℕ) (items : List Id) (count : ℕ) (body : Id) → IsSetting s0 s c d t base items count → Keeps s n → Fits s0 t
    → length items ≡ size_of t → length c ≡ base + size_of t → count < size_of t → AllClaims s0 (length c) items → AllClaims s (length c) items → Enters s n items (row_of t count) body
    → IsSetting s0 n c (with_body d (base + count) body) t base items (count + 1)
setting_next s0 s n c d t base items count body x k f e number h claims0 claims m =
    let f1 : Fits s t = fits_lasts s0 s x.keeps t f in
    let all = claims_later s (length c) items claims in
    let dc = x.others.number in
    let j = base + count in
    let l : j < length d = omega arith in
    let new : Obligation = record { ends = ends_of d j; body = body } in
    let size : length (slice_set d j new) ≡ length d = length-set d j new in
    let there : slice_index_or (slice_set d j new) j missing ≡ new = get_or-set_same d j new missing l in
    let is_body : IsBody n (length c) body = enters_body s n k (length c) items claims (row_of t count) body (rw e (f1 count h)) m in
    let now : Enters n n items (row_of t count) body = (entered_now s n k items all (row_of t count) body (rw e (f1 count h)) m).enters in
    record {
      keeps = Keeps_trans s0 s n x.keeps k;
      fits = λ i q.
          elim (cases_Bool (i == j)) [
            | inl u ↦
                let g : i ≡ j = grind (arith, nat_tests) in
                rw (g, ap (λ v. v.body) there, size, dc) is_body
            | inr u ↦
                let g : slice_index_or (slice_set d j new) i missing ≡ slice_index_or d i missing = get_or-set_other d j i new missing (eqb-false i j u) in
                rw (ap (λ v. v.body) g, size) (body_lasts s n k (length d) (body_of d i) (x.fits i (omega arith)))
          ];
      others = record {
        number = size ∙ dc;
        ends = λ i.
            elim (cases_Bool (i == j)) [
              | inl u ↦
                  let g : i ≡ j = grind (arith, nat_tests) in
                  rw g (ap (λ v. v.ends) there ∙ x.others.ends j)
              | inr u ↦ ap (λ v. v.ends) (get_or-set_other d j i new missing (eqb-false i j u)) ∙ x.others.ends i
            ];
        before = λ i q. get_or-set_other d j i new missing (λ z. absurd (omega arith)) ∙ x.others.before i q;
      };
      bodies = λ at q.
          elim (cases_Bool (nat_lt at count)) [
            | inl u ↦
                let g : at < count = grind (arith, nat_tests) in
                let r : body_of (slice_set d j new) (base + at) ≡ body_of d (base + at) = ap (λ v. v.body) (get_or-set_other d j (base + at) new missing (λ z. absurd (omega arith))) in
                rw r (enters_last s n k items all t f1 e at (omega arith) (body_of d (base + at)) (x.bodies at g))
            | inr u ↦
                let g : count ≡ at = last_place at count q u in
                rw (← g, ap (λ v. v.body) there) now
          ];
    }

-- what locations accept, in a grown store
accepts-lasts : (s n : Diagrams) → Keeps s n → (t : Table) → Fits s t → (at : ℕ) → at < size_of t → (w : List ℕ) → accepts_from n t at w ≡ accepts_from s t at w
accepts-lasts s n k t f at h w = ap (λ x. x == 1) (mark_after-lasts s n k t f at w h)

all_accept-lasts : (s n : Diagrams) → Keeps s n → (t : Table) → Fits s t → (w : List ℕ) (ats : List ℕ) → AllBelow (size_of t) ats → all_accept n t w ats ≡ all_accept s t w ats
all_accept-lasts s n k t f w [] b = refl
all_accept-lasts s n k t f w (at ∷ ats) b = rw (accepts-lasts s n k t f at b.0 w, all_accept-lasts s n k t f w ats b.1) refl

-- lists of locations that accept more stay so
pub wider_lasts : (s n : Diagrams) → Keeps s n → (t : Table) → Fits s t → (wider : ℕ → List ℕ) → IsWider s t wider → IsWider n t wider
wider_lasts s n k t f wider i = record {
  within = i.within;
  same = λ at w h. all_accept-lasts s n k t f w (wider at) (i.within at h) ∙ i.same at w h ∙ sym (accepts-lasts s n k t f at h w);
}

-- the table that was made, and how
pub record IsFollowed (s1 s2 : Diagrams) (c1 c2 : List Obligation) (t : Table) (base : ℕ) (wider : ℕ → List ℕ) (items : List Id) : Type 0 where
  pub fits : Fits s2 t
  pub keeps : Keeps s1 s2
  pub ends : HasEnds c1 t base (size_of t)
  pub others : HasOtherBodies base c1 c2
  pub asks : AllAsk s1 base (size_of t) wider items (size_of t)
  pub bodies : AllEnter s2 c2 t base items (size_of t)

-- in each table that goes on from it the obligations follow the locations
pub follows_after : (s1 s2 : Diagrams) (c1 c2 : List Obligation) (t : Table) (base : ℕ) (wider : ℕ → List ℕ) (items : List Id) → IsFollowed s1 s2 c1 c2 t base wider items
    → (n : Diagrams) (d : List Obligation) → Keeps s2 n → HasFrom base c2 d → Follows n d t base wider
follows_after s1 s2 c1 c2 t base wider items x n d k g =
    let number1 = x.ends.number in
    let number2 = x.others.number in
    record {
      ends = λ at h.
          ap (λ v. v.ends) (g.same (base + at) (omega arith) (omega arith))
          ∙ x.others.ends (base + at)
          ∙ x.ends.ends at h;
      body = λ at h a.
          let b = body_of c2 (base + at) in
          let m = x.bodies at h in
          let to = eval s2 (row_of t at) a in
          let l : to < size_of t = (x.fits at h).targets a in
          let q = x.asks.each to l in
          let same_body : body_of d (base + at) ≡ b = ap (λ v. v.body) (g.same (base + at) (omega arith) (omega arith)) in
          let value : eval n (body_of d (base + at)) a ≡ eval s1 (id_at items to) a =
          ap (λ i. eval n i a) same_body
          ∙ eval-lasts s2 n k.was k.now k.extends b m.live a
          ∙ m.value a
          ∙ eval-lasts s1 s2 x.keeps.was x.keeps.now x.keeps.extends (id_at items to) q.claim.live a in
          let row : eval n (row_of t at) a ≡ to = eval-lasts s2 n k.was k.now k.extends (row_of t at) (x.fits at h).live a in
          ap (λ z. z == 1) value
          ∙ q.value a
          ∙ sym (all_later-lasts s1 n (k.extends.props ∙ x.keeps.extends.props) base a (wider to))
          ∙ ap (λ z. all_later n base a (wider z)) (sym row);
    }

-- so they stand for them
pub stands_after : (s1 s2 : Diagrams) (c1 c2 : List Obligation) (t : Table) (base : ℕ) (wider : ℕ → List ℕ) (items : List Id) → IsFollowed s1 s2 c1 c2 t base wider items → IsWider s2 t wider
    → StandsFor s2 c2 t base
stands_after s1 s2 c1 c2 t base wider items x i n d k g at h word =
    cell-location n d t (fits_lasts s2 n k t x.fits) base wider (follows_after s1 s2 c1 c2 t base wider items x n d k g) (wider_lasts s2 n k t x.fits wider i) word at h
    ∙ accepts-lasts s2 n k t x.fits at h word
