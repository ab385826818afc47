-- The obligation of a whole path.
use Rattle.std.proofs.Common.{◌≡◌, ℕ, ◌<◌, ◌≤◌, ◌+◌, ◌++◌, List, [], ◌∷◌, length, refl, sym, ◌∙◌, ap, arith, Result, Ok, Err, IfOk}
use Rattle.std.specs.Result.{OnOk, OnErr}
use Rattle.std.specs.Prelude.{◌&&◌, ◌||◌, slice_index_or}
use Rattle.forms.specs.Word.{Word}
use Rattle.forms.specs.Paths.{reaches}
use Rattle.forms.specs.Tree.{Program}
use Rattle.forms.specs.Satisfaction.{goes}
use Rattle.forms.proofs.Further.{reaches-agree}
use Rattle.diagrams.specs.declared.top.Id.{Id}
use Rattle.diagrams.specs.Eval.{Diagrams, is_one}
use Rattle.diagrams.specs.Live.{IsLive, Keeps}
use Rattle.diagrams.proofs.Meaning.{Keeps_trans, is_one-lasts}
use Rattle.obligations.specs.declared.cells.Obligation.{Obligation}
use Rattle.obligations.specs.Table.{missing, ends_of, body_of}
use Rattle.obligations.specs.Value.{cell, holds, IsBody, FitsCells}
use Rattle.obligations.specs.Followed.{HasFrom}
use Rattle.path_programs.specs.declared.lead.Lead.{Lead}
use Rattle.path_programs.specs.Made.{IsOneWhere}
use Rattle.path_programs.specs.Growth.{HasGrown}
use Rattle.path_programs.specs.Lead.{Leads, AreBodies, IsLead}
use Rattle.path_programs.proofs.Making.{one_same, one_body, body_same}
use Rattle.path_programs.proofs.Growing.{from_later, goes_on_add, entry-old, entry-new, grown_add, grown_same}
use Rattle.path_programs.proofs.Resting.{holds-literal}
use Rattle.path_programs.proofs.Leads.{cell-compiled}

-- the body of the whole, by the diagrams after the walk
pub whole_says : (s2 s3 s4 : Diagrams) → Keeps s2 s3 → Keeps s3 s4 → (l : Lead) (then here body : Id) → IsLive s2 l.further
    → IsOneWhere s3 here (λ a. is_one s2 l.stays a && is_one s2 then a) → IsOneWhere s4 body (λ a. is_one s3 l.further a || is_one s3 here a)
    → IsOneWhere s4 body (λ a. is_one s2 l.further a || is_one s2 l.stays a && is_one s2 then a)
whole_says s2 s3 s4 k3 k4 l then here body live h o =
    one_same s4 body (λ a. is_one s3 l.further a || is_one s3 here a) (λ a. is_one s2 l.further a || is_one s2 l.stays a && is_one s2 then a) o
    (λ a. rw (is_one-lasts s2 s3 k3 l.further live a, h.value a) refl)

-- the body of the whole is one
pub whole_body : (s2 s4 : Diagrams) → Keeps s2 s4 → (count : ℕ) (l : Lead) (then body : Id) → AreBodies s2 count l → IsBody s2 count then
    → IsOneWhere s4 body (λ a. is_one s2 l.further a || is_one s2 l.stays a && is_one s2 then a) → IsBody s4 count body
whole_body s2 s4 k count l then body b t o =
    let e : s4.props ≡ s2.props = k.extends.props in
    one_body s4 body (λ a. is_one s2 l.further a || is_one s2 l.stays a && is_one s2 then a) count o
    (λ a b' same. rw (
      body_same s2 count l.further b.further a b' (λ v h. same v (omega arith)),
      body_same s2 count l.stays b.stays a b' (λ v h. same v (omega arith)),
      body_same s2 count then t a b' (λ v h. same v (omega arith)),
    ) refl)

-- the obligation that was added holds where the path leads to where `then` holds
pub compiled : (s0 s1 s2 s4 : Diagrams) → Keeps s0 s1 → Keeps s1 s2 → Keeps s2 s4 → (c d e : List Obligation) → length c ≤ length d → (then : ℕ) → then < length d → (x : Program) (later : Id) (l : Lead)
    → IsOneWhere s1 later (λ a. a (s1.props + then)) → FitsCells s2 d → AreBodies s2 (length d) l → IsLead s2 (length c) d x later l → (o : Obligation) → e ≡ d ++ o ∷ [] → o.ends ≡ (l.ends && ends_of d then)
    → IsOneWhere s4 o.body (λ a. is_one s2 l.further a || is_one s2 l.stays a && is_one s2 (body_of d then) a)
    → (word : Word) → cell s4 e word (length d) ≡ reaches (λ u v. goes s0.props x u v) (λ v. cell s4 e v then) word
compiled s0 s1 s2 s4 k1 k2 k4 c d e lc then lt x later l p fits b lead o added ends body word =
    let p4 : s4.props ≡ s0.props = (Keeps_trans s0 s1 s4 k1 (Keeps_trans s1 s2 s4 k2 k4)).extends.props in
    let start : HasFrom (length c) d e = from_later 0 (length c) d e (omega arith) (rw added (goes_on_add d o)) in
    let leads : Leads s4 e (goes s4.props x) (holds s4 e later) l = lead s4 e k4 start in
    let old : slice_index_or e then missing ≡ slice_index_or d then missing = rw added (entry-old d o then lt) in
    let new : slice_index_or e (length d) missing ≡ o = rw added (entry-new d o) in
    let same : (w : Word) → holds s4 e later w ≡ cell s4 e w then = λ w. holds-literal s1 s4 (Keeps_trans s1 s2 s4 k2 k4) e then later p w in
    cell-compiled s4 e (goes s4.props x) (holds s4 e later) then (length d) same l leads
    (ap (λ y. y.ends) new ∙ ends ∙ ap (λ y. l.ends && y.ends) (sym old))
    (λ a.
    ap (λ y. is_one s4 y.body a) new
    ∙ body.value a
    ∙ rw (
      sym (is_one-lasts s2 s4 k4 l.further b.further.live a),
      sym (is_one-lasts s2 s4 k4 l.stays b.stays.live a),
      sym (is_one-lasts s2 s4 k4 (body_of d then) (fits then lt).live a),
    ) (ap (λ y. is_one s4 l.further a || is_one s4 l.stays a && is_one s4 y.body a) (sym old)))
    word
    ∙ ap (λ q. reaches (goes q x) (holds s4 e later) word) p4
    ∙ reaches-agree (goes s0.props x) (holds s4 e later) (λ v. cell s4 e v then) word (λ v u. same v)

-- the same, the obligation being added last
pub compiled_ok : {E : Type 0} (r : Result ℕ E) (s0 s1 s2 s4 : Diagrams) → Keeps s0 s1 → Keeps s1 s2 → Keeps s2 s4 → (c d e : List Obligation) → length c ≤ length d → (then : ℕ) → then < length d → (x : Program) (later : Id) (l : Lead)
    → IsOneWhere s1 later (λ a. a (s1.props + then)) → FitsCells s2 d → AreBodies s2 (length d) l → IsLead s2 (length c) d x later l → (o : Obligation) → IfOk r (λ j. j ≡ length d) → OnOk r (e ≡ d ++ o ∷ [])
    → o.ends ≡ (l.ends && ends_of d then) → IsOneWhere s4 o.body (λ a. is_one s2 l.further a || is_one s2 l.stays a && is_one s2 (body_of d then) a)
    → IfOk r (λ j. (word : Word) → cell s4 e word j ≡ reaches (λ u v. goes s0.props x u v) (λ v. cell s4 e v then) word)
compiled_ok (Ok j) s0 s1 s2 s4 k1 k2 k4 c d e lc then lt x later l p fits b lead o number added ends body = λ word.
    ap (cell s4 e word) number ∙ compiled s0 s1 s2 s4 k1 k2 k4 c d e lc then lt x later l p fits b lead o added ends body word
compiled_ok (Err y) s0 s1 s2 s4 k1 k2 k4 c d e lc then lt x later l p fits b lead o number added ends body = tt

-- what was added, or nothing
pub grown_added : {T E : Type 0} (r : Result T E) (s : Diagrams) (c : List Obligation) (n : Diagrams) (d e : List Obligation) (o : Obligation) → HasGrown s c n d → IsBody n (length d) o.body
    → OnOk r (e ≡ d ++ o ∷ []) → OnErr r (e ≡ d) → HasGrown s c n e
grown_added (Ok x) s c n d e o g b ok err = grown_add s c n d e o g b ok
grown_added (Err y) s c n d e o g b ok err = grown_same s c n d e err g
