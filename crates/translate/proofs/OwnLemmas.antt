-- The obligation of an operator, which stands last in its table.
use Rattle.std.proofs.Common.{◌≡◌, ℕ, ◌<◌, ◌+◌, ◌++◌, Bool, List, [], ◌∷◌, length, length-append, refl, sym, ◌∙◌, ap, arith}
use Rattle.std.specs.Prelude.{slice_index_or}
use Rattle.forms.specs.Word.{Word, Claim}
use Rattle.diagrams.specs.declared.top.Id.{Id}
use Rattle.diagrams.specs.declared.work.Op.{Op}
use Rattle.diagrams.specs.Tree.{Assignment}
use Rattle.diagrams.specs.Eval.{Diagrams, is_one, literal_value}
use Rattle.diagrams.specs.Live.{Keeps, Means}
use Rattle.diagrams.specs.Work.{combined_value}
use Rattle.diagrams.proofs.Meaning.{live_lasts, means_lasts, Keeps_refl, is_one-lasts}
use Rattle.obligations.specs.declared.cells.Obligation.{Obligation}
use Rattle.obligations.specs.Table.{missing, ends_of, body_of}
use Rattle.obligations.specs.Value.{cell, holds, joint, IsBody, IsClaim, FitsCells}
use Rattle.obligations.specs.Inclusion.{later}
use Rattle.obligations.proofs.Holds.{body_lasts}
use Rattle.obligations.proofs.InclusionLemmas.{later-joint}
use Rattle.path_programs.proofs.Resting.{last-one}
use Rattle.translate.specs.Joined.{IsJoin, joined, repeated, awaited, stepped, ended}
use Rattle.translate.specs.Standing.{Stands}
use Rattle.translate.proofs.StandingLemmas.{goes_on_by, fits_by}
use Rattle.translate.proofs.JoinLemmas.{literal_claim, literal_holds, literal_says, literal_body, means_literal_small, body_grown, combined_body, combined_one, combined_lasts}

-- the table with the operator's obligation
abbrev pub with_own : List Obligation → Bool → Id → List Obligation
with_own c ends body = c ++ record { ends = ends; body = body } ∷ []

-- its literal is a claim
pub own_claim : (s m : Diagrams) → Keeps s m → (c d : List Obligation) (x : Obligation) → d ≡ c ++ x ∷ [] → (j : ℕ) → j ≡ length c → (i : Id) → Means m i (literal_value (s.props + j)) → IsClaim m (length d) i
own_claim s m k c d x e j h i y =
    let l : j < length d = rw (h, e, length-append) (omega arith) in
    literal_claim m s.props j (length d) i k.extends.props l y

-- and holds where the obligation does
pub own_holds : (s m : Diagrams) → Keeps s m → (c d : List Obligation) (x : Obligation) → FitsCells s c → IsBody s (length c + 1) x.body → d ≡ c ++ x ∷ [] → (j : ℕ) → j ≡ length c → (i : Id)
    → Means m i (literal_value (s.props + j)) → (w : Word) → holds m d i w ≡ cell s (c ++ x ∷ []) w (length c)
own_holds s m k c d x f b e j h i y w =
    let l : j < length d = rw (h, e, length-append) (omega arith) in
    literal_holds s m k d (fits_by s s c d x (Keeps_refl s k.was) f b e) j l i y w
    ∙ ap (λ v. cell s v w j) e
    ∙ ap (cell s (c ++ x ∷ []) w) h

body_before : (c : List Obligation) (x : Obligation) (j : ℕ) → j < length c → body_of (c ++ x ∷ []) j ≡ body_of c j
body_before c x j h = ap (λ v. v.body) ((goes_on_by c (c ++ x ∷ []) x refl).same j (omega arith) h)

cell-repeated : (n : Diagrams) (d : List Obligation) (j now : ℕ) (op : Op) (ends : Bool) (f : Claim) → ends_of d j ≡ ends
    → ((a : Assignment) → is_one n (body_of d j) a ≡ joined op (is_one n (body_of d now) a) (later n j a)) → ((w : Word) → cell n d w now ≡ f w) → (w : Word)
    → cell n d w j ≡ repeated op ends f w
cell-repeated n d j now op ends f e b s [] = e
cell-repeated n d j now op ends f e b s (l ∷ w) =
    let x : Assignment = joint n.props l (cell n d w) in
    b x
    ∙ ap (joined op (is_one n (body_of d now) x)) (later-joint n d l w j ∙ cell-repeated n d j now op ends f e b s w)
    ∙ ap (λ v. joined op v (repeated op ends f w)) (s (l ∷ w))

-- an operator that asks itself again
pub own_repeated : (s n : Diagrams) → Keeps s n → (c : List Obligation) (now : ℕ) (f : Claim) → Stands s c now f → (op : Op) (ends : Bool) (body : Id)
    → ((a : Assignment) → is_one n body a ≡ joined op (is_one n (body_of c now) a) (later n (length c) a)) → (w : Word) → cell n (with_own c ends body) w (length c) ≡ repeated op ends f w
own_repeated s n k c now f x op ends body says w =
    let y : Obligation = record { ends = ends; body = body } in
    let last : slice_index_or (c ++ y ∷ []) (length c) missing ≡ y = last-one c (c ++ y ∷ []) y refl in
    cell-repeated n (c ++ y ∷ []) (length c) now op ends f (ap (λ v. v.ends) last)
    (λ a. ap (λ v. is_one n v.body a) last ∙ says a ∙ ap (λ v. joined op (is_one n v a) (later n (length c) a)) (sym (body_before c y now x.within)))
    (λ v. x.same n (c ++ y ∷ []) k (goes_on_by c (c ++ y ∷ []) y refl) v) w

cell-awaited : (n : Diagrams) (d : List Obligation) (j p q : ℕ) (outer inner : Op) (ends : Bool) (f g : Claim) → ends_of d j ≡ ends
    → ((a : Assignment) → is_one n (body_of d j) a ≡ joined outer (is_one n (body_of d q) a) (joined inner (is_one n (body_of d p) a) (later n j a)))
    → ((w : Word) → cell n d w p ≡ f w) → ((w : Word) → cell n d w q ≡ g w) → (w : Word) → cell n d w j ≡ awaited outer inner ends f g w
cell-awaited n d j p q outer inner ends f g e b s t [] = e
cell-awaited n d j p q outer inner ends f g e b s t (l ∷ w) =
    let x : Assignment = joint n.props l (cell n d w) in
    b x
    ∙ ap (λ v. joined outer (is_one n (body_of d q) x) (joined inner (is_one n (body_of d p) x) v)) (later-joint n d l w j ∙ cell-awaited n d j p q outer inner ends f g e b s t w)
    ∙ ap (λ v. joined outer (is_one n (body_of d q) x) (joined inner v (awaited outer inner ends f g w))) (s (l ∷ w))
    ∙ ap (λ v. joined outer v (joined inner (f (l ∷ w)) (awaited outer inner ends f g w))) (t (l ∷ w))

-- an operator that waits
pub own_awaited : (s n : Diagrams) → Keeps s n → (c : List Obligation) (p q : ℕ) (f g : Claim) → Stands s c p f → Stands s c q g → (outer inner : Op) (ends : Bool) (body : Id)
    → ((a : Assignment) → is_one n body a ≡ joined outer (is_one n (body_of c q) a) (joined inner (is_one n (body_of c p) a) (later n (length c) a)))
    → (w : Word) → cell n (with_own c ends body) w (length c) ≡ awaited outer inner ends f g w
own_awaited s n k c p q f g x z outer inner ends body says w =
    let y : Obligation = record { ends = ends; body = body } in
    let last : slice_index_or (c ++ y ∷ []) (length c) missing ≡ y = last-one c (c ++ y ∷ []) y refl in
    cell-awaited n (c ++ y ∷ []) (length c) p q outer inner ends f g (ap (λ v. v.ends) last)
    (λ a.
    ap (λ v. is_one n v.body a) last
    ∙ says a
    ∙ ap (λ v. joined outer (is_one n (body_of c q) a) (joined inner (is_one n v a) (later n (length c) a))) (sym (body_before c y p x.within))
    ∙ ap (λ v. joined outer (is_one n v a) (joined inner (is_one n (body_of (c ++ y ∷ []) p) a) (later n (length c) a))) (sym (body_before c y q z.within)))
    (λ v. x.same n (c ++ y ∷ []) k (goes_on_by c (c ++ y ∷ []) y refl) v)
    (λ v. z.same n (c ++ y ∷ []) k (goes_on_by c (c ++ y ∷ []) y refl) v) w

cell-stepped : (n : Diagrams) (d : List Obligation) (j p q : ℕ) (op : Op) (ends : Bool) (f : Claim) → ends_of d j ≡ ends
    → ((a : Assignment) → is_one n (body_of d j) a ≡ joined op (later n q a) (later n p a)) → ((w : Word) → cell n d w p ≡ f w) → ((w : Word) → cell n d w q ≡ ended ends w) → (w : Word)
    → cell n d w j ≡ stepped op ends f w
cell-stepped n d j p q op ends f e b s t [] = e
cell-stepped n d j p q op ends f e b s t (l ∷ w) =
    let x : Assignment = joint n.props l (cell n d w) in
    b x
    ∙ ap (joined op (later n q x)) (later-joint n d l w p ∙ s w)
    ∙ ap (λ v. joined op v (f w)) (later-joint n d l w q ∙ t w)

-- an operator that asks of the next position alone
pub own_stepped : (s n : Diagrams) → Keeps s n → (c : List Obligation) (p q : ℕ) (f : Claim) (ends : Bool) → Stands s c p f → Stands s c q (ended ends) → (op : Op) (body : Id)
    → ((a : Assignment) → is_one n body a ≡ joined op (later n q a) (later n p a)) → (w : Word) → cell n (with_own c ends body) w (length c) ≡ stepped op ends f w
own_stepped s n k c p q f ends x z op body says w =
    let y : Obligation = record { ends = ends; body = body } in
    let last : slice_index_or (c ++ y ∷ []) (length c) missing ≡ y = last-one c (c ++ y ∷ []) y refl in
    cell-stepped n (c ++ y ∷ []) (length c) p q op ends f (ap (λ v. v.ends) last)
    (λ a. ap (λ v. is_one n v.body a) last ∙ says a)
    (λ v. x.same n (c ++ y ∷ []) k (goes_on_by c (c ++ y ∷ []) y refl) v)
    (λ v. z.same n (c ++ y ∷ []) k (goes_on_by c (c ++ y ∷ []) y refl) v) w

-- what the body of an operator that waits says, where g and what is asked of the next position are joined
pub awaited_says : (s m n : Diagrams) → Keeps s m → Keeps m n → (outer inner : Op) → IsJoin outer → (f g rest body : Id) (own : ℕ) → IsBody s own f → IsBody s own g → IsBody m (own + 1) rest
    → ((a : Assignment) → is_one m rest a ≡ joined inner (is_one m f a) (later m own a)) → Means n body (combined_value m outer g rest) → (a : Assignment)
    → is_one n body a ≡ joined outer (is_one n g a) (joined inner (is_one n f a) (later n own a))
awaited_says s m n k l outer inner o f g rest body own x y z says e a =
    let y2 = body_lasts s m k own g y in
    combined_one n outer o g rest body (body_lasts m n l own g y2).truth (body_lasts m n l (own + 1) rest z).truth (combined_lasts m n l outer g rest body y2.live z.live e) a
    ∙ ap (joined outer (is_one n g a)) (
    is_one-lasts m n l rest z.live a
    ∙ says a
    ∙ ap (λ v. joined inner v (later m own a)) (sym (is_one-lasts m n l f (live_lasts s m k.extends f x.live) a))
    ∙ ap (λ p. joined inner (is_one n f a) (a (p + own))) (sym l.extends.props))

-- it is a body
pub awaited_body : (s m n : Diagrams) → Keeps s m → Keeps m n → (outer : Op) → IsJoin outer → (g rest body : Id) (own : ℕ) → IsBody s own g → IsBody m (own + 1) rest → Means n body (combined_value m outer g rest)
    → IsBody n (own + 1) body
awaited_body s m n k l outer o g rest body own y z e =
    let y2 = body_grown s m k own (own + 1) g (omega arith) y in
    combined_body n outer o (own + 1) g rest body (body_lasts m n l (own + 1) g y2) (body_lasts m n l (own + 1) rest z) (combined_lasts m n l outer g rest body y2.live z.live e)

-- literals joined say what the operation joins
pub stepped_says : (s m n : Diagrams) → Keeps s m → Keeps m n → (op : Op) → IsJoin op → (p q : ℕ) (f g body : Id) → Means m f (literal_value (s.props + p)) → Means m g (literal_value (s.props + q))
    → Means n body (combined_value m op f g) → (a : Assignment) → is_one n body a ≡ joined op (later n p a) (later n q a)
stepped_says s m n k l op o p q f g body x y e a =
    let props : n.props ≡ s.props = l.extends.props ∙ k.extends.props in
    let x2 = means_lasts m n l f (literal_value (s.props + p)) x in
    let y2 = means_lasts m n l g (literal_value (s.props + q)) y in
    combined_one n op o f g body (means_literal_small n (s.props + p) f x2) (means_literal_small n (s.props + q) g y2) (combined_lasts m n l op f g body x.live y.live e) a
    ∙ ap (λ v. joined op v (is_one n g a)) (literal_says n s.props p f props x2 a)
    ∙ ap (joined op (later n p a)) (literal_says n s.props q g props y2 a)

-- and are a body
pub stepped_body : (s m n : Diagrams) → Keeps s m → Keeps m n → (op : Op) → IsJoin op → (p q count : ℕ) → p < count → q < count → (f g body : Id) → Means m f (literal_value (s.props + p)) → Means m g (literal_value (s.props + q))
    → Means n body (combined_value m op f g) → IsBody n (count + 1) body
stepped_body s m n k l op o p q count h i f g body x y e =
    let props : n.props ≡ s.props = l.extends.props ∙ k.extends.props in
    let x2 = means_lasts m n l f (literal_value (s.props + p)) x in
    let y2 = means_lasts m n l g (literal_value (s.props + q)) y in
    combined_body n op o (count + 1) f g body (literal_body n s.props p (count + 1) f props (omega arith) x2) (literal_body n s.props q (count + 1) g props (omega arith) y2) (combined_lasts m n l op f g body x.live y.live e)
