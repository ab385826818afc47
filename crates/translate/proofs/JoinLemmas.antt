-- Diagrams joined by an operation: literals, bodies and claims.
use Rattle.std.proofs.Common.{◌≡◌, ℕ, ◌<◌, ◌≤◌, ◌+◌, List, length, refl, sym, ◌∙◌, ap, arith, Result, IfOk}
use Rattle.std.specs.Prelude.{◌==◌}
use Rattle.std.proofs.lemmas.Bool.Decides.{nat_tests}
use Rattle.std.proofs.lemmas.Result.{IfOk-weaker}
use Rattle.forms.specs.Word.{Word}
use Rattle.diagrams.specs.declared.top.Id.{Id}
use Rattle.diagrams.specs.declared.work.Op.{Op}
use Rattle.diagrams.specs.declared.work.Op.TheVariants.{And, Or, Iff, Least, Greatest, Pair}
use Rattle.diagrams.specs.Tree.{Assignment}
use Rattle.diagrams.specs.Eval.{Diagrams, eval, is_one, literal_value}
use Rattle.diagrams.specs.Live.{IsLive, Keeps, Means}
use Rattle.diagrams.specs.Work.{CanApply, CanCombine, applied, combined_value}
use Rattle.diagrams.proofs.Meaning.{eval-lasts, live_lasts, means_lasts, Keeps_trans}
use Rattle.obligations.specs.declared.cells.Obligation.{Obligation}
use Rattle.obligations.specs.Value.{by_values, cell, holds, IsClaim, IsBody, FitsCells}
use Rattle.obligations.specs.Inclusion.{later}
use Rattle.obligations.proofs.Holds.{by_values-obligations, cell-lasts, body_lasts, body_wider}
use Rattle.translate.specs.Joined.{IsJoin, joined}
use Rattle.diagrams.proofs.Literals.{min-and, max-or, literal_small, literal_one, literal_same}
use Rattle.path_programs.proofs.Making.{equal-agree}

-- the literal of an obligation is a body
pub literal_body : (n : Diagrams) (p j count : ℕ) (i : Id) → n.props ≡ p → j < count → Means n i (literal_value (p + j)) → IsBody n count i
literal_body n p j count i e h m = record {
  live = m.live;
  over = λ a b same. m.value a ∙ literal_same (p + j) a b (same (p + j) (omega arith)) ∙ sym (m.value b);
  truth = λ a. rw (m.value a) (literal_small (p + j) a);
}

-- and a claim
pub literal_claim : (n : Diagrams) (p j count : ℕ) (i : Id) → n.props ≡ p → j < count → Means n i (literal_value (p + j)) → IsClaim n count i
literal_claim n p j count i e h m = record {
  live = m.live;
  over = λ a b same. m.value a ∙ literal_same (p + j) a b (same (p + j) (omega arith, omega arith)) ∙ sym (m.value b);
  truth = λ a. rw (m.value a) (literal_small (p + j) a);
}

-- it is 1 where the obligation is asked for
pub literal_says : (n : Diagrams) (p j : ℕ) (i : Id) → n.props ≡ p → Means n i (literal_value (p + j)) → (a : Assignment) → is_one n i a ≡ later n j a
literal_says n p j i e m a = ap (λ x. x == 1) (m.value a) ∙ literal_one (p + j) a ∙ ap (λ q. a (q + j)) (sym e)

-- it holds where the obligation does
pub literal_holds : (s m : Diagrams) → Keeps s m → (c : List Obligation) → FitsCells s c → (j : ℕ) → j < length c → (i : Id) → Means m i (literal_value (s.props + j)) → (w : Word)
    → holds m c i w ≡ cell s c w j
literal_holds s m k c f j h i x w =
    literal_says m s.props j i k.extends.props x (by_values m.props (cell m c w))
    ∙ by_values-obligations m.props (cell m c w) (m.props + j) (omega arith)
    ∙ ap (cell m c w) (omega arith)
    ∙ cell-lasts s m k c f w j h

-- operations that join may be applied to the terminals 0 and 1
pub join_can_apply : (op : Op) → IsJoin op → (x y : ℕ) → x < 2 → y < 2 → CanApply op x y
join_can_apply And j x y h k = (h, k)
join_can_apply Or j x y h k = (h, k)
join_can_apply Iff j x y h k = (h, k)
join_can_apply Least j x y h k = tt
join_can_apply Greatest j x y h k = tt
join_can_apply (Pair w) j x y h k = elim j [ ]

-- and give 0 and 1
applied_small : (op : Op) → IsJoin op → (x y : ℕ) → x < 2 → y < 2 → applied op x y < 2
applied_small And j x y h k = grind (arith, nat_tests)
applied_small Or j x y h k = grind (arith, nat_tests)
applied_small Iff j x y h k = grind (arith, nat_tests)
applied_small Least j x y h k = elim j [ ]
applied_small Greatest j x y h k = elim j [ ]
applied_small (Pair w) j x y h k = elim j [ ]

applied_one : (op : Op) → IsJoin op → (x y : ℕ) → x < 2 → y < 2 → (applied op x y == 1) ≡ joined op (x == 1) (y == 1)
applied_one And j x y h k = min-and x y h k
applied_one Or j x y h k = max-or x y h k
applied_one Iff j x y h k = equal-agree x y h k
applied_one Least j x y h k = elim j [ ]
applied_one Greatest j x y h k = elim j [ ]
applied_one (Pair w) j x y h k = elim j [ ]

-- two diagrams with the terminals 0 and 1 may be joined
pub can_join : (s : Diagrams) (op : Op) → IsJoin op → (f g : Id) → ((a : Assignment) → eval s f a < 2) → ((a : Assignment) → eval s g a < 2) → CanCombine s op f g
can_join s op j f g h k a = join_can_apply op j (eval s f a) (eval s g a) (h a) (k a)

-- what is joined in the grown store
pub combined_lasts : (m n : Diagrams) → Keeps m n → (op : Op) (f g i : Id) → IsLive m f → IsLive m g → Means n i (combined_value m op f g) → Means n i (combined_value n op f g)
combined_lasts m n k op f g i h l x = record {
  live = x.live;
  value = λ a. x.value a ∙ rw (eval-lasts m n k.was k.now k.extends f h a, eval-lasts m n k.was k.now k.extends g l a) refl;
}

-- bodies joined are a body
pub combined_body : (n : Diagrams) (op : Op) → IsJoin op → (count : ℕ) (f g i : Id) → IsBody n count f → IsBody n count g → Means n i (combined_value n op f g) → IsBody n count i
combined_body n op j count f g i x y m = record {
  live = m.live;
  over = λ a b same. m.value a ∙ rw (x.over a b same, y.over a b same) refl ∙ sym (m.value b);
  truth = λ a. rw (m.value a) (applied_small op j (eval n f a) (eval n g a) (x.truth a) (y.truth a));
}

-- claims joined are a claim
pub combined_claim : (n : Diagrams) (op : Op) → IsJoin op → (count : ℕ) (f g i : Id) → IsClaim n count f → IsClaim n count g → Means n i (combined_value n op f g) → IsClaim n count i
combined_claim n op j count f g i x y m = record {
  live = m.live;
  over = λ a b same. m.value a ∙ rw (x.over a b same, y.over a b same) refl ∙ sym (m.value b);
  truth = λ a. rw (m.value a) (applied_small op j (eval n f a) (eval n g a) (x.truth a) (y.truth a));
}

-- where they are 1
pub combined_one : (n : Diagrams) (op : Op) → IsJoin op → (f g i : Id) → ((a : Assignment) → eval n f a < 2) → ((a : Assignment) → eval n g a < 2) → Means n i (combined_value n op f g)
    → (a : Assignment) → is_one n i a ≡ joined op (is_one n f a) (is_one n g a)
combined_one n op j f g i x y m a = ap (λ v. v == 1) (m.value a) ∙ applied_one op j (eval n f a) (eval n g a) (x a) (y a)

-- a body as its store and its table grow
pub body_grown : (s n : Diagrams) → Keeps s n → (count more : ℕ) (f : Id) → count ≤ more → IsBody s count f → IsBody n more f
body_grown s n k count more f h b = body_wider n count more f h (body_lasts s n k count f b)

-- a body joined with an obligation of the next position is a body
pub next_body : {E : Type 0} (r : Result Id E) (s m n : Diagrams) → Keeps s m → Keeps m n → (op : Op) → IsJoin op → (now next : Id) (own : ℕ) → IsBody s own now → Means m next (literal_value (s.props + own))
    → IfOk r (λ id. Means n id (combined_value m op now next)) → IfOk r (λ id. IsBody n (own + 1) id)
next_body r s m n k l op j now next own b x =
    IfOk-weaker r (λ id. Means n id (combined_value m op now next)) (λ id. IsBody n (own + 1) id)
    (λ id y.
    combined_body n op j (own + 1) now next id (body_grown s n (Keeps_trans s m n k l) own (own + 1) now (omega arith) b)
    (body_lasts m n l (own + 1) next (literal_body m s.props own (own + 1) next k.extends.props (omega arith) x))
    (combined_lasts m n l op now next id (live_lasts s m k.extends now b.live) x.live y))

-- and says what the operation joins
pub next_says : {E : Type 0} (r : Result Id E) (s m n : Diagrams) → Keeps s m → Keeps m n → (op : Op) → IsJoin op → (now next : Id) (own : ℕ) → IsBody s own now → Means m next (literal_value (s.props + own))
    → IfOk r (λ id. Means n id (combined_value m op now next)) → IfOk r (λ id. (a : Assignment) → is_one n id a ≡ joined op (is_one n now a) (later n own a))
next_says r s m n k l op j now next own b x =
    IfOk-weaker r (λ id. Means n id (combined_value m op now next)) (λ id. (a : Assignment) → is_one n id a ≡ joined op (is_one n now a) (later n own a))
    (λ id y a.
    let z = means_lasts m n l next (literal_value (s.props + own)) x in
    combined_one n op j now next id (body_lasts s n (Keeps_trans s m n k l) own now b).truth (λ b. rw (z.value b) (literal_small (s.props + own) b))
    (combined_lasts m n l op now next id (live_lasts s m k.extends now b.live) x.live y) a
    ∙ ap (joined op (is_one n now a)) (literal_says n s.props own next (l.extends.props ∙ k.extends.props) z a))

-- a literal is 0 or 1
pub means_literal_small : (n : Diagrams) (v : ℕ) (i : Id) → Means n i (literal_value v) → (a : Assignment) → eval n i a < 2
means_literal_small n v i m a = rw (m.value a) (literal_small v a)

-- literals joined are a claim
pub literals_claim : (s m n : Diagrams) → Keeps s m → Keeps m n → (op : Op) → IsJoin op → (count j k : ℕ) → j < count → k < count → (f g i : Id)
    → Means m f (literal_value (s.props + j)) → Means m g (literal_value (s.props + k)) → Means n i (combined_value m op f g) → IsClaim n count i
literals_claim s m n a b op o count j k h l f g i x y z =
    let e : n.props ≡ s.props = b.extends.props ∙ a.extends.props in
    combined_claim n op o count f g i (literal_claim n s.props j count f e h (means_lasts m n b f (literal_value (s.props + j)) x)) (literal_claim n s.props k count g e l (means_lasts m n b g (literal_value (s.props + k)) y))
    (combined_lasts m n b op f g i x.live y.live z)

-- and hold as the operation joins the obligations
pub literals_hold : (s m n : Diagrams) → Keeps s m → Keeps m n → (op : Op) → IsJoin op → (c : List Obligation) → FitsCells s c → (j k : ℕ) → j < length c → k < length c → (f g i : Id)
    → Means m f (literal_value (s.props + j)) → Means m g (literal_value (s.props + k)) → Means n i (combined_value m op f g) → (w : Word)
    → holds n c i w ≡ joined op (cell s c w j) (cell s c w k)
literals_hold s m n a b op o c d j k h l f g i x y z w =
    let t = Keeps_trans s m n a b in
    let p = means_lasts m n b f (literal_value (s.props + j)) x in
    let q = means_lasts m n b g (literal_value (s.props + k)) y in
    combined_one n op o f g i (means_literal_small n (s.props + j) f p) (means_literal_small n (s.props + k) g q) (combined_lasts m n b op f g i x.live y.live z) (by_values n.props (cell n c w))
    ∙ rw (literal_holds s n t c d j h f p w, literal_holds s n t c d k l g q w) refl
