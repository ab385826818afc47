-- What the obligations of the operators hold on, in the operators' own words.
use Rattle.std.proofs.Common.{◌≡◌, ℕ, ◌<◌, ◌+◌, ◌++◌, Bool, true, false, if◌then◌else◌, List, [], ◌∷◌, length, refl, sym, ◌∙◌, ap, arith}
use Rattle.std.specs.Prelude.{◌==◌, ◌&&◌, ◌||◌, not}
use Rattle.std.specs.Int.{from_bool}
use Rattle.std.proofs.lemmas.Bool.{lt-ltb}
use Rattle.std.proofs.Math.Bool.{and_comm}
use Rattle.forms.specs.Word.{Word, Claim, is_empty}
use Rattle.forms.specs.Operators.{atom, next, weak_next, until, release, eventually, always}
use Rattle.diagrams.specs.declared.top.Id.{Id}
use Rattle.diagrams.specs.declared.work.Op.TheVariants.{And, Or}
use Rattle.diagrams.specs.Tree.{Assignment}
use Rattle.diagrams.specs.Eval.{Diagrams, eval, literal_value, is_one}
use Rattle.diagrams.specs.Live.{Keeps, IsTruth, Means}
use Rattle.diagrams.specs.Work.{chosen_value}
use Rattle.diagrams.proofs.Meaning.{eval-lasts, means_lasts, Keeps_trans}
use Rattle.obligations.specs.declared.cells.Obligation.{Obligation}
use Rattle.obligations.specs.Value.{by_values, joint, cell, holds, IsBody, IsClaim, FitsCells}
use Rattle.obligations.proofs.Holds.{joint-letter}
use Rattle.translate.specs.Joined.{repeated, awaited, stepped, ended}
use Rattle.translate.proofs.JoinLemmas.{literal_claim, literal_holds, means_literal_small}
use Rattle.automata.proofs.Letters.{from_bool_small, from_bool_one}
use Rattle.diagrams.proofs.Windows.{if_below}
use Rattle.diagrams.proofs.Literals.{literal_small, literal_one, literal_same}

-- eventually
pub repeated-eventually : (f : Claim) (w : Word) → repeated Or false f w ≡ eventually f w
repeated-eventually f [] = refl
repeated-eventually f (a ∷ w) = ap (λ v. f (a ∷ w) || v) (repeated-eventually f w)

-- always
pub repeated-always : (f : Claim) (w : Word) → repeated And true f w ≡ always f w
repeated-always f [] = refl
repeated-always f (a ∷ w) = ap (λ v. f (a ∷ w) && v) (repeated-always f w)

-- until
pub awaited-until : (f g : Claim) (w : Word) → awaited Or And false f g w ≡ until f g w
awaited-until f g [] = refl
awaited-until f g (a ∷ w) = ap (λ v. g (a ∷ w) || f (a ∷ w) && v) (awaited-until f g w)

-- release
pub awaited-release : (f g : Claim) (w : Word) → awaited And Or true f g w ≡ release f g w
awaited-release f g [] = refl
awaited-release f g (a ∷ w) = ap (λ v. g (a ∷ w) && (f (a ∷ w) || v)) (awaited-release f g w)

-- next
pub stepped-next : (f : Claim) (w : Word) → stepped And false f w ≡ next f w
stepped-next f [] = refl
stepped-next f (a ∷ w) = refl

-- weak next
pub stepped-weak_next : (f : Claim) (w : Word) → stepped Or true f w ≡ weak_next f w
stepped-weak_next f [] = refl
stepped-weak_next f (a ∷ w) = refl

-- no obligations fit each store
pub fits_none : (s : Diagrams) (c : List Obligation) → c ≡ [] → FitsCells s c
fits_none s c e = rw e (λ j h. absurd (omega arith))

-- a constant is a claim
pub constant_claim : (s : Diagrams) (count : ℕ) (value : Bool) (i : Id) → Means s i (λ _. from_bool value) → IsClaim s count i
constant_claim s count value i m = record { live = m.live; over = λ a b same. m.value a ∙ sym (m.value b); truth = λ a. rw (m.value a) (from_bool_small value) }

-- which holds on all words or on none
pub constant_holds : (s : Diagrams) (c : List Obligation) (value : Bool) (i : Id) → Means s i (λ _. from_bool value) → (w : Word) → holds s c i w ≡ value
constant_holds s c value i m w = ap (λ v. v == 1) (m.value (by_values s.props (cell s c w))) ∙ from_bool_one value

-- the literal of a proposition is a body
pub atom_body : (s : Diagrams) (i count : ℕ) (body : Id) → i < s.props → Means s body (literal_value i) → IsBody s count body
atom_body s i count body h m = record {
  live = m.live;
  over = λ a b same. m.value a ∙ literal_same i a b (same i (omega arith)) ∙ sym (m.value b);
  truth = λ a. rw (m.value a) (literal_small i a);
}

atom_cell : (s : Diagrams) (i : ℕ) (body : Id) → i < s.props → Means s body (literal_value i) → (w : Word) → cell s (record { ends = false; body = body } ∷ []) w 0 ≡ atom s.props i w
atom_cell s i body h m [] = refl
atom_cell s i body h m (a ∷ w) =
    let x : Assignment = joint s.props a (cell s (record { ends = false; body = body } ∷ []) w) in
    ap (λ v. v == 1) (m.value x)
    ∙ literal_one i x
    ∙ joint-letter s.props a (cell s (record { ends = false; body = body } ∷ []) w) i h
    ∙ rw (lt-ltb i s.props h) refl

-- whose obligation, alone in its table, holds where the first letter has the proposition
pub atom_holds : (s0 s : Diagrams) → Keeps s0 s → (c : List Obligation) (i : ℕ) (body : Id) → c ≡ [] → i < s0.props → Means s body (literal_value i) → (w : Word)
    → cell s (c ++ record { ends = false; body = body } ∷ []) w (length c) ≡ atom s0.props i w
atom_holds s0 s k c i body e h m w =
    ap (λ v. cell s (v ++ record { ends = false; body = body } ∷ []) w (length v)) e
    ∙ atom_cell s i body (rw k.extends.props h) m w
    ∙ ap (λ p. atom p i w) k.extends.props

-- and a letter is left
pub nonempty_and : (x y : Bool) (f : Claim) (w : Word) → x ≡ f w → y ≡ ended false w → (x && y) ≡ (not (is_empty w) && f w)
nonempty_and x y f w d e = rw (d, e) (and_comm (f w) (not (is_empty w)))

-- the first implies the second
pub chosen_means : (q n : Diagrams) → Keeps q n → (f g one i : Id) → IsTruth q f → IsTruth q g → Means q one (λ _. 1) → Means n i (chosen_value q f g one) → (a : Assignment)
    → is_one n i a ≡ (not (is_one n f a) || is_one n g a)
chosen_means q n k f g one i x y z m a =
    rw (eval-lasts q n k.was k.now k.extends f x.live a, eval-lasts q n k.was k.now k.extends g y.live a, m.value a, z.value a)
    (choice (eval q f a == 1) (eval q g a))
  where
    choice : (b : Bool) (v : ℕ) → ((if b then v else 1) == 1) ≡ (not b || v == 1)
    choice true v = refl
    choice false v = refl

-- literals chosen by are a claim
pub chosen_claim : (s m q n : Diagrams) → Keeps s m → Keeps m q → Keeps q n → (count j k : ℕ) → j < count → k < count → (f g one i : Id)
    → Means m f (literal_value (s.props + j)) → Means m g (literal_value (s.props + k)) → Means q one (λ _. 1) → Means n i (chosen_value q f g one) → IsClaim n count i
chosen_claim s m q n a b d count j k h l f g one i x y z e =
    let p : n.props ≡ s.props = d.extends.props ∙ b.extends.props ∙ a.extends.props in
    let t = Keeps_trans m q n b d in
    let x2 = literal_claim n s.props j count f p h (means_lasts m n t f (literal_value (s.props + j)) x) in
    let y2 = literal_claim n s.props k count g p l (means_lasts m n t g (literal_value (s.props + k)) y) in
    let x1 = means_lasts m q b f (literal_value (s.props + j)) x in
    let y1 = means_lasts m q b g (literal_value (s.props + k)) y in
    let f_same = (λ (v : Assignment). eval-lasts q n d.was d.now d.extends f x1.live v) in
    let g_same = (λ (v : Assignment). eval-lasts q n d.was d.now d.extends g y1.live v) in
    record {
      live = e.live;
      over = λ v u same.
          let f_over : eval q f v ≡ eval q f u = sym (f_same v) ∙ x2.over v u same ∙ f_same u in
          let g_over : eval q g v ≡ eval q g u = sym (g_same v) ∙ y2.over v u same ∙ g_same u in
          e.value v ∙ rw (f_over, g_over, z.value v, z.value u) refl ∙ sym (e.value u);
      truth = λ v. rw (e.value v, z.value v) (if_below (eval q f v == 1) (eval q g v) 1 2 (rw (y1.value v) (literal_small (s.props + k) v)) (omega arith));
    }

-- and hold where the first obligation does not or the second does
pub chosen_holds : (s m q n : Diagrams) → Keeps s m → Keeps m q → Keeps q n → (c : List Obligation) → FitsCells s c → (j k : ℕ) → j < length c → k < length c → (f g one i : Id)
    → Means m f (literal_value (s.props + j)) → Means m g (literal_value (s.props + k)) → Means q one (λ _. 1) → Means n i (chosen_value q f g one) → (w : Word)
    → holds n c i w ≡ (not (cell s c w j) || cell s c w k)
chosen_holds s m q n a b d c fits j k h l f g one i x y z e w =
    let t = Keeps_trans m q n b d in
    let u = Keeps_trans s m n a t in
    let x1 = means_lasts m q b f (literal_value (s.props + j)) x in
    let y1 = means_lasts m q b g (literal_value (s.props + k)) y in
    chosen_means q n d f g one i (record { live = x1.live; truth = means_literal_small q (s.props + j) f x1 }) (record { live = y1.live; truth = means_literal_small q (s.props + k) g y1 }) z e (by_values n.props (cell n c w))
    ∙ rw (
      literal_holds s n u c fits j h f (means_lasts m n t f (literal_value (s.props + j)) x) w,
      literal_holds s n u c fits k l g (means_lasts m n t g (literal_value (s.props + k)) y) w,
    ) refl
