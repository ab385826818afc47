-- What the tables of answers depend on, and that their terminals are inputs.
use Rattle.std.proofs.Common.{◌≡◌, ◌<◌, ◌≤◌, ◌^◌, ◌+◌, ◌-◌, ◌*◌, ℕ, zero, suc, inl, inr, refl, sym, ◌∙◌, ap, subst, arith, Bool, true, false, if◌then◌else◌, List, length, Option, Some, None}
use Rattle.std.specs.Prelude.{slice_index}
use Rattle.std.proofs.lemmas.Nat.{pow_pos}
use Rattle.diagrams.specs.declared.top.Id.{Id}
use Rattle.diagrams.specs.declared.work.Op.TheVariants.{Least}
use Rattle.diagrams.specs.Tree.{Assignment}
use Rattle.diagrams.specs.Eval.{Diagrams, eval, id_at, DependsOn}
use Rattle.diagrams.specs.Folded.{IsExtreme, AgreeOutside}
use Rattle.diagrams.specs.Picked.{number_of, IsLeastNumber}
use Rattle.diagrams.specs.Transformed.{item_value}
use Rattle.attractor.specs.Graph.{number_at}
use Rattle.forms.specs.declared.partition.Partition.{Partition}
use Rattle.forms.specs.declared.partition.Mover.{Mover}
use Rattle.forms.specs.declared.partition.Mover.TheVariants.{Agent, Environment}
use Rattle.layers.specs.ArenaRows.{AreArenaRows, agent_sides}
use Rattle.layers.proofs.FoldedRows.{mixed, mixed_below, mixed_beyond}
use Rattle.adversarial.specs.Answered.{IsAnswerValue, HasValues, IsChosen, AreChosen, table_at, shown_count, IsAnswerDiagram, AreAnswerDiagrams}

-- the values are the same where these variables are
abbrev GoesBy : ℕ → (Assignment → ℕ) → Type 0
GoesBy to g = (a b : Assignment) → ((v : ℕ) → v < to → a v ≡ b v) → g a ≡ g b

number_half : (b : Bool) (k m : ℕ) → m < k → (if b then k else 0) + m < 2 * k
number_half true k m h = omega arith
number_half false k m h = omega arith

-- n variables have a number below 2 ^ n
number_less : (a : Assignment) (n v : ℕ) → number_of a n v < 2 ^ n
number_less a zero v = omega arith
number_less a (suc n) v =
    let h = number_half (a v) (2 ^ n) (number_of a n (suc v)) (number_less a n (suc v)) in
    let e : 2 ^ suc n ≡ 2 * 2 ^ n = omega arith in
    subst (λ z. number_of a (suc n) v < z) (sym e) h

number_same : (a b : Assignment) (n v : ℕ) → ((u : ℕ) → v ≤ u → u < v + n → a u ≡ b u) → number_of a n v ≡ number_of b n v
number_same a b zero v f = refl
number_same a b (suc n) v f = rw (f v (omega arith) (omega arith), number_same a b n (suc v) (λ u l h. f u (omega arith) (omega arith))) refl

-- the first so many variables of one assignment, the rest of another that it agrees with outside of some
mixed_agrees : (from to : ℕ) → from ≤ to → (a b c : Assignment) → ((v : ℕ) → v < from → a v ≡ b v) → AgreeOutside from to b c → AgreeOutside from to a (mixed to c a)
mixed_agrees from to l a b c same agree v (inl k) = mixed_below to c a v (omega arith) ∙ agree v (inl k) ∙ sym (same v k)
mixed_agrees from to l a b c same agree v (inr k) = mixed_beyond to c a v k

extreme_less : (from to : ℕ) → from ≤ to → (g : Assignment → ℕ) → GoesBy to g → (a b : Assignment) → ((v : ℕ) → v < from → a v ≡ b v) → (x y : ℕ)
    → IsExtreme Least from to g a x → IsExtreme Least from to g b y → x ≤ y
extreme_less from to l g d a b same x y p q =
    let t = q.taken in
    let e : g (mixed to t.0 a) ≡ y = d (mixed to t.0 a) t.0 (λ v h. mixed_below to t.0 a v h) ∙ t.2 in
    subst (λ z. x ≤ z) e (p.bounds (mixed to t.0 a) (mixed_agrees from to l a b t.0 same t.1))

-- the least value goes by the variables before those over which it is taken
extreme_same : (from to : ℕ) → from ≤ to → (g : Assignment → ℕ) → GoesBy to g → (a b : Assignment) → ((v : ℕ) → v < from → a v ≡ b v) → (x y : ℕ)
    → IsExtreme Least from to g a x → IsExtreme Least from to g b y → x ≡ y
extreme_same from to l g d a b same x y p q =
    let u = extreme_less from to l g d a b same x y p q in
    let w = extreme_less from to l g d b a (λ v h. sym (same v h)) y x q p in
    omega arith

-- an assignment with the value 1 is carried over
carried_one : (from to : ℕ) → from ≤ to → (g : Assignment → ℕ) → GoesBy to g → (a b c : Assignment) → ((v : ℕ) → v < from → a v ≡ b v) → AgreeOutside from to b c → g c ≡ 1
    → AgreeOutside from to a (mixed to c a) × (g (mixed to c a) ≡ 1) × (number_of (mixed to c a) (to - from) from ≡ number_of c (to - from) from)
carried_one from to l g d a b c same agree one = (
  mixed_agrees from to l a b c same agree,
  d (mixed to c a) c (λ v h. mixed_below to c a v h) ∙ one,
  number_same (mixed to c a) c (to - from) from (λ u k h. mixed_below to c a u (omega arith)),
)

least_less : (from to : ℕ) → from ≤ to → (g : Assignment → ℕ) → GoesBy to g → (a b : Assignment) → ((v : ℕ) → v < from → a v ≡ b v) → (x y : ℕ)
    → IsLeastNumber from to g a x → IsLeastNumber from to g b y → x ≤ y
least_less from to l g d a b same x y p q =
    elim q.taken [
      | inl t ↦
          let k = carried_one from to l g d a b t.0 same t.1 t.2 in
          subst (λ z. x ≤ z) (k.2 ∙ t.3) (p.least (mixed to t.0 a) k.0 k.1)
      | inr t ↦ elim p.taken [
        | inl u ↦ let k = carried_one from to l g d b a u.0 (λ v h. sym (same v h)) u.1 u.2 in absurd (t.1 (mixed to u.0 b) k.0 k.1)
        | inr u ↦ let z = u.0 in omega arith
      ]
    ]

-- the least number goes by the variables before those that spell it
least_same : (from to : ℕ) → from ≤ to → (g : Assignment → ℕ) → GoesBy to g → (a b : Assignment) → ((v : ℕ) → v < from → a v ≡ b v) → (x y : ℕ)
    → IsLeastNumber from to g a x → IsLeastNumber from to g b y → x ≡ y
least_same from to l g d a b same x y p q =
    let u = least_less from to l g d a b same x y p q in
    let w = least_less from to l g d b a (λ v h. sym (same v h)) y x q p in
    omega arith

-- and is below the power of two
least_small : (from to : ℕ) (g : Assignment → ℕ) (a : Assignment) (x : ℕ) → IsLeastNumber from to g a x → x < 2 ^ (to - from)
least_small from to g a x p = elim p.taken [
  | inl t ↦ subst (λ z. z < 2 ^ (to - from)) t.3 (number_less t.0 (to - from) from)
  | inr t ↦ subst (λ z. z < 2 ^ (to - from)) (sym t.0) (pow_pos (to - from))
]

-- agent first answers go by the outputs
agent_over : (before props : ℕ) → before ≤ props → (g : Assignment → ℕ) → GoesBy props g → (a b : Assignment) → ((v : ℕ) → v < before → a v ≡ b v) → (x y : ℕ)
    → IsAnswerValue true before props g a x → IsAnswerValue true before props g b y → x ≡ y
agent_over before props l g d a b same x y p q = least_same before props l g d a b same x y p q

-- environment first they go by nothing
environment_over : (before props : ℕ) → before ≤ props → (g : Assignment → ℕ) → GoesBy props g → (a b : Assignment) → (x y : ℕ)
    → IsAnswerValue false before props g a x → IsAnswerValue false before props g b y → x ≡ y
environment_over before props l g d a b x y (f, p, u) (h, q, w) =
    let by : GoesBy before f = λ c e same. extreme_same before props l g d c e same (f c) (f e) (p c) (p e) in
    let same : h ≡ f = λ j c. extreme_same before props l g d c c (λ v k. refl) (h c) (f c) (q c) (p c) j in
    least_same 0 before (omega arith) f by a b (λ v k. absurd (omega arith)) x y u (subst (λ z. IsLeastNumber 0 before z b y) same w)

diagram_by : (f : Mover) (i o : ℕ) (n : Diagrams) (id : Id) (g : Assignment → ℕ) → GoesBy (i + o) g
    → HasValues n id (IsAnswerValue (agent_sides (record { first = f; inputs = i; outputs = o })).lesser_before (agent_sides (record { first = f; inputs = i; outputs = o })).before (i + o) g)
    → IsAnswerDiagram n (record { first = f; inputs = i; outputs = o }) id
diagram_by Agent i o n id g d w = record {
  live = w.live;
  over = λ a b same. agent_over o (i + o) (omega arith) g d a b same (eval n id a) (eval n id b) (w.value a) (w.value b);
  inputs = λ a. let e : i + o - o ≡ i = omega arith in subst (λ z. eval n id a < 2 ^ z) e (least_small o (i + o) g a (eval n id a) (w.value a));
}
diagram_by Environment i o n id g d w = record {
  live = w.live;
  over = λ a b same. environment_over i (i + o) (omega arith) g d a b (eval n id a) (eval n id b) (w.value a) (w.value b);
  inputs = λ a.
      let z = w.value a in
      let e : i - 0 ≡ i = omega arith in
      subst (λ k. eval n id a < 2 ^ k) e (least_small 0 i z.0 a (eval n id a) z.2);
}

chosen_there : (s n : Diagrams) (first : Bool) (before : ℕ) (table : List ℕ) (row : Id) (rank : Option ℕ) (o : Option Id) (id : Id) → o ≡ Some id → IsChosen s n first before table row rank o
    → HasValues n id (IsAnswerValue first before s.props (item_value s table row))
chosen_there s n first before table row (Some j) o id e h = absurd (cc)
chosen_there s n first before table row None o id e (k, f, h) =
    let same : k ≡ id = cc in
    subst (λ z. HasValues n z (IsAnswerValue first before s.props (item_value s table row))) same h

-- the tables that were made are diagrams of inputs over what the environment is shown
pub chosen_diagrams : (s n : Diagrams) (parts : Partition) (rows : List Id) (goals broken : List Bool) → AreArenaRows s parts rows goals broken → (ranks : List (Option ℕ)) (table : List ℕ)
    → (made : List (Option Id)) (first : Bool) (before : ℕ) → first ≡ (agent_sides parts).lesser_before → before ≡ (agent_sides parts).before
    → AreChosen s n first before table rows ranks made (length rows) → AreAnswerDiagrams n parts made
chosen_diagrams s n parts rows goals broken a ranks table made first before x y c at id l e =
    let h : at < length rows = subst (λ z. at < z) c.size l in
    let g = item_value s table (id_at rows at) in
    let w = chosen_there s n first before table (id_at rows at) (number_at ranks at) (table_at made at) id e (c.each at h) in
    let v = subst (λ p. HasValues n id (IsAnswerValue (agent_sides parts).lesser_before (agent_sides parts).before p (item_value s table (id_at rows at)))) a.props
    (subst (λ b. HasValues n id (IsAnswerValue b (agent_sides parts).before s.props (item_value s table (id_at rows at)))) x
    (subst (λ k. HasValues n id (IsAnswerValue first k s.props (item_value s table (id_at rows at)))) y w)) in
    let by : GoesBy s.props (item_value s table (id_at rows at)) = λ b d same. ap (slice_index table) (a.letters at h b d same) in
    diagram_by parts.first parts.inputs parts.outputs n id (item_value s table (id_at rows at)) (subst (λ p. GoesBy p (item_value s table (id_at rows at))) a.props by) v
