-- A block takes what is kept of a formula before a word to what is kept before the block and the word,
-- and finds the formula's values at its letters.
use Rattle.std.proofs.Common.{◌≡◌, ℕ, ◌+◌, ◌-◌, get_or, take, drop, ◌≤◌, ◌<◌, ◌%◌, [], ◌∷◌, ◌++◌, length, append_assoc, append-nil, refl, sym, ◌∙◌, ap, arith, Bool, true, false}
use Rattle.std.specs.Prelude.{◌&&◌, ◌||◌, not}
use Rattle.std.proofs.lemmas.List.{drop-drop, take-append-drop, length-take, length-drop}
use Rattle.std.proofs.Math.Seq.{drop-length}
use Rattle.std.proofs.Math.Nat.{mod-eq_of_lt}
use Rattle.std.proofs.Math.Bool.{and_comm, or_comm}
use Rattle.forms.specs.Word.{Word, Claim, is_empty}
use Rattle.forms.specs.Operators.{atom}
use Rattle.forms.specs.Paths.{WordRelation, reaches, reaches_further, one_step, star}
use Rattle.forms.specs.Satisfaction.{sat, goes}
use Rattle.forms.specs.Tree.{Formula, Program, True, False, Atom, Not, And, Or, Implies, Iff, Next, WeakNext, Until, Release, Eventually, Always, Diamond, BoxAll, Step, Test, Choice, Seq, Star}
use Rattle.forms.proofs.Leads.{IsInward, IsInward-goes}
use Rattle.forms.proofs.Further.{reaches-split, reaches_further-step, reaches_further-test, reaches_further-choice, reaches_further-seq, reaches_further-star, stays-step, stays-test, stays-seq, stays-star, reaches-star_split, not-reaches}
use Rattle.trace_meaning.specs.declared.operator.Unary.TheVariants as unary
use Rattle.trace_meaning.specs.declared.operator.Binary.TheVariants as binary
use Rattle.trace_meaning.specs.declared.node.Lead.{Lead}
use Rattle.trace_meaning.specs.State as state
use Rattle.trace_meaning.specs.State.{State, PathState}
use Rattle.trace_meaning.specs.Column.{bits_of}
use Rattle.trace_meaning.specs.Star.{lead, followed, first_or, turns_further, turns_followed, in_turn}
use Rattle.trace_meaning.specs.Leads.{both, one_of, through, rest_of, first_lead}
use Rattle.trace_meaning.specs.Block.{values, moved, further_column, stays, path_moved, marked}
use Rattle.trace_meaning.specs.Kept.{column_of, next_column_of, kept, path_kept}
use Rattle.trace_meaning.proofs.ColumnsOf.{column_of-agree, next_column_of-agree, column_of-constant, both-column_of, one_of-column_of, both-next_column_of, one_of-next_column_of, first_or-column_of, handed-column_of, changed-column_of, first-column_of, column-column_of, handed-next, changed-next, last-column_of, without_last-column_of}

-- where the path leads from the word
abbrev leading : WordRelation → Claim → Word → Lead
leading q k u = record { further = reaches_further q k u; stays = q u u }

-- where a star leads, from where its path does
abbrev first_turn : Lead → Lead
first_turn l = record { further = l.further; stays = true }

abbrev lead_of : Bool → Bool → Lead
lead_of a b = record { further = a; stays = b }

leads-alike : (a b c d : Bool) → a ≡ c → b ≡ d → lead_of a b ≡ lead_of c d
leads-alike a b c d e f = cc

module _ (p : ℕ) where
  mutual
    lead-kept : (q : Program) (k : Claim) (b : Word) (a : ℕ) (u : Word) → lead (k u) (path_kept p q k (b ++ a ∷ []) u) ≡ leading (goes p q) k (a ∷ u)
    lead-kept (Step f) k b a u =
        leads-alike _ _ _ _ (ap (λ x. x && k u) (last-column_of (sat p f) b a u) ∙ sym (reaches_further-step (sat p f) k a u)) (sym (stays-step (sat p f) (a ∷ u)))
    lead-kept (Test f) k b a u =
        leads-alike _ _ _ _ (sym (reaches_further-test (sat p f) k (a ∷ u))) (last-column_of (sat p f) b a u ∙ sym (stays-test (sat p f) (a ∷ u)))
    lead-kept (Choice q r) k b a u =
        rw (lead-kept q k b a u, lead-kept r k b a u) (leads-alike _ _ _ _ (sym (reaches_further-choice (goes p q) (goes p r) k (a ∷ u))) refl)
    lead-kept (Seq q r) k b a u =
        ap (λ x. in_turn (lead x (path_kept p q (reaches (goes p r) k) (b ++ a ∷ []) u)) (lead (k u) (path_kept p r k (b ++ a ∷ []) u))) (sym (reaches-split (goes p r) k u))
        ∙ rw (lead-kept q (reaches (goes p r) k) b a u, lead-kept r k b a u)
        (leads-alike _ _ _ _ (sym (reaches_further-seq (goes p q) (goes p r) k (IsInward-goes p r) (a ∷ u))) (sym (stays-seq (goes p q) (goes p r) (IsInward-goes p r) (a ∷ u))))
    lead-kept (Star q) k b a u =
        ap (λ x. first_turn (lead x (path_kept p q (reaches (star (goes p q)) k) (b ++ a ∷ []) u))) (sym (reaches-star_split (goes p q) k u))
        ∙ rw (lead-kept q (reaches (star (goes p q)) k) b a u)
        (leads-alike _ _ _ _ (sym (reaches_further-star (goes p q) k (a ∷ u))) (sym (stays-star (goes p q) (a ∷ u))))

  followed-kept : (q : Program) (k : Claim) (b : Word) (a : ℕ) (u : Word) → followed (k u) (path_kept p q k (b ++ a ∷ []) u) ≡ path_kept p q k b (a ∷ u)
  followed-kept (Step f) k b a u = rw (append_assoc b (a ∷ []) u, without_last-column_of (sat p f) b a u) refl
  followed-kept (Test f) k b a u = rw (append_assoc b (a ∷ []) u, without_last-column_of (sat p f) b a u) refl
  followed-kept (Choice q r) k b a u = rw (followed-kept q k b a u, followed-kept r k b a u) refl
  followed-kept (Seq q r) k b a u =
      ap (λ x. state.Seq (followed x (path_kept p q (reaches (goes p r) k) (b ++ a ∷ []) u)) (followed (k u) (path_kept p r k (b ++ a ∷ []) u)) (lead (k u) (path_kept p r k (b ++ a ∷ []) u)))
      (sym (reaches-split (goes p r) k u))
      ∙ rw (followed-kept q (reaches (goes p r) k) b a u, followed-kept r k b a u, lead-kept r k b a u) refl
  followed-kept (Star q) k b a u =
      ap (λ x. state.Star (followed x (path_kept p q (reaches (star (goes p q)) k) (b ++ a ∷ []) u)) ((lead x (path_kept p q (reaches (star (goes p q)) k) (b ++ a ∷ []) u)).further))
      (sym (reaches-star_split (goes p q) k u))
      ∙ rw (followed-kept q (reaches (star (goes p q)) k) b a u, lead-kept q (reaches (star (goes p q)) k) b a u)
      (ap (λ x. state.Star (path_kept p q (reaches (star (goes p q)) k) b (a ∷ u)) x) (sym (reaches_further-star (goes p q) k (a ∷ u))))

  -- what turns of a star's path find and leave over the block w, b standing before it
  turns-kept : (q : Program) (k : Claim) (w b u : Word) (s : PathState) → s ≡ path_kept p q (reaches (star (goes p q)) k) (b ++ w) u
      → (turns_further (reaches_further (star (goes p q)) k u) (next_column_of k w u) s ≡ column_of (reaches_further (star (goes p q)) k) w u)
      × (turns_followed (reaches_further (star (goes p q)) k u) (next_column_of k w u) s ≡ path_kept p q (reaches (star (goes p q)) k) b (w ++ u))
  turns-kept q k [] b u s e = (refl, e ∙ ap (λ t. path_kept p q (reaches (star (goes p q)) k) t u) (append-nil b))
  turns-kept q k (a ∷ w) b u s e =
      let t = turns-kept q k w (b ++ a ∷ []) u s (e ∙ ap (λ t. path_kept p q (reaches (star (goes p q)) k) t u) (sym (append_assoc b (a ∷ []) w))) in
      let good : (first_or (reaches_further (star (goes p q)) k u) (turns_further (reaches_further (star (goes p q)) k u) (next_column_of k w u) s) || k (w ++ u)) ≡ reaches (star (goes p q)) k (w ++ u) =
      ap (λ x. first_or (reaches_further (star (goes p q)) k u) x || k (w ++ u)) t.0
      ∙ ap (λ x. x || k (w ++ u)) (first_or-column_of (reaches_further (star (goes p q)) k) w u)
      ∙ sym (reaches-star_split (goes p q) k (w ++ u)) in
      let leads : (lead (first_or (reaches_further (star (goes p q)) k u) (turns_further (reaches_further (star (goes p q)) k u) (next_column_of k w u) s) || k (w ++ u)) (turns_followed (reaches_further (star (goes p q)) k u) (next_column_of k w u) s)).further
      ≡ reaches_further (star (goes p q)) k (a ∷ (w ++ u)) =
      rw (good, t.1) (ap (λ l. l.further) (lead-kept q (reaches (star (goes p q)) k) b a (w ++ u)) ∙ sym (reaches_further-star (goes p q) k (a ∷ (w ++ u)))) in (
        rw (leads, t.0) refl,
        rw (good, t.1) (followed-kept q (reaches (star (goes p q)) k) b a (w ++ u)),
      )

-- a step leads further from a letter where its formula holds and the next position is good
both-step : (f k : Claim) (w u : Word) → both (column_of f w u) (next_column_of k w u) ≡ column_of (reaches_further (one_step f) k) w u
both-step f k [] u = refl
both-step f k (a ∷ w) u = rw (both-step f k w u, reaches_further-step f k a (w ++ u)) refl

-- where two paths lead further from a block, the one after the other
seq-column_of : (q r : WordRelation) (k : Claim) → IsInward r → (w u : Word)
    → one_of (column_of (reaches_further q (reaches r k)) w u) (both (column_of (reaches_further r k) w u) (column_of (λ v. q v v) w u))
    ≡ column_of (reaches_further (λ m v. reaches q (λ n. r n v) m) k) w u
seq-column_of q r k inward w u =
    ap (one_of (column_of (reaches_further q (reaches r k)) w u)) (both-column_of (reaches_further r k) (λ v. q v v) w u)
    ∙ one_of-column_of (reaches_further q (reaches r k)) (λ v. reaches_further r k v && q v v) w u
    ∙ column_of-agree _ _ (λ v. ap (λ x. reaches_further q (reaches r k) v || x) (and_comm (reaches_further r k v) (q v v)) ∙ sym (reaches_further-seq q r k inward v)) w u

-- whether the second path leads on well from the next position
rest-column_of : (r : WordRelation) (k : Claim) (w u : Word)
    → rest_of (record { further = reaches_further r k u; stays = r u u }) (column_of (reaches_further r k) w u) (column_of (λ v. r v v) w u) (next_column_of k w u)
    ≡ next_column_of (reaches r k) w u
rest-column_of r k w u =
    rw (changed-next (reaches_further r k) w u, changed-next (λ v. r v v) w u, both-next_column_of (λ v. r v v) k w u, one_of-next_column_of (λ v. r v v && k v) (reaches_further r k) w u)
    (next_column_of-agree _ _ (λ v. or_comm (r v v && k v) (reaches_further r k v) ∙ sym (reaches-split r k v)) w u)

first_lead-column_of : (r : WordRelation) (k : Claim) (w u : Word)
    → first_lead (record { further = reaches_further r k u; stays = r u u }) (column_of (reaches_further r k) w u) (column_of (λ v. r v v) w u) ≡ leading r k (w ++ u)
first_lead-column_of r k w u = leads-alike _ _ _ _ (handed-next (reaches_further r k) w u) (handed-next (λ v. r v v) w u)

-- whether the path leads to a word with k
through-column_of : (q : WordRelation) (k : Claim) (w u : Word)
    → through (column_of (reaches_further q k) w u) (column_of (λ v. q v v) w u) (column_of k w u) ≡ column_of (reaches q k) w u
through-column_of q k w u =
    ap (λ x. one_of x (column_of (reaches_further q k) w u)) (both-column_of k (λ v. q v v) w u)
    ∙ one_of-column_of (λ v. k v && q v v) (reaches_further q k) w u
    ∙ column_of-agree _ _ (λ v. ap (λ x. x || reaches_further q k v) (and_comm (k v) (q v v)) ∙ or_comm (q v v && k v) (reaches_further q k v) ∙ sym (reaches-split q k v)) w u

module _ (p : ℕ) (h : p ≤ 32) where
  -- every end of the path has f where none lacks it
  box-not : (r : Program) (f : Formula) (v : Word) → sat p (BoxAll r f) v ≡ not (reaches (goes p r) (sat p (Not f)) v)
  box-not r f v = sym (not-reaches (goes p r) (sat p f) v)

  bits-column_of : (i : ℕ) (w u : Word) → bits_of (p - 1 - i) w ≡ column_of (atom p i) w u
  unfolding bits_of
  bits-column_of i [] u = refl
  bits-column_of i (a ∷ w) u =
      let l : p - 1 - i < 64 = omega arith in
      let e : (p - 1 - i) % 64 ≡ p - 1 - i = mod-eq_of_lt l in
      rw (e, bits-column_of i w u) refl

  mutual
    -- the values found from what is kept after a block are the formula's at its letters
    pub values-kept : (f : Formula) (w u : Word) → values w (kept p f u) ≡ column_of (sat p f) w u
    values-kept True w u = column_of-constant true w u
    values-kept False w u = column_of-constant false w u
    values-kept (Atom i) w u = bits-column_of i w u
    values-kept (Not f) w u = rw (values-kept f w u) (changed-column_of unary.Not (sat p (Not f)) (sat p (Not f)) (sat p f) (λ a v. refl) (λ a v. refl) w u)
    values-kept (And f g) w u = rw (values-kept f w u, values-kept g w u) (column-column_of binary.And (sat p (And f g)) (sat p f) (sat p g) (λ a v. refl) w u)
    values-kept (Or f g) w u = rw (values-kept f w u, values-kept g w u) (column-column_of binary.Or (sat p (Or f g)) (sat p f) (sat p g) (λ a v. refl) w u)
    values-kept (Implies f g) w u = rw (values-kept f w u, values-kept g w u) (column-column_of binary.Implies (sat p (Implies f g)) (sat p f) (sat p g) (λ a v. refl) w u)
    values-kept (Iff f g) w u = rw (values-kept f w u, values-kept g w u) (column-column_of binary.Iff (sat p (Iff f g)) (sat p f) (sat p g) (λ a v. refl) w u)
    values-kept (Next f) w u = rw (values-kept f w u) (changed-column_of unary.Next (sat p (Next f)) (λ v. not (is_empty v) && sat p f v) (sat p f) (λ a v. refl) (λ a v. refl) w u)
    values-kept (WeakNext f) w u = rw (values-kept f w u) (changed-column_of unary.WeakNext (sat p (WeakNext f)) (λ v. is_empty v || sat p f v) (sat p f) (λ a v. refl) (λ a v. refl) w u)
    values-kept (Until f g) w u = rw (values-kept f w u, values-kept g w u) (column-column_of binary.Until (sat p (Until f g)) (sat p f) (sat p g) (λ a v. refl) w u)
    values-kept (Release f g) w u = rw (values-kept f w u, values-kept g w u) (column-column_of binary.Release (sat p (Release f g)) (sat p f) (sat p g) (λ a v. refl) w u)
    values-kept (Eventually f) w u = rw (values-kept f w u) (changed-column_of unary.Eventually (sat p (Eventually f)) (sat p (Eventually f)) (sat p f) (λ a v. refl) (λ a v. refl) w u)
    values-kept (Always f) w u = rw (values-kept f w u) (changed-column_of unary.Always (sat p (Always f)) (sat p (Always f)) (sat p f) (λ a v. refl) (λ a v. refl) w u)
    values-kept (Diamond r f) w u =
        rw (values-kept f w u, changed-next (sat p f) w u, further_column-kept r (sat p f) w u, stays-kept r (sat p f) w u)
        (through-column_of (goes p r) (sat p f) w u)
    values-kept (BoxAll r f) w u =
        rw (
          values-kept f w u,
          changed-column_of unary.Not (sat p (Not f)) (sat p (Not f)) (sat p f) (λ a v. refl) (λ a v. refl) w u,
          changed-next (sat p (Not f)) w u,
          further_column-kept r (sat p (Not f)) w u,
          stays-kept r (sat p (Not f)) w u,
          through-column_of (goes p r) (sat p (Not f)) w u,
        ) (changed-column_of unary.Not (sat p (BoxAll r f)) (sat p (BoxAll r f)) (reaches (goes p r) (sat p (Not f))) (λ a v. box-not r f (a ∷ v)) (λ a v. box-not r f (a ∷ v)) w u)

    -- whether the path leads further to a good position is found rightly at each letter
    pub further_column-kept : (q : Program) (k : Claim) (w u : Word) → further_column w (next_column_of k w u) (path_kept p q k [] u) ≡ column_of (reaches_further (goes p q) k) w u
    further_column-kept (Step f) k w u = rw (values-kept f w u) (both-step (sat p f) k w u)
    further_column-kept (Test f) k w u = column_of-constant false w u ∙ column_of-agree _ _ (λ v. sym (reaches_further-test (sat p f) k v)) w u
    further_column-kept (Choice q r) k w u =
        rw (further_column-kept q k w u, further_column-kept r k w u)
        (one_of-column_of (reaches_further (goes p q) k) (reaches_further (goes p r) k) w u ∙ column_of-agree _ _ (λ v. sym (reaches_further-choice (goes p q) (goes p r) k v)) w u)
    further_column-kept (Seq q r) k w u =
        rw (further_column-kept r k w u, stays-kept r k w u, rest-column_of (goes p r) k w u, further_column-kept q (reaches (goes p r) k) w u, stays-kept q (reaches (goes p r) k) w u)
        (seq-column_of (goes p q) (goes p r) k (IsInward-goes p r) w u)
    further_column-kept (Star q) k w u =
        rw (marked-kept q (reaches (star (goes p q)) k) w u) ((turns-kept p q k w [] u (path_kept p q (reaches (star (goes p q)) k) w u) refl).0)

    -- whether the path leads to the position itself is found rightly at each letter
    pub stays-kept : (q : Program) (k : Claim) (w u : Word) → stays w (path_kept p q k [] u) ≡ column_of (λ v. goes p q v v) w u
    stays-kept (Step f) k w u = column_of-constant false w u ∙ column_of-agree _ _ (λ v. sym (stays-step (sat p f) v)) w u
    stays-kept (Test f) k w u = values-kept f w u ∙ column_of-agree _ _ (λ v. sym (stays-test (sat p f) v)) w u
    stays-kept (Choice q r) k w u = rw (stays-kept q k w u, stays-kept r k w u) (one_of-column_of (λ v. goes p q v v) (λ v. goes p r v v) w u)
    stays-kept (Seq q r) k w u =
        rw (stays-kept q (reaches (goes p r) k) w u, stays-kept r k w u)
        (both-column_of (λ v. goes p q v v) (λ v. goes p r v v) w u ∙ column_of-agree _ _ (λ v. sym (stays-seq (goes p q) (goes p r) (IsInward-goes p r) v)) w u)
    stays-kept (Star q) k w u = column_of-constant true w u ∙ column_of-agree _ _ (λ v. sym (stays-star (goes p q) v)) w u

    -- a path that is marked with a block is what is kept of it once its formulas have read the block
    pub marked-kept : (q : Program) (k : Claim) (w u : Word) → marked w (path_kept p q k [] u) ≡ path_kept p q k w u
    marked-kept (Step f) k w u = rw (moved-kept f w u, values-kept f w u) refl
    marked-kept (Test f) k w u = rw (moved-kept f w u, values-kept f w u) refl
    marked-kept (Choice q r) k w u = rw (marked-kept q k w u, marked-kept r k w u) refl
    marked-kept (Seq q r) k w u = rw (marked-kept q (reaches (goes p r) k) w u, marked-kept r k w u) refl
    marked-kept (Star q) k w u = rw (marked-kept q (reaches (star (goes p q)) k) w u) refl

    -- what is kept of a formula after a block becomes what is kept before the block
    pub moved-kept : (f : Formula) (w u : Word) → moved w (kept p f u) ≡ kept p f (w ++ u)
    moved-kept True w u = refl
    moved-kept False w u = refl
    moved-kept (Atom i) w u = refl
    moved-kept (Not f) w u = rw (moved-kept f w u, values-kept f w u, handed-column_of unary.Not (sat p (Not f)) (sat p (Not f)) (sat p f) (λ a v. refl) (λ a v. refl) w u) refl
    moved-kept (And f g) w u = rw (moved-kept f w u, moved-kept g w u, values-kept f w u, values-kept g w u, first-column_of binary.And (sat p (And f g)) (sat p f) (sat p g) (λ a v. refl) w u) refl
    moved-kept (Or f g) w u = rw (moved-kept f w u, moved-kept g w u, values-kept f w u, values-kept g w u, first-column_of binary.Or (sat p (Or f g)) (sat p f) (sat p g) (λ a v. refl) w u) refl
    moved-kept (Implies f g) w u = rw (moved-kept f w u, moved-kept g w u, values-kept f w u, values-kept g w u, first-column_of binary.Implies (sat p (Implies f g)) (sat p f) (sat p g) (λ a v. refl) w u) refl
    moved-kept (Iff f g) w u = rw (moved-kept f w u, moved-kept g w u, values-kept f w u, values-kept g w u, first-column_of binary.Iff (sat p (Iff f g)) (sat p f) (sat p g) (λ a v. refl) w u) refl
    moved-kept (Next f) w u = rw (moved-kept f w u, values-kept f w u, handed-column_of unary.Next (sat p (Next f)) (λ v. not (is_empty v) && sat p f v) (sat p f) (λ a v. refl) (λ a v. refl) w u) refl
    moved-kept (WeakNext f) w u = rw (moved-kept f w u, values-kept f w u, handed-column_of unary.WeakNext (sat p (WeakNext f)) (λ v. is_empty v || sat p f v) (sat p f) (λ a v. refl) (λ a v. refl) w u) refl
    moved-kept (Until f g) w u = rw (moved-kept f w u, moved-kept g w u, values-kept f w u, values-kept g w u, first-column_of binary.Until (sat p (Until f g)) (sat p f) (sat p g) (λ a v. refl) w u) refl
    moved-kept (Release f g) w u = rw (moved-kept f w u, moved-kept g w u, values-kept f w u, values-kept g w u, first-column_of binary.Release (sat p (Release f g)) (sat p f) (sat p g) (λ a v. refl) w u) refl
    moved-kept (Eventually f) w u = rw (moved-kept f w u, values-kept f w u, handed-column_of unary.Eventually (sat p (Eventually f)) (sat p (Eventually f)) (sat p f) (λ a v. refl) (λ a v. refl) w u) refl
    moved-kept (Always f) w u = rw (moved-kept f w u, values-kept f w u, handed-column_of unary.Always (sat p (Always f)) (sat p (Always f)) (sat p f) (λ a v. refl) (λ a v. refl) w u) refl
    moved-kept (Diamond r f) w u =
        rw (values-kept f w u, changed-next (sat p f) w u, path_moved-kept r (sat p f) w u, moved-kept f w u, handed-next (sat p f) w u) refl
    moved-kept (BoxAll r f) w u =
        rw (
          values-kept f w u,
          changed-column_of unary.Not (sat p (Not f)) (sat p (Not f)) (sat p f) (λ a v. refl) (λ a v. refl) w u,
          changed-next (sat p (Not f)) w u,
          path_moved-kept r (sat p (Not f)) w u,
          moved-kept f w u,
          handed-column_of unary.Not (sat p (Not f)) (sat p (Not f)) (sat p f) (λ a v. refl) (λ a v. refl) w u,
          handed-next (sat p (Not f)) w u,
          further_column-kept r (sat p (Not f)) w u,
          stays-kept r (sat p (Not f)) w u,
          through-column_of (goes p r) (sat p (Not f)) w u,
          handed-column_of unary.Not (sat p (BoxAll r f)) (sat p (BoxAll r f)) (reaches (goes p r) (sat p (Not f))) (λ a v. box-not r f (a ∷ v)) (λ a v. box-not r f (a ∷ v)) w u,
        ) refl

    -- what is kept of a path after a block becomes what is kept before the block
    pub path_moved-kept : (q : Program) (k : Claim) (w u : Word) → path_moved w (next_column_of k w u) (path_kept p q k [] u) ≡ path_kept p q k [] (w ++ u)
    path_moved-kept (Step f) k w u = rw (moved-kept f w u) refl
    path_moved-kept (Test f) k w u = rw (moved-kept f w u) refl
    path_moved-kept (Choice q r) k w u = rw (path_moved-kept q k w u, path_moved-kept r k w u) refl
    path_moved-kept (Seq q r) k w u =
        rw (further_column-kept r k w u, stays-kept r k w u, rest-column_of (goes p r) k w u, path_moved-kept q (reaches (goes p r) k) w u, path_moved-kept r k w u, first_lead-column_of (goes p r) k w u) refl
    path_moved-kept (Star q) k w u =
        let t = turns-kept p q k w [] u (path_kept p q (reaches (star (goes p q)) k) w u) refl in
        rw (marked-kept q (reaches (star (goes p q)) k) w u, t.0, t.1)
        (ap (λ x. state.Star (path_kept p q (reaches (star (goes p q)) k) [] (w ++ u)) x) (first_or-column_of (reaches_further (star (goes p q)) k) w u))

-- a block that ends where j letters of the word come after its first
part-append : (w : Word) (i j : ℕ) → i ≤ j → take (j - i) (drop i w) ++ drop j w ≡ drop i w
part-append w i j l =
    let e : i + (j - i) ≡ j = omega arith in
    let s : drop (j - i) (drop i w) ≡ drop j w = drop-drop (j - i) i w ∙ ap (λ n. drop n w) e in
    ap (λ t. take (j - i) (drop i w) ++ t) (sym s) ∙ take-append-drop (j - i) (drop i w)

-- the letters from i to before j
pub moved-block : (p : ℕ) → p ≤ 32 → (f : Formula) (w : Word) (i j : ℕ) → i ≤ j
    → moved (take (j - i) (drop i w)) (kept p f (drop j w)) ≡ kept p f (drop i w)
moved-block p h f w i j l = moved-kept p h f (take (j - i) (drop i w)) (drop j w) ∙ ap (λ t. kept p f t) (part-append w i j l)

first-value : (f : Claim) (w u : Word) (d : Bool) → 0 < length w → get_or (column_of f w u) 0 d ≡ f (w ++ u)
first-value f [] u d l = absurd (omega arith)
first-value f (a ∷ w) u d l = refl

-- the first value over the letters from i to before j is the formula's at letter i
pub value-block : (p : ℕ) → p ≤ 32 → (f : Formula) (w : Word) (i j : ℕ) (d : Bool) → i < j → j ≤ length w
    → get_or (values (take (j - i) (drop i w)) (kept p f (drop j w))) 0 d ≡ sat p f (drop i w)
value-block p h f w i j d l m =
    let k : i ≤ j = omega arith in
    let some : 0 < length (take (j - i) (drop i w)) = omega (arith, length-take (j - i) (drop i w), length-drop i w) in
    ap (λ t. get_or t 0 d) (values-kept p h f (take (j - i) (drop i w)) (drop j w))
    ∙ first-value (sat p f) (take (j - i) (drop i w)) (drop j w) d some
    ∙ ap (λ t. sat p f t) (part-append w i j k)

-- blocks of a word, as the loop of `judge` takes them
pub ruleset judging = (moved-block, value-block, drop-length)
