-- The location after a word has the mark of what its diagram over obligations says of the rest.
use Rattle.std.proofs.Common.{◌≡◌, ℕ, ◌<◌, ◌≤◌, ◌+◌, ◌-◌, Bool, false, List, [], ◌∷◌, length, refl, sym, ◌∙◌, ap, arith}
use Rattle.std.specs.Prelude.{nat_lt, ◌==◌}
use Rattle.diagrams.specs.declared.top.Id.{Id}
use Rattle.diagrams.specs.Tree.{Assignment}
use Rattle.diagrams.specs.Eval.{Diagrams, eval, letter_truth}
use Rattle.automata.specs.Moves.{mark_after}
use Rattle.automata.specs.Table.{Table, row_of, next_of, moves_of}
use Rattle.obligations.specs.declared.cells.Obligation.{Obligation}
use Rattle.obligations.specs.Table.{body_of}
use Rattle.obligations.specs.Value.{joint, by_values, cell, IsClaim, IsBody, FitsCells}
use Rattle.obligations.specs.Located.{by_bodies, LeadsToRest, AllLocated}
use Rattle.std.proofs.lemmas.Bool.Decides.{nat_tests}
use Rattle.diagrams.specs.Live.{Keeps}
use Rattle.diagrams.specs.Eval.{id_at}
use Rattle.diagrams.proofs.DependsLemmas.{DependsOn-lasts}
use Rattle.diagrams.proofs.Meaning.{eval-lasts, live_lasts}
use Rattle.diagrams.specs.Composed.{IsObligation}
use Rattle.std.proofs.lemmas.Bool.{cases_Bool, lt-ltb, le-ltb}
use Rattle.std.proofs.Common.{inl, inr}

-- obligations have one value beside a letter and alone
pub joint-obligations : (p letter : ℕ) (values : ℕ → Bool) (v : ℕ) → p ≤ v → joint p letter values v ≡ values (v - p)
joint-obligations p letter values v h = rw (le-ltb v p h) refl

-- propositions are those of the letter
pub joint-letter : (p letter : ℕ) (values : ℕ → Bool) (v : ℕ) → v < p → joint p letter values v ≡ letter_truth p letter v
joint-letter p letter values v h = rw (lt-ltb v p h) refl

-- obligations have the values given
pub by_values-obligations : (p : ℕ) (values : ℕ → Bool) (v : ℕ) → p ≤ v → by_values p values v ≡ values (v - p)
by_values-obligations p values v h = rw (le-ltb v p h) refl

-- what a claim says of a letter before a word is what is left of it says of the word
pub after_letter : (s : Diagrams) (c : List Obligation) (claims : List Id) (claim row : Id) → IsClaim s (length c) claim → LeadsToRest s c claims claim row
    → ((at : ℕ) → at < length claims → IsClaim s (length c) (id_at claims at)) → (letter : ℕ) (word : List ℕ)
    → eval s (id_at claims (eval s row (letter_truth s.props letter))) (by_values s.props (cell s c word)) ≡ eval s claim (by_values s.props (cell s c (letter ∷ word)))
after_letter s c claims claim row k l each letter word =
    let j : Assignment = joint s.props letter (cell s c word) in
    let next = eval s row (letter_truth s.props letter) in
    let row_same : eval s row j ≡ next = l.fits.letters j (letter_truth s.props letter) (λ v h. joint-letter s.props letter (cell s c word) v h) in
    let left : eval s (id_at claims next) j ≡ eval s claim (by_bodies s c j) = rw row_same at (l.left j) in
    (each next (l.fits.targets (letter_truth s.props letter))).over (by_values s.props (cell s c word)) j
    (λ v h. by_values-obligations s.props (cell s c word) v h.0 ∙ sym (joint-obligations s.props letter (cell s c word) v h.0))
    ∙ left
    ∙ k.over (by_bodies s c j) (by_values s.props (cell s c (letter ∷ word)))
    (λ v h. sym (by_values-obligations s.props (cell s c (letter ∷ word)) v h.0))

-- the mark after a word is what the claim of the location says of the word
pub mark_after-claim : (s : Diagrams) (c : List Obligation) (claims : List Id) (t : Table) → AllLocated s c claims t → (at : ℕ) → at < length claims → (word : List ℕ)
    → mark_after (moves_of s t) at word ≡ eval s (id_at claims at) (by_values s.props (cell s c word))
mark_after-claim s c claims t a at h [] = (a.each at h).end
mark_after-claim s c claims t a at h (letter ∷ word) =
    let l = a.each at h in
    mark_after-claim s c claims t a (next_of s t at letter) (l.leads.fits.targets (letter_truth s.props letter)) word
    ∙ after_letter s c claims (id_at claims at) (row_of t at) l.sound l.leads (λ i k. (a.each i k).sound) letter word

-- a body as its store grows
pub body_lasts : (s n : Diagrams) → Keeps s n → (count : ℕ) (f : Id) → IsBody s count f → IsBody n count f
body_lasts s n k count f b = record {
  live = live_lasts s n k.extends f b.live;
  over = DependsOn-lasts s n k f (λ p v. v < p + count) b.live b.over;
  truth = λ a. rw (eval-lasts s n k.was k.now k.extends f b.live a) (b.truth a);
}

-- a body may speak of more obligations
pub body_wider : (s : Diagrams) (count more : ℕ) (f : Id) → count ≤ more → IsBody s count f → IsBody s more f
body_wider s count more f h b = record { live = b.live; over = λ x y same. b.over x y (λ v l. same v (omega arith)); truth = b.truth }

-- a claim as its store grows
pub claim_lasts : (s n : Diagrams) → Keeps s n → (count : ℕ) (f : Id) → IsClaim s count f → IsClaim n count f
claim_lasts s n k count f b = record {
  live = live_lasts s n k.extends f b.live;
  over = DependsOn-lasts s n k f (λ p v. IsObligation p count v) b.live b.over;
  truth = λ a. rw (eval-lasts s n k.was k.now k.extends f b.live a) (b.truth a);
}

-- a table fits a store as it grows
pub fits_cells_lasts : (s n : Diagrams) → Keeps s n → (c : List Obligation) → FitsCells s c → FitsCells n c
fits_cells_lasts s n k c f j h = body_lasts s n k (length c) (body_of c j) (f j h)

-- one value beside a letter, where the obligations have one value
pub joint-same : (p q letter : ℕ) (x y : ℕ → Bool) (count v : ℕ) → q ≡ p → ((j : ℕ) → j < count → x j ≡ y j) → v < p + count
    → joint q letter x v ≡ joint p letter y v
joint-same p q letter x y count v e same h =
    rw e (elim (cases_Bool (nat_lt v p)) [
      | inl t ↦ rw t refl
      | inr t ↦ rw t (same (v - p) (below p count v t h))
    ])
  where
    below : (p count v : ℕ) → nat_lt v p ≡ false → v < p + count → v - p < count
    below p count v t h = grind (arith, nat_tests)

-- the values of obligations as their store grows
pub cell-lasts : (s n : Diagrams) → Keeps s n → (c : List Obligation) → FitsCells s c → (word : List ℕ) (j : ℕ) → j < length c → cell n c word j ≡ cell s c word j
cell-lasts s n k c f [] j h = refl
cell-lasts s n k c f (letter ∷ word) j h =
    let b = f j h in
    let old : Assignment = joint s.props letter (cell s c word) in
    let new : Assignment = joint n.props letter (cell n c word) in
    ap (λ x. x == 1) (
    eval-lasts s n k.was k.now k.extends (body_of c j) b.live new
    ∙ b.over new old (λ v q. joint-same s.props n.props letter (cell n c word) (cell s c word) (length c) v k.extends.props (λ i l. cell-lasts s n k c f word i l) q))
