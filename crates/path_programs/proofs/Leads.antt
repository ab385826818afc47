-- The diagrams of a path by those of its parts.
use Rattle.std.proofs.Common.{◌≡◌, ℕ, Bool, true, false, List, [], ◌∷◌, refl, sym, ◌∙◌, ap}
use Rattle.std.specs.Prelude.{◌==◌, ◌&&◌, ◌||◌}
use Rattle.forms.specs.Word.{Word, Claim, same}
use Rattle.forms.specs.Paths.{WordRelation, one_step, reaches, reaches_further, star}
use Rattle.forms.proofs.Leads.{IsInward}
use Rattle.forms.proofs.Further.{reaches-split, reaches_further-step, reaches_further-test, reaches_further-choice, reaches_further-seq, stays-step, stays-test, stays-seq, stays-star, reaches_further-empty}
use Rattle.diagrams.specs.declared.top.Id.{Id}
use Rattle.diagrams.specs.Tree.{Assignment}
use Rattle.diagrams.specs.Eval.{Diagrams, is_one}
use Rattle.obligations.specs.declared.cells.Obligation.{Obligation}
use Rattle.obligations.specs.Table.{ends_of, body_of}
use Rattle.obligations.specs.Value.{joint, by_values, cell, holds, IsClaim}
use Rattle.obligations.proofs.Holds.{joint-obligations, by_values-obligations}
use Rattle.path_programs.specs.declared.lead.Lead.{Lead}
use Rattle.path_programs.specs.Lead.{truth_at, Leads}
use Rattle.path_programs.proofs.Laws.{reaches_further-agree, star-reaches_further}

-- what a claim says beside a letter is what it says of the word after it
pub claim-beside : (s : Diagrams) (c : List Obligation) (count : ℕ) (f : Id) → IsClaim s count f → (letter : ℕ) (word : Word) → truth_at s c f letter word ≡ holds s c f word
claim-beside s c count f k letter word =
    ap (λ x. x == 1) (
    k.over (joint s.props letter (cell s c word)) (by_values s.props (cell s c word))
    (λ v h. joint-obligations s.props letter (cell s c word) v h.0 ∙ sym (by_values-obligations s.props (cell s c word) v h.0)))

-- a step: f before the letter, and the continuation after it
pub leads-step : (s : Diagrams) (c : List Obligation) (count : ℕ) (f : Claim) (later : Id) → IsClaim s count later → (now : Assignment → Bool) → ((a : ℕ) (w : Word) → now (joint s.props a (cell s c w)) ≡ f (a ∷ w))
    → (l : Lead) → ((a : Assignment) → is_one s l.further a ≡ (now a && is_one s later a)) → ((a : Assignment) → is_one s l.stays a ≡ false) → l.ends ≡ false
    → Leads s c (one_step f) (holds s c later) l
leads-step s c count f later k now means l further_says stays_says ends = record {
  further = λ a w. further_says (joint s.props a (cell s c w)) ∙ rw (means a w, claim-beside s c count later k a w) (sym (reaches_further-step f (holds s c later) a w));
  stays = λ a w. stays_says (joint s.props a (cell s c w)) ∙ sym (stays-step f (a ∷ w));
  ends = ends;
}

-- a test: the obligation j, which holds where f does
pub leads-test : (s : Diagrams) (c : List Obligation) (f k : Claim) (j : ℕ) → ((w : Word) → cell s c w j ≡ f w) → (l : Lead)
    → ((a : Assignment) → is_one s l.further a ≡ false) → l.stays ≡ body_of c j → l.ends ≡ ends_of c j → Leads s c (λ u v. same u v && f u) k l
leads-test s c f k j means l further_says stays ends = record {
  further = λ a w. further_says (joint s.props a (cell s c w)) ∙ sym (reaches_further-test f k (a ∷ w));
  stays = λ a w. ap (λ i. truth_at s c i a w) stays ∙ means (a ∷ w) ∙ sym (stays-test f (a ∷ w));
  ends = ends ∙ means [];
}

-- a choice
pub leads-choice : (s : Diagrams) (c : List Obligation) (q r : WordRelation) (k : Claim) (x y l : Lead) → Leads s c q k x → Leads s c r k y
    → ((a : Assignment) → is_one s l.further a ≡ (is_one s x.further a || is_one s y.further a)) → ((a : Assignment) → is_one s l.stays a ≡ (is_one s x.stays a || is_one s y.stays a))
    → l.ends ≡ (x.ends || y.ends) → Leads s c (λ u v. q u v || r u v) k l
leads-choice s c q r k x y l p o further_says stays_says ends = record {
  further = λ a w. further_says (joint s.props a (cell s c w)) ∙ rw (p.further a w, o.further a w) (sym (reaches_further-choice q r k (a ∷ w)));
  stays = λ a w. stays_says (joint s.props a (cell s c w)) ∙ rw (p.stays a w, o.stays a w) refl;
  ends = ends ∙ rw (p.ends, o.ends) refl;
}

-- two obligations, one for where a path leads further and one for whether it stays
pub record IsKept (c : List Obligation) (l : Lead) (further_cell stays_cell : ℕ) : Type 0 where
  pub further_ends : ends_of c further_cell ≡ false
  pub further_body : body_of c further_cell ≡ l.further
  pub stays_ends : ends_of c stays_cell ≡ l.ends
  pub stays_body : body_of c stays_cell ≡ l.stays

-- the obligation for where a path leads further
pub cell-further : (s : Diagrams) (c : List Obligation) (q : WordRelation) (k : Claim) (l : Lead) → Leads s c q k l → (i : ℕ) → ends_of c i ≡ false → body_of c i ≡ l.further → (w : Word) → cell s c w i ≡ reaches_further q k w
cell-further s c q k l p i e b [] = e ∙ sym (reaches_further-empty q k)
cell-further s c q k l p i e b (a ∷ w) = ap (λ f. truth_at s c f a w) b ∙ p.further a w

-- the obligation for whether a path stays
pub cell-stays : (s : Diagrams) (c : List Obligation) (q : WordRelation) (k : Claim) (l : Lead) → Leads s c q k l → (j : ℕ) → ends_of c j ≡ l.ends → body_of c j ≡ l.stays → (w : Word) → cell s c w j ≡ q w w
cell-stays s c q k l p j e b [] = e ∙ p.ends
cell-stays s c q k l p j e b (a ∷ w) = ap (λ f. truth_at s c f a w) b ∙ p.stays a w

-- what is handed to the first path of two: where the second leads from the next position
pub cell-reaches : (s : Diagrams) (c : List Obligation) (q : WordRelation) (k : Claim) (l : Lead) → Leads s c q k l → (i j : ℕ) → IsKept c l i j → (w : Word)
    → (cell s c w i || cell s c w j && k w) ≡ reaches q k w
cell-reaches s c q k l p i j o w =
    rw (cell-further s c q k l p i o.further_ends o.further_body w, cell-stays s c q k l p j o.stays_ends o.stays_body w) (sym (reaches-split q k w))

-- a sequence
pub leads-seq : (s : Diagrams) (c : List Obligation) (q r : WordRelation) → IsInward r → (k next : Claim) → ((w : Word) → next w ≡ reaches r k w)
    → (x y l : Lead) → Leads s c q next x → Leads s c r k y
    → ((a : Assignment) → is_one s l.further a ≡ (is_one s x.further a || is_one s x.stays a && is_one s y.further a)) → ((a : Assignment) → is_one s l.stays a ≡ (is_one s x.stays a && is_one s y.stays a))
    → l.ends ≡ (x.ends && y.ends) → Leads s c (λ u v. reaches q (λ m. r m v) u) k l
leads-seq s c q r inward k next same x y l p o further_says stays_says ends = record {
  further = λ a w.
      further_says (joint s.props a (cell s c w))
      ∙ rw (p.further a w, p.stays a w, o.further a w, reaches_further-agree q next (λ m. reaches r k m) (a ∷ w) (λ v l. same v)) (sym (reaches_further-seq q r k inward (a ∷ w)));
  stays = λ a w. stays_says (joint s.props a (cell s c w)) ∙ rw (p.stays a w, o.stays a w) (sym (stays-seq q r inward (a ∷ w)));
  ends = ends ∙ rw (p.ends, o.ends) (sym (stays-seq q r inward []));
}

-- a star: the obligation j is where its path leads further, to where j or the continuation holds
pub cell-star : (s : Diagrams) (c : List Obligation) (q : WordRelation) (k next : Claim) (j : ℕ) → ((w : Word) → next w ≡ (cell s c w j || k w)) → (x : Lead) → Leads s c q next x
    → ends_of c j ≡ false → body_of c j ≡ x.further → (w : Word) → cell s c w j ≡ reaches_further (star q) k w
cell-star s c q k next j same x p ends body =
    star-reaches_further q k (λ w. cell s c w j) ends
    (λ a w. ap (λ f. truth_at s c f a w) body ∙ p.further a w ∙ reaches_further-agree q next (λ v. cell s c v j || k v) (a ∷ w) (λ v l. same v))

-- a star
pub leads-star : (s : Diagrams) (c : List Obligation) (q : WordRelation) (k next : Claim) (j : ℕ) → ((w : Word) → next w ≡ (cell s c w j || k w)) → (x : Lead) → Leads s c q next x
    → ends_of c j ≡ false → body_of c j ≡ x.further → (l : Lead) → l.further ≡ x.further → ((a : Assignment) → is_one s l.stays a ≡ true) → l.ends ≡ true → Leads s c (star q) k l
leads-star s c q k next j same x p ends body l e stays_says true_end = record {
  further = λ a w. ap (λ f. truth_at s c f a w) (e ∙ sym body) ∙ cell-star s c q k next j same x p ends body (a ∷ w);
  stays = λ a w. stays_says (joint s.props a (cell s c w)) ∙ sym (stays-star q (a ∷ w));
  ends = true_end ∙ sym (stays-star q []);
}

-- the obligation of the whole
pub cell-compiled : (s : Diagrams) (c : List Obligation) (q : WordRelation) (k : Claim) (then j : ℕ) → ((w : Word) → k w ≡ cell s c w then) → (l : Lead) → Leads s c q k l
    → ends_of c j ≡ (l.ends && ends_of c then) → ((a : Assignment) → is_one s (body_of c j) a ≡ (is_one s l.further a || is_one s l.stays a && is_one s (body_of c then) a))
    → (w : Word) → cell s c w j ≡ reaches q k w
cell-compiled s c q k then j same l p ends body [] =
    ends ∙ rw (p.ends) (ap (λ b. q [] [] && b) (sym (same [])) ∙ sym (reaches-split q k [] ∙ rw (reaches_further-empty q k) refl))
cell-compiled s c q k then j same l p ends body (a ∷ w) =
    body (joint s.props a (cell s c w)) ∙ rw (p.further a w, p.stays a w) (ap (λ b. reaches_further q k (a ∷ w) || q (a ∷ w) (a ∷ w) && b) (sym (same (a ∷ w))) ∙ sym (reaches-split q k (a ∷ w)))
