-- Histories, round by round: what a further round makes of a history.
use Rattle.std.proofs.Common.{◌≡◌, ◌≢◌, ◌<◌, ◌^◌, ◌⊎◌, ℕ, [], ◌∷◌, ◌++◌, inl, inr, refl, sym, ◌∙◌, ap, subst, false, Option, Some, None}
use Rattle.std.proofs.lemmas.Bool.{cases_Bool, true≢false}
use Rattle.std.proofs.lemmas.List.{append-nil, append_assoc}
use Rattle.forms.specs.Word.{Word, Claim, IsOver}
use Rattle.automata.proofs.Words.{over-nil, over-head, over-tail, over-cons}
use Rattle.game.specs.Board.{width}
use Rattle.game.specs.Histories.{Aims, IsViolated, IsDone, IsLegalHistory, IsLegalRound, IsRunning, IsMetFirst, IsLive, one_more}

-- a word is empty, or ends in a letter
pub data Ends : Word → Type 0 where
  nothing : Ends []
  letter : (u : Word) (a : ℕ) → Ends (u ++ a ∷ [])

ends_more : (b : ℕ) (w : Word) → Ends w → Ends (b ∷ w)
ends_more b _ nothing = letter [] b
ends_more b _ (letter u a) = letter (b ∷ u) a

pub ends : (w : Word) → Ends w
ends [] = nothing
ends (b ∷ w) = ends_more b w (ends w)

-- what holds of the empty word, and goes on from each word to one letter more, holds of each word
from_front : (P : Word → Type 0) → ((u : Word) (a : ℕ) → P u → P (u ++ a ∷ [])) → (u w : Word) → P u → P (u ++ w)
from_front P step u [] p = subst P (sym (append-nil u)) p
from_front P step u (a ∷ w) p = subst P (append_assoc u (a ∷ []) w) (from_front P step (u ++ a ∷ []) w (step u a p))

pub by_last_letter : (P : Word → Type 0) → P [] → ((u : Word) (a : ℕ) → P u → P (u ++ a ∷ [])) → (w : Word) → P w
by_last_letter P none step w = from_front P step [] w none

-- no word with a letter is empty
pub not_empty : (u v : Word) (a : ℕ) → u ++ a ∷ v ≢ []
not_empty [] v a = λ e. cc
not_empty (b ∷ u) v a = λ e. cc

-- words that end in a letter are equal in both parts
pub last_same : (u v : Word) (a b : ℕ) → u ++ a ∷ [] ≡ v ++ b ∷ [] → (u ≡ v) × (a ≡ b)
last_same [] [] a b e = (refl, cc)
last_same [] (c ∷ v) a b e = let f : [] ≡ v ++ b ∷ [] = cc in absurd (not_empty v [] b (sym f))
last_same (c ∷ u) [] a b e = let f : u ++ a ∷ [] ≡ [] = cc in absurd (not_empty u [] a f)
last_same (c ∷ u) (d ∷ v) a b e =
    let f : u ++ a ∷ [] ≡ v ++ b ∷ [] = cc in
    let g : c ≡ d = cc in
    let r = last_same u v a b f in
    (cc, r.1)

-- a prefix of a word with one more letter is that word, or a prefix of the word
pub data IsCut (h : Word) (a : ℕ) (u v : Word) : Type 0 where
  all : u ≡ h ++ a ∷ [] → v ≡ [] → IsCut h a u v
  part : (w : Word) → v ≡ w ++ a ∷ [] → h ≡ u ++ w → IsCut h a u v

cut_by : (h : Word) (a : ℕ) (u v : Word) → Ends v → h ++ a ∷ [] ≡ u ++ v → IsCut h a u v
cut_by h a u _ nothing e = all (sym (append-nil u) ∙ sym e) refl
cut_by h a u _ (letter w b) e =
    let r = last_same h (u ++ w) a b (e ∙ sym (append_assoc u w (b ∷ []))) in
    part w (ap (λ c. w ++ c ∷ []) (sym r.1)) r.0

pub cut : (h : Word) (a : ℕ) (u v : Word) → h ++ a ∷ [] ≡ u ++ v → IsCut h a u v
cut h a u v e = cut_by h a u v (ends v) e

-- the empty word has one prefix
pub empty_prefix : (u v : Word) → [] ≡ u ++ v → (u ≡ []) × (v ≡ [])
empty_prefix [] [] e = (refl, refl)
empty_prefix [] (b ∷ v) e = absurd (not_empty [] v b (sym e))
empty_prefix (b ∷ u) v e = absurd (not_empty [] (u ++ v) b (sym e))

-- the empty history violates nothing
pub violated-nil : (o : Option Claim) → ¬ IsViolated o []
violated-nil None w = w
violated-nil (Some c) (u, v, e, some, no_claim) = some (empty_prefix u v e).0

-- what is violated stays so
pub violated-more : (o : Option Claim) (h : Word) (a : ℕ) → IsViolated o h → IsViolated o (one_more h a)
violated-more None h a w = w
violated-more (Some c) h a (u, v, e, some, f) = (u, v ++ a ∷ [], ap (λ x. x ++ a ∷ []) e ∙ append_assoc u v (a ∷ []), some, f)

-- a history that doesn't satisfy the claim violates it
pub violated-now : (c : Claim) (h : Word) (a : ℕ) → c (one_more h a) ≡ false → IsViolated (Some c) (one_more h a)
violated-now c h a f = (one_more h a, [], sym (append-nil (one_more h a)), not_empty h [] a, f)

-- a further round violates a claim, or it was violated
pub violated-cases : (c : Claim) (h : Word) (a : ℕ) → IsViolated (Some c) (one_more h a) → IsViolated (Some c) h ⊎ (c (one_more h a) ≡ false)
violated-cases c h a (u, v, e, some, f) =
    elim (cut h a u v e) [
      | all p q ↦ inr (ap c (sym p) ∙ f)
      | part w p q ↦ inl (u, w, q, some, f)
    ]

-- it was violated or not
pub violated_or_not : (o : Option Claim) (h : Word) → IsViolated o h ⊎ (¬ IsViolated o h)
violated_or_not None h = inr (λ w. w)
violated_or_not (Some c) h = by_last_letter (λ h. IsViolated (Some c) h ⊎ (¬ IsViolated (Some c) h)) (inr (violated-nil (Some c)))
    (λ u a before. elim before [
      | inl w ↦ inl (violated-more (Some c) u a w)
      | inr not_yet ↦ elim (cases_Bool (c (one_more u a))) [
        | inl t ↦ inr (λ w. elim (violated-cases c u a w) [ inl x ↦ not_yet x | inr f ↦ true≢false (sym t ∙ f) ])
        | inr f ↦ inl (violated-now c u a f)
      ]
    ]) h

-- the goal is met or not
pub done_or_not : (s : Aims) (h : Word) → IsDone s h ⊎ (¬ IsDone s h)
done_or_not s h =
    elim (violated_or_not s.duty h) [
      | inl w ↦ inr (λ d. d.0 w)
      | inr whole ↦ elim (cases_Bool (s.goal h)) [ inl t ↦ inl (whole, t) | inr f ↦ inr (λ d. true≢false (sym d.1 ∙ f)) ]
    ]

-- the empty history is legal
pub legal-nil : (s : Aims) → IsLegalHistory s []
legal-nil s u v a e = absurd (not_empty u v a (sym e))

-- a legal round makes a legal history of one
legal_last : (s : Aims) (h : Word) (a : ℕ) → IsLegalHistory s h → a < 2 ^ width s.parts → IsLegalRound s h a
    → (u v : Word) (b : ℕ) → Ends v → h ++ a ∷ [] ≡ u ++ b ∷ v → (b < 2 ^ width s.parts) × IsLegalRound s u b
legal_last s h a legal k l u _ b nothing e =
    let r = last_same h u a b e in
    (subst (λ x. x < 2 ^ width s.parts) r.1 k, subst (λ x. IsLegalRound s x b) r.0 (subst (λ x. IsLegalRound s h x) r.1 l))
legal_last s h a legal k l u _ b (letter w c) e =
    let r = last_same h (u ++ b ∷ w) a c (e ∙ sym (append_assoc u (b ∷ w) (c ∷ []))) in legal u w b r.0

pub legal-more : (s : Aims) (h : Word) (a : ℕ) → IsLegalHistory s h → a < 2 ^ width s.parts → IsLegalRound s h a → IsLegalHistory s (one_more h a)
legal-more s h a legal k l u v b e = legal_last s h a legal k l u v b (ends v) e

-- before the last round of a legal history there is one, and the round is legal
pub legal-less : (s : Aims) (h : Word) (a : ℕ) → IsLegalHistory s (one_more h a) → IsLegalHistory s h × (a < 2 ^ width s.parts) × IsLegalRound s h a
legal-less s h a legal =
    let r = legal h [] a refl in
    (λ u v b e. legal u (v ++ a ∷ []) b (ap (λ x. x ++ a ∷ []) e ∙ append_assoc u (b ∷ v) (a ∷ [])), r.0, r.1)

-- no proper prefix of a history with one more round meets the goal, where no prefix of the history does
pub unmet-more : (s : Aims) (h : Word) (a : ℕ) → ((u v : Word) → h ≡ u ++ v → ¬ IsDone s u) → (u v : Word) → one_more h a ≡ u ++ v → v ≢ [] → ¬ IsDone s u
unmet-more s h a never u v e some d = elim (cut h a u v e) [ all p q ↦ some q | part w p q ↦ never u w q d ]

-- a running history with a legal round goes on, or meets the goal
pub running-more : (s : Aims) (h : Word) (a : ℕ) → IsRunning s h → a < 2 ^ width s.parts → IsLegalRound s h a → ¬ IsDone s (one_more h a) → IsRunning s (one_more h a)
running-more s h a (legal, never) k l unmet =
    (legal-more s h a legal k l, λ u v e d. elim (cut h a u v e) [ all p q ↦ unmet (subst (λ x. IsDone s x) p d) | part w p q ↦ never u w q d ])

pub met-more : (s : Aims) (h : Word) (a : ℕ) → IsRunning s h → a < 2 ^ width s.parts → IsLegalRound s h a → IsDone s (one_more h a) → IsMetFirst s (one_more h a)
met-more s h a (legal, never) k l done = (legal-more s h a legal k l, done, unmet-more s h a never)

-- so it stays live
pub live-more : (s : Aims) (h : Word) (a : ℕ) → IsRunning s h → a < 2 ^ width s.parts → IsLegalRound s h a → IsLive s (one_more h a)
live-more s h a run k l =
    elim (done_or_not s (one_more h a)) [ inl d ↦ inr (met-more s h a run k l d) | inr unmet ↦ inl (running-more s h a run k l unmet) ]

-- the empty history is live
pub live-nil : (s : Aims) → IsLive s []
live-nil s =
    elim (done_or_not s []) [
      | inl d ↦ inr (legal-nil s, d, λ u v e some. absurd (some (empty_prefix u v e).1))
      | inr unmet ↦ inl (legal-nil s, λ u v e d. unmet (subst (λ x. IsDone s x) (empty_prefix u v e).0 d))
    ]

-- a live history that doesn't meet the goal is running
pub live_unmet : (s : Aims) (h : Word) → IsLive s h → ¬ IsDone s h → IsRunning s h
live_unmet s h (inl run) unmet = run
live_unmet s h (inr met) unmet = absurd (unmet met.1)

-- a live history with one more round was running, and the round is legal
pub live-less : (s : Aims) (h : Word) (a : ℕ) → IsLive s (one_more h a) → IsRunning s h × (a < 2 ^ width s.parts) × IsLegalRound s h a
live-less s h a (inl (legal, never)) =
    let r = legal-less s h a legal in
    ((r.0, λ u v e. never u (v ++ a ∷ []) (ap (λ x. x ++ a ∷ []) e ∙ append_assoc u v (a ∷ []))), r.1, r.2)
live-less s h a (inr (legal, done, never)) =
    let r = legal-less s h a legal in
    ((r.0, λ u v e. never u (v ++ a ∷ []) (ap (λ x. x ++ a ∷ []) e ∙ append_assoc u v (a ∷ [])) (not_empty v [] a)), r.1, r.2)

-- a live history is legal
pub live_legal : (s : Aims) (h : Word) → IsLive s h → IsLegalHistory s h
live_legal s h (inl run) = run.0
live_legal s h (inr met) = met.0

-- the front of a word over p propositions, and its last letter
pub over-front : (p : ℕ) (u : Word) (a : ℕ) → IsOver p (one_more u a) → IsOver p u
over-front p [] a o = over-nil p
over-front p (b ∷ u) a o = over-cons p b u (over-head p b (u ++ a ∷ []) o) (over-front p u a (over-tail p b (u ++ a ∷ []) o))

pub over-last : (p : ℕ) (u : Word) (a : ℕ) → IsOver p (one_more u a) → a < 2 ^ p
over-last p [] a o = over-head p a [] o
over-last p (b ∷ u) a o = over-last p u a (over-tail p b (u ++ a ∷ []) o)
