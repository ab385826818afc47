-- A formula whose counts are all within the limit.
use Rattle.std.proofs.Common.{◌≡◌, ℕ, zero, suc, ◌<◌, ◌≤◌, List, length, Bool, false, sym, ap, subst, arith, inl, inr}
use Rattle.std.specs.Prelude.{All, slice_index}
use Rattle.std.proofs.lemmas.Bool.{cases_lt}
use Rattle.std.proofs.lemmas.Option.{slice_get_past}
use Rattle.forms.specs.Tree.{Formula}
use Rattle.forms.specs.Parts.{parts, part}
use Rattle.forms.specs.Satisfaction.{meets}
use Rattle.forms.specs.Equivalence.{HasClassCount}
use Rattle.form_tokens.specs.declared.dialect.Dialect.{Dialect}
use Rattle.minimise.proofs.Once.{class_count_is_one}
use Rattle.translate.specs.Counting.{claim_of, HasCount, AreCounts, IsWithin, IfTooMany, IsFirstOver}
use Rattle.translate.specs.declared.fault.TranslateFault.{TranslateFault}
use Rattle.translate.specs.declared.fault.TranslateFault.TheVariants.{TooMany, Memory}
use Rattle.command_endings.specs.declared.endings.Concern.{Concern}
use Rattle.command_endings.specs.declared.endings.Concern.TheVariants as concern
use Rattle.command_endings.specs.declared.endings.Ending.{Ending}
use Rattle.command_endings.specs.declared.endings.Refusal.TheVariants as refused
use Rattle.command_endings.specs.Endings.{status_of, IsUnread}
use Rattle.command_endings.specs.Formulas.{IsFormula, names_of}
use Rattle.command_endings.specs.Replies.{refusing}
use Rattle.command_endings.specs.Tasks.{Task, Performs}
use Rattle.command_endings.specs.Worlds.{Contents, World, KeepsCounts}
use Rattle.command_endings.proofs.FormulaLemmas.{one-formula}
use Rattle.command_endings.proofs.Performing.{refusal, no-memory}
use Rattle.command_endings.proofs.ReadingLemmas.{late}
use Rattle.class_limit.specs.Limits.{most_classes, ending_at_limit, AreWithin, AreFew, IsFormulaWithinLimit}

-- there is no part after the last, so what is counted there is the whole
whole-count : (p : ℕ) (f : Formula) (count : ℕ) → HasClassCount p (λ w. meets p f w) count → HasCount p f false (suc (length (parts f))) count
whole-count p f count has = subst (λ c. HasClassCount p c count) (sym (ap (claim_of p f false) (slice_get_past (parts f) (length (parts f)) (omega arith)))) has

module _ (p : ℕ) (f : Formula) (counts : List ℕ) (whole : ℕ) (counted : AreCounts p f counts) (within : All (λ count. count ≤ most_classes) counts)
    (has : HasClassCount p (λ w. meets p f w) whole) (small : whole ≤ most_classes) where
  within-at : (k : ℕ) → 0 < k → k ≤ suc (length (parts f)) → IsWithin p f false most_classes k
  within-at zero some last = absurd (omega arith)
  within-at (suc j) some last =
      elim (cases_lt j (length counts)) [
        | inl h ↦ record { count = slice_index counts j; has = counted.count j false h; within = within j 0 h }
        | inr h ↦
            let e : suc (length (parts f)) ≡ suc j = omega (arith, counted.size, h, last) in
            record { count = whole; has = subst (λ k. HasCount p f false k whole) e (whole-count p f whole has); within = small }
      ]

  -- each part and the whole are within the limit
  pub all-within : (names : List (List ℕ)) → p ≡ length names → AreFew names f
  all-within names e k some last = subst (λ q. IsWithin q f false most_classes k) e (within-at k some last)

-- a formula with a part over the limit is not within it
pub over-or-within : {limit : ℕ} {empty : Bool} (names : List (List ℕ)) (f : Formula) (part count : ℕ) → IsFirstOver (length names) f empty limit part count → AreWithin limit empty names f → ⊥
over-or-within names f part count over within =
    let w = within part over.some over.last in
    let same = class_count_is_one (length names) _ count w.count over.has w.has in
    omega (arith, same, over.over, w.within)

-- a formula that was translated is within the limit
pub within_limit : (dialect : Dialect) (text : List ℕ) (names : List (List ℕ)) (f : Formula) → IsFormula dialect text f → names ≡ names_of dialect text → AreFew names f
    → IsFormulaWithinLimit dialect text
within_limit dialect text names f is same within = (f, is, subst (λ n. AreFew n f) same within)

-- a limit that is passed is no answer
pub no-answer-at-limit : (c : Concern) (limit : ℕ) (fault : TranslateFault) → status_of (ending_at_limit c limit fault) < 2 → ⊥
no-answer-at-limit c limit (TooMany part count) few = let small : 5 < 2 = few in omega arith
no-answer-at-limit c limit Memory few = let small : 8 < 2 = few in omega arith

module _ (dialect : Dialect) (text : List ℕ) (names : List (List ℕ)) (f : Formula) (is : IsFormula dialect text f) (same : names ≡ names_of dialect text) where
  -- a formula over the limit is none within it
  pub not-within : (fault : TranslateFault) → IfTooMany fault (IsFirstOver (length names) f false most_classes)
      → IsUnread (status_of (ending_at_limit concern.Formula most_classes fault)) → ¬ IsFormulaWithinLimit dialect text
  not-within Memory over unread may = late 8 (inr (omega arith)) unread
  not-within (TooMany part count) over unread may =
      let first : IsFirstOver (length (names_of dialect text)) f false most_classes part count = subst (λ n. IsFirstOver (length n) f false most_classes part count) same over in
      over-or-within (names_of dialect text) may.0 part count
      (subst (λ g. IsFirstOver (length (names_of dialect text)) g false most_classes part count) (one-formula dialect text f may.0 is may.1) first) may.2

  -- and ends the run
  pub limit-ends : (task : Task) (before after : World)
      → ((part count : ℕ) → IsFirstOver (length (names_of dialect text)) f false most_classes part count
      → (files : Contents) (rest : List ℕ) → task.answers files rest (refusing (refused.TooMany concern.Formula part count most_classes)))
      → KeepsCounts before after → after.held ≡ before.held → (fault : TranslateFault) → IfTooMany fault (IsFirstOver (length names) f false most_classes)
      → Performs task before after (ending_at_limit concern.Formula most_classes fault)
  limit-ends task before after answers keeps held Memory over = no-memory task before after keeps
  limit-ends task before after answers keeps held (TooMany part count) over =
      let first : IsFirstOver (length (names_of dialect text)) f false most_classes part count = subst (λ n. IsFirstOver (length n) f false most_classes part count) same over in
      refusal task before after (refused.TooMany concern.Formula part count most_classes) (λ files rest tells. answers part count first files rest) keeps held
