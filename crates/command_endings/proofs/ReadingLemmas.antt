-- What a command makes of its input, put together from its calls.
use Rattle.std.proofs.Common.{◌≡◌, ℕ, ◌<◌, ◌⊎◌, inl, inr, IsTrue, true, sym, subst, arith, Some, List}
use Rattle.bes_io.specs.Asking.{IsAsked, unasked}
use Rattle.forms.specs.Tree.{Formula}
use Rattle.form_tokens.specs.declared.dialect.Dialect.{Dialect}
use Rattle.command_endings.specs.declared.endings.Ending.{Ending}
use Rattle.command_endings.specs.declared.endings.Ending.TheVariants.{Positive, Negative, Refused, OutsideFault, NoMemory}
use Rattle.command_endings.specs.Endings.{status_of, IsUnread}
use Rattle.command_endings.specs.Formulas.{IsFormula, EndsAtFormula}
use Rattle.command_endings.specs.Tasks.{Task, TellsFiles}
use Rattle.command_endings.specs.Worlds.{Contents, World}
use Rattle.command_endings.specs.Reading.{Reads}
use Rattle.command_endings.proofs.CallLemmas.{refused-few}
use Rattle.command_endings.proofs.FormulaLemmas.{formula-or-fault}

module _ {S : Type 0} (faults : S → ℕ) (taken : S → ℕ → List ℕ → S → Type 0) (task : Task) (before : World) (old new : S) (number : ℕ) where
  -- no call was made
  pub reads-none : new ≡ old → ((files : Contents) → TellsFiles task before files → IsUnread number → ¬ task.may_read (Some files)) → Reads faults taken task before old new number
  reads-none same early = record {
    never = λ off. same;
    unread = λ none. same;
    untouched = λ is. same;
    early = early;
    asked_in_turn = subst (IsAsked faults taken old) (sym same) unasked;
    served = λ on is. same;
  }

  -- the input came to be asked
  pub reads-asked : task.reads ≡ true → task.may_read before.contents → ¬ IsUnread number → IsAsked faults taken old new → (IsTrue task.streams → number ≡ 8 → new ≡ old) → Reads faults taken task before old new number
  reads-asked on may later asked served = record {
    never = λ off. cc;
    unread = λ none. absurd (none may);
    untouched = λ is. absurd (later is);
    early = λ files told is. absurd (later is);
    asked_in_turn = asked;
    served = served;
  }

-- an answer, a fault and want of memory are none of the statuses that come before the input is asked
pub late : (number : ℕ) → (number < 2) ⊎ (6 < number) → ¬ IsUnread number
late number far (inl e) = elim far [ inl h ↦ omega (arith, e, h) | inr h ↦ omega (arith, e, h) ]
late number far (inr (inl e)) = elim far [ inl h ↦ omega (arith, e, h) | inr h ↦ omega (arith, e, h) ]
late number far (inr (inr (inl e))) = elim far [ inl h ↦ omega (arith, e, h) | inr h ↦ omega (arith, e, h) ]
late number far (inr (inr (inr e))) = elim far [ inl h ↦ omega (arith, e, h) | inr h ↦ omega (arith, e, h) ]

-- where a formula is refused the text is none
pub no-formula : (dialect : Dialect) (text : List ℕ) (ending : Ending) → EndsAtFormula dialect text ending → IsUnread (status_of ending) → (f : Formula) → IsFormula dialect text f → ⊥
no-formula dialect text Positive e u f is = e
no-formula dialect text Negative e u f is = e
no-formula dialect text OutsideFault e u f is = e
no-formula dialect text NoMemory e u f is = late 8 (inr (omega arith)) u
no-formula dialect text (Refused r) e u f is = formula-or-fault dialect text f e.0 is e.2

-- and no answer is given
pub no-answer-at-formula : (dialect : Dialect) (text : List ℕ) (ending : Ending) → EndsAtFormula dialect text ending → status_of ending < 2 → ⊥
no-answer-at-formula dialect text Positive e few = e
no-answer-at-formula dialect text Negative e few = e
no-answer-at-formula dialect text (Refused r) e few = refused-few r few
no-answer-at-formula dialect text OutsideFault e few = e
no-answer-at-formula dialect text NoMemory e few = let small : 8 < 2 = few in omega arith
