-- What a specification asks for, in formulas, and why it has no strategy.
use Rattle.std.specs.Prelude.{◌≡◌, ◌<◌, ◌≤◌, ◌+◌, ◌*◌, ℕ, suc, Bool, false, [], length, Option, Some, None}
use Rattle.std.specs.Option.{IfSome, option_map}
use Rattle.forms.specs.Word.{Word, Claim}
use Rattle.forms.specs.Tree.{Formula, tree}
use Rattle.forms.specs.Parts.{parts}
use Rattle.forms.specs.Proper.{IsProper}
use Rattle.forms.specs.Satisfaction.{meets}
use Rattle.forms.specs.Equivalence.{HasClassCount}
use Rattle.diagrams.specs.Eval.{Diagrams}
use Rattle.automata.specs.Table.{Table, size_of, mark_of, Fits}
use Rattle.translate.specs.Counting.{whole_claim, IsWithin, IsFirstOver}
use Rattle.translate.specs.declared.fault.TranslateFault.{TranslateFault}
use Rattle.translate.specs.declared.fault.TranslateFault.TheVariants as translation
use Rattle.game.specs.Board.{Partition, width}
use Rattle.game.specs.Histories.{Aims}
use Rattle.game.specs.Same.{Claims, aims_with}
use Rattle.legality.specs.declared.fault.ArenaFault.{ArenaFault}
use Rattle.legality.specs.declared.fault.ArenaFault.TheVariants as arena
use Rattle.legality.specs.Legal.{claim_of, IsLeastViolation}
use Rattle.synthesis.specs.declared.fault.Role.{Role}
use Rattle.synthesis.specs.declared.fault.Role.TheVariants.{Assumption, Goal, Duty}
use Rattle.synthesis.specs.declared.fault.SynthesisFault.{SynthesisFault}
use Rattle.synthesis.specs.declared.fault.SynthesisFault.TheVariants.{TooMany, Unkeepable, Memory}
use Rattle.synthesis.specs.declared.translations.Automata.{Automata}
use Rattle.synthesis.specs.declared.translations.Formulas.{Formulas}

-- what is assumed, the goal, whether the empty history may meet it, and the duty
pub record Asked : Type 0 where
  pub assume : Option Formula
  pub goal : Formula
  pub empty : Bool
  pub duty : Option Formula

-- the formulas as plain data
abbrev pub asked : Formulas → Asked
asked f = record { assume = option_map tree f.assume.now; goal = tree f.goal.now; empty = f.empty; duty = option_map tree f.duty.now }

-- what a formula says of traces, where there is one
abbrev pub traces_of : ℕ → Option Formula → Option Claim
traces_of p None = None
traces_of p (Some f) = Some (λ w. meets p f w)

-- The claims of the formulas over p propositions: a history meets the goal where it is a trace of it, and the empty one also
-- where it may and the formula holds on it; each nonempty prefix is asked to be a trace of what is assumed, and of the duty.
abbrev pub claims_by : ℕ → Asked → Claims
claims_by p a = record { goal = whole_claim p a.goal a.empty; assumed = traces_of p a.assume; duty = traces_of p a.duty }

-- what is asked for in this partition
abbrev pub aims_by : Partition → Asked → Aims
aims_by parts a = aims_with parts (claims_by (width parts) a)

-- each formula is over p propositions, and its steps are propositional
pub record AreProper (p : ℕ) (a : Asked) : Type 0 where
  pub assume : IfSome a.assume (IsProper p)
  pub goal : IsProper p a.goal
  pub duty : IfSome a.duty (IsProper p)

-- each part of the formula, and the whole, has at most so many classes
abbrev pub IsFormulaWithin : ℕ → ℕ → Formula → Bool → Type 0
IsFormulaWithin p limit f empty = (k : ℕ) → 0 < k → k ≤ suc (length (parts f)) → IsWithin p f empty limit k

-- the same, where there is a formula
abbrev pub IsWithinWhere : ℕ → ℕ → Option Formula → Type 0
IsWithinWhere p limit None = Unit {0}
IsWithinWhere p limit (Some f) = IsFormulaWithin p limit f false

-- all formulas are within the limit
pub record AreWithin (p limit : ℕ) (a : Asked) : Type 0 where
  pub assume : IsWithinWhere p limit a.assume
  pub goal : IsFormulaWithin p limit a.goal a.empty
  pub duty : IsWithinWhere p limit a.duty

-- there is a formula, and this part of it is the first with more classes than the limit
abbrev pub IsFirstOverWhere : ℕ → ℕ → Option Formula → ℕ → ℕ → Type 0
IsFirstOverWhere p limit None part count = ⊥
IsFirstOverWhere p limit (Some f) part count = IsFirstOver p f false limit part count

-- of what is assumed, the goal and the duty, in this order, this is the first formula over the limit
abbrev pub IsFirstOverIn : ℕ → ℕ → Asked → Role → ℕ → ℕ → Type 0
IsFirstOverIn p limit a Assumption part count = IsFirstOverWhere p limit a.assume part count
IsFirstOverIn p limit a Goal part count = IsWithinWhere p limit a.assume × IsFirstOver p a.goal a.empty limit part count
IsFirstOverIn p limit a Duty part count = IsWithinWhere p limit a.assume × IsFormulaWithin p limit a.goal a.empty × IsFirstOverWhere p limit a.duty part count

-- The fault has its cause: the first formula over the limit, or else that what is assumed can be violated, within the least
-- number of rounds.
abbrev pub HasCause : ℕ → Partition → Asked → SynthesisFault → Type 0
HasCause limit parts a (TooMany role part count) = IsFirstOverIn (width parts) limit a role part count
HasCause limit parts a (Unkeepable rounds) = AreWithin (width parts) limit a × IsLeastViolation (aims_by parts a) rounds
HasCause limit parts a Memory = Unit {0}

-- the fault of a formula that has no automaton within the limit
abbrev pub fault_at : Role → TranslateFault → SynthesisFault
fault_at role (translation.TooMany part count) = TooMany role part count
fault_at role translation.Memory = Memory

-- the fault of automata without an arena
abbrev pub fault_of : ArenaFault → SynthesisFault
fault_of (arena.Unkeepable rounds) = Unkeepable rounds
fault_of arena.Memory = Memory

-- where the fault is that a formula is over the limit, P holds of the part and of its count
abbrev pub IsOver : Role → (ℕ → ℕ → Type 0) → SynthesisFault → Type 0
IsOver role P (TooMany other part count) = (other ≡ role) × P part count
IsOver role P (Unkeepable rounds) = ⊥
IsOver role P Memory = Unit {0}

-- where it is that some formula is
abbrev pub IsOverIn : ℕ → ℕ → Asked → SynthesisFault → Type 0
IsOverIn p limit a (TooMany role part count) = IsFirstOverIn p limit a role part count
IsOverIn p limit a (Unkeepable rounds) = ⊥
IsOverIn p limit a Memory = Unit {0}

-- the automaton fits the store, its marks are 0 and 1, and it accepts what the claim holds of
pub record IsAutomatonOf (s : Diagrams) (t : Table) (f : Claim) : Type 0 where
  pub fits : Fits s t
  pub marks : (at : ℕ) → at < size_of t → mark_of t at < 2
  pub first : t.first < size_of t
  pub same : (w : Word) → claim_of s t w ≡ f w

-- there is an automaton exactly where there is a formula, and it is that of its traces
abbrev pub IsAutomatonWhere : Diagrams → ℕ → Option Formula → Option Table → Type 0
IsAutomatonWhere s p None None = Unit {0}
IsAutomatonWhere s p None (Some t) = ⊥
IsAutomatonWhere s p (Some f) None = ⊥
IsAutomatonWhere s p (Some f) (Some t) = IsAutomatonOf s t (λ w. meets p f w)

-- the automata are those of the formulas
pub record AreAutomataOf (s : Diagrams) (p : ℕ) (a : Asked) (made : Automata) : Type 0 where
  pub keep : IsAutomatonWhere s p a.assume made.keep
  pub goal : IsAutomatonOf s made.goal (whole_claim p a.goal a.empty)
  pub duty : IsAutomatonWhere s p a.duty made.duty

-- there is an automaton exactly where there is a formula, and it has as many locations as the traces have classes
abbrev pub IsCountedWhere : ℕ → Option Formula → Option Table → Type 0
IsCountedWhere p None None = Unit {0}
IsCountedWhere p None (Some t) = ⊥
IsCountedWhere p (Some f) None = ⊥
IsCountedWhere p (Some f) (Some t) = HasClassCount p (λ w. meets p f w) (size_of t)

-- each automaton has as many locations as its formula has classes
pub record AreCounted (p : ℕ) (a : Asked) (made : Automata) : Type 0 where
  pub keep : IsCountedWhere p a.assume made.keep
  pub goal : HasClassCount p (whole_claim p a.goal a.empty) (size_of made.goal)
  pub duty : IsCountedWhere p a.duty made.duty

-- so many classes have the traces of what is assumed; 1 where nothing is
abbrev pub IsAssumedCount : ℕ → Option Formula → ℕ → Type 0
IsAssumedCount p None n = n ≡ 1
IsAssumedCount p (Some f) n = HasClassCount p (λ w. meets p f w) n

-- one more than the classes of the duty's traces, since histories that have broken it are apart; 1 where there is none
abbrev pub IsDutyCount : ℕ → Option Formula → ℕ → Type 0
IsDutyCount p None n = n ≡ 1
IsDutyCount p (Some f) n = (classes : ℕ) × HasClassCount p (λ w. meets p f w) classes × (n ≡ classes + 1)

-- A strategy has at most as many locations as the goal has classes, times those of what is assumed, times one more than those of
-- the duty.
pub record HasFewLocations (p : ℕ) (a : Asked) (size : ℕ) : Type 0 where
  pub goal : ℕ
  pub assumed : ℕ
  pub duty : ℕ
  pub goal_classes : HasClassCount p (whole_claim p a.goal a.empty) goal
  pub assumed_classes : IsAssumedCount p a.assume assumed
  pub duty_classes : IsDutyCount p a.duty duty
  pub few : size ≤ goal * assumed * duty
