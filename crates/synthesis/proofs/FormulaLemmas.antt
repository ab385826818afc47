-- Automata of formulas, and the first formula over a limit.
use Rattle.std.proofs.Common.{◌≡◌, ◌<◌, ◌≤◌, ◌*◌, ◌==◌, ℕ, zero, suc, Bool, true, false, List, [], length, Option, Some, None, inl, inr, refl, sym, ◌∙◌, ap, subst, arith}
use Rattle.std.specs.Prelude.{All, slice_index}
use Rattle.std.proofs.lemmas.Bool.{cases_lt}
use Rattle.std.proofs.lemmas.Option.{slice_get_past}
use Rattle.forms.specs.Word.{Word, Claim}
use Rattle.forms.specs.Tree.{Formula}
use Rattle.forms.specs.Parts.{parts, part}
use Rattle.forms.specs.Satisfaction.{meets}
use Rattle.forms.specs.Equivalence.{HasClassCount}
use Rattle.diagrams.specs.Eval.{Diagrams}
use Rattle.diagrams.specs.Live.{Keeps}
use Rattle.diagrams.proofs.Meaning.{Keeps_trans}
use Rattle.automata.specs.Table.{Table, size_of, mark_of, Fits}
use Rattle.automata.proofs.Lasts.{fits_lasts, mark_after-lasts}
use Rattle.translate.specs.Exact.{IsLeastOf}
use Rattle.translate.specs.Counting.{whole_claim, claim_of, HasCount, AreCounts, IsWithin, IsFirstOver, IfTooMany}
use Rattle.translate.specs.declared.fault.TranslateFault.{TranslateFault}
use Rattle.translate.specs.declared.fault.TranslateFault.TheVariants as translation
use Rattle.game.specs.Board.{Partition, width}
use Rattle.game.specs.Same.{Claims, aims_with, AgreeWhere, Agree}
use Rattle.game.specs.Histories.{IsKeepable, is_given}
use Rattle.game.specs.Arena.{Locations, IsArenaOf}
use Rattle.game.proofs.SameLemmas.{unkeepable_same, keepable_same}
use Rattle.automata.proofs.Words.{over-nil}
use Rattle.printed_strategy.specs.Strategy.{Strategy}
use Rattle.printed_strategy.specs.Printed.{IsPrintedFor}
use Rattle.legality.specs.declared.fault.ArenaFault.{ArenaFault}
use Rattle.legality.specs.declared.fault.ArenaFault.TheVariants as arena
use Rattle.legality.specs.Legal.{IsRightFault}
use Rattle.arena.specs.Building.{claim_where, FitsWhere, assumed_count, duty_count}
use Rattle.synthesis.specs.declared.fault.Role.{Role}
use Rattle.synthesis.specs.declared.fault.Role.TheVariants.{Assumption, Goal, Duty}
use Rattle.synthesis.specs.declared.fault.SynthesisFault.{SynthesisFault}
use Rattle.synthesis.specs.declared.fault.SynthesisFault.TheVariants.{TooMany, Unkeepable, Memory}
use Rattle.synthesis.specs.declared.translations.Automata.{Automata}
use Rattle.synthesis.specs.Claims.{claims_of}
use Rattle.synthesis.specs.Formulas.{Asked, traces_of, claims_by, aims_by, IsFormulaWithin, IsWithinWhere, AreWithin, IsFirstOverWhere, IsFirstOverIn, HasCause, fault_at, fault_of, IsOver, IsOverIn, IsAutomatonOf, IsAutomatonWhere, AreAutomataOf, IsCountedWhere, AreCounted, IsAssumedCount, IsDutyCount, HasFewLocations}

-- there is no part after the last, so what is counted there is the whole
whole-count : (p : ℕ) (f : Formula) (empty : Bool) (count : ℕ) → HasClassCount p (whole_claim p f empty) count → HasCount p f empty (suc (length (parts f))) count
whole-count p f empty count has = subst (λ c. HasClassCount p c count) (sym (ap (claim_of p f empty) (slice_get_past (parts f) (length (parts f)) (omega arith)))) has

-- a formula whose counts are within the limit is
pub formula-within : (p limit : ℕ) (f : Formula) (empty : Bool) (counts : List ℕ) (whole : ℕ) → AreCounts p f counts → All (λ count. count ≤ limit) counts
    → HasClassCount p (whole_claim p f empty) whole → whole ≤ limit → IsFormulaWithin p limit f empty
formula-within p limit f empty counts whole counted within has small zero some last = absurd (omega (arith, some))
formula-within p limit f empty counts whole counted within has small (suc j) some last =
    elim (cases_lt j (length counts)) [
      | inl h ↦ record { count = slice_index counts j; has = counted.count j empty h; within = within j 0 h }
      | inr h ↦
          let e : suc (length (parts f)) ≡ suc j = let q = counted.size in omega (arith, q, h, last) in
          record { count = whole; has = subst (λ k. HasCount p f empty k whole) e (whole-count p f empty whole has); within = small }
    ]

-- a least automaton of a claim is one
pub least-automaton : (s : Diagrams) (t : Table) (f : Claim) → IsLeastOf s t f → IsAutomatonOf s t f
least-automaton s t f l = record { fits = l.fits; marks = l.marks; first = l.least.closed.first; same = l.same }

-- an automaton stays one as its store grows
pub automaton-lasts : (s n : Diagrams) → Keeps s n → (t : Table) (f : Claim) → IsAutomatonOf s t f → IsAutomatonOf n t f
automaton-lasts s n k t f a = record {
  fits = fits_lasts s n k t a.fits;
  marks = a.marks;
  first = a.first;
  same = λ w. ap (λ x. x == 1) (mark_after-lasts s n k t a.fits t.first w a.first) ∙ a.same w;
}

pub where-lasts : (s n : Diagrams) → Keeps s n → (p : ℕ) (f : Option Formula) (t : Option Table) → IsAutomatonWhere s p f t → IsAutomatonWhere n p f t
where-lasts s n k p None None a = tt
where-lasts s n k p None (Some t) a = a
where-lasts s n k p (Some f) None a = a
where-lasts s n k p (Some f) (Some t) a = automaton-lasts s n k t (λ w. meets p f w) a

-- the fault of a translation
pub over-at : (role : Role) (P : ℕ → ℕ → Type 0) (fault : TranslateFault) → IfTooMany fault P → IsOver role P (fault_at role fault)
over-at role P (translation.TooMany part count) h = (refl, h)
over-at role P translation.Memory h = tt

-- the first formula over the limit
pub over-assumption : (p limit : ℕ) (a : Asked) (fault : SynthesisFault) → IsOver Assumption (IsFirstOverWhere p limit a.assume) fault → IsOverIn p limit a fault
over-assumption p limit a (TooMany role part count) h = subst (λ r. IsFirstOverIn p limit a r part count) (sym h.0) h.1
over-assumption p limit a (Unkeepable rounds) h = h
over-assumption p limit a Memory h = tt

pub over-goal : (p limit : ℕ) (a : Asked) (fault : SynthesisFault) → IsWithinWhere p limit a.assume → IsOver Goal (IsFirstOver p a.goal a.empty limit) fault → IsOverIn p limit a fault
over-goal p limit a (TooMany role part count) w h = subst (λ r. IsFirstOverIn p limit a r part count) (sym h.0) (w, h.1)
over-goal p limit a (Unkeepable rounds) w h = h
over-goal p limit a Memory w h = tt

pub over-duty : (p limit : ℕ) (a : Asked) (fault : SynthesisFault) → IsWithinWhere p limit a.assume → IsFormulaWithin p limit a.goal a.empty
    → IsOver Duty (IsFirstOverWhere p limit a.duty) fault → IsOverIn p limit a fault
over-duty p limit a (TooMany role part count) w g h = subst (λ r. IsFirstOverIn p limit a r part count) (sym h.0) (w, g, h.1)
over-duty p limit a (Unkeepable rounds) w g h = h
over-duty p limit a Memory w g h = tt

fits-where : (s : Diagrams) (p : ℕ) (f : Option Formula) (t : Option Table) → IsAutomatonWhere s p f t → FitsWhere s t
fits-where s p None None a = tt
fits-where s p None (Some t) a = absurd a
fits-where s p (Some f) None a = tt
fits-where s p (Some f) (Some t) a = a.fits

agree-where : (s : Diagrams) (p : ℕ) (f : Option Formula) (t : Option Table) → IsAutomatonWhere s p f t → AgreeWhere p (claim_where s t) (traces_of p f)
agree-where s p None None a = tt
agree-where s p None (Some t) a = absurd a
agree-where s p (Some f) None a = absurd a
agree-where s p (Some f) (Some t) a = λ w over. a.same w

-- the automata fit the store, where there are such
pub keep-fits : (s : Diagrams) (p : ℕ) (a : Asked) (made : Automata) → AreAutomataOf s p a made → FitsWhere s made.keep
keep-fits s p a made are = fits-where s p a.assume made.keep are.keep

pub duty-fits : (s : Diagrams) (p : ℕ) (a : Asked) (made : Automata) → AreAutomataOf s p a made → FitsWhere s made.duty
duty-fits s p a made are = fits-where s p a.duty made.duty are.duty

-- their claims are those of the formulas
pub claims-agree : (s : Diagrams) (p : ℕ) (a : Asked) (made : Automata) → AreAutomataOf s p a made → Agree p (claims_of s made.goal made.keep made.duty) (claims_by p a)
claims-agree s p a made are = record {
  goal = λ w over. are.goal.same w;
  assumed = agree-where s p a.assume made.keep are.keep;
  duty = agree-where s p a.duty made.duty are.duty;
}

-- a formula over the limit is a cause
pub over-cause : (limit : ℕ) (parts : Partition) (a : Asked) (p : ℕ) (fault : SynthesisFault) → width parts ≡ p → IsOverIn p limit a fault → HasCause limit parts a fault
over-cause limit parts a p (TooMany role part count) e h = subst (λ q. IsFirstOverIn q limit a role part count) (sym e) h
over-cause limit parts a p (Unkeepable rounds) e h = absurd h
over-cause limit parts a p Memory e h = tt

-- that what is assumed can be violated is one
pub arena-cause : (limit : ℕ) (parts : Partition) (a : Asked) (p : ℕ) (fault : ArenaFault) → width parts ≡ p → AreWithin p limit a → IsRightFault (aims_by parts a) fault
    → HasCause limit parts a (fault_of fault)
arena-cause limit parts a p (arena.Unkeepable rounds) e within h = (subst (λ q. AreWithin q limit a) (sym e) within, h)
arena-cause limit parts a p arena.Memory e within h = tt

-- the automata that were made one after the other
pub all-automata : (s a b c : Diagrams) → Keeps s a → Keeps a b → Keeps b c → (q : Asked) (made : Automata) → IsAutomatonWhere a s.props q.assume made.keep
    → IsAutomatonOf b made.goal (whole_claim a.props q.goal q.empty) → IsAutomatonWhere c b.props q.duty made.duty → AreAutomataOf c s.props q made
all-automata s a b c j k l q made x y z = record {
  keep = where-lasts a c (Keeps_trans a b c k l) s.props q.assume made.keep x;
  goal = automaton-lasts b c l made.goal (whole_claim s.props q.goal q.empty) (subst (λ p. IsAutomatonOf b made.goal (whole_claim p q.goal q.empty)) j.extends.props y);
  duty = subst (λ p. IsAutomatonWhere c p q.duty made.duty) (k.extends.props ∙ j.extends.props) z;
}

-- and their formulas within the limit
pub all-within : (s a b : Diagrams) → Keeps s a → Keeps a b → (limit : ℕ) (q : Asked) → IsWithinWhere s.props limit q.assume → IsFormulaWithin a.props limit q.goal q.empty
    → IsWithinWhere b.props limit q.duty → AreWithin s.props limit q
all-within s a b j k limit q x y z = record {
  assume = x;
  goal = subst (λ p. IsFormulaWithin p limit q.goal q.empty) j.extends.props y;
  duty = subst (λ p. IsWithinWhere p limit q.duty) (k.extends.props ∙ j.extends.props) z;
}

-- the same, as they are handed on
pub formulas-agree : (s : Diagrams) (p w : ℕ) (a : Asked) (made : Automata) (keep duty : Option Table) → AreAutomataOf s p a made → w ≡ p → keep ≡ made.keep → duty ≡ made.duty
    → Agree w (claims_of s made.goal keep duty) (claims_by w a)
formulas-agree s p w a made keep duty are e k d =
    subst (λ z. Agree z (claims_of s made.goal keep duty) (claims_by z a)) (sym e)
    (subst (λ z. Agree p (claims_of s made.goal z duty) (claims_by p a)) (sym k)
    (subst (λ z. Agree p (claims_of s made.goal made.keep z) (claims_by p a)) (sym d) (claims-agree s p a made are)))

-- a fault of claims is one of claims that agree with them
pub right-fault-same : (p : Partition) (c d : Claims) → Agree (width p) c d → (fault : ArenaFault) → IsRightFault (aims_with p c) fault → IsRightFault (aims_with p d) fault
right-fault-same p c d agree (arena.Unkeepable rounds) h = unkeepable_same p c d agree rounds h
right-fault-same p c d agree arena.Memory h = tt

-- a strategy that is printed in the arena's partition is so in this one
pub printed-in : (q p : Partition) → q ≡ p → (x y : Claims) (m : Locations) (t : Strategy) (duty : Bool)
    → (Agree (width q) x y → is_given x.duty ≡ duty → IsArenaOf (aims_with q x) m → IsKeepable (aims_with q x) [] → IsPrintedFor (aims_with q y) t)
    → Agree (width p) x y → is_given x.duty ≡ duty → IsArenaOf (aims_with p x) m → IsKeepable (aims_with p x) [] → IsPrintedFor (aims_with p y) t
printed-in q p e x y m t duty f =
    subst (λ z. Agree (width z) x y → is_given x.duty ≡ duty → IsArenaOf (aims_with z x) m → IsKeepable (aims_with z x) [] → IsPrintedFor (aims_with z y) t) e f

-- what is assumed can be kept as well by claims that agree
pub kept-same : (p : Partition) (x y : Claims) → Agree (width p) x y → IsKeepable (aims_with p x) [] → IsKeepable (aims_with p y) []
kept-same p x y agree keep = keepable_same p x y agree [] (over-nil (width p)) keep

-- the counts of automata that were made one after the other
pub all-counted : (s a b : Diagrams) → Keeps s a → Keeps a b → (q : Asked) (made : Automata) → IsCountedWhere s.props q.assume made.keep
    → HasClassCount a.props (whole_claim a.props q.goal q.empty) (size_of made.goal) → IsCountedWhere b.props q.duty made.duty → AreCounted s.props q made
all-counted s a b j k q made x y z = record {
  keep = x;
  goal = subst (λ p. HasClassCount p (whole_claim p q.goal q.empty) (size_of made.goal)) j.extends.props y;
  duty = subst (λ p. IsCountedWhere p q.duty made.duty) (k.extends.props ∙ j.extends.props) z;
}

assumed-counted : (p : ℕ) (f : Option Formula) (t : Option Table) → IsCountedWhere p f t → IsAssumedCount p f (assumed_count t)
assumed-counted p None None x = refl
assumed-counted p None (Some t) x = absurd x
assumed-counted p (Some f) None x = absurd x
assumed-counted p (Some f) (Some t) x = x

duty-counted : (p : ℕ) (f : Option Formula) (t : Option Table) → IsCountedWhere p f t → IsDutyCount p f (duty_count t)
duty-counted p None None x = refl
duty-counted p None (Some t) x = absurd x
duty-counted p (Some f) None x = absurd x
duty-counted p (Some f) (Some t) x = (size_of t, x, refl)

-- locations are few, by the sizes of the automata
pub few-locations : (p w : ℕ) (a : Asked) (made : Automata) (keep duty : Option Table) (size : ℕ) → AreCounted p a made → w ≡ p → keep ≡ made.keep → duty ≡ made.duty
    → size ≤ size_of made.goal * assumed_count keep * duty_count duty → HasFewLocations w a size
few-locations p w a made keep duty size are e k d small = subst (λ q. HasFewLocations q a size) (sym e) (record {
  goal = size_of made.goal;
  assumed = assumed_count made.keep;
  duty = duty_count made.duty;
  goal_classes = are.goal;
  assumed_classes = assumed-counted p a.assume made.keep are.keep;
  duty_classes = duty-counted p a.duty made.duty are.duty;
  few = subst (λ z. size ≤ size_of made.goal * assumed_count made.keep * duty_count z) d (subst (λ z. size ≤ size_of made.goal * assumed_count z * duty_count duty) k small);
})
