-- A specification file is answered in one way.
use Rattle.std.proofs.Common.{◌≡◌, ◌<◌, ℕ, List, [], Option, Some, None, sym, ◌∙◌, ap, subst}
use Rattle.game.specs.Board.{width}
use Rattle.game.specs.Histories.{IsKeepable, ViolatesWithin}
use Rattle.game.proofs.LeastLemmas.{one_least}
use Rattle.printed_strategy.specs.Strategy.{Strategy}
use Rattle.printed_strategy.specs.Printed.{IsPrintedFor}
use Rattle.printed_strategy.specs.StrategyText.{strategy_text}
use Rattle.printed_strategy.proofs.OnePrinted.{only_printed}
use Rattle.printed_strategy.proofs.OneText.{same_text}
use Rattle.spec_reader.specs.declared.spec.SpecFault.{SpecFault}
use Rattle.spec_reader.specs.Specification.{Specification, IsSpecificationOf}
use Rattle.spec_reader.specs.Refusal.{first_refusal}
use Rattle.spec_reader.proofs.SpecLemmas.{one_specification, unrefused}
use Rattle.legality.specs.Legal.{IsLeastViolation}
use Rattle.synthesis.specs.Formulas.{IsFirstOverIn}
use Rattle.synthesis.proofs.OverLemmas.{one-over, over-not-within}
use Rattle.command_endings.specs.declared.endings.Refusal.TheVariants as refusal
use Rattle.command_endings.specs.Endings.{status_of}
use Rattle.command_endings.specs.Replies.{Reply, refusing}
use Rattle.command_endings.specs.Worlds.{Contents}
use Rattle.synth_command.proofs.SynthLemmas.{verdict-few}
use Rattle.synth_command.specs.Synthesis.{aims_of, asked_of, IsWithinLimit, concern_of, verdict_ending, SynthAnswers, refused, too_many, breakable, synthesised, synth_task}

none-or-some : {A : Type 0} → (o : Option A) (x : A) → o ≡ None → o ≡ Some x → ⊥
none-or-some o x e f = let g : None ≡ Some x = sym e ∙ f in cc

-- a specification is not refused
not-refused : (bytes : List ℕ) (spec : Specification) (why : SpecFault) → IsSpecificationOf bytes spec → first_refusal bytes ≡ Some why → ⊥
not-refused bytes spec why is e = none-or-some (first_refusal bytes) why (unrefused bytes spec is) e

-- a specification of the same bytes is the same
moved : (bytes : List ℕ) (s t : Specification) → IsSpecificationOf bytes s → IsSpecificationOf bytes t → (P : Specification → Type 0) → P t → P s
moved bytes s t x y P p = subst P (sym (one_specification bytes s t x y)) p

violated-or-kept : (spec : Specification) (rounds : ℕ) → IsLeastViolation (aims_of spec) rounds → IsKeepable (aims_of spec) [] → ⊥
violated-or-kept spec rounds least kept = kept rounds least.holds

-- what is answered by a strategy
abbrev reply_of : List (List ℕ) → Strategy → Reply
reply_of names t = record { output = strategy_text names t; ending = verdict_ending t.verdict }

-- two texts of one specification
texts-one : (spec : Specification) (t u : Strategy) → IsPrintedFor (aims_of spec) t → IsPrintedFor (aims_of spec) u → reply_of spec.names t ≡ reply_of spec.names u
texts-one spec t u x y =
    let same = only_printed (aims_of spec) u y t x in
    ap (λ z. record { output = z; ending = verdict_ending t.verdict }) (same_text t u same spec.names)
    ∙ ap (λ v. record { output = strategy_text spec.names u; ending = verdict_ending v }) same.verdict

-- one reply
pub one-answer : (bytes : List ℕ) {c d : Reply} → SynthAnswers bytes c → SynthAnswers bytes d → c ≡ d
one-answer bytes (refused {why = v} x) (refused {why = w} y) =
    let e : v ≡ w = let f : Some v ≡ Some w = sym x ∙ y in cc in ap (λ z. refusing (refusal.Specification z)) e
one-answer bytes (refused {why = v} x) (too_many t r i m y over) = absurd (not-refused bytes t v y x)
one-answer bytes (refused {why = v} x) (breakable t y within least) = absurd (not-refused bytes t v y x)
one-answer bytes (refused {why = v} x) (synthesised t u y within kept printed) = absurd (not-refused bytes t v y x)
one-answer bytes (too_many s r i m x over) (refused {why = v} y) = absurd (not-refused bytes s v x y)
one-answer bytes (too_many s r i m x over) (too_many t q j n y more) =
    let e = one_specification bytes s t x y in
    let there : IsFirstOverIn (width s.partition) s.limit (asked_of s) q j n = moved bytes s t x y (λ z. IsFirstOverIn (width z.partition) z.limit (asked_of z) q j n) more in
    let f = one-over (width s.partition) s.limit (asked_of s) r q i j m n over there in
    ap (λ z. refusing (refusal.TooMany (concern_of z) i m s.limit)) f.0
    ∙ ap (λ z. refusing (refusal.TooMany (concern_of q) z m s.limit)) f.1
    ∙ ap (λ z. refusing (refusal.TooMany (concern_of q) j z s.limit)) f.2
    ∙ ap (λ (z : Specification). refusing (refusal.TooMany (concern_of q) j n z.limit)) e
one-answer bytes (too_many s r i m x over) (breakable t y within least) =
    absurd (over-not-within (width s.partition) s.limit (asked_of s) r i m over (moved bytes s t x y IsWithinLimit within))
one-answer bytes (too_many s r i m x over) (synthesised t u y within kept printed) =
    absurd (over-not-within (width s.partition) s.limit (asked_of s) r i m over (moved bytes s t x y IsWithinLimit within))
one-answer bytes (breakable s x within least) (refused {why = v} y) = absurd (not-refused bytes s v x y)
one-answer bytes (breakable s x within least) (too_many t r i m y over) =
    absurd (over-not-within (width t.partition) t.limit (asked_of t) r i m over (moved bytes t s y x IsWithinLimit within))
one-answer bytes (breakable {rounds = m} s x within least) (breakable {rounds = n} t y other few) =
    let there : IsLeastViolation (aims_of s) n = moved bytes s t x y (λ z. IsLeastViolation (aims_of z) n) few in
    ap (λ z. refusing (refusal.Breakable z)) (one_least (λ k. ViolatesWithin (aims_of s) k []) m n least there)
one-answer bytes (breakable {rounds = m} s x within least) (synthesised t u y other kept printed) =
    absurd (violated-or-kept s m least (moved bytes s t x y (λ z. IsKeepable (aims_of z) []) kept))
one-answer bytes (synthesised s t x within kept printed) (refused {why = v} y) = absurd (not-refused bytes s v x y)
one-answer bytes (synthesised s t x within kept printed) (too_many u r i m y over) =
    absurd (over-not-within (width u.partition) u.limit (asked_of u) r i m over (moved bytes u s y x IsWithinLimit within))
one-answer bytes (synthesised s t x within kept printed) (breakable {rounds = m} u y other least) =
    absurd (violated-or-kept u m least (moved bytes u s y x (λ z. IsKeepable (aims_of z) []) kept))
one-answer bytes (synthesised s t x within kept printed) (synthesised r u y other held also) =
    let e = one_specification bytes s r x y in
    texts-one s t u printed (moved bytes s r x y (λ z. IsPrintedFor (aims_of z) u) also)
    ∙ ap (λ names. reply_of names u) (ap (λ (z : Specification). z.names) e)

-- the task asks for one thing
pub one-synth : (name : List ℕ) (files : Contents) (rest : List ℕ) (c d : Reply) → (synth_task name).answers files rest c → (synth_task name).answers files rest d → c ≡ d
one-synth name files rest c d (b, x, asked) (e, y, also) =
    let same : b ≡ e = let f : Some b ≡ Some e = sym x ∙ y in cc in
    one-answer b asked (subst (λ z. SynthAnswers z d) (sym same) also)

answered : (bytes : List ℕ) (spec : Specification) → IsSpecificationOf bytes spec → IsWithinLimit spec → IsKeepable (aims_of spec) [] → {reply : Reply} → SynthAnswers bytes reply
    → status_of reply.ending < 2
answered bytes spec is within kept (refused {why = w} x) = absurd (not-refused bytes spec w is x)
answered bytes spec is within kept (too_many s r i m x over) =
    absurd (over-not-within (width s.partition) s.limit (asked_of s) r i m over (moved bytes s spec x is IsWithinLimit within))
answered bytes spec is within kept (breakable {rounds = m} s x other least) =
    absurd (violated-or-kept s m least (moved bytes s spec x is (λ z. IsKeepable (aims_of z) []) kept))
answered bytes spec is within kept (synthesised s t x other also printed) = verdict-few t.verdict

-- a specification within its limit, in which what is assumed can be kept, is answered
pub answered-specification : (name : List ℕ) (files : Contents) (rest : List ℕ) (reply : Reply) → (synth_task name).accepts files rest → (synth_task name).answers files rest reply → status_of reply.ending < 2
answered-specification name files rest reply (b, x, spec, is, within, kept) (e, y, asked) =
    let same : e ≡ b = let f : Some e ≡ Some b = sym y ∙ x in cc in
    answered b spec is within kept (subst (λ z. SynthAnswers z reply) same asked)
