-- A text in which nothing is refused has a specification, one with a specification is not refused, and it has just one.
use Rattle.std.proofs.Common.{◌≡◌, ℕ, ◌+◌, ◌≤◌, List, [], ◌∷◌, length, map, Option, Some, None, Bool, true, false, cond, ◌&&◌, nat_lt, arith, refl, sym, ap, ◌∙◌, append-nil, ◌↔◌}
use Rattle.std.proofs.lemmas.List.{length-map}
use Rattle.std.specs.Option.{is_some, option_map}
use Rattle.std.specs.List.{count_by}
use Rattle.std.proofs.lemmas.Bool.{ltb-false, le-ltb}
use Rattle.std.proofs.lemmas.List.Sums.{length-filter}
use Rattle.forms.specs.Tree.{Formula, And}
use Rattle.forms.specs.declared.partition.Mover.{Mover}
use Rattle.forms.specs.declared.partition.Mover.TheVariants.{Agent, Environment}
use Rattle.form_tokens.specs.declared.dialect.Dialect.{Dialect}
use Rattle.form_tokens.specs.declared.dialect.Dialect.TheVariants.{Ltlf}
use Rattle.form_tokens.specs.Names.{Table, AreNames}
use Rattle.form_tokens.specs.Spelling.{lexemes}
use Rattle.form_reader.specs.declared.fault.FormFault.{FormFault}
use Rattle.form_reader.specs.Reading.{IsFormulaOf, refusal, tokens_of}
use Rattle.form_reader.proofs.Complete.{one_tree}
use Rattle.form_reader.proofs.Outcomes.{first_fault-IsRead}
use Rattle.spec_lines.specs.Lines.{TextLine, counted_lines}
use Rattle.spec_lines.specs.Keywords.{heading_of, most_lines, values_of, lines_with, count_of, is_of}
use Rattle.spec_lines.specs.declared.keywords.Keyword.{Keyword}
use Rattle.spec_lines.specs.declared.keywords.Keyword.TheVariants as key
use Rattle.spec_lines.specs.declared.keywords.Heading.{Heading}
use Rattle.spec_lines.specs.declared.keywords.Heading.TheVariants.{Unsaid, One, Two}
use Rattle.spec_lines.specs.Values.{dialect_of, mover_of, empty_of, limit_of, most_limit, words_of}
use Rattle.spec_reader.specs.declared.spec.Key.{Key}
use Rattle.spec_reader.specs.declared.spec.Key.TheVariants as missing
use Rattle.spec_reader.specs.declared.spec.SpecFault.TheVariants as fault
use Rattle.spec_reader.specs.Shared.{longest_text, first_names, table_of}
use Rattle.spec_reader.specs.Specification.{Specification, IsGivenOr, IsConjunctionOf, AreLinesOf, IsSpecificationOf}
use Rattle.spec_reader.specs.Refusal.{moved, absence, missing_fault, form_fault, forms_fault, said_or, said_words, said_dialect, said_first, said_names, formulas_fault, lines_fault, headed_fault, after_heading, first_refusal}
use Rattle.spec_reader.specs.Said.{said_limit, said_empty}
use Rattle.spec_reader.proofs.NameCounts.{count-append, AreNames-same}
use Rattle.spec_reader.proofs.LineFaults.{or_else-None, None-or_else, all_read, lines_fault-counts, lines_fault-known, lines_fault-read, lines_fault-AreNames, given_all, words_all, given_all-count, AreRead, None-lines_fault}
use Rattle.spec_reader.proofs.FormulaLemmas.{values}

-- as many values as lines
values-length : (k : Keyword) (ls : List TextLine) → length (values_of k ls) ≡ count_of k ls
values-length k ls = length-map (lines_with k ls) (λ (line : TextLine). line.value) ∙ length-filter (is_of k) ls

-- these keys stand on one line
most-inputs : (h : Heading) → most_lines h key.Inputs ≤ 1
most-inputs Unsaid = omega arith
most-inputs One = omega arith
most-inputs Two = omega arith

most-outputs : (h : Heading) → most_lines h key.Outputs ≤ 1
most-outputs Unsaid = omega arith
most-outputs One = omega arith
most-outputs Two = omega arith

most-first : (h : Heading) → most_lines h key.First ≤ 1
most-first Unsaid = omega arith
most-first One = omega arith
most-first Two = omega arith

most-dialect : (h : Heading) → most_lines h key.Dialect ≤ 1
most-dialect Unsaid = omega arith
most-dialect One = omega arith
most-dialect Two = omega arith

most-limit : (h : Heading) → most_lines h key.Limit ≤ 1
most-limit Unsaid = omega arith
most-limit One = omega arith
most-limit Two = omega arith

most-empty : (h : Heading) → most_lines h key.Empty ≤ 1
most-empty Unsaid = omega arith
most-empty One = omega arith
most-empty Two = omega arith

-- a key that may stand on one line has one value at most
few-values : (h : Heading) (k : Keyword) (ls : List TextLine) → count_of k ls ≤ most_lines h k → most_lines h k ≤ 1 → length (values_of k ls) ≤ 1
few-values h k ls few one = omega (arith, values-length k ls)

-- the words of at most one value
words_all-one : (vs : List (List ℕ)) → length vs ≤ 1 → words_all vs ≡ said_words vs
words_all-one [] h = refl
words_all-one (v ∷ []) h = append-nil (words_of v)
words_all-one (v ∷ w ∷ vs) h = absurd (omega arith)

-- of one value the words are given
single-words : (m : Key) (vs : List (List ℕ)) → length vs ≤ 1 → absence m vs ≡ None → map words_of vs ≡ said_words vs ∷ []
single-words m [] h e = cc
single-words m (v ∷ []) h e = refl
single-words m (v ∷ w ∷ vs) h e = absurd (omega arith)

-- one value that is read is given
single-read : {A : Type 0} (m : Key) (read : List ℕ → Option A) (default : A) (vs : List (List ℕ)) → length vs ≤ 1 → absence m vs ≡ None → all_read read vs ≡ true → map read vs ≡ Some (said_or default (map read vs)) ∷ []
single-read m read default [] h e r = cc
single-read {A} m read default (v ∷ []) h e r = go (read v) r
  where
    go : (o : Option A) → (is_some o && true) ≡ true → o ∷ [] ≡ Some (said_or default (o ∷ [])) ∷ []
    go None q = cc
    go (Some x) q = refl
single-read m read default (v ∷ w ∷ vs) h e r = absurd (omega arith)

-- at most one value that is read is given, or the default is meant
given-read : {A : Type 0} (read : List ℕ → Option A) (default : A) (vs : List (List ℕ)) → length vs ≤ 1 → all_read read vs ≡ true → IsGivenOr default (map read vs) (said_or default (map read vs))
given-read read default [] h r = refl
given-read {A} read default (v ∷ []) h r = go (read v) r
  where
    go : (o : Option A) → (is_some o && true) ≡ true → o ≡ Some (said_or default (o ∷ []))
    go None q = cc
    go (Some x) q = refl
given-read read default (v ∷ w ∷ vs) h r = absurd (omega arith)

-- what is given, or meant, is what is said
given-said : {A : Type 0} (default : A) (os : List (Option A)) (x : A) → IsGivenOr default os x → x ≡ said_or default os
given-said default [] x h = h
given-said default (None ∷ []) x h = cc
given-said default (Some y ∷ []) x h = cc
given-said default (o ∷ p ∷ os) x h = absurd h

-- and is read
read-given : {A : Type 0} (read : List ℕ → Option A) (default : A) (vs : List (List ℕ)) (x : A) → IsGivenOr default (map read vs) x → all_read read vs ≡ true
read-given read default [] x h = refl
read-given read default (v ∷ []) x h = rw h refl
read-given read default (v ∷ w ∷ vs) x h = absurd h

read-single : {A : Type 0} (read : List ℕ → Option A) (vs : List (List ℕ)) (x : A) → map read vs ≡ Some x ∷ [] → all_read read vs ≡ true
read-single read [] x h = refl
read-single read (v ∷ []) x h = let e : read v ≡ Some x = cc in rw e refl
read-single read (v ∷ w ∷ vs) x h = cc

-- a key with a value isn't missing
absence-map : {A : Type 0} (m : Key) (f : List ℕ → A) (vs : List (List ℕ)) (x : A) → map f vs ≡ x ∷ [] → absence m vs ≡ None
absence-map m f [] x h = cc
absence-map m f (v ∷ vs) x h = refl

absence-goal : (d : Dialect) (names : Table) (vs : List (List ℕ)) (f : Formula) → IsConjunctionOf d names vs (Some f) → absence missing.Goal vs ≡ None
absence-goal d names [] f h = cc
absence-goal d names (v ∷ vs) f h = refl

-- the names of both sides, in either order, are counted as those of all lines
sides-count : (h : Heading) (m : Mover) (ls : List TextLine) (p : List ℕ → Bool) → length (values_of key.Inputs ls) ≤ 1 → length (values_of key.Outputs ls) ≤ 1 → count_by p (given_all [] ls) ≡ count_by p (first_names m (said_words (values_of key.Inputs ls)) (said_words (values_of key.Outputs ls)))
sides-count h m ls p one two =
    let all = given_all-count p [] ls in
    let ins = ap (count_by p) (words_all-one (values_of key.Inputs ls) one) in
    let outs = ap (count_by p) (words_all-one (values_of key.Outputs ls) two) in
    go m all ins outs
  where
    go : (m : Mover) → count_by p (given_all [] ls) ≡ count_by p [] + (count_by p (words_all (values_of key.Inputs ls)) + count_by p (words_all (values_of key.Outputs ls)))
        → count_by p (words_all (values_of key.Inputs ls)) ≡ count_by p (said_words (values_of key.Inputs ls)) → count_by p (words_all (values_of key.Outputs ls)) ≡ count_by p (said_words (values_of key.Outputs ls))
        → count_by p (given_all [] ls) ≡ count_by p (first_names m (said_words (values_of key.Inputs ls)) (said_words (values_of key.Outputs ls)))
    go Agent a b c = omega (arith, count-append p (said_words (values_of key.Outputs ls)) (said_words (values_of key.Inputs ls)))
    go Environment a b c = omega (arith, count-append p (said_words (values_of key.Inputs ls)) (said_words (values_of key.Outputs ls)))

no_names : AreNames []
no_names = record { few = omega arith; valid = λ k d h. absurd (omega arith); different = tt }

-- the names of both sides of good lines are names
pub sides-AreNames : (h : Heading) (m : Mover) (ls : List TextLine) → lines_fault h [] [] ls ≡ None → AreNames (first_names m (said_words (values_of key.Inputs ls)) (said_words (values_of key.Outputs ls)))
sides-AreNames h m ls e =
    let one = few-values h key.Inputs ls (lines_fault-counts h key.Inputs [] [] ls e (omega arith)) (most-inputs h) in
    let two = few-values h key.Outputs ls (lines_fault-counts h key.Outputs [] [] ls e (omega arith)) (most-outputs h) in
    AreNames-same _ _ (λ p. sides-count h m ls p one two) (lines_fault-AreNames h [] [] ls e no_names)

-- what is left to say of lines that are good: the names and the partition, and the formulas
pub record AreLaterOf (ls : List TextLine) (spec : Specification) : Type 0 where
  pub names : spec.names ≡ said_names ls
  pub first : spec.partition.first ≡ said_first ls
  pub inputs : spec.partition.inputs ≡ length (said_words (values_of key.Inputs ls))
  pub outputs : spec.partition.outputs ≡ length (said_words (values_of key.Outputs ls))
  pub dialect : spec.dialect ≡ said_dialect ls
  pub empty : spec.empty ≡ said_empty ls
  pub assume : IsConjunctionOf spec.dialect (table_of spec.names) (values_of key.Assume ls) spec.assume
  pub goal : IsConjunctionOf spec.dialect (table_of spec.names) (values_of key.Goal ls) (Some spec.goal)
  pub duty : IsConjunctionOf spec.dialect (table_of spec.names) (values_of key.Duty ls) spec.duty

record ArePresent (ls : List TextLine) : Type 0 where
  inputs : absence missing.Inputs (values_of key.Inputs ls) ≡ None
  outputs : absence missing.Outputs (values_of key.Outputs ls) ≡ None
  first : absence missing.First (values_of key.First ls) ≡ None
  goal : absence missing.Goal (values_of key.Goal ls) ≡ None

present : (ls : List TextLine) → missing_fault ls ≡ None → ArePresent ls
present ls e =
    let a = or_else-None (absence missing.Inputs (values_of key.Inputs ls)) _ e in
    let b = or_else-None (absence missing.Outputs (values_of key.Outputs ls)) _ a.1 in
    let c = or_else-None (absence missing.First (values_of key.First ls)) _ b.1 in
    record { inputs = a.0; outputs = b.0; first = c.0; goal = c.1 }

-- good lines are those of the specification that they say
pub good-AreLinesOf : (h : Heading) (ls : List TextLine) (spec : Specification) → heading_of ls ≡ Some h → lines_fault h [] [] ls ≡ None → missing_fault ls ≡ None → AreLaterOf ls spec → spec.limit ≡ said_limit h ls → AreLinesOf h ls spec
good-AreLinesOf h ls spec headed good some later limit =
    let there = present ls some in
    let few : (k : Keyword) → count_of k ls ≤ most_lines h k = λ k. lines_fault-counts h k [] [] ls good (omega arith) in
    let mover = later.first in
    let names = later.names in
    let dialect = later.dialect in
    let empty = later.empty in
    record {
      inputs = said_words (values_of key.Inputs ls);
      outputs = said_words (values_of key.Outputs ls);
      headed = headed;
      known = lines_fault-known h [] [] ls good;
      counts = few;
      given_inputs = single-words missing.Inputs (values_of key.Inputs ls) (few-values h key.Inputs ls (few key.Inputs) (most-inputs h)) there.inputs;
      given_outputs = single-words missing.Outputs (values_of key.Outputs ls) (few-values h key.Outputs ls (few key.Outputs) (most-outputs h)) there.outputs;
      valid = rw names (sides-AreNames h (said_first ls) ls good);
      first = rw mover (single-read missing.First mover_of Agent (values_of key.First ls) (few-values h key.First ls (few key.First) (most-first h)) there.first (lines_fault-read mover_of h key.First (λ given l. refl) [] [] ls good));
      numbered = names ∙ ap (λ m. first_names m (said_words (values_of key.Inputs ls)) (said_words (values_of key.Outputs ls))) (sym mover);
      input_count = later.inputs;
      output_count = later.outputs;
      dialect = rw dialect (given-read dialect_of Ltlf (values_of key.Dialect ls) (few-values h key.Dialect ls (few key.Dialect) (most-dialect h)) (lines_fault-read dialect_of h key.Dialect (λ given l. refl) [] [] ls good));
      limit = rw limit (given-read (limit_of (most_limit h)) 1024 (values_of key.Limit ls) (few-values h key.Limit ls (few key.Limit) (most-limit h)) (lines_fault-read (limit_of (most_limit h)) h key.Limit (λ given l. refl) [] [] ls good));
      empty = rw empty (given-read empty_of false (values_of key.Empty ls) (few-values h key.Empty ls (few key.Empty) (most-empty h)) (lines_fault-read empty_of h key.Empty (λ given l. refl) [] [] ls good));
      assume = later.assume;
      goal = later.goal;
      duty = later.duty;
    }

-- a line whose text is that of a formula has no fault
form_fault-formula : (d : Dialect) (names : Table) (l : TextLine) (f : Formula) → IsFormulaOf d names l.value f → form_fault d names l ≡ None
form_fault-formula d names l f h = let none = (first_fault-IsRead names.closed names.names (lexemes d l.value)).1 (f, h) in rw none refl

-- the lines of a conjunction have no fault
forms_fault-conjunction : (d : Dialect) (names : Table) (ls : List TextLine) (o : Option Formula) → IsConjunctionOf d names (values ls) o → forms_fault d names ls ≡ None
forms_fault-conjunction d names [] o h = refl
forms_fault-conjunction d names (l ∷ []) o h = None-or_else _ _ (form_fault-formula d names l h.0 h.2) refl
forms_fault-conjunction d names (l ∷ m ∷ ls) o h = None-or_else _ _ (form_fault-formula d names l h.0 h.3) (forms_fault-conjunction d names (m ∷ ls) (Some h.1) h.4)

-- a line without a fault is the text of a formula
formula-form_fault : (d : Dialect) (names : Table) (l : TextLine) → form_fault d names l ≡ None → (f : Formula) × IsFormulaOf d names l.value f
formula-form_fault d names l e = (first_fault-IsRead names.closed names.names (lexemes d l.value)).0 (go (refusal d names l.value) e)
  where
    go : (o : Option FormFault) → option_map (λ x. fault.Form l.number (moved l.before x)) o ≡ None → o ≡ None
    go None h = refl
    go (Some x) h = cc

-- lines without a fault have a conjunction
conjunction-some : (d : Dialect) (names : Table) (l : TextLine) (ls : List TextLine) → forms_fault d names (l ∷ ls) ≡ None → (f : Formula) × IsConjunctionOf d names (values (l ∷ ls)) (Some f)
conjunction-some d names l [] e =
    let a = formula-form_fault d names l (or_else-None (form_fault d names l) _ e).0 in
    (a.0, (a.0, refl, a.1))
conjunction-some d names l (m ∷ ls) e =
    let parts = or_else-None (form_fault d names l) _ e in
    let a = formula-form_fault d names l parts.0 in
    let b = conjunction-some d names m ls parts.1 in
    (And a.0 b.0, (a.0, b.0, refl, a.1, b.1))

conjunction-any : (d : Dialect) (names : Table) (ls : List TextLine) → forms_fault d names ls ≡ None → (o : Option Formula) × IsConjunctionOf d names (values ls) o
conjunction-any d names [] e = (None, refl)
conjunction-any d names (l ∷ ls) e = let a = conjunction-some d names l ls e in (Some a.0, a.1)

conjunction-goal : (d : Dialect) (names : Table) (ls : List TextLine) → absence missing.Goal (values ls) ≡ None → forms_fault d names ls ≡ None → (f : Formula) × IsConjunctionOf d names (values ls) (Some f)
conjunction-goal d names [] some e = cc
conjunction-goal d names (l ∷ ls) some e = conjunction-some d names l ls e

-- a text is that of one formula
one_formula : (d : Dialect) (names : Table) (text : List ℕ) (f g : Formula) → IsFormulaOf d names text f → IsFormulaOf d names text g → f ≡ g
one_formula d names text f g h k = one_tree (tokens_of d names text) f g h.1.0 k.1.0

-- texts have one conjunction
one_conjunction : (d : Dialect) (names : Table) (vs : List (List ℕ)) (o p : Option Formula) → IsConjunctionOf d names vs o → IsConjunctionOf d names vs p → o ≡ p
one_conjunction d names [] o p h k = h ∙ sym k
one_conjunction d names (v ∷ []) o p h k = h.1 ∙ ap (λ f. Some f) (one_formula d names v h.0 k.0 h.2 k.2) ∙ sym k.1
one_conjunction d names (v ∷ w ∷ vs) o p h k =
    let first = one_formula d names v h.0 k.0 h.3 k.3 in
    let rest : h.1 ≡ k.1 = (let same = one_conjunction d names (w ∷ vs) (Some h.1) (Some k.1) h.4 k.4 in cc) in
    h.2 ∙ (λ i. Some (And (first i) (rest i))) ∙ sym k.2

-- what lines of a specification say
record Said (h : Heading) (ls : List TextLine) (spec : Specification) : Type 0 where
  mover : spec.partition.first ≡ said_first ls
  names : spec.names ≡ said_names ls
  input_count : spec.partition.inputs ≡ length (said_words (values_of key.Inputs ls))
  output_count : spec.partition.outputs ≡ length (said_words (values_of key.Outputs ls))
  dialect : spec.dialect ≡ said_dialect ls
  limit : spec.limit ≡ said_limit h ls
  empty : spec.empty ≡ said_empty ls

said-words : (vs : List (List ℕ)) (x : List (List ℕ)) → map words_of vs ≡ x ∷ [] → x ≡ said_words vs
said-words [] x h = cc
said-words (v ∷ []) x h = cc
said-words (v ∷ w ∷ vs) x h = cc

said : (h : Heading) (ls : List TextLine) (spec : Specification) → AreLinesOf h ls spec → Said h ls spec
said h ls spec k =
    let mover : spec.partition.first ≡ said_first ls = sym (ap (said_or Agent) k.first) in
    let ins = said-words (values_of key.Inputs ls) k.inputs k.given_inputs in
    let outs = said-words (values_of key.Outputs ls) k.outputs k.given_outputs in
    record {
      mover = mover;
      names = k.numbered ∙ (λ i. first_names (mover i) (ins i) (outs i));
      input_count = k.input_count ∙ ap length ins;
      output_count = k.output_count ∙ ap length outs;
      dialect = given-said Ltlf (map dialect_of (values_of key.Dialect ls)) spec.dialect k.dialect;
      limit = given-said 1024 (map (limit_of (most_limit h)) (values_of key.Limit ls)) spec.limit k.limit;
      empty = given-said false (map empty_of (values_of key.Empty ls)) spec.empty k.empty;
    }

-- a conjunction with what lines say
conjunction-said : (d e : Dialect) (names ns : List (List ℕ)) (vs : List (List ℕ)) (o : Option Formula) → d ≡ e → names ≡ ns → IsConjunctionOf d (table_of names) vs o → IsConjunctionOf e (table_of ns) vs o
conjunction-said d e names ns vs o p q h = rw (sym p, sym q) h

-- lines are those of one specification
lines-one : (h : Heading) (ls : List TextLine) (s t : Specification) → AreLinesOf h ls s → AreLinesOf h ls t → s ≡ t
lines-one h ls s t a b =
    let p = said h ls s a in
    let q = said h ls t b in
    let k : (vs : List (List ℕ)) (o : Option Formula) → IsConjunctionOf s.dialect (table_of s.names) vs o → IsConjunctionOf (said_dialect ls) (table_of (said_names ls)) vs o = λ vs o x. conjunction-said _ _ _ _ vs o p.dialect p.names x in
    let m : (vs : List (List ℕ)) (o : Option Formula) → IsConjunctionOf t.dialect (table_of t.names) vs o → IsConjunctionOf (said_dialect ls) (table_of (said_names ls)) vs o = λ vs o x. conjunction-said _ _ _ _ vs o q.dialect q.names x in
    let one : (vs : List (List ℕ)) (o r : Option Formula) → IsConjunctionOf (said_dialect ls) (table_of (said_names ls)) vs o → IsConjunctionOf (said_dialect ls) (table_of (said_names ls)) vs r → o ≡ r = one_conjunction (said_dialect ls) (table_of (said_names ls)) in
    let names = p.names ∙ sym q.names in
    let mover = p.mover ∙ sym q.mover in
    let ins = p.input_count ∙ sym q.input_count in
    let outs = p.output_count ∙ sym q.output_count in
    let dialect = p.dialect ∙ sym q.dialect in
    let limit = p.limit ∙ sym q.limit in
    let empty = p.empty ∙ sym q.empty in
    let assumed = one _ _ _ (k _ _ a.assume) (m _ _ b.assume) in
    let goal : s.goal ≡ t.goal = (let some = one _ _ _ (k _ _ a.goal) (m _ _ b.goal) in cc) in
    let duty = one _ _ _ (k _ _ a.duty) (m _ _ b.duty) in
    λ i. record {
      names = names i;
      partition = record { first = mover i; inputs = ins i; outputs = outs i };
      dialect = dialect i;
      assume = assumed i;
      goal = goal i;
      limit = limit i;
      empty = empty i;
      duty = duty i;
    }

-- a text is that of one specification
pub one_specification : (text : List ℕ) (s t : Specification) → IsSpecificationOf text s → IsSpecificationOf text t → s ≡ t
one_specification text s t a b =
    let same : b.heading ≡ a.heading = (let x = a.lines.headed in let y = b.lines.headed in cc) in
    lines-one a.heading (counted_lines text) s t a.lines (rw same at b.lines)

-- lines of a specification have no fault
lines-unrefused : (h : Heading) (ls : List TextLine) (spec : Specification) → AreLinesOf h ls spec → headed_fault h ls ≡ None
lines-unrefused h ls spec k =
    let p = said h ls spec k in
    let names = p.names in
    let valid : AreNames (said_names ls) = rw names at k.valid in
    let one = few-values h key.Inputs ls (k.counts key.Inputs) (most-inputs h) in
    let two = few-values h key.Outputs ls (k.counts key.Outputs) (most-outputs h) in
    let all = AreNames-same _ _ (λ t. sym (sides-count h (said_first ls) ls t one two)) valid in
    let read : AreRead h ls = record {
      dialect = read-given dialect_of Ltlf (values_of key.Dialect ls) spec.dialect k.dialect;
      first = read-single mover_of (values_of key.First ls) spec.partition.first k.first;
      limit = read-given (limit_of (most_limit h)) 1024 (values_of key.Limit ls) spec.limit k.limit;
      empty = read-given empty_of false (values_of key.Empty ls) spec.empty k.empty;
    } in
    let good = None-lines_fault h [] [] ls k.known k.counts read all in
    let some : missing_fault ls ≡ None =
    None-or_else _ _ (absence-map missing.Inputs words_of (values_of key.Inputs ls) k.inputs k.given_inputs)
    (None-or_else _ _ (absence-map missing.Outputs words_of (values_of key.Outputs ls) k.outputs k.given_outputs)
    (None-or_else _ _ (absence-map missing.First mover_of (values_of key.First ls) (Some spec.partition.first) k.first)
    (absence-goal spec.dialect (table_of spec.names) (values_of key.Goal ls) spec.goal k.goal))) in
    let formulas : formulas_fault (said_dialect ls) (table_of (said_names ls)) ls ≡ None =
    None-or_else _ _ (forms_fault-conjunction (said_dialect ls) (table_of (said_names ls)) (lines_with key.Assume ls) spec.assume (conjunction-said _ _ _ _ _ _ p.dialect names k.assume))
    (None-or_else _ _ (forms_fault-conjunction (said_dialect ls) (table_of (said_names ls)) (lines_with key.Goal ls) (Some spec.goal) (conjunction-said _ _ _ _ _ _ p.dialect names k.goal))
    (forms_fault-conjunction (said_dialect ls) (table_of (said_names ls)) (lines_with key.Duty ls) spec.duty (conjunction-said _ _ _ _ _ _ p.dialect names k.duty))) in
    None-or_else _ _ good (None-or_else _ _ some formulas)

-- a text with a specification is not refused
pub unrefused : (text : List ℕ) (spec : Specification) → IsSpecificationOf text spec → first_refusal text ≡ None
unrefused text spec k =
    let short : nat_lt longest_text (length text) ≡ false = le-ltb longest_text (length text) k.short in
    let headed = k.lines.headed in
    rw (short, headed) (lines-unrefused k.heading (counted_lines text) spec k.lines)

-- lines without a fault are those of a specification
some-lines : (h : Heading) (ls : List TextLine) → heading_of ls ≡ Some h → headed_fault h ls ≡ None → (spec : Specification) × AreLinesOf h ls spec
some-lines h ls headed e =
    let parts = or_else-None (lines_fault h [] [] ls) _ e in
    let later = or_else-None (missing_fault ls) _ parts.1 in
    let d = said_dialect ls in
    let names = table_of (said_names ls) in
    let assumed = or_else-None (forms_fault d names (lines_with key.Assume ls)) _ later.1 in
    let others = or_else-None (forms_fault d names (lines_with key.Goal ls)) _ assumed.1 in
    let a = conjunction-any d names (lines_with key.Assume ls) assumed.0 in
    let g = conjunction-goal d names (lines_with key.Goal ls) (present ls later.0).goal others.0 in
    let u = conjunction-any d names (lines_with key.Duty ls) others.1 in
    let spec : Specification = record {
      names = said_names ls;
      partition = record { first = said_first ls; inputs = length (said_words (values_of key.Inputs ls)); outputs = length (said_words (values_of key.Outputs ls)) };
      dialect = d;
      assume = a.0;
      goal = g.0;
      limit = said_limit h ls;
      empty = said_empty ls;
      duty = u.0;
    } in
    (spec, good-AreLinesOf h ls spec headed parts.0 later.0 (record { names = refl; first = refl; inputs = refl; outputs = refl; dialect = refl; empty = refl; assume = a.1; goal = g.1; duty = u.1 }) refl)

-- a text that is not refused is that of a specification
pub some_specification : (text : List ℕ) → first_refusal text ≡ None → (spec : Specification) × IsSpecificationOf text spec
some_specification text e = size (nat_lt longest_text (length text)) refl e
  where
    headed : (o : Option Heading) → heading_of (counted_lines text) ≡ o → length text ≤ longest_text → after_heading o (counted_lines text) ≡ None → (spec : Specification) × IsSpecificationOf text spec
    headed None f short d = cc
    headed (Some h) f short d =
        let s = some-lines h (counted_lines text) f d in
        (s.0, record { short = short; heading = h; lines = s.1 })

    size : (b : Bool) → nat_lt longest_text (length text) ≡ b → cond b (Some fault.TooLong) (after_heading (heading_of (counted_lines text)) (counted_lines text)) ≡ None → (spec : Specification) × IsSpecificationOf text spec
    size true f d = cc
    size false f d = headed (heading_of (counted_lines text)) refl (ltb-false longest_text (length text) f) d

-- a text in which nothing is refused has a specification, and the other way round
pub complete : (text : List ℕ) → (first_refusal text ≡ None) ↔ ((spec : Specification) × IsSpecificationOf text spec)
complete text = (some_specification text, λ h. unrefused text h.0 h.1)

-- a goal is not missing
pub present-goal : (ls : List TextLine) → missing_fault ls ≡ None → absence missing.Goal (values_of key.Goal ls) ≡ None
present-goal ls e = (present ls e).goal
