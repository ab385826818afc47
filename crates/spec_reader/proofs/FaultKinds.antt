-- No formula of a file has a name too many, since its names are declared.
use Rattle.std.proofs.Common.{◌≡◌, ℕ, ◌+◌, List, [], ◌∷◌, ◌++◌, Option, Some, None, Result, Ok, Err, Bool, true, false, cond, not, nat_le, nat_lt, nat_eq, length}
use Rattle.std.specs.Prelude.{IfErr}
use Rattle.std.specs.Option.{IfSome, option_map}
use Rattle.form_tokens.specs.declared.dialect.Dialect.{Dialect}
use Rattle.form_tokens.specs.declared.name_fault.NameFault.{NameFault}
use Rattle.form_tokens.specs.declared.name_fault.NameFault.TheVariants as name_faults
use Rattle.form_tokens.specs.Names.{is_listed, name_refusal}
use Rattle.form_tokens.specs.Spelling.{Lexeme, Sign, Word, Bad, lexemes}
use Rattle.form_reader.specs.declared.fault.FormFault.{FormFault}
use Rattle.form_reader.specs.declared.fault.FormFault.TheVariants as faults
use Rattle.form_reader.specs.Faults.{token_of, names_with, is_bad, most_tokens, name_fault, fault_at, first_fault, or_else}
use Rattle.form_reader.specs.Waiting.{most_waiting}
use Rattle.form_reader.specs.Admitted.{Scan, start, admits, after, may_end}
use Rattle.form_reader.specs.Reading.{refusal}
use Rattle.spec_lines.specs.Lines.{TextLine, counted_lines}
use Rattle.spec_lines.specs.Keywords.{keyword_of, heading_of, most_lines, lines_with, values_of, count_of}
use Rattle.spec_lines.specs.declared.keywords.Keyword.{Keyword}
use Rattle.spec_lines.specs.declared.keywords.Keyword.TheVariants as key
use Rattle.spec_lines.specs.declared.keywords.Heading.{Heading}
use Rattle.spec_lines.specs.Values.{dialect_of, mover_of, empty_of, limit_of, most_limit, words_of}
use Rattle.spec_reader.specs.declared.spec.Spec.{Spec}
use Rattle.spec_reader.specs.declared.spec.Key.{Key}
use Rattle.spec_reader.specs.declared.spec.Key.TheVariants as missing
use Rattle.spec_reader.specs.declared.spec.SpecFault.{SpecFault}
use Rattle.spec_reader.specs.declared.spec.SpecFault.TheVariants as fault
use Rattle.spec_reader.specs.Shared.{longest_text, table_of}
use Rattle.spec_reader.specs.Refusal as of
use Rattle.spec_reader.specs.Refusal.{Blames, first_refusal}
use Rattle.spec_reader.specs.Answer.{IsOfDeclared, CanBeTold}

IfSome-first : (o p : Option FormFault) → IfSome o IsOfDeclared → IfSome p IsOfDeclared → IfSome (or_else o p) IsOfDeclared
IfSome-first None p h k = k
IfSome-first (Some e) p h k = h

name_fault-told : (ns : List (List ℕ)) (at : ℕ) (w : Lexeme) → IfSome (name_fault true ns at w) IsOfDeclared
name_fault-told ns at (Sign t) = tt
name_fault-told ns at Bad = tt
name_fault-told ns at (Word w) = go (is_listed ns w)
  where
    go : (b : Bool) → IfSome (cond b None (Some (faults.Undeclared at))) IsOfDeclared
    go true = tt
    go false = tt

fault_at-told : (ns : List (List ℕ)) (count : ℕ) (g : Scan) (l : ℕ × Lexeme) → IfSome (fault_at true ns count g l) IsOfDeclared
fault_at-told ns count g l = go (is_bad l.1) (nat_le most_tokens count) (not (admits g (token_of ns l.1))) (nat_lt most_waiting (length (after g (token_of ns l.1)).waits))
  where
    go : (a b c d : Bool) → IfSome (cond a (Some (faults.BadByte l.0)) (cond b (Some (faults.TooManyTokens l.0)) (cond c (Some (faults.Unexpected l.0)) (cond d (Some (faults.TooDeep l.0)) (name_fault true ns l.0 l.1))))) IsOfDeclared
    go true b c d = tt
    go false true c d = tt
    go false false true d = tt
    go false false false true = tt
    go false false false false = name_fault-told ns l.0 l.1

first_fault-told : (ns : List (List ℕ)) (count : ℕ) (g : Scan) (ls : List (ℕ × Lexeme)) → IfSome (first_fault true ns count g ls) IsOfDeclared
first_fault-told ns count g [] = go (may_end g)
  where
    go : (b : Bool) → IfSome (cond b None (Some faults.Unfinished)) IsOfDeclared
    go true = tt
    go false = tt
first_fault-told ns count g (l ∷ ls) =
    IfSome-first (fault_at true ns count g l) _ (fault_at-told ns count g l) (first_fault-told (names_with ns l.1) (count + 1) (after g (token_of ns l.1)) ls)

moved-told : (number before : ℕ) (o : Option FormFault) → IfSome o IsOfDeclared → IfSome (option_map (λ e. fault.Form number (of.moved before e)) o) CanBeTold
moved-told number before None h = tt
moved-told number before (Some (faults.BadByte at)) h = tt
moved-told number before (Some (faults.Unexpected at)) h = tt
moved-told number before (Some faults.Unfinished) h = tt
moved-told number before (Some (faults.TooDeep at)) h = tt
moved-told number before (Some (faults.TooManyTokens at)) h = tt
moved-told number before (Some (faults.TooManyNames at)) h = h
moved-told number before (Some (faults.Undeclared at)) h = tt
moved-told number before (Some faults.Memory) h = h

or_else-told : (o p : Option SpecFault) → IfSome o CanBeTold → IfSome p CanBeTold → IfSome (of.or_else o p) CanBeTold
or_else-told None p h k = k
or_else-told (Some e) p h k = h

forms_fault-told : (d : Dialect) (names : List (List ℕ)) (ls : List TextLine) → IfSome (of.forms_fault d (table_of names) ls) CanBeTold
forms_fault-told d names [] = tt
forms_fault-told d names (l ∷ ls) =
    or_else-told (of.form_fault d (table_of names) l) _ (moved-told l.number l.before (refusal d (table_of names) l.value) (first_fault-told names 0 start (lexemes d l.value))) (forms_fault-told d names ls)

absence-told : (k : Key) (vs : List (List ℕ)) → IfSome (of.absence k vs) CanBeTold
absence-told k [] = tt
absence-told k (v ∷ vs) = tt

later_fault-told : (ls : List TextLine) → IfSome (of.later_fault ls) CanBeTold
later_fault-told ls =
    or_else-told (of.missing_fault ls) _
    (or_else-told _ _ (absence-told missing.Inputs (values_of key.Inputs ls))
    (or_else-told _ _ (absence-told missing.Outputs (values_of key.Outputs ls))
    (or_else-told _ _ (absence-told missing.First (values_of key.First ls)) (absence-told missing.Goal (values_of key.Goal ls)))))
    (or_else-told _ _ (forms_fault-told (of.said_dialect ls) (of.said_names ls) (lines_with key.Assume ls))
    (or_else-told _ _ (forms_fault-told (of.said_dialect ls) (of.said_names ls) (lines_with key.Goal ls)) (forms_fault-told (of.said_dialect ls) (of.said_names ls) (lines_with key.Duty ls))))

key_fault-told : (h : Heading) (before : List TextLine) (number : ℕ) (k : Option Keyword) → IfSome (of.key_fault h before number k) CanBeTold
key_fault-told h before number None = tt
key_fault-told h before number (Some k) = go (nat_eq (most_lines h k) 0) (nat_lt (count_of k before) (most_lines h k)) (nat_eq (most_lines h k) 1)
  where
    go : (a b c : Bool) → IfSome (cond a (Some (fault.UnknownKey number)) (cond b None (cond c (Some (fault.Repeated number)) (Some (fault.TooManyLines number))))) CanBeTold
    go true b c = tt
    go false true c = tt
    go false false true = tt
    go false false false = tt

names_fault-told : (number : ℕ) (given words : List (List ℕ)) → IfSome (of.names_fault number given words) CanBeTold
names_fault-told number given [] = tt
names_fault-told number given (w ∷ words) = go (name_refusal given w) (names_fault-told number (given ++ w ∷ []) words)
  where
    go : (o : Option NameFault) → IfSome (of.names_fault number (given ++ w ∷ []) words) CanBeTold → IfSome (of.name_or_else number o (of.names_fault number (given ++ w ∷ []) words)) CanBeTold
    go None later = later
    go (Some name_faults.Bad) later = tt
    go (Some name_faults.Twice) later = tt
    go (Some name_faults.TooMany) later = tt
    go (Some name_faults.Memory) later = tt

unless_read-told : {A : Type 0} (number : ℕ) (o : Option A) → IfSome (of.unless_read number o) CanBeTold
unless_read-told number None = tt
unless_read-told number (Some x) = tt

value_fault-told : (h : Heading) (given : List (List ℕ)) (l : TextLine) (k : Option Keyword) → IfSome (of.value_fault h given l k) CanBeTold
value_fault-told h given l (Some key.Inputs) = names_fault-told l.number given (words_of l.value)
value_fault-told h given l (Some key.Outputs) = names_fault-told l.number given (words_of l.value)
value_fault-told h given l (Some key.Dialect) = unless_read-told l.number (dialect_of l.value)
value_fault-told h given l (Some key.First) = unless_read-told l.number (mover_of l.value)
value_fault-told h given l (Some key.Limit) = unless_read-told l.number (limit_of (most_limit h) l.value)
value_fault-told h given l (Some key.Empty) = unless_read-told l.number (empty_of l.value)
value_fault-told h given l k = tt

lines_fault-told : (h : Heading) (before : List TextLine) (given : List (List ℕ)) (ls : List TextLine) → IfSome (of.lines_fault h before given ls) CanBeTold
lines_fault-told h before given [] = tt
lines_fault-told h before given (l ∷ ls) =
    or_else-told (of.key_fault h before l.number (keyword_of l.key)) _ (key_fault-told h before l.number (keyword_of l.key))
    (or_else-told (of.value_fault h given l (keyword_of l.key)) _ (value_fault-told h given l (keyword_of l.key))
    (lines_fault-told h (before ++ l ∷ []) (of.given_with given l (keyword_of l.key)) ls))

-- a first fault of a formula is one of a formula whose names are declared
first_refusal-told : (text : List ℕ) → IfSome (first_refusal text) CanBeTold
first_refusal-told text = size (nat_lt longest_text (length text))
  where
    headed : (o : Option Heading) → IfSome (of.after_heading o (counted_lines text)) CanBeTold
    headed None = tt
    headed (Some h) = or_else-told (of.lines_fault h [] [] (counted_lines text)) _ (lines_fault-told h [] [] (counted_lines text)) (later_fault-told (counted_lines text))

    size : (b : Bool) → IfSome (cond b (Some fault.TooLong) (of.after_heading (heading_of (counted_lines text)) (counted_lines text))) CanBeTold
    size true = tt
    size false = headed (heading_of (counted_lines text))

told-first : (text : List ℕ) (e : SpecFault) → first_refusal text ≡ Some e → CanBeTold e
told-first text e h = let k : IfSome (first_refusal text) CanBeTold = first_refusal-told text in rw h at k

-- so is that of an answer
pub result-told : (text : List ℕ) (r : Result Spec SpecFault) → IfErr r (λ e. Blames e (first_refusal text ≡ Some e)) → IfErr r CanBeTold
result-told text (Ok s) h = tt
result-told text (Err fault.Memory) h = tt
result-told text (Err e) h = told-first text e h
