-- What the parts of a reading say of the lines.
use Rattle.std.proofs.Common.{◌≡◌, ℕ, List, [], ◌∷◌, length, Option, Some, None, Bool, true, sym, ap, ◌∙◌, subst}
use Rattle.forms.specs.Tree.{Formula}
use Rattle.forms.specs.declared.partition.Mover.{Mover}
use Rattle.forms.specs.declared.partition.Partition.{Partition}
use Rattle.form_tokens.specs.declared.dialect.Dialect.{Dialect}
use Rattle.form_tokens.specs.Names.{Table, AreNames}
use Rattle.spec_lines.specs.Lines.{TextLine}
use Rattle.spec_lines.specs.Keywords.{values_of, lines_with, heading_of}
use Rattle.spec_lines.specs.declared.keywords.Keyword.TheVariants as key
use Rattle.spec_lines.specs.declared.keywords.Heading.{Heading}
use Rattle.spec_lines.specs.Values.{words_of}
use Rattle.spec_reader.specs.declared.spec.Key.TheVariants as missing
use Rattle.spec_reader.specs.declared.spec.SpecFault.{SpecFault}
use Rattle.spec_reader.specs.declared.spec.SpecFault.TheVariants as fault
use Rattle.spec_reader.specs.Shared.{first_names, table_of}
use Rattle.spec_reader.specs.Specification.{IsConjunctionOf, AreLinesOf}
use Rattle.spec_reader.specs.Refusal.{absence, missing_fault, forms_fault, said_dialect, said_names, later_fault, lines_fault, Blames}
use Rattle.spec_reader.specs.Said.{said_limit, said_empty}
use Rattle.spec_reader.specs.Sides.{AreSidesOf, AreNamed}
use Rattle.spec_reader.proofs.LineFaults.{None-or_else, or_else-Some, or_else-later, Blames-map}
use Rattle.spec_reader.proofs.SpecLemmas.{sides-AreNames, good-AreLinesOf, present-goal}

-- what is the cause is blamed
pub Blames-is : (e : SpecFault) (P : Type 0) → P → Blames e P
Blames-is fault.Memory P h = tt
Blames-is e P h = h

-- want of memory has no cause to tell
pub Blames-memory : (e : SpecFault) (P : Type 0) → e ≡ fault.Memory → Blames e P
Blames-memory e P h = rw h tt

-- the names of both sides of good lines are names
pub sides-valid : (h : Heading) (ls : List TextLine) (first : Mover) (ins outs : List ℕ) → lines_fault h [] [] ls ≡ None → AreSidesOf ls first ins outs → AreNames (first_names first (words_of ins) (words_of outs))
sides-valid h ls first ins outs good sides =
    let i = sides.input_words in
    let o = sides.output_words in
    rw (i, o) (sides-AreNames h first ls good)

-- the table of both sides is the one that the lines say
pub table-said : (ls : List TextLine) (first : Mover) (ins outs : List ℕ) (names : Table) (partition : Partition) → AreSidesOf ls first ins outs → AreNamed first (words_of ins) (words_of outs) names.names partition → names.closed ≡ true → names ≡ table_of (said_names ls)
table-said ls first ins outs names partition sides named closed =
    let same : names.names ≡ said_names ls = named.named ∙ (let m = sides.mover in let i = sides.input_words in let o = sides.output_words in λ k. first_names (m k) (i k) (o k)) in
    λ k. record { names = same k; closed = closed k }

-- the key that is missing is the first later fault
pub later-missing : (ls : List TextLine) (e : SpecFault) → missing_fault ls ≡ Some e → later_fault ls ≡ Some e
later-missing ls e h = or_else-Some _ _ e h

module _ (ls : List TextLine) (d : Dialect) (names : Table) (dialect : d ≡ said_dialect ls) (table : names ≡ table_of (said_names ls)) (some : missing_fault ls ≡ None) where
  -- the fault of an assumption is the first later one
  pub later-assume : (e : SpecFault) → Blames e (forms_fault d names (lines_with key.Assume ls) ≡ Some e) → Blames e (later_fault ls ≡ Some e)
  later-assume e h = Blames-map e _ _ (λ k. or_else-later _ _ _ some (or_else-Some _ _ e (rw (dialect, table) at k))) h

  -- that of a goal, where no assumption has one
  pub later-goal : (e : SpecFault) → forms_fault d names (lines_with key.Assume ls) ≡ None → Blames e (forms_fault d names (lines_with key.Goal ls) ≡ Some e) → Blames e (later_fault ls ≡ Some e)
  later-goal e a h = Blames-map e _ _ (λ k. or_else-later _ _ _ some (or_else-later _ _ _ (rw (dialect, table) at a) (or_else-Some _ _ e (rw (dialect, table) at k)))) h

  -- that of a duty, where no other formula has one
  pub later-duty : (e : SpecFault) → forms_fault d names (lines_with key.Assume ls) ≡ None → forms_fault d names (lines_with key.Goal ls) ≡ None → Blames e (forms_fault d names (lines_with key.Duty ls) ≡ Some e) → Blames e (later_fault ls ≡ Some e)
  later-duty e a g h = Blames-map e _ _ (λ k. or_else-later _ _ _ some (or_else-later _ _ _ (rw (dialect, table) at a) (or_else-later _ _ _ (rw (dialect, table) at g) (rw (dialect, table) at k)))) h

  -- where no formula has a fault there is none later
  pub later-none : forms_fault d names (lines_with key.Assume ls) ≡ None → forms_fault d names (lines_with key.Goal ls) ≡ None → forms_fault d names (lines_with key.Duty ls) ≡ None → later_fault ls ≡ None
  later-none a g u = None-or_else _ _ some (None-or_else _ _ (rw (dialect, table) at a) (None-or_else _ _ (rw (dialect, table) at g) (rw (dialect, table) at u)))

  -- a goal is there
  pub goal-there : IsConjunctionOf d names (values_of key.Goal ls) None → ⊥
  goal-there h = go (values_of key.Goal ls) (present-goal ls some) h
    where
      go : (vs : List (List ℕ)) → absence missing.Goal vs ≡ None → IsConjunctionOf d names vs None → ⊥
      go [] a k = cc
      go (v ∷ []) a k = let e = k.1 in cc
      go (v ∷ w ∷ vs) a k = let e = k.2 in cc

-- what is read of good lines is the specification that they are of: the table stays the same from formula to formula
pub read-AreLinesOf : (h : Heading) (ls : List TextLine) (first : Mover) (ins outs : List ℕ) (n0 n1 n2 n3 : Table) (partition : Partition) (d : Dialect) (assume whole duty : Option Formula) (goal : Formula) (limit : ℕ) (empty : Bool) → heading_of ls ≡ Some h → lines_fault h [] [] ls ≡ None → missing_fault ls ≡ None → AreSidesOf ls first ins outs → AreNamed first (words_of ins) (words_of outs) n0.names partition → n0.closed ≡ true
    → n1 ≡ n0 → n2 ≡ n1 → n3 ≡ n2 → d ≡ said_dialect ls → IsConjunctionOf d n0 (values_of key.Assume ls) assume → IsConjunctionOf d n1 (values_of key.Goal ls) whole → whole ≡ Some goal → IsConjunctionOf d n2 (values_of key.Duty ls) duty → limit ≡ said_limit h ls → empty ≡ said_empty ls
    → AreLinesOf h ls (record { names = n3.names; partition = partition; dialect = d; assume = assume; goal = goal; limit = limit; empty = empty; duty = duty })
read-AreLinesOf h ls first ins outs n0 n1 n2 n3 partition d assume whole duty goal limit empty headed good some sides named closed one two three dialect found met is kept most may =
    let table = table-said ls first ins outs n0 partition sides named closed in
    let names : n3.names ≡ said_names ls = ap (λ (n : Table). n.names) (three ∙ two ∙ one ∙ table) in
    let same : n0 ≡ table_of n3.names = table ∙ ap table_of (sym names) in
    good-AreLinesOf h ls _ headed good some
    (record {
      names = names;
      first = named.mover ∙ sides.mover;
      inputs = named.input_count ∙ ap length sides.input_words;
      outputs = named.output_count ∙ ap length sides.output_words;
      dialect = dialect;
      empty = may;
      assume = subst (λ (n : Table). IsConjunctionOf d n (values_of key.Assume ls) assume) same found;
      goal = subst (λ (n : Table). IsConjunctionOf d n (values_of key.Goal ls) (Some goal)) (one ∙ same) (subst (λ (o : Option Formula). IsConjunctionOf d n1 (values_of key.Goal ls) o) is met);
      duty = subst (λ (n : Table). IsConjunctionOf d n (values_of key.Duty ls) duty) (two ∙ one ∙ same) kept;
    })
    most

-- a fault with the table of another formula
pub forms_fault-same : (d : Dialect) (n m : Table) (ls : List TextLine) (o : Option SpecFault) → n ≡ m → forms_fault d n ls ≡ o → forms_fault d m ls ≡ o
forms_fault-same d n m ls o e h = rw e at h
