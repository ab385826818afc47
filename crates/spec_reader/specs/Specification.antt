-- The specification of a text: which one it is, in the words of the format alone.
use Rattle.std.specs.Prelude.{◌≡◌, ℕ, ◌≤◌, List, [], ◌∷◌, Bool, true, false, Option, Some, None, map, length}
use Rattle.std.specs.Option.{option_map, is_some}
use Rattle.std.specs.List.{list_all}
use Rattle.forms.specs.Tree.{Formula, And, tree}
use Rattle.forms.specs.declared.partition.Partition.{Partition}
use Rattle.form_tokens.specs.declared.dialect.Dialect.{Dialect}
use Rattle.form_tokens.specs.declared.dialect.Dialect.TheVariants.{Ltlf}
use Rattle.form_tokens.specs.Names.{Table, AreNames}
use Rattle.form_reader.specs.Reading.{IsFormulaOf}
use Rattle.spec_lines.specs.Lines.{TextLine, counted_lines}
use Rattle.spec_lines.specs.Keywords.{keyword_of, heading_of, most_lines, values_of, count_of}
use Rattle.spec_lines.specs.declared.keywords.Keyword.{Keyword}
use Rattle.spec_lines.specs.declared.keywords.Keyword.TheVariants as key
use Rattle.spec_lines.specs.declared.keywords.Heading.{Heading}
use Rattle.spec_lines.specs.Values.{dialect_of, mover_of, empty_of, limit_of, most_limit, words_of}
use Rattle.spec_reader.specs.declared.spec.Spec.{Spec}
use Rattle.spec_reader.specs.Shared.{longest_text, first_names, table_of}

-- a specification as plain data
pub record Specification : Type 0 where
  pub names : List (List ℕ)
  pub partition : Partition
  pub dialect : Dialect
  pub assume : Option Formula
  pub goal : Formula
  pub limit : ℕ
  pub empty : Bool
  pub duty : Option Formula

-- a `Spec` as plain data
abbrev pub plain : Spec → Specification
plain spec = record {
  names = spec.names.names;
  partition = spec.partition;
  dialect = spec.dialect;
  assume = option_map tree spec.assume;
  goal = tree spec.goal;
  limit = spec.limit;
  empty = spec.empty;
  duty = option_map tree spec.duty;
}

-- one value is given, and it stands for x; or none is, and x is what is meant then
abbrev pub IsGivenOr : {A : Type 0} → A → List (Option A) → A → Type 0
IsGivenOr default [] x = x ≡ default
IsGivenOr default (given ∷ []) x = given ≡ Some x
IsGivenOr default (given ∷ other ∷ later) x = ⊥

-- The conjunction of the formulas of these texts in their order, nested to the right; of no texts there is none.
abbrev pub IsConjunctionOf : Dialect → Table → List (List ℕ) → Option Formula → Type 0
IsConjunctionOf d names [] formula = formula ≡ None
IsConjunctionOf d names (text ∷ []) formula = (f : Formula) × (formula ≡ Some f) × IsFormulaOf d names text f
IsConjunctionOf d names (text ∷ next ∷ later) formula =
    (f : Formula) × (g : Formula) × (formula ≡ Some (And f g)) × IsFormulaOf d names text f × IsConjunctionOf d names (next ∷ later) (Some g)

-- These lines, under this heading, are those of the specification.
pub record AreLinesOf (heading : Heading) (lines : List TextLine) (spec : Specification) : Type 0 where
  pub inputs : List (List ℕ)
  pub outputs : List (List ℕ)
  pub headed : heading_of lines ≡ Some heading
  pub known : list_all (λ line. is_some (keyword_of line.key)) lines ≡ true
  pub counts : (k : Keyword) → count_of k lines ≤ most_lines heading k
  pub given_inputs : map words_of (values_of key.Inputs lines) ≡ inputs ∷ []
  pub given_outputs : map words_of (values_of key.Outputs lines) ≡ outputs ∷ []
  pub valid : AreNames spec.names
  pub first : map mover_of (values_of key.First lines) ≡ Some spec.partition.first ∷ []
  pub numbered : spec.names ≡ first_names spec.partition.first inputs outputs
  pub input_count : spec.partition.inputs ≡ length inputs
  pub output_count : spec.partition.outputs ≡ length outputs
  pub dialect : IsGivenOr Ltlf (map dialect_of (values_of key.Dialect lines)) spec.dialect
  pub limit : IsGivenOr 1024 (map (limit_of (most_limit heading)) (values_of key.Limit lines)) spec.limit
  pub empty : IsGivenOr false (map empty_of (values_of key.Empty lines)) spec.empty
  pub assume : IsConjunctionOf spec.dialect (table_of spec.names) (values_of key.Assume lines) spec.assume
  pub goal : IsConjunctionOf spec.dialect (table_of spec.names) (values_of key.Goal lines) (Some spec.goal)
  pub duty : IsConjunctionOf spec.dialect (table_of spec.names) (values_of key.Duty lines) spec.duty

-- the text is a specification file of this specification
pub record IsSpecificationOf (text : List ℕ) (spec : Specification) : Type 0 where
  pub short : length text ≤ longest_text
  pub heading : Heading
  pub lines : AreLinesOf heading (counted_lines text) spec
