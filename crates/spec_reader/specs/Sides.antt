-- The two sides of a game, as lines name them.
use Rattle.std.specs.Prelude.{◌≡◌, ℕ, List, length}
use Rattle.forms.specs.declared.partition.Mover.{Mover}
use Rattle.forms.specs.declared.partition.Partition.{Partition}
use Rattle.spec_lines.specs.Lines.{TextLine}
use Rattle.spec_lines.specs.Keywords.{values_of}
use Rattle.spec_lines.specs.declared.keywords.Keyword.TheVariants as key
use Rattle.spec_lines.specs.Values.{words_of}
use Rattle.spec_reader.specs.Shared.{first_names}
use Rattle.spec_reader.specs.Refusal.{said_first, said_words}

-- the lines say that this side moves first, and give the inputs and the outputs by these values
pub record AreSidesOf (lines : List TextLine) (first : Mover) (inputs outputs : List ℕ) : Type 0 where
  pub mover : first ≡ said_first lines
  pub input_words : words_of inputs ≡ said_words (values_of key.Inputs lines)
  pub output_words : words_of outputs ≡ said_words (values_of key.Outputs lines)

-- names and a partition, made of the words of both sides
pub record AreNamed (first : Mover) (inputs outputs : List (List ℕ)) (names : List (List ℕ)) (partition : Partition) : Type 0 where
  pub named : names ≡ first_names first inputs outputs
  pub mover : partition.first ≡ first
  pub input_count : partition.inputs ≡ length inputs
  pub output_count : partition.outputs ≡ length outputs
