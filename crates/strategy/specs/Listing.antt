-- The lines of a location's cubes, and of names.
use Rattle.std.specs.Prelude.{◌≡◌, ◌+◌, ◌^◌, ◌++◌, ℕ, zero, suc, List, [], ◌∷◌, slice_index_or, codes}
use Rattle.diagrams.specs.declared.cubes.Cube.{Cube}
use Rattle.diagrams.specs.Tree.{Assignment}
use Rattle.game.specs.Board.{Partition}
use Rattle.printed_strategy.specs.CubeLines.{Line}
use Rattle.printed_strategy.specs.StrategyText.{target_text, choice_text, bits_of, bits_text, first_line, spaced, input_names, output_names}
use Rattle.strategy.specs.declared.printing.Lines.{Lines}
use Rattle.strategy.specs.declared.printing.Lines.TheVariants.{Round, Move, Answer}
use Rattle.strategy.specs.declared.strategy.Strategy.{Strategy as Kept}
use Rattle.strategy.specs.Plan.{size_of, target_at, choice_at, choice_of}

-- the new text has the highest bit more, and then what is left of the number
abbrev pub IsBitBefore : ℕ → List ℕ → List ℕ → ℕ → ℕ → Type 0
IsBitBefore weight old new number rest = (k : ℕ) → weight ≡ 2 ^ k → new ++ bits_of k rest ≡ old ++ bits_of (suc k) number

-- how each line of a list begins
abbrev pub key_of : Lines → List ℕ
key_of Round = codes "round"
key_of Move = codes "move"
key_of Answer = codes "answer"

-- what follows a cube with this value
abbrev pub fields_of : Kept → Lines → ℕ → List ℕ
fields_of k Round v = target_text (target_at (size_of k) v)
fields_of k Move v = choice_text k.partition.outputs (choice_of (choice_at k v))
fields_of k Answer v = bits_text k.partition.inputs v

-- the line of a cube as it is printed
abbrev pub cube_line : List ℕ → (ℕ → List ℕ) → Cube → List ℕ
cube_line key fields cube = key ++ codes " " ++ cube.text ++ codes " " ++ fields cube.terminal ++ codes "\n"

abbrev pub cube_lines : List ℕ → (ℕ → List ℕ) → List Cube → List ℕ
cube_lines key fields [] = []
cube_lines key fields (cube ∷ cubes) = cube_line key fields cube ++ cube_lines key fields cubes

-- the line of a cube, with the fields of its terminal
abbrev pub line_for : (ℕ → List ℕ) → Cube → Line
line_for fields cube = record { pattern = cube.text; fields = fields cube.terminal }

-- different values have different fields
abbrev pub AreTold : (ℕ → List ℕ) → (Assignment → ℕ) → Type 0
AreTold fields h = (a b : Assignment) → fields (h a) ≡ fields (h b) → h a ≡ h b

-- so many names from one on, with a space before each
abbrev pub spaced_from : List (List ℕ) → ℕ → ℕ → List ℕ
spaced_from names from zero = []
spaced_from names from (suc n) = spaced_from names from n ++ codes " " ++ slice_index_or names (from + n) []

-- who moves first, and the names
abbrev pub propositions_text : List (List ℕ) → Partition → List ℕ
propositions_text names s = first_line s.first ++ codes "inputs" ++ spaced (input_names s.first s names) ++ codes "\n"
    ++ codes "outputs" ++ spaced (output_names s.first s names) ++ codes "\n"
