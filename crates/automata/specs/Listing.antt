-- The lines that list an automaton's locations.
use Rattle.std.specs.Prelude.{◌≡◌, ◌<◌, ◌==◌, ◌++◌, ℕ, zero, suc, List, [], ◌∷◌, codes, decimal, if◌then◌else◌}
use Rattle.diagrams.specs.declared.cubes.Cube.{Cube}
use Rattle.diagrams.specs.Eval.{Diagrams}
use Rattle.diagrams.specs.Cubes.{AreCubes}
use Rattle.automata.specs.Table.{Table, mark_of, row_of}

-- `location K accept` for the mark 1, else `location K reject`, and the end of the line
abbrev pub location_line : ℕ → ℕ → List ℕ
location_line at mark = codes "location " ++ decimal at ++ (if mark == 1 then codes " accept\n" else codes " reject\n")

-- `round CUBE TARGET`, and the end of the line
abbrev pub round_line : Cube → List ℕ
round_line cube = codes "round " ++ cube.text ++ codes " " ++ decimal cube.terminal ++ codes "\n"

-- a line for each cube, in order
abbrev pub round_lines : List Cube → List ℕ
round_lines [] = []
round_lines (cube ∷ cubes) = round_line cube ++ round_lines cubes

-- for each of the first so many locations its line, by its mark, and those of its cubes
abbrev pub location_lines : (ℕ → ℕ) → (ℕ → List Cube) → ℕ → List ℕ
location_lines mark cubes zero = []
location_lines mark cubes (suc n) = location_lines mark cubes n ++ location_line n (mark n) ++ round_lines (cubes n)

-- the text has the lines of the first so many locations, with the cubes of their rows
pub record Lists (s : Diagrams) (t : Table) (count : ℕ) (text : List ℕ) : Type 0 where
  pub cubes : ℕ → List Cube
  pub rows : (at : ℕ) → at < count → AreCubes s (row_of t at) 0 s.props (cubes at)
  pub lines : text ≡ location_lines (mark_of t) cubes count
