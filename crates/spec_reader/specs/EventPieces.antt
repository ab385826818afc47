-- An event line as blanks, runs of word bytes and stray bytes, in their order. A run is what it is in a formula.
use Rattle.std.specs.Prelude.{◌≡◌, ℕ, suc, ◌+◌, List, [], ◌∷◌, ◌++◌, true, false, length, take, drop}
use Rattle.form_tokens.specs.Words.{is_blank, begins_word, longest_word}
use Rattle.form_tokens.specs.Runs.{IsRun}
use Rattle.spec_reader.specs.Event.{Piece, Word, Stray, pieces}

-- the first of the bytes that are behind a word in its run is stray, and stands for them all
abbrev pub stray_behind : ℕ → List ℕ → List Piece
stray_behind at [] = []
stray_behind at (b ∷ bs) = Stray at ∷ []

-- the pieces of a run: its first 64 bytes are a word, and the 65th, if there is one, is stray
abbrev pub of_run : ℕ → List ℕ → List Piece
of_run at run =
    let word = take longest_word run in
    Word at word ∷ stray_behind (at + length word) (drop longest_word run)

-- the pieces of a line whose first byte has the place: in order, blanks, whole runs and bytes that neither are blank nor
-- begin a word make it up
pub data IsEventCut : ℕ → List ℕ → List Piece → Type 0 where
  nothing : {at : ℕ} → IsEventCut at [] []
  a_blank : {at b : ℕ} {rest : List ℕ} {ps : List Piece} → is_blank b ≡ true → IsEventCut (suc at) rest ps → IsEventCut at (b ∷ rest) ps
  a_run : {at : ℕ} (bytes : List ℕ) {rest : List ℕ} {ps : List Piece} → IsRun bytes rest
      → IsEventCut (at + length bytes) rest ps → IsEventCut at (bytes ++ rest) (of_run at bytes ++ ps)
  a_stray_byte : {at b : ℕ} {rest : List ℕ} {ps : List Piece} → is_blank b ≡ false → begins_word b ≡ false
      → IsEventCut (suc at) rest ps → IsEventCut at (b ∷ rest) (Stray at ∷ ps)

-- each line is cut into its pieces
abbrev pub CutsEachLine : Type 0
CutsEachLine = (line : List ℕ) → IsEventCut 1 line (pieces line)

-- and into no others
abbrev pub CutsLinesInOneWay : Type 0
CutsLinesInOneWay = (line : List ℕ) (ps : List Piece) → IsEventCut 1 line ps → ps ≡ pieces line
