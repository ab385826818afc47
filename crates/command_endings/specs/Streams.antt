-- What a command that writes as it reads has read and written where the outside fails, also where a line of output needs
-- no line of input, and where one line of input makes two of output due.
use Rattle.std.specs.Prelude.{◌≡◌, ◌≢◌, ℕ, ◌<◌, ◌⊎◌, List, [], ◌∷◌, ◌++◌, take, length, Contains, Some}
use Rattle.std.specs.Io.KnownBytes.{append_known}
use Rattle.command_endings.specs.Calls.{IsWholeLine}
use Rattle.command_endings.specs.Endings.{IsLineRefused}
use Rattle.command_endings.specs.Replies.{Reply}
use Rattle.command_endings.specs.Worlds.{World}

-- lines that each end with an LF: no byte at all, or the last is an LF
abbrev pub AreWholeLines : List ℕ → Type 0
AreWholeLines bytes = (bytes ≡ []) ⊎ ((front : List ℕ) × (bytes ≡ front ++ 10 ∷ []))

-- one line, before these later bytes: an LF ends it, or it has a byte and nothing comes after it
abbrev pub IsOneLine : List ℕ → List ℕ → Type 0
IsOneLine bytes later =
    ((text : List ℕ) × (bytes ≡ text ++ 10 ∷ []) × ¬ Contains text 10) ⊎ ((bytes ≢ []) × (¬ Contains bytes 10) × (later ≡ []))

-- The input failed: of its bytes whole lines were taken and the front of one more, none of these lines is refused, and
-- the output gained what is due for them.
pub record StopsReading (replies : List ℕ → Reply → Type 0) (rest : List ℕ) (before after : World) : Type 0 where
  pub lines : List ℕ
  pub part : List ℕ
  pub later : List ℕ
  pub split : rest ≡ lines ++ (part ++ later)
  pub left : after.left ≡ Some later
  pub whole : AreWholeLines lines
  pub no_more : ¬ Contains part 10
  pub reply : Reply
  pub due : replies lines reply
  pub admitted : ¬ IsLineRefused reply.ending
  pub added : after.held ≡ append_known before.held reply.output

-- What is written behind `front` needs this line of input, and none after it: what is due for the lines before it, none of
-- which is refused, is in front.
pub record NeedsLine (replies : List ℕ → Reply → Type 0) (earlier needed later front : List ℕ) : Type 0 where
  pub whole : AreWholeLines earlier
  pub one : IsOneLine needed later
  pub reply : Reply
  pub due : replies earlier reply
  pub admitted : ¬ IsLineRefused reply.ending
  pub between : List ℕ
  pub in_front : front ≡ reply.output ++ between

-- it needs this line, or no line at all
abbrev pub NeedsAtMost : (List ℕ → Reply → Type 0) → List ℕ → List ℕ → List ℕ → List ℕ → Type 0
NeedsAtMost replies earlier needed later front = ((earlier ≡ []) × (needed ≡ [])) ⊎ NeedsLine replies earlier needed later front

-- The output failed at one line of what is due: what stands in front of it was put, and a prefix of it. Right after the
-- line of input that it needs, or from the start where it needs none, fewer than 4,097 bytes were taken.
pub record StopsWriting (replies : List ℕ → Reply → Type 0) (rest : List ℕ) (before after : World) : Type 0 where
  pub earlier : List ℕ
  pub needed : List ℕ
  pub further : List ℕ
  pub later : List ℕ
  pub split : rest ≡ earlier ++ (needed ++ (further ++ later))
  pub left : after.left ≡ Some later
  pub few : length further < 4097
  pub next : Reply
  pub due : replies (earlier ++ needed) next
  pub front : List ℕ
  pub line : List ℕ
  pub back : List ℕ
  pub one_line : IsWholeLine line
  pub holds_line : next.output ≡ front ++ (line ++ back)
  pub needs : NeedsAtMost replies earlier needed (further ++ later) front
  pub added : (n : ℕ) × (after.held ≡ append_known before.held (front ++ take n line))

-- what stands where the count of the input rose, or that of the output
pub record Streams (replies : List ℕ → Reply → Type 0) (rest : List ℕ) (before after : World) : Type 0 where
  pub reads : before.input_faults < after.input_faults → StopsReading replies rest before after
  pub puts : before.output_faults < after.output_faults → StopsWriting replies rest before after
