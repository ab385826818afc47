-- How often the output and the place for messages are asked, and for what.
use Rattle.std.specs.Prelude.{◌≡◌, ◌≢◌, ℕ, ◌<◌, ◌⊎◌, List, [], ◌∷◌, ◌++◌, All, Contains}
use Rattle.command_endings.specs.Replies.{Reply}

-- the sink stays, or one call of `put` was made on it
abbrev pub IsPutOnce : {A : Type 0} → (A → List ℕ → A → Type 0) → A → A → Type 0
IsPutOnce put before after = (after ≡ before) ⊎ ((piece : List ℕ) × put before piece after)

-- the whole output of a reply that holds was put in one call
abbrev pub IsReplyPut : {A : Type 0} → (A → List ℕ → A → Type 0) → (Reply → Type 0) → A → A → Type 0
IsReplyPut put replies before after = (reply : Reply) × replies reply × put before reply.output after

-- the sink stays, or the whole output of a reply that holds was put in one call; after the status of an answer it was
pub record PutsReply {A : Type 0} (put : A → List ℕ → A → Type 0) (replies : Reply → Type 0) (before after : A) (number : ℕ) : Type 0 where
  pub once : (after ≡ before) ⊎ IsReplyPut put replies before after
  pub answered : number < 2 → IsReplyPut put replies before after

-- one call of `put` for each piece, in order
abbrev pub PutsEach : {A : Type 0} → (A → List ℕ → A → Type 0) → A → List (List ℕ) → A → Type 0
PutsEach put before [] after = after ≡ before
PutsEach {A} put before (piece ∷ pieces) after = (next : A) × put before piece next × PutsEach put next pieces after

-- a text without an LF, and an LF
abbrev pub IsWholeLine : List ℕ → Type 0
IsWholeLine line = (text : List ℕ) × (line ≡ text ++ 10 ∷ []) × ¬ Contains text 10

-- lines, each put in one call
pub record PutsLines {A : Type 0} (put : A → List ℕ → A → Type 0) (before after : A) : Type 0 where
  pub lines : List (List ℕ)
  pub whole : All IsWholeLine lines
  pub each : PutsEach put before lines after

-- a text is put in one call, and none is made where it is empty
pub record Asks {A : Type 0} (put : A → List ℕ → A → Type 0) (text : List ℕ) (before after : A) : Type 0 where
  pub none : text ≡ [] → after ≡ before
  pub once : text ≢ [] → put before text after
