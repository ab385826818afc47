-- Automata that watch a claim about each nonempty prefix, and what marks tell.
use Rattle.std.specs.Prelude.{◌≡◌, ◌<◌, ◌^◌, ◌+◌, ◌⊎◌, ◌==◌, ℕ, if◌then◌else◌}
use Rattle.forms.specs.Word.{Word, IsOver}
use Rattle.automata.specs.Moves.{Moves, mark_after}

-- the mark after each word is 0, and the word has P, or it is v, and the word has Q
abbrev pub Tells : ℕ → Moves → (Word → Type 0) → ℕ → (Word → Type 0) → Type 0
Tells p m P v Q = (w : Word) → IsOver p w → ((mark_after m m.first w ≡ 0) × P w) ⊎ ((mark_after m m.first w ≡ v) × Q w)

-- Made of the automaton k: its locations, a first one that no letter leads to, and one for words that have violated what k
-- accepts, with the mark v.
pub record IsWatching (p : ℕ) (k m : Moves) (v : ℕ) : Type 0 where
  pub size : m.size ≡ k.size + 2
  pub first : m.first ≡ k.size
  pub begins : (a : ℕ) → a < 2 ^ p → m.next k.size a ≡ (if k.mark (k.next k.first a) == 1 then k.next k.first a else (k.size + 1))
  pub next : (at a : ℕ) → at < k.size → a < 2 ^ p → m.next at a ≡ (if k.mark (k.next at a) == 1 then k.next at a else (k.size + 1))
  pub stays : (a : ℕ) → a < 2 ^ p → m.next (k.size + 1) a ≡ k.size + 1
  pub kept : (at : ℕ) → at < k.size + 1 → m.mark at ≡ 0
  pub violated : m.mark (k.size + 1) ≡ v
