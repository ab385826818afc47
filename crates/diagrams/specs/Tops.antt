-- Tops and the keys of slots.
use Rattle.std.specs.Prelude.{◌≡◌, ◌==◌, ℕ, ◌<◌, ◌^◌, if◌then◌else◌, List, length, slice_index_or, true, ◌⊎◌, Option, Some, None}
use Rattle.diagrams.specs.declared.top.Id.{Id}
use Rattle.diagrams.specs.declared.top.Look.{Look}
use Rattle.diagrams.specs.declared.top.Look.TheVariants.{Terminal, Node}
use Rattle.diagrams.specs.Eval.{id_at}
use Rattle.unique_table.specs.declared.slots.Key.{Key}
use Rattle.unique_table.specs.declared.slots.Slot.{Slot}
use Rattle.unique_table.specs.Slots.{is_free, keys}
use Rattle.unique_table.specs.Marks.{IsSeen, IsClosed, Leads, Reaches}

-- the top that a key keeps
abbrev pub top_of_key : Key → Option Look
top_of_key k = if is_free k then None else (if k.lo == k.hi then Some (Terminal k.var) else Some (Node k.var (record { 0 = k.lo }) (record { 0 = k.hi })))

-- the key that keeps a top
abbrev pub key_of : Look → Key
key_of (Terminal t) = record { var = t; lo = 0; hi = 0 }
key_of (Node v lo hi) = record { var = v; lo = lo.0; hi = hi.0 }

-- the children's ids fit a slot
abbrev pub IsSmall : Look → Type 0
IsSmall (Terminal t) = Unit {0}
IsSmall (Node v lo hi) = (lo.0 < 2 ^ 32) × (hi.0 < 2 ^ 32)

-- just the slots that are reached from the roots are seen
pub record MarksAll (slots : List Slot) (roots : List Id) : Type 0 where
  pub closed : IsClosed slots
  pub all : (k : ℕ) → k < length roots → IsSeen slots (id_at roots k).0
  pub reached : (i : ℕ) → i < length slots → IsSeen slots i → (k : ℕ) × (k < length roots) × Reaches (keys slots) (id_at roots k).0 i

abbrev pub key_or : List Key → ℕ → Key
key_or ks i = slice_index_or ks i (record { var = 0; lo = 0; hi = 0 })

-- just what is reached from the roots is seen, keeps its key, and all else is freed
pub record Frees (old new : List Key) (roots : List Id) (seen : ℕ → Type 0) : Type 0 where
  pub long : length new ≡ length old
  pub cases : (i : ℕ) → i < length old → seen i ⊎ (is_free (key_or new i) ≡ true)
  pub same : (i : ℕ) → i < length old → seen i → key_or new i ≡ key_or old i
  pub closed : (i j : ℕ) → i < length old → seen i → Leads (key_or old i) j → seen j
  pub all : (k : ℕ) → k < length roots → seen (id_at roots k).0
  pub reached : (i : ℕ) → i < length old → seen i → (k : ℕ) × (k < length roots) × Reaches old (id_at roots k).0 i

-- the same, by marks
pub record FreesAll (old new : List Key) (roots : List Id) : Type 0 where
  pub marks : List Slot
  pub frees : Frees old new roots (IsSeen marks)
