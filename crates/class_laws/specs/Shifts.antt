-- Many shifts into one new block.
use Rattle.std.specs.Prelude.{◌≡◌, ◌≢◌, ◌<◌, ◌≤◌, ◌+◌, ◌*◌, ℕ, true, false, List, length}
use Rattle.diagrams.specs.declared.top.Id.{Id}
use Rattle.linked_blocks.specs.Lists.{Lists, holds, list_of, block_in, IsOnce, HoldEach}

-- these locations went from one block into a new one, and nothing else changed
pub record AreShifted (size from : ℕ) (old new : Lists) (moving : List ℕ) : Type 0 where
  pub each : HoldEach size new.lists
  pub number : length new.lists ≡ length old.lists + 1
  pub moved : (x : ℕ) → x < size → holds moving x ≡ true → block_in new.lists x ≡ length old.lists
  pub stays : (x : ℕ) → x < size → holds moving x ≡ false → block_in new.lists x ≡ block_in old.lists x
  pub into : length (list_of new.lists (length old.lists)) ≡ length moving
  pub from_less : length (list_of new.lists from) + length moving ≡ length (list_of old.lists from)
  pub others : (b : ℕ) → b < length old.lists → b ≢ from → length (list_of new.lists b) ≡ length (list_of old.lists b)
  pub moves : new.moves ≡ old.moves + length moving

-- different locations of one block
pub record AreOf (size from : ℕ) (lists : List (List ℕ)) (moving : List ℕ) : Type 0 where
  pub once : IsOnce moving
  pub within : (x : ℕ) → holds moving x ≡ true → (x < size) × (block_in lists x ≡ from)

-- the group has exactly the locations of one block and one key
pub record IsGroup (size : ℕ) (block : ℕ → ℕ) (key : ℕ → Id) (group : List ℕ) : Type 0 where
  pub some : 0 < length group
  pub once : IsOnce group
  pub within : (x : ℕ) → holds group x ≡ true → x < size
  pub same : (i j : ℕ) → holds group i ≡ true → holds group j ≡ true → (block i ≡ block j) × (key i ≡ key j)
  pub all : (i j : ℕ) → holds group i ≡ true → j < size → block i ≡ block j → key i ≡ key j → holds group j ≡ true

-- the new blocks are the old ones, but for the group, which has parted from the others of its block
pub record IsParted (size : ℕ) (old new : ℕ → ℕ) (group : List ℕ) : Type 0 where
  pub same : (i j : ℕ) → i < size → j < size → new i ≡ new j → (old i ≡ old j) × (holds group i ≡ holds group j)
  pub one : (i j : ℕ) → i < size → j < size → old i ≡ old j → holds group i ≡ holds group j → new i ≡ new j

-- a list of those that changed goes on
pub record AreNoted (size : ℕ) (old new : List (List ℕ)) (before after : List ℕ) : Type 0 where
  pub kept : (x : ℕ) → holds before x ≡ true → holds after x ≡ true
  pub rest : (x : ℕ) → x < size → holds after x ≡ false → block_in new x ≡ block_in old x
  pub within : ((x : ℕ) → holds before x ≡ true → x < size) → (x : ℕ) → holds after x ≡ true → x < size
  pub more : (length old ≤ length new) × (length before < length after → length old < length new)

-- no location's block has grown, and the block of each that moved is at most half as large as the one that it left
pub record AreHalved (size : ℕ) (old new : List (List ℕ)) : Type 0 where
  pub small : (x : ℕ) → x < size → length (list_of new (block_in new x)) ≤ length (list_of old (block_in old x))
  pub half : (x : ℕ) → x < size → block_in new x ≢ block_in old x → length (list_of new (block_in new x)) * 2 ≤ length (list_of old (block_in old x))
