-- Where a reader keeps the line that it found.
use Rattle.std.specs.Prelude.{ℕ, ◌≤◌, Option, Some, None}

-- the line, if there is one, lies before the bytes that no call has found
abbrev pub IsPlaced : Option (ℕ × ℕ) → ℕ → Type 0
IsPlaced None start = Unit {0}
IsPlaced (Some place) start = (place.0 ≤ place.1) × (place.1 ≤ start)
