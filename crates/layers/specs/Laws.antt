-- Laws of layers over the locations of an arena.
use Rattle.std.specs.Prelude.{◌<◌, ℕ, suc, Bool}
use Rattle.game.specs.Winning.{WinsWithin, FailsDutyWithin}
use Rattle.game.specs.Arena.{Locations, locations}
use Rattle.forms.specs.declared.partition.Partition.{Partition}

-- where one round more wins at no further location, no number of rounds does
abbrev pub StableLayersStay : Type 0
StableLayersStay = (s : Partition) (duty : Bool) (m : Locations) (n : ℕ)
    → ((at : ℕ) → at < m.size → WinsWithin (locations s duty m) (suc n) at → WinsWithin (locations s duty m) n at)
    → (k at : ℕ) → at < m.size → WinsWithin (locations s duty m) k at → WinsWithin (locations s duty m) n at

-- the same where the environment breaks the duty
abbrev pub StableLossesStay : Type 0
StableLossesStay = (s : Partition) (duty : Bool) (m : Locations) (n : ℕ)
    → ((at : ℕ) → at < m.size → FailsDutyWithin (locations s duty m) (suc n) at → FailsDutyWithin (locations s duty m) n at)
    → (k at : ℕ) → at < m.size → FailsDutyWithin (locations s duty m) k at → FailsDutyWithin (locations s duty m) n at
