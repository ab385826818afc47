-- What a line of a whole list gives.
use Rattle.std.specs.Prelude.{◌≡◌, ◌<◌, ◌^◌, ◌⊎◌, ℕ, List, [], ◌∷◌, length, true, Some}
use Rattle.certificate_rules.specs.Cubes.{Entry, agrees, field_at}

-- the line is one of these
abbrev pub IsLine : {A : Type 0} → Entry A → List (Entry A) → Type 0
IsLine e [] = ⊥
IsLine e (x ∷ xs) = (x ≡ e) ⊎ IsLine e xs

-- each is `-`, `0` or `1`
abbrev pub AreCharacters : List ℕ → Type 0
AreCharacters [] = Unit {0}
AreCharacters (c ∷ cs) = ((c ≡ 45) ⊎ ((c ≡ 48) ⊎ (c ≡ 49))) × AreCharacters cs

-- over k propositions the line stands for some assignment, and it is the one that gives each of its assignments its field
pub record IsExact {A : Type 0} (k : ℕ) (es : List (Entry A)) (e : Entry A) : Type 0 where
  pub characters : AreCharacters e.cube
  pub wide : length e.cube ≡ k
  pub some : (a : ℕ) × (a < 2 ^ k) × (agrees e.cube a ≡ true)
  pub field : (a : ℕ) → a < 2 ^ k → agrees e.cube a ≡ true → field_at es a ≡ Some e.value
