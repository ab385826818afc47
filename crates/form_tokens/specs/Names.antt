-- Names of propositions and their numbers.
use Rattle.std.specs.Prelude.{◌≡◌, ℕ, ◌≤◌, List, [], ◌∷◌, ◌++◌, All, Option, Some, None, Bool, true, false, not, if◌then◌else◌, nat_le, length}
use Rattle.std.specs.List.{position_or_len, list_any}
use Rattle.std.specs.Str.{bytes_eq}
use Rattle.form_tokens.specs.declared.name_fault.NameFault.{NameFault}
use Rattle.form_tokens.specs.declared.name_fault.NameFault.TheVariants as faults
use Rattle.form_tokens.specs.Words.{is_name}

-- a table of names, the one with number 0 first; where it is closed, a formula that is read may have no new name
pub record Table : Type 0 where
  pub names : List (List ℕ)
  pub closed : Bool

-- the number of a name, or how many names there are
abbrev pub number_of : List (List ℕ) → List ℕ → ℕ
number_of ns w = position_or_len (bytes_eq w) ns

-- the name is in the list
abbrev pub is_listed : List (List ℕ) → List ℕ → Bool
is_listed ns w = list_any (bytes_eq w) ns

-- a new name goes last
abbrev pub included : List (List ℕ) → List ℕ → List (List ℕ)
included ns w = if is_listed ns w then ns else ns ++ w ∷ []

-- no name stands twice
abbrev pub AreDifferent : List (List ℕ) → Type 0
AreDifferent [] = Unit {0}
AreDifferent (n ∷ ns) = (is_listed ns n ≡ false) × AreDifferent ns

-- how many names a table may hold
abbrev pub most_names : ℕ
most_names = 32

-- the names of a table: at most 32, each a name, all different
pub record AreNames (ns : List (List ℕ)) : Type 0 where
  pub few : length ns ≤ most_names
  pub valid : All (λ w. is_name w ≡ true) ns
  pub different : AreDifferent ns

-- why a name is not added: of the rules in their order the first that holds
abbrev pub name_refusal : List (List ℕ) → List ℕ → Option NameFault
name_refusal ns w =
    if not (is_name w) then Some faults.Bad
    else if is_listed ns w then Some faults.Twice
    else if nat_le most_names (length ns) then Some faults.TooMany
    else None

-- the fault is the reason, or there is none and memory ran out
abbrev pub Refuses : NameFault → Option NameFault → Type 0
Refuses faults.Memory reason = reason ≡ None
Refuses e reason = reason ≡ Some e
