-- The printed text of a formula over a list of names.
use Rattle.std.specs.Prelude.{ℕ, List, [], ◌++◌, codes, slice_index_or, Bool, true, false, if◌then◌else◌}
use Rattle.forms.specs.Tree.{Formula, Program, True, False, Atom, Not, And, Or, Implies, Iff, Next, WeakNext, Until, Release, Eventually, Always, Diamond, BoxAll, Step, Test, Choice, Seq, Star}

-- the name with the number
abbrev pub name_of : List (List ℕ) → ℕ → List ℕ
name_of ns i = slice_index_or ns i []

-- two texts in brackets with a sign between them
abbrev pub bracketed : List ℕ → List ℕ → List ℕ → List ℕ
bracketed f sign g = codes "(" ++ f ++ sign ++ g ++ codes ")"

-- a constant or an atom
abbrev pub is_bare : Formula → Bool
is_bare True = true
is_bare False = true
is_bare (Atom i) = true
is_bare f = false

-- what a step or a test holds: a constant or an atom is bare, any other formula stands in braces
abbrev pub in_braces : Formula → List ℕ → List ℕ
in_braces f text = if is_bare f then text else codes "{" ++ text ++ codes "}"

-- a path with a star of its own
abbrev pub is_starred : Program → Bool
is_starred (Star p) = true
is_starred p = false

-- a path with a star of its own stands in brackets before the next star
abbrev pub starred : Program → List ℕ → List ℕ
starred p text = if is_starred p then codes "(" ++ text ++ codes ")*" else text ++ codes "*"

abbrev mutual
  -- the text of a formula
  pub printed : List (List ℕ) → Formula → List ℕ
  printed ns True = codes "true"
  printed ns False = codes "false"
  printed ns (Atom i) = name_of ns i
  printed ns (Not f) = codes "!" ++ printed ns f
  printed ns (And f g) = bracketed (printed ns f) (codes " & ") (printed ns g)
  printed ns (Or f g) = bracketed (printed ns f) (codes " | ") (printed ns g)
  printed ns (Implies f g) = bracketed (printed ns f) (codes " -> ") (printed ns g)
  printed ns (Iff f g) = bracketed (printed ns f) (codes " <-> ") (printed ns g)
  printed ns (Next f) = codes "X " ++ printed ns f
  printed ns (WeakNext f) = codes "N " ++ printed ns f
  printed ns (Until f g) = bracketed (printed ns f) (codes " U ") (printed ns g)
  printed ns (Release f g) = bracketed (printed ns f) (codes " R ") (printed ns g)
  printed ns (Eventually f) = codes "F " ++ printed ns f
  printed ns (Always f) = codes "G " ++ printed ns f
  printed ns (Diamond p f) = codes "<" ++ printed_path ns p ++ codes ">" ++ printed ns f
  printed ns (BoxAll p f) = codes "[" ++ printed_path ns p ++ codes "]" ++ printed ns f

  -- the text of a path
  pub printed_path : List (List ℕ) → Program → List ℕ
  printed_path ns (Step f) = in_braces f (printed ns f)
  printed_path ns (Test f) = in_braces f (printed ns f) ++ codes "?"
  printed_path ns (Choice p q) = bracketed (printed_path ns p) (codes " + ") (printed_path ns q)
  printed_path ns (Seq p q) = bracketed (printed_path ns p) (codes " ; ") (printed_path ns q)
  printed_path ns (Star p) = starred p (printed_path ns p)

-- two formulas in brackets with a sign between them
abbrev pub printed_joined : List (List ℕ) → Formula → List ℕ → Formula → List ℕ
printed_joined ns f sign g = bracketed (printed ns f) sign (printed ns g)

-- the same of two paths
abbrev pub printed_paths : List (List ℕ) → Program → List ℕ → Program → List ℕ
printed_paths ns p sign q = bracketed (printed_path ns p) sign (printed_path ns q)

-- a path between its brackets, and the formula behind it
abbrev pub printed_modal : List (List ℕ) → List ℕ → Program → List ℕ → Formula → List ℕ
printed_modal ns opening p closing f = opening ++ printed_path ns p ++ closing ++ printed ns f
