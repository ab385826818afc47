-- Where a path leads, as diagrams over the letter and the obligations of the next position.
use Rattle.std.specs.Prelude.{◌≡◌, ℕ, ◌&&◌, ◌||◌, Bool, List, [], ◌∷◌}
use Rattle.forms.specs.Word.{Word, Claim}
use Rattle.forms.specs.Paths.{WordRelation, reaches_further, reaches}
use Rattle.forms.specs.Tree.{Program}
use Rattle.forms.specs.Satisfaction.{goes}
use Rattle.diagrams.specs.declared.top.Id.{Id}
use Rattle.diagrams.specs.Eval.{Diagrams, is_one}
use Rattle.diagrams.specs.Live.{Keeps}
use Rattle.obligations.specs.declared.cells.Obligation.{Obligation}
use Rattle.obligations.specs.Value.{joint, cell, holds, IsBody}
use Rattle.obligations.specs.Followed.{HasFrom}
use Rattle.path_programs.specs.declared.lead.Lead.{Lead}
use Rattle.path_programs.specs.Made.{IsOneWhere}

-- what a body says of a letter before a word
abbrev pub truth_at : Diagrams → List Obligation → Id → ℕ → Word → Bool
truth_at s c f letter word = is_one s f (joint s.props letter (cell s c word))

-- the diagrams say where the relation leads, the continuation being k
pub record Leads (s : Diagrams) (c : List Obligation) (q : WordRelation) (k : Claim) (l : Lead) : Type 0 where
  pub further : (letter : ℕ) (word : Word) → truth_at s c l.further letter word ≡ reaches_further q k (letter ∷ word)
  pub stays : (letter : ℕ) (word : Word) → truth_at s c l.stays letter word ≡ q (letter ∷ word) (letter ∷ word)
  pub ends : l.ends ≡ q [] []

-- the diagrams of a lead are bodies
pub record AreBodies (s : Diagrams) (count : ℕ) (l : Lead) : Type 0 where
  pub further : IsBody s count l.further
  pub stays : IsBody s count l.stays

-- the diagrams say where the path leads, in each later store and each table that has the obligations from one on;
-- the continuation is what `later` says of the next position
abbrev pub IsLead : Diagrams → ℕ → List Obligation → Program → Id → Lead → Type 0
IsLead s from c x later l = (n : Diagrams) (d : List Obligation) → Keeps s n → HasFrom from c d
    → Leads n d (goes n.props x) (holds n d later) l

-- `next` says of the next position that the lead's path leads from there to where `later` holds
abbrev pub IsRest : Diagrams → ℕ → List Obligation → Lead → Id → Id → Type 0
IsRest s from c l later next = (n : Diagrams) (d : List Obligation) (q : WordRelation) → Keeps s n → HasFrom from c d
    → Leads n d q (holds n d later) l → (w : Word) → holds n d next w ≡ reaches q (holds n d later) w

-- the lead of a choice, by those of its two paths
pub record IsEither (s n : Diagrams) (x y l : Lead) : Type 0 where
  pub further : IsOneWhere n l.further (λ a. is_one s x.further a || is_one s y.further a)
  pub stays : IsOneWhere n l.stays (λ a. is_one s x.stays a || is_one s y.stays a)
  pub ends : l.ends ≡ (x.ends || y.ends)

-- the lead of a sequence, by those of its two paths
pub record IsInTurn (s n : Diagrams) (x y l : Lead) : Type 0 where
  pub further : IsOneWhere n l.further (λ a. is_one s x.further a || is_one s x.stays a && is_one s y.further a)
  pub stays : IsOneWhere n l.stays (λ a. is_one s x.stays a && is_one s y.stays a)
  pub ends : l.ends ≡ (x.ends && y.ends)
