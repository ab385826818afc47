-- A path within a star, position by position from the last one of a block.
use Rattle.std.specs.Prelude.{List, [], ◌∷◌, Bool, true, false, ◌&&◌, ◌||◌}
use Rattle.trace_meaning.specs.declared.node.Lead.{Lead}
use Rattle.trace_meaning.specs.Column.{last, without_last}
use Rattle.trace_meaning.specs.State.{PathState, Step, Test, Choice, Seq, Star}

-- whether a path leads to a good position, `good` being whether its own is one
abbrev pub through : Lead → Bool → Bool
through lead good = lead.further || lead.stays && good

-- where a choice leads
abbrev pub either : Lead → Lead → Lead
either a b = record { further = a.further || b.further; stays = a.stays || b.stays }

-- where two paths lead, the one after the other
abbrev pub in_turn : Lead → Lead → Lead
in_turn a b = record { further = a.further || a.stays && b.further; stays = a.stays && b.stays }

-- where the path leads from a position, `later` being whether the next one is good
abbrev pub lead : Bool → PathState → Lead
lead later (Step f xs) = record { further = last xs && later; stays = false }
lead later (Test f xs) = record { further = false; stays = last xs }
lead later (Choice p q) = either (lead later p) (lead later q)
lead later (Seq p q next) = in_turn (lead (through next later) p) (lead later q)
lead later (Star p next) = record { further = (lead (next || later) p).further; stays = true }

-- what is kept of the path there
abbrev pub followed : Bool → PathState → PathState
followed later (Step f xs) = Step f (without_last xs)
followed later (Test f xs) = Test f (without_last xs)
followed later (Choice p q) = Choice (followed later p) (followed later q)
followed later (Seq p q next) = Seq (followed (through next later) p) (followed later q) (lead later q)
followed later (Star p next) = Star (followed (next || later) p) ((lead (next || later) p).further)

-- the first value, or b if there is none
abbrev pub first_or : Bool → List Bool → Bool
first_or b [] = b
first_or b (x ∷ xs) = x

abbrev mutual
  -- whether turns of the path lead further from each position of a block; `later` says of each whether
  -- the next one is good, and b whether turns lead further from the position after the block
  pub turns_further : Bool → List Bool → PathState → List Bool
  turns_further b [] p = []
  turns_further b (l ∷ later) p =
      (lead (first_or b (turns_further b later p) || l) (turns_followed b later p)).further ∷ turns_further b later p

  -- what is kept of the path before the block
  pub turns_followed : Bool → List Bool → PathState → PathState
  turns_followed b [] p = p
  turns_followed b (l ∷ later) p = followed (first_or b (turns_further b later p) || l) (turns_followed b later p)
