-- How often the output is asked, by the calls that were made.
use Rattle.std.proofs.Common.{◌≡◌, ℕ, ◌<◌, ◌≤◌, lit≤, inl, inr, List, [], ◌∷◌, ◌++◌, refl, subst, arith}
use Rattle.std.proofs.lemmas.List.Elements.{All-nil, All-push}
use Rattle.command_endings.specs.Replies.{Reply}
use Rattle.command_endings.specs.Calls.{IsReplyPut, PutsReply, PutsEach, IsWholeLine, PutsLines}
use Rattle.command_endings.specs.Endings.{refusal_status}
use Rattle.command_endings.specs.declared.endings.Refusal.{Refusal}
use Rattle.command_endings.specs.declared.endings.Refusal.TheVariants.{Usage, Formula, Specification, TooMany, Breakable, NoEvent, Event, NotLegal, LineTooLong, InputTooLong}

-- the status of a refusal is none of an answer, of a fault or of want of memory
pub refusal-status : (r : Refusal) → (2 ≤ refusal_status r) × (refusal_status r ≤ 6)
refusal-status Usage = (lit≤ tt, lit≤ tt)
refusal-status (Formula fault) = (lit≤ tt, lit≤ tt)
refusal-status (Specification fault) = (lit≤ tt, lit≤ tt)
refusal-status (TooMany concern part count limit) = (lit≤ tt, lit≤ tt)
refusal-status (Breakable rounds) = (lit≤ tt, lit≤ tt)
refusal-status NoEvent = (lit≤ tt, lit≤ tt)
refusal-status (Event line fault) = (lit≤ tt, lit≤ tt)
refusal-status (NotLegal line) = (lit≤ tt, lit≤ tt)
refusal-status (LineTooLong line) = (lit≤ tt, lit≤ tt)
refusal-status (InputTooLong line) = (lit≤ tt, lit≤ tt)

-- the status of a refusal is none of an answer
pub refused-few : (r : Refusal) → refusal_status r < 2 → ⊥
refused-few r few = let s = refusal-status r in omega (arith, s.0)

module _ {A : Type 0} (put : A → List ℕ → A → Type 0) where
  -- the output of a reply was put
  pub PutsReply-put : (replies : Reply → Type 0) (a b : A) (number : ℕ) → IsReplyPut put replies a b → PutsReply put replies a b number
  PutsReply-put replies a b number x = record { once = inr x; answered = λ few. x }

  -- nothing was put, and there is no answer
  pub PutsReply-none : (replies : Reply → Type 0) (a b : A) (number : ℕ) → b ≡ a → (number < 2 → ⊥) → PutsReply put replies a b number
  PutsReply-none replies a b number same none = record { once = inl same; answered = λ few. absurd (none few) }

  -- one more piece is put at the end
  pub PutsEach-push : (pieces : List (List ℕ)) (piece : List ℕ) (a b c : A) → PutsEach put a pieces b → put b piece c → PutsEach put a (pieces ++ piece ∷ []) c
  PutsEach-push [] piece a b c same x = (c, subst (λ s. put s piece c) same x, refl)
  PutsEach-push (first ∷ pieces) piece a b c x y = (x.0, x.1, PutsEach-push pieces piece x.0 b c x.2 y)

  -- no line is put
  pub PutsLines-none : (a b : A) → b ≡ a → PutsLines put a b
  PutsLines-none a b same = record { lines = []; whole = All-nil IsWholeLine; each = same }

  -- one more line is put
  pub PutsLines-more : (a b c : A) (line : List ℕ) → PutsLines put a b → IsWholeLine line → put b line c → PutsLines put a c
  PutsLines-more a b c line p whole x = record {
    lines = p.lines ++ line ∷ [];
    whole = All-push IsWholeLine p.lines line p.whole whole;
    each = PutsEach-push p.lines line a b c p.each x;
  }
