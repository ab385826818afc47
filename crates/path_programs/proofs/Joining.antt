-- The leads of a choice and of a sequence, through the stores of the calls.
use Rattle.std.proofs.Common.{◌≡◌, Bool, refl}
use Rattle.std.specs.Prelude.{◌&&◌, ◌||◌}
use Rattle.diagrams.specs.declared.top.Id.{Id}
use Rattle.diagrams.specs.Eval.{Diagrams, is_one}
use Rattle.diagrams.specs.Live.{IsLive, Keeps}
use Rattle.diagrams.proofs.Meaning.{Keeps_trans, is_one-lasts}
use Rattle.path_programs.specs.declared.lead.Lead.{Lead}
use Rattle.path_programs.specs.Made.{IsOneWhere}
use Rattle.path_programs.specs.Lead.{IsEither, IsInTurn}
use Rattle.path_programs.proofs.Making.{one_same, one_lasts}

-- an operation on two diagrams that were made in an earlier store
pub one_from : (s m n : Diagrams) (f g id : Id) (op : Bool → Bool → Bool) → Keeps s m → IsLive s f → IsLive s g
    → IsOneWhere n id (λ a. op (is_one m f a) (is_one m g a)) → IsOneWhere n id (λ a. op (is_one s f a) (is_one s g a))
one_from s m n f g id op k p q o =
    one_same n id (λ a. op (is_one m f a) (is_one m g a)) (λ a. op (is_one s f a) (is_one s g a)) o (λ a. rw (is_one-lasts s m k f p a, is_one-lasts s m k g q a) refl)

-- the lead of a choice
pub either_made : (s m n : Diagrams) (x y l : Lead) → Keeps s m → Keeps m n → IsLive s x.stays → IsLive s y.stays
    → IsOneWhere m l.further (λ a. is_one s x.further a || is_one s y.further a) → IsOneWhere n l.stays (λ a. is_one m x.stays a || is_one m y.stays a) → l.ends ≡ (x.ends || y.ends)
    → IsEither s n x y l
either_made s m n x y l j k p q further stays ends = record {
  further = one_lasts m n k l.further (λ a. is_one s x.further a || is_one s y.further a) further;
  stays = one_from s m n x.stays y.stays l.stays (λ b d. b || d) j p q stays;
  ends = ends;
}

-- the lead of a sequence
pub in_turn_made : (s m r n : Diagrams) (x y l : Lead) (second : Id) → Keeps s m → Keeps m r → Keeps r n → IsLive s x.further → IsLive s x.stays → IsLive s y.stays
    → IsOneWhere m second (λ a. is_one s x.stays a && is_one s y.further a) → IsOneWhere r l.further (λ a. is_one m x.further a || is_one m second a)
    → IsOneWhere n l.stays (λ a. is_one r x.stays a && is_one r y.stays a) → l.ends ≡ (x.ends && y.ends) → IsInTurn s n x y l
in_turn_made s m r n x y l second i j k p q o two further stays ends = record {
  further = one_lasts r n k l.further (λ a. is_one s x.further a || is_one s x.stays a && is_one s y.further a)
      (one_same r l.further (λ a. is_one m x.further a || is_one m second a) (λ a. is_one s x.further a || is_one s x.stays a && is_one s y.further a) further
      (λ a. rw (is_one-lasts s m i x.further p a, two.value a) refl));
  stays = one_from s r n x.stays y.stays l.stays (λ b d. b && d) (Keeps_trans s m r i j) q o stays;
  ends = ends;
}
