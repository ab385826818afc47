-- What `choose` answers is chosen for the decision.
use Rattle.std.proofs.Common.{◌≡◌, ◌≤◌, ℕ, List, sym, subst, true, Option}
use Rattle.diagrams.specs.Tree.{Tree, IsReduced}
use Rattle.diagrams.proofs.Windows.{Starts}
use Rattle.game.specs.Board.{Partition, Board}
use Rattle.game.specs.Marks as game
use Rattle.game.specs.Values.{IsChosen}
use Rattle.choosing.specs.declared.choice.Mark.{Mark}
use Rattle.choosing.specs.declared.choice.Mark.TheVariants.{Goal, Win, Pending, Lost, Held, LostIn}
use Rattle.choosing.specs.Chosen.{no_number, IsChosenBelow}
use Rattle.choosing.specs.Rounds.{StandsBelow, IsTable}
use Rattle.choosing.specs.MarkOf.{mark_of}
use Rattle.choosing.proofs.RoundLemmas.{won-below, pending-below, lost-below, held-below, lost_in-below}

module _ {s : Partition} (b : Board s) (h : b.Place) (x from to size : ℕ) (place : ℕ → b.Place) (t : Tree) (below : StandsBelow b h x from to size place t)
    (range : from ≤ to) (starts : Starts from t) (reduced : IsReduced t) (ranks distances losses : b.Place → Option ℕ) (rank_list distance_list loss_list : List ℕ)
    (rank_table : IsTable b ranks place size 0 rank_list) (distance_table : IsTable b distances place size no_number distance_list)
    (loss_table : b.has_duty ≡ true → IsTable b losses place size no_number loss_list) where
  -- a choice by the numbers below is one by the numbers of the places
  pub chosen-below : (m : Mark) (y : ℕ) → IsChosenBelow from to b.has_duty rank_list distance_list loss_list t m y → IsChosen b ranks distances losses h x (mark_of m) y
  chosen-below Goal y c = absurd c
  chosen-below (Win n) y c =
      subst (λ k. IsChosen b ranks distances losses h x (game.Win k) y) (sym c.0)
      (won-below b h x from to size place t below range starts reduced ranks distances losses rank_list distance_list loss_list rank_table distance_table n y c.1 c.2)
  chosen-below (Pending n) y c =
      subst (λ k. IsChosen b ranks distances losses h x (game.Pending k) y) (sym c.1)
      (pending-below b h x from to size place t below range starts reduced ranks distances losses rank_list distance_list loss_list rank_table distance_table n y c.0 c.2 c.3)
  chosen-below Lost y c =
      subst (λ z. IsChosen b ranks distances losses h x game.Lost z) (sym c.2)
      (lost-below b h x from to size place t below range starts reduced ranks distances losses rank_list distance_list loss_list rank_table distance_table c.1 c.0)
  chosen-below Held y c =
      held-below b h x from to size place t below range starts reduced ranks distances losses rank_list distance_list loss_list rank_table distance_table c.1 c.0 (loss_table c.1) y c.2 c.3
  chosen-below (LostIn n) y c =
      subst (λ z. IsChosen b ranks distances losses h x (game.LostIn n) z) (sym c.4)
      (subst (λ k. IsChosen b ranks distances losses h x (game.LostIn k) 0) (sym c.2)
      (lost_in-below b h x from to size place t below range starts reduced ranks distances losses rank_list distance_list loss_list rank_table distance_table c.1 c.0 (loss_table c.1) c.3))
