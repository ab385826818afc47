-- Numbers of rounds: layers that are stable once stay so.
use Rattle.std.proofs.Common.{ℕ, zero, suc, ◌<◌, ◌≤◌, ◌^◌, inl, inr}
use Rattle.game.specs.Board.{Board, width}
use Rattle.forms.specs.declared.partition.Partition.{Partition}
use Rattle.game.specs.Winning.{WinsWithin, ReachesWithin, FailsDutyWithin}
use Rattle.game.proofs.WinningLemmas.{wins-more, reaches-more, fails-more}

-- what holds at a number holds at each greater one
abbrev pub Lasts : (ℕ → Type 0) → Type 0
Lasts P = (n m : ℕ) → P n → n ≤ m → P m

pub wins_lasts : {s : Partition} (b : Board s) (h : b.Place) → Lasts (λ n. WinsWithin b n h)
wins_lasts b h n m w l = wins-more b n m h l w

pub fails_lasts : {s : Partition} (b : Board s) (h : b.Place) → Lasts (λ n. FailsDutyWithin b n h)
fails_lasts b h n m w l = fails-more b n m h l w

pub reaches_lasts : {s : Partition} (b : Board s) (h : b.Place) → Lasts (λ n. ReachesWithin b n h)
reaches_lasts b h n m w l = reaches-more b n m h l w

-- legal rounds stay among these places
abbrev pub IsClosed : {s : Partition} (b : Board s) → (b.Place → Type 0) → Type 0
IsClosed {s = s} b Among = (h : b.Place) (a : ℕ) → Among h → a < 2 ^ width s → b.IsLegal h a → Among (b.after h a)

pub met_wins : {s : Partition} (b : Board s) (n : ℕ) (h : b.Place) → b.IsMet h → WinsWithin b n h
met_wins b zero h m = m
met_wins b (suc n) h m = inl m

-- where one round more wins no more, none does
pub wins_stable : {s : Partition} (b : Board s) (Among : b.Place → Type 0) → IsClosed b Among → (n : ℕ) → ((h : b.Place) → Among h → WinsWithin b (suc n) h → WinsWithin b n h)
    → (k : ℕ) (h : b.Place) → Among h → WinsWithin b k h → WinsWithin b n h
wins_stable b Among c n s zero h i w = met_wins b n h w
wins_stable b Among c n s (suc k) h i (inl m) = met_wins b n h m
wins_stable b Among c n s (suc k) h i (inr f) =
    s h i (inr (λ x d. let p = f x d in (p.0, p.1, λ a r l. wins_stable b Among c n s k (b.after h a) (c h a i r.letter l) (p.2 a r l))))

broken_fails : {s : Partition} (b : Board s) (n : ℕ) (h : b.Place) → b.IsBroken h → FailsDutyWithin b n h
broken_fails b zero h m = m
broken_fails b (suc n) h m = inl m

-- the same of a broken duty
pub fails_stable : {s : Partition} (b : Board s) (Among : b.Place → Type 0) → IsClosed b Among → (n : ℕ) → ((h : b.Place) → Among h → FailsDutyWithin b (suc n) h → FailsDutyWithin b n h)
    → (k : ℕ) (h : b.Place) → Among h → FailsDutyWithin b k h → FailsDutyWithin b n h
fails_stable b Among c n s zero h i w = broken_fails b n h w
fails_stable b Among c n s (suc k) h i (inl m) = broken_fails b n h m
fails_stable b Among c n s (suc k) h i (inr (x, d, f)) =
    s h i (inr (x, d, λ y o. let p = f y o in (p.0, p.1, p.2, fails_stable b Among c n s k (b.after h p.0) (c h p.0 i p.1.letter p.2) p.3)))
