-- Automata that go as two others do at once, and automata that end at their marked locations.
use Rattle.std.specs.Prelude.{◌≡◌, ◌<◌, ◌^◌, ◌+◌, ◌==◌, ◌||◌, ℕ, Bool, true, false, max}
use Rattle.automata.specs.Moves.{Moves, IsClosed}

-- a location with this mark, that of a met goal or of an illegal history, leads to itself
abbrev pub is_end : ℕ → Bool
is_end mark = mark == 1 || mark == 3

-- Each location stands for one of a and one of b, has the greater of their marks and, unless it is an end, goes as they do.
pub record IsJoin (p : ℕ) (a b j : Moves) : Type 0 where
  pub left : ℕ → ℕ
  pub right : ℕ → ℕ
  pub closed : IsClosed p j
  pub first_left : left j.first ≡ a.first
  pub first_right : right j.first ≡ b.first
  pub mark : (at : ℕ) → at < j.size → j.mark at ≡ max (a.mark (left at)) (b.mark (right at))
  pub goes_left : (at x : ℕ) → at < j.size → x < 2 ^ p → is_end (j.mark at) ≡ false → left (j.next at x) ≡ a.next (left at) x
  pub goes_right : (at x : ℕ) → at < j.size → x < 2 ^ p → is_end (j.mark at) ≡ false → right (j.next at x) ≡ b.next (right at) x
  pub stays : (at x : ℕ) → at < j.size → x < 2 ^ p → is_end (j.mark at) ≡ true → j.next at x ≡ at

-- m, but that each end leads to itself
pub record IsStopped (p : ℕ) (m e : Moves) : Type 0 where
  pub size : e.size ≡ m.size
  pub first : e.first ≡ m.first
  pub mark : (at : ℕ) → at < m.size → e.mark at ≡ m.mark at
  pub goes : (at x : ℕ) → at < m.size → x < 2 ^ p → is_end (m.mark at) ≡ false → e.next at x ≡ m.next at x
  pub stays : (at x : ℕ) → at < m.size → x < 2 ^ p → is_end (m.mark at) ≡ true → e.next at x ≡ at

-- m with one more location, for words that went past a location with the mark 1
pub record IsEnded (p : ℕ) (m e : Moves) : Type 0 where
  pub size : e.size ≡ m.size + 1
  pub first : e.first ≡ m.first
  pub next : (at x : ℕ) → at < m.size → x < 2 ^ p → (m.mark at == 1) ≡ false → e.next at x ≡ m.next at x
  pub past : (at x : ℕ) → at < m.size → x < 2 ^ p → (m.mark at == 1) ≡ true → e.next at x ≡ m.size
  pub stays : (x : ℕ) → x < 2 ^ p → e.next m.size x ≡ m.size
  pub mark : (at : ℕ) → at < m.size → e.mark at ≡ m.mark at
  pub past_mark : e.mark m.size ≡ 4
