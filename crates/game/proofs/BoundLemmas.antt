-- An arena has no more locations than there are codes of what tells live histories apart.
use Rattle.std.proofs.Common.{◌≡◌, ◌<◌, ◌≤◌, ◌+◌, ◌*◌, ◌/◌, ◌%◌, ◌⊎◌, ℕ, suc, sym, ◌∙◌, ap, arith}
use Rattle.std.proofs.Math.Nat.{mul-le-mul_right}
use Rattle.std.proofs.lemmas.Nat.{div-mul-add, mod-mul-add}
use Rattle.forms.specs.Word.{Word, IsOver}
use Rattle.automata.proofs.Pigeon.{no_more_than}
use Rattle.game.specs.Board.{width}
use Rattle.game.specs.Histories.{Aims, IsLegalHistory, IsLive}
use Rattle.game.specs.Arena.{Locations, IsArenaOf}
use Rattle.game.specs.Alike.{AreAlike}
use Rattle.game.proofs.AlikeLemmas.{alike_share}

pub arena_bound : (s : Aims) (m : Locations) → IsArenaOf s m → ((h : Word) → IsOver (width s.parts) h → IsLegalHistory s h ⊎ (¬ IsLegalHistory s h))
    → (n : ℕ) (code : Word → ℕ) → ((h : Word) → IsOver (width s.parts) h → IsLive s h → code h < n)
    → ((u v : Word) → IsOver (width s.parts) u → IsOver (width s.parts) v → IsLive s u → IsLive s v → code u ≡ code v → AreAlike s u v) → m.size ≤ n
arena_bound s m arena decided n code small tells =
    let word = arena.numbered.word in
    no_more_than n m.size (λ i. code (word i))
    (λ i h. let x = (arena.numbered.least i h).leads in small (word i) x.over ((arena.live (word i) x.over).1 (i, x)))
    (λ i j l h e.
    let k : i < m.size = omega arith in
    let x = (arena.numbered.least i k).leads in
    let y = (arena.numbered.least j h).leads in
    let lu = (arena.live (word i) x.over).1 (i, x) in
    let lv = (arena.live (word j) y.over).1 (j, y) in
    let q = (arena.shared (word i) (word j) i j x y).1 (alike_share s decided (word i) (word j) x.over lu lv (tells (word i) (word j) x.over y.over lu lv e)) in
    absurd (omega arith))

-- two codes make one
pub code_small : (x y m n : ℕ) → x < m → y < n → x * n + y < m * n
code_small x y m n h k = let p : suc x * n ≤ m * n = mul-le-mul_right n h in omega arith

pub code_once : (x y z w n : ℕ) → y < n → w < n → x * n + y ≡ z * n + w → (x ≡ z) × (y ≡ w)
code_once x y z w n h k e =
    (sym (div-mul-add x n y h) ∙ ap (λ c. c / n) e ∙ div-mul-add z n w k, sym (mod-mul-add x n y h) ∙ ap (λ c. c % n) e ∙ mod-mul-add z n w k)
