-- Letters by their inputs and outputs.
use Rattle.std.proofs.Common.{◌≡◌, ◌<◌, ◌+◌, ◌*◌, ◌^◌, ℕ, subst, arith}
use Rattle.std.proofs.lemmas.Nat.{pow-add, mul-add-lt, div-mul-add, mod-mul-add}
use Rattle.game.specs.Board.{Mover, Agent, Environment, Partition, IsLetter, IsOutput}
use Rattle.game.specs.Letter.{letter_with}

letter_by : (m : Mover) (i o x y : ℕ) → x < 2 ^ i → y < 2 ^ o
    → IsLetter (record { first = m; inputs = i; outputs = o }) x y (letter_with (record { first = m; inputs = i; outputs = o }) x y)
letter_by Agent i o x y h k = record {
  letter =
      let e : 2 ^ i * 2 ^ o ≡ 2 ^ (i + o) = let p = pow-add 2 i o in omega (arith, p) in
      subst (λ z. y * 2 ^ i + x < z) e (mul-add-lt y (2 ^ i) x (2 ^ o) k h);
  input = mod-mul-add y (2 ^ i) x h;
  output = div-mul-add y (2 ^ i) x h;
}
letter_by Environment i o x y h k = record {
  letter =
      let e : 2 ^ o * 2 ^ i ≡ 2 ^ (i + o) = let p = pow-add 2 i o in omega (arith, p) in
      subst (λ z. x * 2 ^ o + y < z) e (mul-add-lt x (2 ^ o) y (2 ^ i) h k);
  input = div-mul-add x (2 ^ o) y k;
  output = mod-mul-add x (2 ^ o) y k;
}

-- it has them
pub letter_with-is : (s : Partition) (x y : ℕ) → x < 2 ^ s.inputs → IsOutput s y → IsLetter s x y (letter_with s x y)
letter_with-is s x y h k = letter_by s.first s.inputs s.outputs x y h k
