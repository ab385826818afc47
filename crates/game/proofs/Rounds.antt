-- Letters and their parts: each input and each output make one letter.
use Rattle.std.proofs.Common.{◌≡◌, ◌<◌, ◌≤◌, ◌^◌, ◌+◌, ◌*◌, ◌/◌, ◌%◌, ℕ, suc, inl, inr, refl, sym, ◌∙◌, ap, subst, arith}
use Rattle.std.proofs.lemmas.Bool.{cases_lt}
use Rattle.std.proofs.Math.Nat.{div-mul-le_self, mul-le-mul_right}
use Rattle.std.proofs.lemmas.Nat.{pow_pos, pow-add, div-mul-add, mod-mul-add}
use Rattle.game.specs.Board.{Mover, Agent, Environment, Partition, width, input_of, output_of, decision_of, IsChoice, IsOutput, IsRound, IsLetter}

-- the higher part of a number of two parts
high_small : (a i o : ℕ) → a < 2 ^ (o + i) → a / 2 ^ i < 2 ^ o
high_small a i o h =
    let e = pow-add 2 o i in
    let p = div-mul-le_self a (2 ^ i) in
    elim (cases_lt (a / 2 ^ i) (2 ^ o)) [ inl l ↦ l | inr l ↦ let q : 2 ^ o * 2 ^ i ≤ a / 2 ^ i * 2 ^ i = mul-le-mul_right (2 ^ i) l in omega arith ]

-- the lower part
low_small : (a i : ℕ) → a % 2 ^ i < 2 ^ i
low_small a i = let p = pow_pos i in omega arith

-- a number of two parts
both_small : (x y i o : ℕ) → x < 2 ^ i → y < 2 ^ o → y * 2 ^ i + x < 2 ^ (o + i)
both_small x y i o h k =
    let e = pow-add 2 o i in
    let p : suc y * 2 ^ i ≤ 2 ^ o * 2 ^ i = mul-le-mul_right (2 ^ i) k in
    omega arith

-- the output part of a letter is an output
output_small_by : (m : Mover) (i o a : ℕ) → a < 2 ^ (i + o) → output_of (record { first = m; inputs = i; outputs = o }) a < 2 ^ o
output_small_by Agent i o a h = high_small a i o (let e : i + o ≡ o + i = omega arith in subst (λ n. a < 2 ^ n) e h)
output_small_by Environment i o a h = low_small a o

pub output_small : (s : Partition) (a : ℕ) → a < 2 ^ width s → IsOutput s (output_of s a)
output_small s a h = output_small_by s.first s.inputs s.outputs a h

-- the input part of a letter is an input
input_small_by : (m : Mover) (i o a : ℕ) → a < 2 ^ (i + o) → input_of (record { first = m; inputs = i; outputs = o }) a < 2 ^ i
input_small_by Agent i o a h = low_small a i
input_small_by Environment i o a h = high_small a o i h

pub input_small : (s : Partition) (a : ℕ) → a < 2 ^ width s → input_of s a < 2 ^ s.inputs
input_small s a h = input_small_by s.first s.inputs s.outputs a h

-- a letter belongs to a decision
choice_of_by : (m : Mover) (i o a : ℕ) → a < 2 ^ (i + o) → IsChoice (record { first = m; inputs = i; outputs = o }) (decision_of (record { first = m; inputs = i; outputs = o }) a)
choice_of_by Agent i o a h = refl
choice_of_by Environment i o a h = high_small a o i h

pub choice_of : (s : Partition) (a : ℕ) → a < 2 ^ width s → IsChoice s (decision_of s a)
choice_of s a h = choice_of_by s.first s.inputs s.outputs a h

-- it is the round with its own decision and output
pub own_round : (s : Partition) (a : ℕ) → a < 2 ^ width s → IsRound s (decision_of s a) (output_of s a) a
own_round s a h = record { letter = h; decision = refl; output = refl }

-- each input and each output make a letter
letter_of_by : (m : Mover) (i o x y : ℕ) → x < 2 ^ i → y < 2 ^ o → (a : ℕ) × IsLetter (record { first = m; inputs = i; outputs = o }) x y a
letter_of_by Agent i o x y h k = (
  y * 2 ^ i + x,
  record {
    letter = let e : o + i ≡ i + o = omega arith in subst (λ n. y * 2 ^ i + x < 2 ^ n) e (both_small x y i o h k);
    input = mod-mul-add y (2 ^ i) x h;
    output = div-mul-add y (2 ^ i) x h;
  },
)
letter_of_by Environment i o x y h k = (
  x * 2 ^ o + y,
  record {
    letter = both_small y x o i k h;
    input = div-mul-add x (2 ^ o) y k;
    output = mod-mul-add x (2 ^ o) y k;
  },
)

pub letter_of : (s : Partition) (x y : ℕ) → x < 2 ^ s.inputs → IsOutput s y → (a : ℕ) × IsLetter s x y a
letter_of s x y h k = letter_of_by s.first s.inputs s.outputs x y h k

-- and but one
letter_once_by : (m : Mover) (i o x y a b : ℕ) → IsLetter (record { first = m; inputs = i; outputs = o }) x y a
    → IsLetter (record { first = m; inputs = i; outputs = o }) x y b → a ≡ b
letter_once_by Agent i o x y a b h k =
    let p = pow_pos i in
    let q : a / 2 ^ i ≡ b / 2 ^ i = h.output ∙ sym k.output in
    let r : a % 2 ^ i ≡ b % 2 ^ i = h.input ∙ sym k.input in
    let t : 2 ^ i * (a / 2 ^ i) ≡ 2 ^ i * (b / 2 ^ i) = ap (λ n. 2 ^ i * n) q in
    omega arith
letter_once_by Environment i o x y a b h k =
    let p = pow_pos o in
    let q : a / 2 ^ o ≡ b / 2 ^ o = h.input ∙ sym k.input in
    let r : a % 2 ^ o ≡ b % 2 ^ o = h.output ∙ sym k.output in
    let t : 2 ^ o * (a / 2 ^ o) ≡ 2 ^ o * (b / 2 ^ o) = ap (λ n. 2 ^ o * n) q in
    omega arith

pub letter_once : (s : Partition) (x y a b : ℕ) → IsLetter s x y a → IsLetter s x y b → a ≡ b
letter_once s x y a b h k = letter_once_by s.first s.inputs s.outputs x y a b h k

-- a choice and an output have a round
round_of_by : (m : Mover) (i o x y : ℕ) → IsChoice (record { first = m; inputs = i; outputs = o }) x → y < 2 ^ o → (a : ℕ) × IsRound (record { first = m; inputs = i; outputs = o }) x y a
round_of_by Agent i o x y h k = let l = letter_of_by Agent i o 0 y (pow_pos i) k in (l.0, record { letter = l.1.letter; decision = sym h; output = l.1.output })
round_of_by Environment i o x y h k = let l = letter_of_by Environment i o x y h k in (l.0, record { letter = l.1.letter; decision = l.1.input; output = l.1.output })

pub round_of : (s : Partition) (x y : ℕ) → IsChoice s x → IsOutput s y → (a : ℕ) × IsRound s x y a
round_of s x y h k = round_of_by s.first s.inputs s.outputs x y h k

-- there is a choice
some_choice_by : (m : Mover) (i o : ℕ) → (x : ℕ) × IsChoice (record { first = m; inputs = i; outputs = o }) x
some_choice_by Agent i o = (0, refl)
some_choice_by Environment i o = (0, pow_pos i)

pub some_choice : (s : Partition) → (x : ℕ) × IsChoice s x
some_choice s = some_choice_by s.first s.inputs s.outputs
