-- One lexeme, by its cases.
use Rattle.std.proofs.Common.{◌≡◌, ℕ, ◌+◌, ◌≤◌, ◌<◌, List, Some, None, Ok, Err, sym, Bool, false, nat_le, length}
use Rattle.std.proofs.lemmas.Bool.{le-ltb, lt-ltb}
use Rattle.form_reader.specs.declared.fault.FormFault.{FormFault}
use Rattle.form_reader.specs.declared.fault.FormFault.TheVariants as faults
use Rattle.std.proofs.lemmas.List.{length-reverse, length-map}
use Rattle.form_reader.specs.declared.item.Item.{Item}
use Rattle.form_reader.specs.declared.item.Latest.{Latest}
use Rattle.form_reader.specs.declared.item.Latest.TheVariants as latests
use Rattle.form_reader.specs.Stack.{state_of}
use Rattle.form_tokens.specs.Spelling.{Lexeme}
use Rattle.form_reader.specs.Blames.{Blames}
use Rattle.form_reader.specs.Waiting.{most_waiting}
use Rattle.form_reader.specs.Machine.{State, step, waits}
use Rattle.form_reader.specs.Faults.{is_bad, most_tokens, token_of, names_with, name_fault}
use Rattle.form_reader.specs.Outcome.{Stage, turn, stage_of}

-- a token that has no place in the state is unexpected
pub turn-unexpected : (closed : Bool) (g : Stage) (l : ℕ × Lexeme) → is_bad l.1 ≡ false → nat_le most_tokens g.count ≡ false → step g.state (token_of g.names l.1) ≡ None → turn closed g l ≡ Err (faults.Unexpected l.0)
turn-unexpected closed g l b c s = rw (b, c, s)

-- a token after which too many items wait is too deep
pub turn-deep : (closed : Bool) (g : Stage) (l : ℕ × Lexeme) (next : State) → is_bad l.1 ≡ false → nat_le most_tokens g.count ≡ false → step g.state (token_of g.names l.1) ≡ Some next → most_waiting < length (waits next) → turn closed g l ≡ Err (faults.TooDeep l.0)
turn-deep closed g l next b c s d = rw (b, c, s, lt-ltb most_waiting (length (waits next)) d)

-- a token within those limits has the fault of its name
pub turn-name : (closed : Bool) (g : Stage) (l : ℕ × Lexeme) (next : State) (e : FormFault) → is_bad l.1 ≡ false → nat_le most_tokens g.count ≡ false → step g.state (token_of g.names l.1) ≡ Some next → length (waits next) ≤ most_waiting → name_fault closed g.names l.0 l.1 ≡ Some e → turn closed g l ≡ Err e
turn-name closed g l next e b c s d n = rw (b, c, s, le-ltb most_waiting (length (waits next)) d, n)

-- a token without a fault is read: its name is in the table, one token more is counted
pub turn-ok : (closed : Bool) (g : Stage) (l : ℕ × Lexeme) (next : State) → is_bad l.1 ≡ false → nat_le most_tokens g.count ≡ false → step g.state (token_of g.names l.1) ≡ Some next → length (waits next) ≤ most_waiting → name_fault closed g.names l.0 l.1 ≡ None → turn closed g l ≡ Ok (stage_of (names_with g.names l.1) ((g.count + 1)) next)
turn-ok closed g l next b c s d n = rw (b, c, s, le-ltb most_waiting (length (waits next)) d, n)

-- a fault with a cause has what follows from that cause as a cause too
pub Blames-map : (e : FormFault) (P Q : Type 0) → (P → Q) → Blames e P → Blames e Q
Blames-map faults.Memory P Q f h = h
Blames-map _ P Q f h = f h

-- a fault of the name is that of the token, unless memory ran out
pub Blames-turn-name : (closed : Bool) (g : Stage) (l : ℕ × Lexeme) (next : State) (e : FormFault) → is_bad l.1 ≡ false → nat_le most_tokens g.count ≡ false → step g.state (token_of g.names l.1) ≡ Some next → length (waits next) ≤ most_waiting → Blames e (name_fault closed g.names l.0 l.1 ≡ Some e) → Blames e (turn closed g l ≡ Err e)
Blames-turn-name closed g l next e b c s d h = Blames-map e _ _ (λ n. turn-name closed g l next e b c s d n) h

-- what is a fault at each stage with so many tokens is one at this stage
pub Blames-turn : (closed : Bool) (g : Stage) (l : ℕ × Lexeme) (count : ℕ) (e : FormFault) → count ≡ g.count → Blames e ((stage : Stage) → stage.count ≡ count → turn closed stage l ≡ Err e) → Blames e (turn closed g l ≡ Err e)
Blames-turn closed g l count e d h = Blames-map e _ _ (λ f. f g (sym d)) h

-- as many items wait in the program as in the machine
pub length-waits : (xs : List Item) (latest : Latest) → length (waits (state_of xs latest)) ≡ length xs
length-waits xs latest = go latest
  where
    go : (latest : Latest) → length (waits (state_of xs latest)) ≡ length xs
    go latests.FormulaDue = simp (length-reverse, length-map)
    go _ = simp (length-reverse, length-map)

-- one lexeme by its cases, with the blame for each fault
pub ruleset turns = (turn-unexpected, turn-deep, turn-name, turn-ok, Blames-turn-name, Blames-turn)
