-- Two small commands worked out by hand, so that a wrong clause on how far a command reads, or on what it writes meanwhile,
-- does not check: one that stops at its goal with input left, and one that writes as it reads.
use Rattle.std.proofs.Common.{◌≡◌, ℕ, ◌+◌, List, [], ◌∷◌, ◌++◌, length, take, refl, sym, ap, ◌∙◌, subst, arith, lit≤, inl, inr, true, false, Option, Some, None, Contains, codes}
use Rattle.std.specs.List.{list_any}
use Rattle.std.proofs.lemmas.List.{length-append}
use Rattle.std.proofs.lemmas.List.Folds.{list_any_at}
use Rattle.std.proofs.Math.Seq.{take-append_seam}
use Rattle.bes_io.specs.Bytes.{is_lf}
use Rattle.command_endings.specs.declared.endings.Ending.TheVariants.{Positive, Negative, OutsideFault}
use Rattle.command_endings.specs.Far.{StopsAtGoal}
use Rattle.command_endings.specs.Replies.{Reply}
use Rattle.command_endings.specs.Streams.{StopsReading}
use Rattle.command_endings.specs.Tasks.{Task, Performs, Gives}
use Rattle.command_endings.specs.Worlds.{World, world}
use Rattle.command_endings.proofs.Performing.{replied, failed}

-- an outside with this input, which failed so often, and with this output
abbrev outside : Option (List ℕ) → ℕ → List ℕ → World
outside left faults held = world None [] left faults (Some held) 0

-- no byte of this text is an LF
no-lf : (text : List ℕ) → list_any is_lf text ≡ false → ¬ Contains text 10
no-lf text none (k, inside, at) = let some = list_any_at is_lf text k 10 inside (ap is_lf at) in cc

-- the goal is met by the first line
abbrev goal_reply : List ℕ → Reply
goal_reply [] = record { output = []; ending = Negative }
goal_reply (b ∷ bs) = record { output = []; ending = Positive }

abbrev goal_task : Task
goal_task = record {
  file = None;
  reads = true;
  to_end = false;
  streams = false;
  may_read = λ contents. Unit {0};
  accepts = λ files rest. Unit {0};
  answers = λ files rest reply. reply ≡ goal_reply rest;
}

abbrev two_lines : World
two_lines = outside (Some (codes "a\nb\n")) 0 []

abbrev one_line : World
one_line = outside (Some (codes "b\n")) 0 []

first-line : StopsAtGoal (λ bytes reply. reply ≡ goal_reply bytes) (codes "a\nb\n") one_line
first-line = record {
  earlier = [];
  needed = codes "a\n";
  further = [];
  later = codes "b\n";
  split = refl;
  left = refl;
  few = omega arith;
  reply = goal_reply (codes "a\n");
  due = refl;
  met = refl;
  needs = inr (inl refl, inl (codes "a", refl, no-lf (codes "a") refl), (goal_reply [], refl, λ e. cc));
}

-- it may leave the second line unread
second-line-left : Performs goal_task two_lines one_line Positive
second-line-left = replied goal_task two_lines one_line Positive (λ e. cc)
    (λ files rest tells. let told = tells.told_input tt in let same : codes "a\nb\n" ≡ rest = cc in
    subst (λ bytes. Gives (λ reply. reply ≡ goal_reply bytes) two_lines one_line Positive) same
    (record { reply = goal_reply (codes "a\nb\n"); asked = refl; added = refl; ends = refl }))
    (record { input_faults = refl; output_faults = refl; failed = refl })
    (record { whole = λ on end few. cc; to_goal = λ on off is. let no : 0 ≡ 1 = is in absurd (omega (arith, no)) })
    (λ files rest tells known on off is. let same : codes "a\nb\n" ≡ rest = cc in
    subst (λ bytes. StopsAtGoal (λ b reply. reply ≡ goal_reply b) bytes one_line) same first-line)

unmet : (earlier needed : List ℕ) (reply : Reply) → length earlier ≡ 0 → length needed ≡ 0 → reply ≡ goal_reply (earlier ++ needed) → reply.ending ≡ Positive → ⊥
unmet [] [] reply h k due met = let negative : reply.ending ≡ Negative = ap (λ (r : Reply). r.ending) due in cc
unmet (b ∷ bs) needed reply h k due met = absurd (omega (arith, h))
unmet [] (b ∷ bs) reply h k due met = absurd (omega (arith, k))

-- but not the first: without it the goal isn't met
first-line-needed : ¬ Performs goal_task two_lines two_lines Positive
first-line-needed p =
    let s = p.at_goal (λ name. None) (codes "a\nb\n") (record { told_files = tt; told_input = λ may. refl }) refl refl refl refl in
    let later : s.later ≡ codes "a\nb\n" = let is = s.left in cc in
    let few : length s.later ≡ 4 = ap length later in
    let whole : 4 ≡ length (s.earlier ++ (s.needed ++ (s.further ++ s.later))) = ap length s.split in
    let none : length s.earlier + (length s.needed + (length s.further + length s.later)) ≡ 4 =
    omega (arith, whole, length-append s.earlier (s.needed ++ (s.further ++ s.later)), length-append s.needed (s.further ++ s.later), length-append s.further s.later) in
    unmet s.earlier s.needed s.reply (omega (arith, none, few)) (omega (arith, none, few)) s.due s.met

-- the goal is met before the first line, and the input doesn't come to be asked
abbrev met_task : Task
met_task = record {
  file = None;
  reads = true;
  to_end = false;
  streams = false;
  may_read = λ contents. ⊥;
  accepts = λ files rest. Unit {0};
  answers = λ files rest reply. reply ≡ record { output = []; ending = Positive };
}

-- of an input that doesn't tell its rest nothing is said
silent-input : Performs met_task (outside None 0 []) (outside None 0 []) Positive
silent-input = replied met_task (outside None 0 []) (outside None 0 []) Positive (λ e. cc)
    (λ files rest tells. record { reply = record { output = []; ending = Positive }; asked = refl; added = refl; ends = refl })
    (record { input_faults = refl; output_faults = refl; failed = refl })
    (record { whole = λ on end few. cc; to_goal = λ on off is. let no : 0 ≡ 1 = is in absurd (omega (arith, no)) })
    (λ files rest tells known. cc)

-- each line is written as soon as it was read
abbrev echo : List ℕ → Reply
echo bytes = record { output = bytes; ending = Positive }

abbrev echo_task : Task
echo_task = record {
  file = None;
  reads = true;
  to_end = true;
  streams = true;
  may_read = λ contents. Unit {0};
  accepts = λ files rest. Unit {0};
  answers = λ files rest reply. reply ≡ echo rest;
}

abbrev unread : World
unread = outside (Some (codes "a\nb\n")) 0 []

-- the input failed after a line and a half, when this was written
abbrev stopped : List ℕ → World
stopped held = outside (Some (codes "\n")) 1 held

half-line : StopsReading (λ bytes reply. reply ≡ echo bytes) (codes "a\nb\n") unread (stopped (codes "a\n"))
half-line = record {
  lines = codes "a\n";
  part = codes "b";
  later = codes "\n";
  split = refl;
  left = refl;
  whole = inr (codes "a", refl);
  no_more = no-lf (codes "b") refl;
  reply = echo (codes "a\n");
  due = refl;
  admitted = λ no. no;
  added = refl;
}

-- the whole line was written
whole-line-written : Performs echo_task unread (stopped (codes "a\n")) OutsideFault
whole-line-written = failed echo_task unread (stopped (codes "a\n"))
    (λ files rest tells. let told = tells.told_input tt in let same : codes "a\nb\n" ≡ rest = cc in inr (echo rest, refl, 2, ap (λ bytes. Some (take 2 bytes)) same))
    (inl (tt, lit≤ tt)) (inl refl)
    (λ files rest tells known. let same : codes "a\nb\n" ≡ rest = cc in record {
      reads = λ rose. subst (λ bytes. StopsReading (λ b reply. reply ≡ echo b) bytes unread (stopped (codes "a\n"))) same half-line;
      puts = λ rose. absurd (omega (arith, rose));
    })

-- and it must be: where nothing was written, the part of a line that was taken would hold an LF
whole-line-due : ¬ Performs echo_task unread (stopped []) OutsideFault
whole-line-due p =
    let s = (p.streams (λ name. None) (codes "a\nb\n") (record { told_files = tt; told_input = λ may. refl }) refl).reads (omega arith) in
    let output : s.reply.output ≡ s.lines = ap (λ (r : Reply). r.output) s.due in
    let none : s.lines ≡ [] = let added = s.added in cc in
    let later : s.later ≡ codes "\n" = let is = s.left in cc in
    let split : codes "a\nb\n" ≡ s.part ++ codes "\n" = subst (λ l. codes "a\nb\n" ≡ s.part ++ l) later (subst (λ l. codes "a\nb\n" ≡ l ++ (s.part ++ s.later)) none s.split) in
    let whole : 4 ≡ length (s.part ++ codes "\n") = ap length split in
    let size : length s.part ≡ 3 = omega (arith, whole, length-append s.part (codes "\n")) in
    let part : codes "a\nb" ≡ s.part = ap (take 3) split ∙ subst (λ n. take n (s.part ++ codes "\n") ≡ s.part) size (take-append_seam s.part (codes "\n")) in
    subst (λ bytes. ¬ Contains bytes 10) (sym part) s.no_more (1, omega arith, refl)
