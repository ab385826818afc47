use Rattle.std.proofs.Common.{ap, Some}
use Rattle.std.specs.Option.{option_copied}
use Rattle.std.proofs.lemmas.Result.{IfOk-weaker}
use Rattle.automata.specs.Table.{moves_of}
use Rattle.legality.specs.Legal.{TellsLegal, keeping, claim_of}
use Rattle.arena.proofs.BuildingLemmas.{some_legal, none_legal_where, none_playable_where}
use Rattle.legality.proofs.LegalLemmas.{none_kept}
use Rattle.arena.proofs.building.legal_part.Goals as goal

pub returns-in-Some-clause-legal : goal.returns-in-Some-clause-legal
returns-in-Some-clause-legal c =
    IfOk-weaker c.legal_histories.result (λ made. TellsLegal (keeping c.args.partition.now (Some (claim_of c.args.store.now c.in-Some.keep.now))) (moves_of c.legal_histories.new.store made)) _
    (λ made tells. some_legal c.args.partition.now c.args.store.now c.in-Some.keep.now (option_copied c.args.keep) (moves_of c.legal_histories.new.store made) (ap option_copied c.in-Some.is) tells)
    c.legal_histories.ensures.legal

pub returns-in_ok-unwatched-in-None-clause-legal :
    goal.returns-in_ok-unwatched-in-None-clause-legal
returns-in_ok-unwatched-in-None-clause-legal c =
    none_legal_where c.args.partition.now c.args.store.now (option_copied c.args.keep) (moves_of c.unwatched.new.store c.in_ok-unwatched-in-None.field-0) (ap option_copied c.in-None.is) c.in_ok-unwatched-in-None.ensures.none

pub returns-in_ok-unwatched-in-None-clause-kept : goal.returns-in_ok-unwatched-in-None-clause-kept
returns-in_ok-unwatched-in-None-clause-kept c = rw (c.in-None.is) (none_kept c.args.partition.now)

pub returns-in_ok-unwatched-in-None-clause-playable : goal.returns-in_ok-unwatched-in-None-clause-playable
returns-in_ok-unwatched-in-None-clause-playable c = none_playable_where c.args.partition.now c.args.store.now (option_copied c.args.keep) (ap option_copied c.in-None.is)
