use Rattle.std.proofs.Common.{sym, ◌∙◌, ap, subst, ◌<◌, ◌-◌, Some}
use Rattle.automata.specs.Table.{size_of, moves_of}
use Rattle.game.specs.Board.{width}
use Rattle.legality.specs.Violation.{IsRestricted}
use Rattle.attractor.specs.Graph.{number_at}
use Rattle.legality.specs.Legal.{claim_of}
use Rattle.legality.proofs.LegalLemmas.{watch_told, rank_least, none_keeps, some_playable, legal_told, closed_of}
use Rattle.legality.proofs.legality.legal_histories.Goals as goal

pub returns-in-Some-clause-unkeepable : goal.returns-in-Some-clause-unkeepable
returns-in-Some-clause-unkeepable c =
    let t = c.in_ok-watched.watched in
    let h : c.args.keep.now.first < size_of c.args.keep.now = subst (λ z. z < size_of c.args.keep.now) c.first.ensures.first c.first.ensures.within in
    let k : t.first < size_of t = subst (λ z. z < size_of t) c.first-2.ensures.first c.first-2.ensures.within in
    let tells = watch_told (width c.args.partition.now) c.args.store.now c.watch.new.store c.args.keep.now t 3 c.requires.width c.watch.ensures.keeps c.requires.fits h c.in_ok-watched.ensures.watching in
    rank_least c.args.partition.now (Some (claim_of c.args.store.now c.args.keep.now)) (moves_of c.watch.new.store t) (number_at c.in_ok-ranks.ranks.items) c.in-Some.rounds tells k c.in_ok-ranks.ensures.ranks
    (sym (c.in-Some.ensures ∙ ap (λ xs. number_at xs c.first-2.result) c.deref.ensures.value ∙ ap (number_at c.in_ok-ranks.ranks.items) c.first-2.ensures.first))

pub returns-clause-legal : goal.returns-clause-legal
returns-clause-legal c =
    let t = c.in_ok-watched.watched in
    let h : c.args.keep.now.first < size_of c.args.keep.now = subst (λ z. z < size_of c.args.keep.now) c.first.ensures.first c.first.ensures.within in
    let k : t.first < size_of t = subst (λ z. z < size_of t) c.first-2.ensures.first c.first-2.ensures.within in
    let tells = watch_told (width c.args.partition.now) c.args.store.now c.watch.new.store c.args.keep.now t 3 c.requires.width c.watch.ensures.keeps c.requires.fits h c.in_ok-watched.ensures.watching in
    legal_told c.args.partition.now c.args.store.now c.watch.new.store c.args.keep.now t (Some (claim_of c.args.store.now c.args.keep.now)) _ (number_at c.in_ok-ranks.ranks.items) tells c.in_ok-watched.ensures.fits k
    c.in_ok-watched.ensures.watching c.in_ok-ranks.ensures.ranks
    (sym (c.in-None.ensures ∙ ap (λ xs. number_at xs c.first-2.result) c.deref.ensures.value ∙ ap (number_at c.in_ok-ranks.ranks.items) c.first-2.ensures.first))
    (subst (λ xs. IsRestricted c.args.partition.now (moves_of c.watch.new.store t) (moves_of c.restrict.new.store c.in_ok-restrict-in-None.field-0) (number_at xs) (size_of t - 1)) c.deref-in-None.ensures.value c.in_ok-restrict-in-None.ensures.restricted)

pub returns-clause-kept : goal.returns-clause-kept
returns-clause-kept c =
    let t = c.in_ok-watched.watched in
    let h : c.args.keep.now.first < size_of c.args.keep.now = subst (λ z. z < size_of c.args.keep.now) c.first.ensures.first c.first.ensures.within in
    let k : t.first < size_of t = subst (λ z. z < size_of t) c.first-2.ensures.first c.first-2.ensures.within in
    let tells = watch_told (width c.args.partition.now) c.args.store.now c.watch.new.store c.args.keep.now t 3 c.requires.width c.watch.ensures.keeps c.requires.fits h c.in_ok-watched.ensures.watching in
    none_keeps c.args.partition.now (Some (claim_of c.args.store.now c.args.keep.now)) (moves_of c.watch.new.store t) (number_at c.in_ok-ranks.ranks.items) tells
    (closed_of (width c.args.partition.now) c.watch.new.store t c.in_ok-watched.ensures.fits k) c.in_ok-ranks.ensures.ranks
    (sym (c.in-None.ensures ∙ ap (λ xs. number_at xs c.first-2.result) c.deref.ensures.value ∙ ap (number_at c.in_ok-ranks.ranks.items) c.first-2.ensures.first))

pub returns-clause-playable : goal.returns-clause-playable
returns-clause-playable c =
    let t = c.in_ok-watched.watched in
    let h : c.args.keep.now.first < size_of c.args.keep.now = subst (λ z. z < size_of c.args.keep.now) c.first.ensures.first c.first.ensures.within in
    let k : t.first < size_of t = subst (λ z. z < size_of t) c.first-2.ensures.first c.first-2.ensures.within in
    let tells = watch_told (width c.args.partition.now) c.args.store.now c.watch.new.store c.args.keep.now t 3 c.requires.width c.watch.ensures.keeps c.requires.fits h c.in_ok-watched.ensures.watching in
    some_playable c.args.partition.now c.args.store.now c.watch.new.store t c.args.keep.now (number_at c.in_ok-ranks.ranks.items) tells c.in_ok-watched.ensures.fits k c.in_ok-ranks.ensures.ranks
    (none_keeps c.args.partition.now (Some (claim_of c.args.store.now c.args.keep.now)) (moves_of c.watch.new.store t) (number_at c.in_ok-ranks.ranks.items) tells
    (closed_of (width c.args.partition.now) c.watch.new.store t c.in_ok-watched.ensures.fits k) c.in_ok-ranks.ensures.ranks
    (sym (c.in-None.ensures ∙ ap (λ xs. number_at xs c.first-2.result) c.deref.ensures.value ∙ ap (number_at c.in_ok-ranks.ranks.items) c.first-2.ensures.first)))
