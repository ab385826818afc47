use Rattle.std.proofs.Common.{◌≡◌, ◌≢◌, ◌<◌, ◌+◌, ◌-◌, ◌*◌, ◌%◌, ◌^◌, suc, true, false, eqb, sym, ◌∙◌, ap, arith, not}
use Rattle.std.proofs.lemmas.Bool.Decides.{nat_tests}
use Rattle.std.proofs.lemmas.Nat.{one_shl}
use Rattle.std.proofs.Math.Nat.{pow-suc}
use Rattle.diagrams.specs.declared.top.Id.{Id}
use Rattle.diagrams.specs.Eval.{tree}
use Rattle.diagrams.proofs.Canon.{tree_size}
use Rattle.diagrams.proofs.Combines.{step_at}
use Rattle.distinguish.proofs.DifferenceLemmas.{difference_low, difference_high, low_over, high_over, least_small, below_weight, high_apart}
use Rattle.distinguish.proofs.difference.+least_difference.Goals as goal

apart_ids : (i j : Id) → not (eqb i.0 j.0) ≡ true → i ≢ j
apart_ids i j e q = let h : i.0 ≡ j.0 = ap (λ k. k.0) q in grind (arith, nat_tests)

one_id : (i j : Id) → not (eqb i.0 j.0) ≡ false → i ≡ j
one_id i j e = let h : i.0 ≡ j.0 = grind (arith, nat_tests) in ap (λ k. record { 0 = k }) h

pub least_difference-requires : goal.least_difference-requires
least_difference-requires t c =
    let s = step_at c.args.store.now c.look-f_top.ensures.canonical c.args.f c.args.g c.look-f_top.result c.look-g_top.result c.look-f_top.ensures.top c.look-g_top.ensures.top
    c.in-Some.var c.in-Some.ensures c.cofactors.result c.cofactors-2.result c.cofactors.ensures.low c.cofactors.ensures.high c.cofactors-2.ensures.low c.cofactors-2.ensures.high in
    let small : c.in-Some.var < c.args.store.now.props = least_small c.args.store.now c.look-f_top.ensures.canonical c.args.f c.args.g c.look-f_top.result c.look-g_top.result c.in-Some.var c.look-f_top.ensures.top c.look-g_top.ensures.top c.requires.first c.requires.second c.in-Some.ensures in
    let n = c.args.store.now.props - 1 - c.in-Some.var in
    let e : c.in-Some.var + suc n ≡ c.args.store.now.props = omega (arith, small) in
    let h : tree_size (tree c.args.store.now c.cofactors.result.0) + tree_size (tree c.args.store.now c.cofactors-2.result.0) < t = omega (arith, s.lo_less, c.decreases) in
    (h, (low_over c.args.store.now c.look-f_top.ensures.canonical c.in-Some.var c.args.f _ _ s.first c.requires.first, (low_over c.args.store.now c.look-f_top.ensures.canonical c.in-Some.var c.args.g _ _ s.second c.requires.second, apart_ids c.cofactors.result.0 c.cofactors-2.result.0 (sym c.ne.ensures ∙ c.if-ne.true))))

pub returns-then-ne-clause-least : goal.returns-then-ne-clause-least
returns-then-ne-clause-least t c =
    let s = step_at c.args.store.now c.look-f_top.ensures.canonical c.args.f c.args.g c.look-f_top.result c.look-g_top.result c.look-f_top.ensures.top c.look-g_top.ensures.top
    c.in-Some.var c.in-Some.ensures c.cofactors.result c.cofactors-2.result c.cofactors.ensures.low c.cofactors.ensures.high c.cofactors-2.ensures.low c.cofactors-2.ensures.high in
    let small : c.in-Some.var < c.args.store.now.props = least_small c.args.store.now c.look-f_top.ensures.canonical c.args.f c.args.g c.look-f_top.result c.look-g_top.result c.in-Some.var c.look-f_top.ensures.top c.look-g_top.ensures.top c.requires.first c.requires.second c.in-Some.ensures in
    let n = c.args.store.now.props - 1 - c.in-Some.var in
    let e : c.in-Some.var + suc n ≡ c.args.store.now.props = omega (arith, small) in
    difference_low c.args.store.now n c.in-Some.var c.least_difference.result c.args.f c.args.g c.cofactors.result.0 c.cofactors.result.1 c.cofactors-2.result.0 c.cofactors-2.result.1 e s.first s.second
    (c.least_difference.ensures.below c.in-Some.var small s.first.lo_above s.second.lo_above) c.least_difference.ensures.least

pub returns-then-ne-clause-below : goal.returns-then-ne-clause-below
returns-then-ne-clause-below t c =
    let s = step_at c.args.store.now c.look-f_top.ensures.canonical c.args.f c.args.g c.look-f_top.result c.look-g_top.result c.look-f_top.ensures.top c.look-g_top.ensures.top
    c.in-Some.var c.in-Some.ensures c.cofactors.result c.cofactors-2.result c.cofactors.ensures.low c.cofactors.ensures.high c.cofactors-2.ensures.low c.cofactors-2.ensures.high in
    let small : c.in-Some.var < c.args.store.now.props = least_small c.args.store.now c.look-f_top.ensures.canonical c.args.f c.args.g c.look-f_top.result c.look-g_top.result c.in-Some.var c.look-f_top.ensures.top c.look-g_top.ensures.top c.requires.first c.requires.second c.in-Some.ensures in
    let n = c.args.store.now.props - 1 - c.in-Some.var in
    let e : c.in-Some.var + suc n ≡ c.args.store.now.props = omega (arith, small) in
    let l = c.least_difference.ensures.below c.in-Some.var small s.first.lo_above s.second.lo_above in
    let double = pow-suc 2 n in
    λ v h k q. below_weight c.args.store.now.props n c.in-Some.var v c.least_difference.result e (s.before v k q) (omega (arith, l, double))

pub overflow_sub-result : goal.overflow_sub-result
overflow_sub-result t c =
    let small = least_small c.args.store.now c.look-f_top.ensures.canonical c.args.f c.args.g c.look-f_top.result c.look-g_top.result c.in-Some.var c.look-f_top.ensures.top c.look-g_top.ensures.top c.requires.first c.requires.second c.in-Some.ensures in
    omega (arith, small, c.props.ensures.number)

pub overflow_sub-result-2 : goal.overflow_sub-result-2
overflow_sub-result-2 t c =
    let small = least_small c.args.store.now c.look-f_top.ensures.canonical c.args.f c.args.g c.look-f_top.result c.look-g_top.result c.in-Some.var c.look-f_top.ensures.top c.look-g_top.ensures.top c.requires.first c.requires.second c.in-Some.ensures in
    omega (arith, small, c.props.ensures.number)

pub least_difference-requires-2 : goal.least_difference-requires-2
least_difference-requires-2 t c =
    let s = step_at c.args.store.now c.look-f_top.ensures.canonical c.args.f c.args.g c.look-f_top.result c.look-g_top.result c.look-f_top.ensures.top c.look-g_top.ensures.top
    c.in-Some.var c.in-Some.ensures c.cofactors.result c.cofactors-2.result c.cofactors.ensures.low c.cofactors.ensures.high c.cofactors-2.ensures.low c.cofactors-2.ensures.high in
    let small : c.in-Some.var < c.args.store.now.props = least_small c.args.store.now c.look-f_top.ensures.canonical c.args.f c.args.g c.look-f_top.result c.look-g_top.result c.in-Some.var c.look-f_top.ensures.top c.look-g_top.ensures.top c.requires.first c.requires.second c.in-Some.ensures in
    let n = c.args.store.now.props - 1 - c.in-Some.var in
    let e : c.in-Some.var + suc n ≡ c.args.store.now.props = omega (arith, small) in
    let h : tree_size (tree c.args.store.now c.cofactors.result.1) + tree_size (tree c.args.store.now c.cofactors-2.result.1) < t = omega (arith, s.hi_less, c.decreases) in (
      h,
      (
        high_over c.args.store.now c.look-f_top.ensures.canonical c.in-Some.var c.args.f _ _ s.first c.requires.first,
        (
          high_over c.args.store.now c.look-f_top.ensures.canonical c.in-Some.var c.args.g _ _ s.second c.requires.second,
          high_apart c.args.store.now c.look-f_top.ensures.canonical c.in-Some.var c.args.f c.args.g c.cofactors.result.0 c.cofactors.result.1 c.cofactors-2.result.0 c.cofactors-2.result.1 s.first s.second c.requires.first c.requires.second c.requires.apart (one_id c.cofactors.result.0 c.cofactors-2.result.0 (sym c.ne.ensures ∙ c.if-ne.false)),
        ),
      ),
    )

pub returns-clause-least : goal.returns-clause-least
returns-clause-least t c =
    let s = step_at c.args.store.now c.look-f_top.ensures.canonical c.args.f c.args.g c.look-f_top.result c.look-g_top.result c.look-f_top.ensures.top c.look-g_top.ensures.top
    c.in-Some.var c.in-Some.ensures c.cofactors.result c.cofactors-2.result c.cofactors.ensures.low c.cofactors.ensures.high c.cofactors-2.ensures.low c.cofactors-2.ensures.high in
    let small : c.in-Some.var < c.args.store.now.props = least_small c.args.store.now c.look-f_top.ensures.canonical c.args.f c.args.g c.look-f_top.result c.look-g_top.result c.in-Some.var c.look-f_top.ensures.top c.look-g_top.ensures.top c.requires.first c.requires.second c.in-Some.ensures in
    let n = c.args.store.now.props - 1 - c.in-Some.var in
    let e : c.in-Some.var + suc n ≡ c.args.store.now.props = omega (arith, small) in
    let power : 1 * 2 ^ n % 2 ^ 64 ≡ 2 ^ n = one_shl n 64 (omega (arith, small, c.props.ensures.number, c.props.ensures.few)) in
    rw (c.props.ensures.number, power)
    (difference_high c.args.store.now c.look-f_top.ensures.canonical n c.in-Some.var c.least_difference-2.result c.args.f c.args.g c.cofactors.result.0 c.cofactors.result.1 c.cofactors-2.result.0 c.cofactors-2.result.1 e s.first s.second
    (c.least_difference-2.ensures.below c.in-Some.var small s.first.hi_above s.second.hi_above) (one_id c.cofactors.result.0 c.cofactors-2.result.0 (sym c.ne.ensures ∙ c.if-ne.false)) c.least_difference-2.ensures.least)

pub returns-clause-below : goal.returns-clause-below
returns-clause-below t c =
    let s = step_at c.args.store.now c.look-f_top.ensures.canonical c.args.f c.args.g c.look-f_top.result c.look-g_top.result c.look-f_top.ensures.top c.look-g_top.ensures.top
    c.in-Some.var c.in-Some.ensures c.cofactors.result c.cofactors-2.result c.cofactors.ensures.low c.cofactors.ensures.high c.cofactors-2.ensures.low c.cofactors-2.ensures.high in
    let small : c.in-Some.var < c.args.store.now.props = least_small c.args.store.now c.look-f_top.ensures.canonical c.args.f c.args.g c.look-f_top.result c.look-g_top.result c.in-Some.var c.look-f_top.ensures.top c.look-g_top.ensures.top c.requires.first c.requires.second c.in-Some.ensures in
    let n = c.args.store.now.props - 1 - c.in-Some.var in
    let e : c.in-Some.var + suc n ≡ c.args.store.now.props = omega (arith, small) in
    let power : 1 * 2 ^ n % 2 ^ 64 ≡ 2 ^ n = one_shl n 64 (omega (arith, small, c.props.ensures.number, c.props.ensures.few)) in
    let l = c.least_difference-2.ensures.below c.in-Some.var small s.first.hi_above s.second.hi_above in
    let double = pow-suc 2 n in
    λ v h k q. rw (c.props.ensures.number, power) (below_weight c.args.store.now.props n c.in-Some.var v (2 ^ n + c.least_difference-2.result) e (s.before v k q) (omega (arith, l, double)))
