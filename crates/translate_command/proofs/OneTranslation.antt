-- A formula is translated in one way.
use Rattle.std.proofs.Common.{◌≡◌, ◌<◌, ℕ, List, length, false, ap, subst, lit≤, ◌∙◌}
use Rattle.forms.specs.Tree.{Formula}
use Rattle.form_tokens.specs.declared.dialect.Dialect.{Dialect}
use Rattle.translate.specs.Counting.{IsFirstOver}
use Rattle.translate.proofs.CountLemmas.{first_over_is_one}
use Rattle.class_limit.specs.Limits.{most_classes, IsFormulaWithinLimit}
use Rattle.class_limit.proofs.LimitLemmas.{over-or-within}
use Rattle.command_endings.specs.declared.endings.Concern.TheVariants as concern
use Rattle.command_endings.specs.declared.endings.Ending.TheVariants.{Positive}
use Rattle.command_endings.specs.declared.endings.Refusal.TheVariants as refusal
use Rattle.command_endings.specs.Endings.{status_of}
use Rattle.command_endings.specs.Formulas.{names_of}
use Rattle.command_endings.specs.Replies.{Reply, refusing}
use Rattle.command_endings.proofs.FormulaLemmas.{one-formula, formula-or-fault}
use Rattle.translate_command.specs.Translation.{TranslateAnswers, formula_refused, too_many, translated, IsTranslation}
use Rattle.translate_command.proofs.TranslationLemmas.{translation-one, over-or-translated}

-- a formula is translated in one way
pub one-translation : {dialect : Dialect} {text : List ℕ} {c d : Reply} → TranslateAnswers dialect text c → TranslateAnswers dialect text d → c ≡ d
one-translation (formula_refused {fault = x} a) (formula_refused {fault = y} b) =
    let same : x ≡ y = cc in ap (λ z. refusing (refusal.Formula z)) same
one-translation {dialect} {text} (formula_refused a) (too_many g b over) = absurd (formula-or-fault dialect text _ _ b a)
one-translation {dialect} {text} (formula_refused a) (translated g b made) = absurd (formula-or-fault dialect text _ _ b a)
one-translation {dialect} {text} (too_many f a over) (formula_refused b) = absurd (formula-or-fault dialect text _ _ a b)
one-translation {dialect} {text} (too_many {part = i} {count = m} f a over) (too_many {part = j} {count = n} g b under) =
    let names = names_of dialect text in
    let forms : f ≡ g = one-formula dialect text f g a b in
    let one = first_over_is_one (length names) g false most_classes i j m n (subst (λ z. IsFirstOver (length names) z false most_classes i m) forms over) under in
    ap (λ k. refusing (refusal.TooMany concern.Formula k m most_classes)) one.0 ∙ ap (λ k. refusing (refusal.TooMany concern.Formula j k most_classes)) one.1
one-translation {dialect} {text} (too_many {part = i} {count = m} f a over) (translated {output = out} g b made) =
    let names = names_of dialect text in
    let forms : f ≡ g = one-formula dialect text f g a b in
    absurd (over-or-translated names g i m out (subst (λ z. IsFirstOver (length names) z false most_classes i m) forms over) made)
one-translation {dialect} {text} (translated f a made) (formula_refused b) = absurd (formula-or-fault dialect text _ _ a b)
one-translation {dialect} {text} (translated {output = out} f a made) (too_many {part = i} {count = m} g b over) =
    let names = names_of dialect text in
    let forms : f ≡ g = one-formula dialect text f g a b in
    absurd (over-or-translated names g i m out over (subst (λ z. IsTranslation names z out) forms made))
one-translation {dialect} {text} (translated {output = xs} f a made) (translated {output = ys} g b again) =
    let names = names_of dialect text in
    let forms : f ≡ g = one-formula dialect text f g a b in
    ap (λ z. record { output = z; ending = Positive }) (translation-one names g xs ys (subst (λ z. IsTranslation names z xs) forms made) again)

-- a formula within the limit is answered
pub answered-formula : {dialect : Dialect} {text : List ℕ} {reply : Reply} → IsFormulaWithinLimit dialect text → TranslateAnswers dialect text reply → status_of reply.ending < 2
answered-formula {dialect} {text} may (formula_refused {fault = x} a) = absurd (formula-or-fault dialect text may.0 x may.1 a)
answered-formula {dialect} {text} may (too_many {part = i} {count = m} g b over) =
    absurd (over-or-within (names_of dialect text) may.0 i m (subst (λ z. IsFirstOver (length (names_of dialect text)) z false most_classes i m) (one-formula dialect text g may.0 b may.1) over) may.2)
answered-formula may (translated g b made) = lit≤ tt
