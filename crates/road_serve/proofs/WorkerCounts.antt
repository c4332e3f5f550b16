-- Which texts name a number of workers, by how they are parsed.
use Rattle.std.proofs.Common.{◌≡◌, ◌⊎◌, ◌<◌, ◌≤◌, ℕ, List, Bool, true, false, Option, Some, None, Result, Ok, Err, inl, inr, refl, sym, ap, arith, ◌∙◌}
use Rattle.std.specs.Result.{result_ok}
use Rattle.std.specs.Str.Parse.{IsNumeral, ParsesUnsigned, digits_value, without_leading_plus}
use Rattle.clap.proofs.ValueTestLemmas.{Accepts-accepts, accepts-Accepts}
use Rattle.clap.specs.ValueTests.{is_unsigned_in}
use Rattle.clap.specs.declared.builder.value_parser.ValueParser.TheVariants as parsers
use Rattle.road_plan.specs.declared.limits.TheConstants.{MOST_WORKERS}
use Rattle.road_serve.specs.Arguments.{worker_count}

abbrev counted_if : Bool → ℕ → Option ℕ
counted_if true n = Some n
counted_if false n = None

by_test : (text : List ℕ) → worker_count text ≡ counted_if (is_unsigned_in 1 MOST_WORKERS text) (digits_value 10 (without_leading_plus text))
unfolding worker_count
by_test text = go (is_unsigned_in 1 MOST_WORKERS text) refl
  where
    go : (passes : Bool) → is_unsigned_in 1 MOST_WORKERS text ≡ passes → worker_count text ≡ counted_if (is_unsigned_in 1 MOST_WORKERS text) (digits_value 10 (without_leading_plus text))
    go true is = rw is refl
    go false is = rw is refl

counted : (text : List ℕ) (n : ℕ) → IsNumeral 10 (without_leading_plus text) → n ≡ digits_value 10 (without_leading_plus text)
    → 0 < n → n ≤ MOST_WORKERS → Some n ≡ worker_count text
counted text n numeral is some few =
    let small : digits_value 10 (without_leading_plus text) ≤ MOST_WORKERS = rw is at few in
    let passes : is_unsigned_in 1 MOST_WORKERS text ≡ true =
    Accepts-accepts false (parsers.Unsigned 1 MOST_WORKERS) text (numeral, omega arith, rw is at some, small) in
    ap Some is ∙ sym (by_test text ∙ ap (λ (b : Bool). counted_if b (digits_value 10 (without_leading_plus text))) passes)

uncounted : (text : List ℕ) → (IsNumeral 10 (without_leading_plus text) → 0 < digits_value 10 (without_leading_plus text)
    → digits_value 10 (without_leading_plus text) ≤ MOST_WORKERS → ⊥) → None ≡ worker_count text
uncounted text none = go (is_unsigned_in 1 MOST_WORKERS text) refl
  where
    go : (passes : Bool) → is_unsigned_in 1 MOST_WORKERS text ≡ passes → None ≡ worker_count text
    go true is =
        let accepted = accepts-Accepts false (parsers.Unsigned 1 MOST_WORKERS) text is in
        absurd (none accepted.0 accepted.2 accepted.3)
    go false is = sym (by_test text ∙ ap (λ (b : Bool). counted_if b (digits_value 10 (without_leading_plus text))) is)

pub counted_parse : {E : Type 0} (text : List ℕ) (parsed : Result ℕ E) (n : ℕ) → ParsesUnsigned 32 10 text parsed → result_ok parsed ≡ Some n
    → 0 < n → n ≤ MOST_WORKERS → Some n ≡ worker_count text
counted_parse text (Ok v) n parses is some few =
    let same : n ≡ v = cc in
    counted text n parses.0.0 (same ∙ parses.1) some few
counted_parse text (Err e) n parses is some few = absurd (cc)

pub uncounted_parse : {E : Type 0} (text : List ℕ) (parsed : Result ℕ E) (n : ℕ) → ParsesUnsigned 32 10 text parsed → result_ok parsed ≡ Some n
    → (n ≡ 0) ⊎ (MOST_WORKERS < n) → None ≡ worker_count text
uncounted_parse text (Ok v) n parses is out =
    let same : n ≡ digits_value 10 (without_leading_plus text) = (let e : n ≡ v = cc in e ∙ parses.1) in
    uncounted text (λ numeral some few. elim out [ inl zero ↦ omega (arith, same, zero, some) | inr many ↦ omega (arith, same, many, few) ])
uncounted_parse text (Err e) n parses is out = absurd (cc)

pub unparsed : {E : Type 0} (text : List ℕ) (parsed : Result ℕ E) → ParsesUnsigned 32 10 text parsed → result_ok parsed ≡ None
    → None ≡ worker_count text
unparsed text (Ok v) parses is = absurd (cc)
unparsed text (Err e) parses is = uncounted text (λ numeral some few. parses (numeral, omega arith))
