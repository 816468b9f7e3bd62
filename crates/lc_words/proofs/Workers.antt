-- The number of workers in the words of a command line.
use Rattle.std.proofs.Common.{◌≡◌, ℕ, ◌<◌, ◌≤◌, ◌^◌, Bool, true, false, codes, Option, Some, None, ◌∙◌, ap, ap₂, arith}
use Rattle.std.specs.Fmt.{decimal}
use Rattle.std.specs.Prelude.{option_and_then}
use Rattle.clap.specs.ValueTests.{is_unsigned_in}
use Rattle.clap.specs.Words.{Text, first_of, first_value, rows_of}
use Rattle.clap.specs.declared.builder.value_parser.ValueParser.TheVariants.{Unsigned}
use Rattle.clap.specs.declared.parser.matches.Found.{Found}
use Rattle.clap.proofs.ValueTestLemmas.{Accepts-accepts}
use Rattle.clap.proofs.WalkLemmas.{first_value-rows}
use Rattle.lc_words.specs.Limits.{worker_limit}
use Rattle.lc_words.specs.Reading.{checked, checking_task, is_set, number_given, number_in}
use Rattle.lc_words.specs.Tasks.{Task}
use Rattle.lc_words.proofs.Numbers.{unsigned_in}

-- a number of workers has 64 bits, and is one that clap takes
pub workers_are_few : (workers : ℕ) → workers ≤ worker_limit → workers < 2 ^ 64
workers_are_few workers most = omega (arith, most)

pub workers_pass : (workers : ℕ) → 1 ≤ workers → workers ≤ worker_limit → is_unsigned_in 1 worker_limit (decimal workers) ≡ true
workers_pass workers least most = Accepts-accepts false (Unsigned 1 worker_limit) (decimal workers) (unsigned_in 1 worker_limit workers (workers_are_few workers most) least most)

-- so is each number of 64 bits, if it may be any
pub number_passes : (n : ℕ) → n < 2 ^ 64 → is_unsigned_in 0 18446744073709551615 (decimal n) ≡ true
number_passes n small =
    let fits : n ≤ 18446744073709551615 = omega (arith, small) in
    Accepts-accepts false (Unsigned 0 18446744073709551615) (decimal n) (unsigned_in 0 18446744073709551615 n small (omega arith) fits)

-- the number of an option, if clap finds it
pub number_found : (f : Found) (name : Text) (text : Option Text) → text ≡ first_value f name → option_and_then number_in text ≡ number_given name (rows_of f)
number_found f name text is = ap (option_and_then number_in) (is ∙ first_value-rows f name)

-- the task of checking a certificate, if clap finds its arguments
pub checking_found : (f : Found) (development certificate : Text) (workers : Option ℕ) (progress : Bool) (task : Option Task) → Some development ≡ first_value f (codes "DEV")
    → Some certificate ≡ first_value f (codes "CERT") → workers ≡ number_given (codes "workers") (rows_of f) → progress ≡ is_set (codes "progress") (rows_of f)
    → task ≡ checked development certificate workers progress → task ≡ checking_task (rows_of f)
checking_found f development certificate workers progress task is is' given set asked =
    asked ∙ ap₂ (checked development certificate) given set
    ∙ ap₂ (λ x y. option_and_then (λ d. option_and_then (λ c. checked d c (number_given (codes "workers") (rows_of f)) (is_set (codes "progress") (rows_of f))) y) x) (is ∙ first_value-rows f (codes "DEV"))
    (is' ∙ first_value-rows f (codes "CERT"))

pub checking_uncertified : (f : Found) (development : Text) → Some development ≡ first_value f (codes "DEV") → None ≡ first_value f (codes "CERT") → None ≡ checking_task (rows_of f)
checking_uncertified f development is is' =
    ap₂ (λ x y. option_and_then (λ d. option_and_then (λ c. checked d c (number_given (codes "workers") (rows_of f)) (is_set (codes "progress") (rows_of f))) y) x) (is ∙ first_value-rows f (codes "DEV"))
    (is' ∙ first_value-rows f (codes "CERT"))

pub checking_unfound : (f : Found) → None ≡ first_value f (codes "DEV") → None ≡ checking_task (rows_of f)
checking_unfound f is =
    ap (option_and_then (λ d. option_and_then (λ c. checked d c (number_given (codes "workers") (rows_of f)) (is_set (codes "progress") (rows_of f))) (first_of (codes "CERT") (rows_of f))))
    (is ∙ first_value-rows f (codes "DEV"))
