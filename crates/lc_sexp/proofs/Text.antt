-- Lemmas of `specs/Text.antt` that several files cite.
use Rattle.std.proofs.Common.{◌≡◌, ℕ, true, arith}
use Rattle.std.proofs.lemmas.Bool.Decides.{nat_tests}
use Rattle.lc_base.specs.NameText.{begins_name, continues_name}
use Rattle.lc_sexp.specs.Text.{class_of, is_Letter}

pub begins_letter : (b : ℕ) → begins_name b ≡ true → is_Letter (class_of b) ≡ true
unfolding begins_name class_of
begins_letter b h = grind (arith, nat_tests)

pub continues_letter : (b : ℕ) → continues_name b ≡ true → is_Letter (class_of b) ≡ true
unfolding continues_name class_of
continues_letter b h = grind (arith, nat_tests)

pub semi_no_letter : is_Letter (class_of 59) ≡ true → ⊥
unfolding class_of
semi_no_letter h = cc
