-- Numbers of terms, compared.
use Rattle.std.proofs.Common.{◌≡◌, ℕ, true, sym, ap}
use Rattle.std.specs.Bool.{Decides}
use Rattle.std.proofs.lemmas.Bool.{eqb-true, eq-eqb}
use Rattle.lc_lemmas.proofs.Booleans.{same_tests}
use Rattle.lc_table.specs.declared.node.TermId.{TermId}
use Rattle.lc_linear.specs.Numbered.{is_same}

abbrev make : ℕ → TermId
make n = record { 0 = n }

id_of : (a b : TermId) → a.0 ≡ b.0 → a ≡ b
id_of a b is = ap make is

pub Decides-is_same : (a b : TermId) → Decides (is_same a b) (a ≡ b)
Decides-is_same a b = (λ h. id_of a b (eqb-true a.0 b.0 h), λ h. eq-eqb a.0 b.0 (ap (λ k. k.0) h))

pub is_same-congr : (a b c : TermId) → is_same a b ≡ true → is_same a c ≡ is_same b c
is_same-congr a b c h = ap (λ k. is_same k c) ((Decides-is_same a b).0 h)

pub is_same-symm : (a b : TermId) → is_same a b ≡ is_same b a
is_same-symm a b =
    same_tests (is_same a b) (is_same b a) (λ h. (Decides-is_same b a).1 (sym ((Decides-is_same a b).0 h))) (λ h. (Decides-is_same a b).1 (sym ((Decides-is_same b a).0 h)))
