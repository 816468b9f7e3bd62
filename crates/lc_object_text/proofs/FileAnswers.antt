-- Each file says one object, or has one first refusal; and never both.
use Rattle.std.proofs.Common.{◌≡◌, ◌⊎◌, inl, inr, refl, sym, ap, ◌∙◌}
use Rattle.lc_base.specs.declared.refusal.Refusal.{Refusal}
use Rattle.lc_sexp.specs.Trees.{Trees}
use Rattle.lc_object.specs.Syntax.{Object}
use Rattle.lc_reading.specs.Flaws.{refusal_of}
use Rattle.lc_reading.specs.Readings.{Reading, fine, flawed}
use Rattle.lc_object_text.specs.Answers.{Says, IsFirstRefusal}
use Rattle.lc_object_text.specs.Objects.{file_reading}

pub said_or_refused : (ts : Trees) → ((object : Object) × Says ts object) ⊎ ((refusal : Refusal) × IsFirstRefusal ts refusal)
said_or_refused ts = by_reading (file_reading ts) refl where
  by_reading : (r : Reading Object) → file_reading ts ≡ r → ((object : Object) × Says ts object) ⊎ ((refusal : Refusal) × IsFirstRefusal ts refusal)
  by_reading (fine object) e = inl (object, e)
  by_reading (flawed f) e = inr (refusal_of f, (f, e, refl))

pub said_not_refused : (ts : Trees) (object : Object) (refusal : Refusal) → Says ts object → IsFirstRefusal ts refusal → ⊥
said_not_refused ts object refusal h (f, e, told) = absurd (let both : fine object ≡ flawed f = sym h ∙ e in cc)

pub one_object : (ts : Trees) (c d : Object) → Says ts c → Says ts d → c ≡ d
one_object ts c d h g = let same : fine c ≡ fine d = sym h ∙ g in cc

pub one_refusal : (ts : Trees) (r s : Refusal) → IsFirstRefusal ts r → IsFirstRefusal ts s → r ≡ s
one_refusal ts r s (f, e, told) (g, h, other) =
    let flaw : f ≡ g = cc (sym e ∙ h) in told ∙ ap refusal_of flaw ∙ sym other
