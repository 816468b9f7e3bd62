-- Proofs that are carried and hold.
use Rattle.std.proofs.Common.{◌≡◌, ℕ, ◌==◌, Bool, true, false, List, [], ◌∷◌, ◌++◌, Option, Some, None, cond, sym, subst, ◌∙◌}
use Rattle.lc_carry.specs.Carried.{carried, column_between}
use Rattle.lc_carry.specs.CarriedDerives.{CarriedDerives}
use Rattle.lc_carry.specs.CarriedFrom.{CarriesLeast}
use Rattle.lc_cert.specs.Certificates.{Entry, proof_at}
use Rattle.lc_check.specs.Verdicts.{IsProved}
use Rattle.lc_find.proofs.FirstHints.{proved_at}
use Rattle.lc_find.specs.Certified.{IsCertifiedBy}
use Rattle.lc_find.specs.Found.{TakesFirst}
use Rattle.lc_find.specs.GetsCarried.{GetsCarried}
use Rattle.lc_kernel.specs.Proofs.{Proof}
use Rattle.lc_outline.specs.Development.{Development}
use Rattle.lc_carry.specs.RenamedProofs.{renamed}

front-by : (b : Bool) (e : Entry) (o now : Option Proof) (p : Proof) → (o ≡ Some p → now ≡ Some p) → cond b (Some e.proof) o ≡ Some p → cond b (Some e.proof) now ≡ Some p
front-by true e o now p h at = at
front-by false e o now p h at = h at

-- the first proof of a number stays the first in front of others
at-front : (es fs : List Entry) (k : ℕ) (p : Proof) → proof_at es k ≡ Some p → proof_at (es ++ fs) k ≡ Some p
at-front [] fs k p at = absurd (let none : None ≡ Some p = at in cc)
at-front (e ∷ es) fs k p at = front-by (e.number == k) e (proof_at es k) (proof_at (es ++ fs) k) p (at-front es fs k p) at

pub gets-carried : (D : Development) (es : List Entry) (E : Development) (hs fs : List Entry) → CarriesLeast → CarriedDerives → IsCertifiedBy D es → TakesFirst E (carried D es E ++ hs) fs → GetsCarried D es E fs
gets-carried D es E hs fs least derive (text, certifies, proves) first k j p from is_least apart same =
    let old = subst (IsProved from.old) from.proved (proved_at D es j from.old proves.0 from.old_stands) in
    let new : IsProved from.new (Some (renamed (column_between D E) p)) = derive D es E k j p from apart same old in
    let at = at-front (carried D es E) hs k (renamed (column_between D E) p) (least D es E k j p from is_least) in
    first k (from.new, from.new_stands, subst (IsProved from.new) (sym at) new) ∙ at
