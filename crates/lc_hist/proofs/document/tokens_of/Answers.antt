use Rattle.std.proofs.Common.{◌≡◌, Err, true≢false, refl, sym, ap, subst, length, arith}
use Rattle.json.specs.declared.error.Error.{Error}
use Rattle.json.specs.declared.error.Error.TheVariants.{Invalid, OutOfMemory, TooLong, DuplicateKey}
use Rattle.lc_hist.specs.JsonSeen.{IsNoJson}
use Rattle.lc_hist.proofs.JsonRead.{no_document}
use Rattle.lc_hist.proofs.document.tokens_of.Goals as goal

no_other : (e : Error) → (e ≡ Invalid → ⊥) → (e ≡ OutOfMemory → ⊥) → (e ≡ TooLong → ⊥) → (e ≡ DuplicateKey → ⊥) → ⊥
no_other Invalid invalid memory long twice = invalid refl
no_other OutOfMemory invalid memory long twice = memory refl
no_other TooLong invalid memory long twice = long refl
no_other DuplicateKey invalid memory long twice = twice refl

pub returns-in-Err-2 : goal.returns-in-Err-2
returns-in-Err-2 c d has =
    let e = c.in-Err.error in
    let bytes = c.args.bytes.now in
    let same = c.in-Ok.ensures.0 in
    no_other e
    (λ is. subst IsNoJson same (no_document c.in-Ok.text.now (c.in-Err.ensures.invalid (ap Err is))) d has)
    (λ is. let h = rw is at c.if-eq.ensures in true≢false (sym h))
    (λ is. let long = c.in-Err.ensures.too_long (ap Err is) in let size = ap length same in omega arith)
    (λ is. c.in-Err.ensures.never_duplicate (ap Err is))
