-- Lemmas of `specs/Results.antt` that several files cite.
use Rattle.std.proofs.Common.{◌≡◌, Ok, Err, sym, subst}
use Rattle.std.specs.Prelude.{Result}
use Rattle.std.specs.Result.{IsErrAnd}
use Rattle.lc_sexp.specs.declared.misfit.Misfit.{Misfit}
use Rattle.lc_reading.specs.Flaws.{misfit_flaw}
use Rattle.lc_reading.specs.Readings.{Reading, flawed}
use Rattle.lc_reading.specs.Results.{IsReading, IsReadFault}
use Rattle.lc_reading.specs.declared.flaw.ReadFault.{ReadFault}
use Rattle.lc_reading.specs.declared.flaw.ReadFault.TheVariants.{Flawed}

-- a misfit that is passed on
pub misfit_told : {T X : Type 0} (view : T → X) (r : Reading X) (misfit : Misfit) (t : Result T ReadFault) → r ≡ flawed (misfit_flaw misfit) → IsErrAnd t (λ y. y ≡ Flawed (misfit_flaw misfit)) → IsReading view r t
misfit_told view r misfit (Ok x) e same = absurd same
misfit_told view r misfit (Err f) e same = subst (IsReadFault r) (sym same) e
