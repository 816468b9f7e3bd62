use Rattle.std.proofs.Common.{[], ◌∷◌, ◌++◌, sym, ap, ◌∙◌, subst}
use Rattle.lc_sexp.specs.Reading as R
use Rattle.lc_cert.proofs.cert_reader.CertReader.read_parts.Goals as goal

pub returns-in_default : goal.returns-in_default
returns-in_default c = λ spent fed parts taken form reader.
    let (all, read, at) = c.parts.invariant.read fed parts taken form reader in
    record { parts = all; all = c.in_default.ensures.all (c.parts.invariant.spent ∙ spent) fed all at; read = c.in_default.ensures.none fed all at; form = read }

pub parts-preserved : goal.parts-preserved
parts-preserved c = record {
  spent = ap R.is_spent c.read_part.ensures.reader ∙ c.in-Some.ensures.spent ∙ c.parts.invariant.spent;
  read = λ fed parts taken form reader. (let (all, read, at) = c.parts.invariant.read fed parts taken form reader in (
    all ++ (c.in-Some.part ∷ []),
    c.in_ok-read_part.ensures.form all taken read,
    subst (R.IsAfterTaking fed (all ++ (c.in-Some.part ∷ []))) (sym c.read_part.ensures.reader) (c.in-Some.ensures.part fed all at),
  ));
}
