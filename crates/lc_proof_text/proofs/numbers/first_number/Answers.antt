use Rattle.std.proofs.Common.{◌≡◌, refl, sym, subst, rules, to_z, of_z, w64}
use Rattle.lc_proof_text.specs.Own.{BeginsWith}
use Rattle.lc_proof_text.proofs.Begun.{begins_with}
use Rattle.lc_proof_text.proofs.numbers.first_number.Goals as goal

pub returns-in-Ok : goal.returns-in-Ok
returns-in-Ok c =
    let same : to_z w64 (of_z w64 c.in-Ok.number) ≡ c.in-Ok.number = search rules in
    subst (λ z. BeginsWith c.args.list z c.integer.new.self) (sym same) (begins_with c.args.list c.integer.new.self c.in-Ok.number _ refl c.in-Ok.ensures)
