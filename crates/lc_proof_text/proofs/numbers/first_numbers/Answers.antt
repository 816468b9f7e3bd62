use Rattle.std.proofs.Common.{◌≡◌, sym, subst, rules, to_z, of_z, w64}
use Rattle.lc_proof_text.specs.Own.{BeginsWith}
use Rattle.lc_proof_text.proofs.numbers.first_numbers.Goals as goal

pub returns : goal.returns
returns c =
    let first : to_z w64 (of_z w64 c.in_ok-first.first) ≡ c.in_ok-first.first = search rules in
    let second : to_z w64 (of_z w64 c.in_ok-second.second) ≡ c.in_ok-second.second = search rules in (
      c.in_ok-first.rest,
      subst (λ z. BeginsWith c.args.list z c.in_ok-first.rest) (sym first) c.in_ok-first.ensures,
      subst (λ z. BeginsWith c.in_ok-first.rest z c.in_ok-second.rest) (sym second) c.in_ok-second.ensures,
    )
