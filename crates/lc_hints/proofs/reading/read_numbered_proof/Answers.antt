use Rattle.std.proofs.Common.{refl}
use Rattle.lc_sexp.specs.Shown.{owner_of}
use Rattle.lc_kernel.specs.View.{proof_of}
use Rattle.lc_proof_text.specs.Proofs.{proof_reading}
use Rattle.lc_reading.proofs.Combined.{two_parts}
use Rattle.lc_text.specs.Terms.{pair, number_reading}
use Rattle.lc_hints.specs.Readings.{by_parts_reading}
use Rattle.lc_hints.proofs.reading.read_numbered_proof.Goals as goal

pub returns : goal.returns
returns g c =
    let names = g.S.Scope.names c.args.scope.now in
    two_parts (λ k. k) proof_of pair number_reading (proof_reading names) (by_parts_reading names (owner_of c.args.list)) c.args.list
    c.in_ok-first.rest c.in_ok-first.first c.in_ok-first.second _ _ _ _
    c.in_ok-first.ensures c.read_number-number.ensures c.read_proof-proof.ensures c.both.ensures c.ended.ensures (λ m ts. refl)
