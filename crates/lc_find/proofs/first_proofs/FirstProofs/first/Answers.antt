use Rattle.std.proofs.Common.{◌≡◌, Some, None, option_map, length, slice_get, sym, ap, ◌∙◌, arith}
use Rattle.std.proofs.lemmas.Bool.{ltb-true, ltb-false}
use Rattle.std.proofs.lemmas.Option.{slice_get_past, slice_get-get_or, slice_get-map}
use Rattle.std.specs.Borrow.{Bor}
use Rattle.lc_kernel.specs.View.{proof_of}
use Rattle.lc_kernel.specs.declared.proof.Proof.{Proof}
use Rattle.lc_cert.specs.Certificates.{Entry}
use Rattle.lc_cert.specs.EntryView.{entry_of}
use Rattle.lc_find.proofs.Passing.{length_entries}
use Rattle.lc_find.proofs.Places.{proof_of_place, at_place}
use Rattle.lc_find.specs.FirstProofs.{place_at}
use Rattle.lc_find.specs.FirstView.{placed_in}
use Rattle.lc_find.proofs.first_proofs.FirstProofs.first.Goals as goal

pub returns-in_err-place : goal.returns-in_err-place
returns-in_err-place c =
    let es = placed_in c.args.self.now in
    let n = c.args.number in
    let place : place_at es n ≡ None = sym (c.args.self.now.placed n) ∙ sym c.get.ensures.value ∙ sym c.in_err-place.ensures in
    ap (option_map (λ (p : Bor Proof). proof_of p.now)) c.from_residual.ensures ∙ sym (ap (proof_of_place es) place) ∙ at_place es n

pub returns-in_err-entry : goal.returns-in_err-entry
returns-in_err-entry c =
    let es = placed_in c.args.self.now in
    let n = c.args.number in
    let i = c.in_ok-place.place in
    let place : place_at es n ≡ Some i = sym (c.args.self.now.placed n) ∙ sym c.get.ensures.value ∙ sym c.in_ok-place.ensures in
    let size = length_entries c.args.self.now.entries.now in
    let past = ltb-false i (length c.args.self.now.entries.now) (sym c.in_err-entry.ensures.lookup.0) in
    let none : slice_get es i ≡ None = slice_get_past es i (omega (arith, size, past)) in
    ap (option_map (λ (p : Bor Proof). proof_of p.now)) c.from_residual-in_err-entry.ensures ∙ sym (ap (proof_of_place es) place ∙ ap (option_map (λ (e : Entry). e.proof)) none) ∙ at_place es n

pub returns : goal.returns
returns c =
    let xs = c.args.self.now.entries.now in
    let es = placed_in c.args.self.now in
    let n = c.args.number in
    let i = c.in_ok-place.place in
    let e = c.in_ok-entry.entry.now in
    let place : place_at es n ≡ Some i = sym (c.args.self.now.placed n) ∙ sym c.get.ensures.value ∙ sym c.in_ok-place.ensures in
    let found : slice_get xs i ≡ Some e = slice_get-get_or xs i e (ltb-true i (length xs) (sym c.in_ok-entry.ensures.lookup.0)) ∙ ap Some (sym c.in_ok-entry.ensures.lookup.1) in
    let there : slice_get es i ≡ Some (entry_of e) = slice_get-map entry_of xs i ∙ ap (option_map entry_of) found in
    sym (ap (proof_of_place es) place ∙ ap (option_map (λ (x : Entry). x.proof)) there) ∙ at_place es n
