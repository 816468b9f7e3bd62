use Rattle.std.proofs.Common.{◌≡◌, ◌≢◌, subst}
use Rattle.lc_reading.specs.Readings.{fine}
use Rattle.lc_sexp.specs.CutFiles.{IsPieceOf, IsPieceRead}
use Rattle.lc_cert.proofs.Alone.{given_none, no_reading, no_number, few_steps}
use Rattle.lc_cert.specs.Certificates.{Entry}
use Rattle.lc_cert.specs.EntryView.{entry_of}
use Rattle.lc_cert.specs.OneByOne.{names_known, IsGiven}
use Rattle.lc_cert.specs.Readings.{entry_reading}
use Rattle.lc_cert.proofs.entry_reader.EntryReader.read.Goals as goal

pub returns-in_default-2-clause-exactly : goal.returns-in_default-2-clause-exactly
returns-in_default-2-clause-exactly c =
    let names = names_known c.args.self.now in
    let text = c.args.text.now in
    let t = c.in-Some.piece in
    let last = c.number_before-last.result in
    let piece : IsPieceOf t text = subst (IsPieceRead text) c.in-Some.is c.in_ok-piece.ensures in
    let other = given_none (entry_reading names last c.args.item t) c.in_ok-entry.field-0 c.in_default-2.not-Some c.in_ok-entry.ensures in
    no_reading names text c.args.number c.args.item t piece (subst (λ l. (e : Entry) → entry_reading names l c.args.item t ≢ fine e) c.number_before-last.ensures other)

pub returns-then-entry-number-clause-exactly : goal.returns-then-entry-number-clause-exactly
returns-then-entry-number-clause-exactly c =
    let names = names_known c.args.self.now in
    let text = c.args.text.now in
    let t = c.in-Some.piece in
    let last = c.number_before-last.result in
    let piece : IsPieceOf t text = subst (IsPieceRead text) c.in-Some.is c.in_ok-piece.ensures in
    let given : entry_reading names last c.args.item t ≡ fine (entry_of c.in-Some-2.entry) = subst (IsGiven (entry_reading names last c.args.item t)) c.in-Some-2.is c.in_ok-entry.ensures in
    let reads = subst (λ l. entry_reading names l c.args.item t ≡ fine (entry_of c.in-Some-2.entry)) c.number_before-last.ensures given in
    no_number names text c.args.number c.args.item t (entry_of c.in-Some-2.entry) piece reads c.if-entry-number.true

pub returns-clause-few : goal.returns-clause-few
returns-clause-few c =
    let names = names_known c.args.self.now in
    let text = c.args.text.now in
    let t = c.in-Some.piece in
    let last = c.number_before-last.result in
    let piece : IsPieceOf t text = subst (IsPieceRead text) c.in-Some.is c.in_ok-piece.ensures in
    let given : entry_reading names last c.args.item t ≡ fine (entry_of c.in-Some-2.entry) = subst (IsGiven (entry_reading names last c.args.item t)) c.in-Some-2.is c.in_ok-entry.ensures in
    few_steps names text last c.args.item t (entry_of c.in-Some-2.entry) piece given
