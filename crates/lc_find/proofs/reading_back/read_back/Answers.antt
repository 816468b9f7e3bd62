use Rattle.std.proofs.Common.{◌≡◌, length, true, false, ap, ◌∙◌, subst, arith}
use Rattle.lc_outline.specs.DevelopmentView.{development_view}
use Rattle.lc_cert.specs.EntryView.{entries_of}
use Rattle.lc_cert.specs.Printed.{certificate_line}
use Rattle.lc_cond.specs.Conditions.{conditions}
use Rattle.lc_find.proofs.Ending.{refused_back, empty_back}
use Rattle.lc_find.proofs.Passing.{rising_all, same_count, length_entries}
use Rattle.lc_find.specs.Found.{IsReadBack}
use Rattle.lc_find.proofs.reading_back.read_back.Goals as goal

pub of_entries-certificate-requires : goal.of_entries-certificate-requires
of_entries-certificate-requires c = rising_all (entries_of c.args.entries.items) (conditions (development_view c.args.development.now)) c.requires

pub returns-then-count-eq0 : goal.returns-then-count-eq0
returns-then-count-eq0 c =
    let D = development_view c.args.development.now in
    let items = c.args.entries.items in
    let size = length_entries items in
    let none : length (entries_of items) ≡ 0 = omega (arith, size) in
    (c.of_entries-certificate.ensures, empty_back D (entries_of items) none c.requires c.an_empty_certificate_reads_back.ensures)

pub returns-then-branch : goal.returns-then-branch
returns-then-branch c =
    let D = development_view c.args.development.now in
    let line = c.deref.ensures.value ∙ c.in_ok-text.ensures ∙ ap (certificate_line D) c.of_entries-certificate.ensures in
    (c.of_entries-certificate.ensures, subst (λ t. IsReadBack D t true) line (subst (IsReadBack D c.deref.result.now) c.if-branch.true c.in_ok-is_accepted.ensures))

pub returns-else-branch : goal.returns-else-branch
returns-else-branch c =
    let D = development_view c.args.development.now in
    let items = c.args.entries.items in
    let line = c.deref.ensures.value ∙ c.in_ok-text.ensures ∙ ap (certificate_line D) c.of_entries-certificate.ensures in
    let not = subst (λ t. IsReadBack D t false) line (subst (IsReadBack D c.deref.result.now) c.if-branch.false c.in_ok-is_accepted.ensures) in
    let size = length_entries items in
    let count = same_count 0 (entries_of items) (conditions D) c.requires in
    let below = c.number_beyond.ensures in
    (omega (arith, size, count, below), refused_back D (entries_of items) c.requires not)
