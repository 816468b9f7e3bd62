use Rattle.std.proofs.Common.{◌≡◌, ℕ, List}
use Rattle.std.specs.Option.{option_or}
use Rattle.lc_carry.specs.Carried.{least_number}
use Rattle.lc_carry.specs.TextNumbers.{number_of}
use Rattle.lc_cert.specs.CertificateView.{entries_in}
use Rattle.lc_cond.specs.Conditions.{conditions}
use Rattle.lc_cond.specs.Stream.{conditions_left, parts_left, next_number}
use Rattle.lc_outline.specs.DevelopmentView.{development_view}
use Rattle.lc_carry.specs.Renaming.{column_for}
use Rattle.lc_carry.proofs.numbers.numbers_of.Given as goal

-- what is noted so far, and of what is left, is noted of all
abbrev pub invariant-parts : goal.invariant-parts
invariant-parts l =
    (t : List ℕ) →
    option_or (number_of l.numbers t)
    (least_number (development_view l.old.development.now) (entries_in l.old.certificate.now) (column_for l.old.columns.now) t (next_number l.stream) (conditions_left (development_view l.old.development.now) l.stream))
    ≡ least_number (development_view l.old.development.now) (entries_in l.old.certificate.now) (column_for l.old.columns.now) t 0 (conditions (development_view l.old.development.now))

abbrev pub decreases-parts : goal.decreases-parts
decreases-parts l = parts_left (development_view l.old.development.now) l.stream
