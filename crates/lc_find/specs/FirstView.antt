-- The proofs that are found by their numbers.
use Rattle.std.specs.Prelude.{List, ◌++◌}
use Rattle.lc_cert.specs.Certificates.{Entry}
use Rattle.lc_cert.specs.EntryView.{entries_of}
use Rattle.lc_find.specs.declared.candidates.Candidates.{Candidates}
use Rattle.lc_find.specs.declared.first_proofs.FirstProofs.{FirstProofs}

-- some of them, in the order of their file
abbrev pub placed_in : FirstProofs → List Entry
placed_in first = entries_of first.entries.now

-- all of them: those that are given, and then those of the hints
abbrev pub all_of : Candidates → List Entry
all_of first = placed_in first.given ++ placed_in first.hinted
