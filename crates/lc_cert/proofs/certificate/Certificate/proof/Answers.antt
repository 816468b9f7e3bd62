use Rattle.std.proofs.Common.{rules, ◌≡◌, true, List, None, sym, subst}
use Rattle.std.specs.Prelude.{nat_lt}
use Rattle.std.proofs.lemmas.List.Sorted.{IsPartitionPoint-from_clause, IsPartitionedBy-ltb}
use Rattle.lc_cert.proofs.Places.{never_fall, proof_looked_up, proof_found, proof_of_another, no_proof_behind}
use Rattle.lc_cert.specs.Certificates.{is_rising}
use Rattle.lc_cert.specs.EntryView.{entries_of}
use Rattle.lc_cert.specs.declared.entry.Entry.{Entry}
use Rattle.lc_cert.proofs.certificate.Certificate.proof.Goals as goal
use Rattle.lc_cert.proofs.certificate.Certificate.proof.Goals.{in_default-via-in-Some+else-entry-number, in_default-via-in_default}

pub returns-in-Some : goal.returns-in-Some
returns-in-Some c =
    let es = c.args.self.now.entries.items in
    let xs = c.as_slice.result.now in
    let rising = subst (λ (l : List Entry). is_rising None (entries_of l) ≡ true) (sym c.as_slice.ensures.value) c.args.self.now.rising in
    let point = IsPartitionPoint-from_clause (λ (e : Entry). nat_lt e.number c.args.number) xs c.partition_point-place.result c.partition_point-place.ensures.partitioned
    (IsPartitionedBy-ltb (λ (e : Entry). e.number) xs c.args.number (never_fall None xs rising)) (λ a r q k. search rules) in
    let is = proof_looked_up c.args.number c.partition_point-place.result es xs c.as_slice.ensures.value c.args.self.now.rising c.partition_point-place.ensures.bound point in
    proof_found c.args.number c.partition_point-place.result es c.deref.result.now c.in-Some.entry.now _ is c.deref.ensures.value c.in-Some.ensures.lookup.3.0 c.in-Some.ensures.lookup.1 c.if-entry-number.true

pub returns-in_default : goal.returns-in_default
returns-in_default c =
    let es = c.args.self.now.entries.items in
    let xs = c.as_slice.result.now in
    let rising = subst (λ (l : List Entry). is_rising None (entries_of l) ≡ true) (sym c.as_slice.ensures.value) c.args.self.now.rising in
    let point = IsPartitionPoint-from_clause (λ (e : Entry). nat_lt e.number c.args.number) xs c.partition_point-place.result c.partition_point-place.ensures.partitioned
    (IsPartitionedBy-ltb (λ (e : Entry). e.number) xs c.args.number (never_fall None xs rising)) (λ a r q k. search rules) in
    let is = proof_looked_up c.args.number c.partition_point-place.result es xs c.as_slice.ensures.value c.args.self.now.rising c.partition_point-place.ensures.bound point in
    elim c.in_default.branch [
      | in_default-via-in-Some+else-entry-number w ↦
          proof_of_another c.args.number c.partition_point-place.result es c.deref.result.now w.in-Some.entry.now _ is c.deref.ensures.value w.in-Some.ensures.lookup.3.0 w.in-Some.ensures.lookup.1 w.if-entry-number.false
      | in_default-via-in_default w ↦ no_proof_behind c.args.number c.partition_point-place.result es c.deref.result.now _ is c.deref.ensures.value w.in_default.ensures.lookup.3
    ]
