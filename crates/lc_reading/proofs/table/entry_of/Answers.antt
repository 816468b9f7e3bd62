use Rattle.std.proofs.Common.{◌≡◌, ℕ, List, ◌∷◌, [], ◌++◌, None, sym, ap, ◌∙◌}
use Rattle.std.specs.Borrow.{Bor}
use Rattle.std.specs.Map.{lookup}
use Rattle.indexmap.proofs.CallerLemmas.{insert_entry-new}
use Rattle.lc_lemmas.proofs.Lists.{lookup_last}
use Rattle.lc_lemmas.proofs.Options.{none_from_is_some}
use Rattle.lc_reading.specs.Words.{is}
use Rattle.lc_reading.specs.Entries.{name_at, names_at, are_within}
use Rattle.lc_reading.proofs.Entries.{name_at_found, name_at-last, names_at-kept, are_within-kept}
use Rattle.lc_reading.proofs.table.entry_of.Goals as goal

pub returns-in-Some-clause-named : goal.returns-in-Some-clause-named
returns-in-Some-clause-named c = name_at_found c.args.places.now.entries c.args.name c.in-Some.number c.short.result (sym c.in-Some.ensures.index) c.short.ensures

pub returns-clause-placed : goal.returns-clause-placed
returns-clause-placed c = λ w.
    let test = λ (n : Bor (List ℕ)). is w n.now in
    let none : lookup (λ (n : Bor (List ℕ)). is c.args.name.now n.now) c.args.places.now.entries ≡ None = none_from_is_some _ (sym c.in_default.ensures.found) in
    let entries = c.in_ok-insert.ensures.entries ∙ insert_entry-new (λ (x y : Bor (List ℕ)). is x.now y.now) c.args.places.now c.args.name c.args.place none in
    ap (lookup test) entries ∙ lookup_last test c.args.places.now.entries c.args.name c.args.place

pub returns-clause-named : goal.returns-clause-named
returns-clause-named c =
    let none : lookup (λ (n : Bor (List ℕ)). is c.args.name.now n.now) c.args.places.now.entries ≡ None = none_from_is_some _ (sym c.in_default.ensures.found) in
    let entries = c.in_ok-insert.ensures.entries ∙ insert_entry-new (λ (x y : Bor (List ℕ)). is x.now y.now) c.args.places.now c.args.name c.args.place none in
    ap (λ es. name_at es c.in_ok-number.number) entries
    ∙ ap (name_at (c.args.places.now.entries ++ (c.args.name, c.args.place) ∷ [])) (c.in_ok-number.ensures ∙ c.len.ensures.len)
    ∙ name_at-last c.args.places.now.entries c.args.name c.args.place

pub returns-clause-kept : goal.returns-clause-kept
returns-clause-kept c = λ ks h.
    let none : lookup (λ (n : Bor (List ℕ)). is c.args.name.now n.now) c.args.places.now.entries ≡ None = none_from_is_some _ (sym c.in_default.ensures.found) in
    let entries = c.in_ok-insert.ensures.entries ∙ insert_entry-new (λ (x y : Bor (List ℕ)). is x.now y.now) c.args.places.now c.args.name c.args.place none in
    ap (λ es. names_at es ks) entries ∙ names_at-kept c.args.places.now.entries ((c.args.name, c.args.place) ∷ []) ks h

pub returns-clause-kept_within : goal.returns-clause-kept_within
returns-clause-kept_within c = λ ks h.
    let none : lookup (λ (n : Bor (List ℕ)). is c.args.name.now n.now) c.args.places.now.entries ≡ None = none_from_is_some _ (sym c.in_default.ensures.found) in
    let entries = c.in_ok-insert.ensures.entries ∙ insert_entry-new (λ (x y : Bor (List ℕ)). is x.now y.now) c.args.places.now c.args.name c.args.place none in
    ap (λ es. are_within es ks) entries ∙ are_within-kept c.args.places.now.entries ((c.args.name, c.args.place) ∷ []) ks h
