use Rattle.std.proofs.Common.{◌≡◌, ℕ, List, None, bytes_eq, sym, ap, ◌∙◌}
use Rattle.std.specs.Borrow.{Bor}
use Rattle.std.specs.Map.{lookup}
use Rattle.indexmap.proofs.CallerLemmas.{insert_entry-new}
use Rattle.lc_lemmas.proofs.Lists.{lookup_last}
use Rattle.lc_lemmas.proofs.Options.{none_from_is_some}
use Rattle.lc_hist.proofs.operations.note_place.Goals as goal

pub returns-in_ok-insert : goal.returns-in_ok-insert
returns-in_ok-insert c = λ w.
    let test = λ (n : Bor (List ℕ)). bytes_eq w n.now in
    let none : lookup (λ (n : Bor (List ℕ)). bytes_eq c.args.name.now n.now) c.args.places.now.entries ≡ None = none_from_is_some _ (sym c.contains_key.ensures ∙ c.if-not-contains_key.true) in
    ap (lookup test) (c.in_ok-insert.ensures.entries ∙ insert_entry-new (λ (x y : Bor (List ℕ)). bytes_eq x.now y.now) c.args.places.now c.args.name c.args.place none) ∙ lookup_last test c.args.places.now.entries c.args.name c.args.place
