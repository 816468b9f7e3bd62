use Rattle.std.proofs.Common.{◌≡◌, ℕ, None, sym, ap, ◌∙◌}
use Rattle.std.specs.Prelude.{◌==◌, nat_eq}
use Rattle.std.specs.Map.{lookup}
use Rattle.indexmap.proofs.CallerLemmas.{insert_entry-new}
use Rattle.lc_lemmas.proofs.Lists.{lookup_last}
use Rattle.lc_lemmas.proofs.Options.{none_from_is_some}
use Rattle.lc_find.proofs.first_proofs.note_place.Goals as goal

pub returns-in_ok-insert : goal.returns-in_ok-insert
returns-in_ok-insert c = λ n.
    let none : lookup (λ (key : ℕ). c.args.number == key) c.args.places.now.entries ≡ None = none_from_is_some _ (sym c.contains_key.ensures ∙ c.if-not-contains_key.true) in
    ap (lookup (λ (key : ℕ). n == key)) (c.in_ok-insert.ensures.entries ∙ insert_entry-new nat_eq c.args.places.now c.args.number c.args.place none) ∙ lookup_last (λ (key : ℕ). n == key) c.args.places.now.entries c.args.number c.args.place
