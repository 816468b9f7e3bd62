use Rattle.std.proofs.Common.{◌≡◌, ℕ, cond, ◌∷◌, [], ◌++◌, None, sym, ap, ◌∙◌, is_some}
use Rattle.std.specs.Cmp.Lexicographic.{pointwise}
use Rattle.std.specs.Bool.{nat_eq}
use Rattle.std.specs.Map.{lookup}
use Rattle.std.specs.Prelude.{Vec}
use Rattle.std.specs.declared.alloc.Global.{Global}
use Rattle.indexmap.proofs.CallerLemmas.{insert_entry-new}
use Rattle.lc_lemmas.proofs.Options.{none_from_is_some}
use Rattle.lc_reading.specs.Words.{is}
use Rattle.lc_carry.proofs.text_numbers.note_key.Goals as goal

pub returns-in_ok-insert-clause-noted : goal.returns-in_ok-insert-clause-noted
returns-in_ok-insert-clause-noted c =
    let es = c.args.numbers.now.entries in
    let none : lookup (λ (k : Vec ℕ Global). is c.args.key.items k.items) es ≡ None =
    ap (λ l. lookup (λ (k : Vec ℕ Global). is l k.items) es) (sym c.as_slice.ensures.value) ∙ none_from_is_some _ (sym c.contains_key.ensures ∙ c.if-not-contains_key.true) in
    c.in_ok-insert.ensures.entries
    ∙ insert_entry-new (λ (x y : Vec ℕ Global). pointwise nat_eq x.items y.items) c.args.numbers.now c.args.key c.args.number none
    ∙ sym (ap (λ o. cond (is_some o) es (es ++ (c.args.key, c.args.number) ∷ [])) none)
