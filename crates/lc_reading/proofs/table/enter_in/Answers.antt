use Rattle.std.proofs.Common.{rules, ◌≡◌, length, Some, None, ap, sym, ◌∙◌, cond, ◌++◌, ◌∷◌, []}
use Rattle.std.specs.Option.{option_or}
use Rattle.lc_reading.specs.Words.{is}
use Rattle.lc_reading.specs.Entries.{names_at, are_within, name_at}
use Rattle.lc_reading.specs.Listed.{place_of}
use Rattle.lc_reading.proofs.Entries.{place_of_entered, are_within-last, names_at-last}
use Rattle.lc_reading.proofs.table.enter_in.Goals as goal

pub returns : goal.returns
returns c =
    let old = c.args.places.now.entries in
    let new = c.entry_of.new.places.entries in
    let numbers = c.args.numbers.now.items in
    let number = c.in_ok-number.number in
    let items = c.in_ok-push.ensures.items in
    let kept = c.in_ok-number.ensures.kept numbers c.requires.within in
    let kept_within = c.in_ok-number.ensures.kept_within numbers c.requires.within in
    let count : c.len.result ≡ length numbers = search rules in
    record {
      within = ap (are_within new) items ∙ are_within-last new numbers number kept_within c.in_ok-number.ensures.within;
      placed = λ w.
          c.in_ok-number.ensures.placed w
          ∙ ap (λ p. option_or p (cond (is w c.args.name.now) (Some c.in_ok-place.place) None)) (c.requires.placed w)
          ∙ ap (λ k. option_or (place_of (names_at old numbers) w) (cond (is w c.args.name.now) (Some k) None)) (c.in_ok-place.ensures ∙ count)
          ∙ place_of_entered old new numbers number c.args.name.now w kept c.in_ok-number.ensures.named
          ∙ ap (λ ks. place_of (names_at new ks) w) (sym items);
      names = ap (names_at new) items
          ∙ names_at-last new numbers number
          ∙ ap (λ ns. ns ++ name_at new number ∷ []) kept
          ∙ ap (λ n. names_at old numbers ++ n ∷ []) c.in_ok-number.ensures.named;
    }
