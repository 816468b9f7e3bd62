-- Names can be read.
use Rattle.std.proofs.Common.{◌≡◌, ℕ, true, List, [], ◌∷◌, refl}
use Rattle.std.proofs.lemmas.Bool.{and_parts, and_from}
use Rattle.std.specs.List.{list_all}
use Rattle.lc_base.specs.NameText.{is_name, begins_name, continues_name}
use Rattle.lc_sexp.specs.Printed.{is_atom}
use Rattle.lc_sexp.specs.Text.{are_letters}
use Rattle.lc_sexp.proofs.Text.{begins_letter, continues_letter}

continued_letters : (w : List ℕ) → list_all continues_name w ≡ true → are_letters w ≡ true
continued_letters [] h = refl
continued_letters (b ∷ w) h = let p = and_parts (continues_name b) (list_all continues_name w) h in and_from _ _ (continues_letter b p.0) (continued_letters w p.1)

pub name_atom : (w : List ℕ) → is_name w ≡ true → is_atom w ≡ true
name_atom [] h = h
name_atom (b ∷ w) h = let p = and_parts (begins_name b) (list_all continues_name w) h in and_from _ _ (begins_letter b p.0) (continued_letters w p.1)
