-- A text whose parts are set aside as they end.
use Rattle.std.specs.Prelude.{◌≡◌, ℕ, ◌+◌, Bool, true, false, if◌then◌else◌, List, [], ◌∷◌, ◌++◌, vec_len}
use Rattle.lc_sexp.specs.Trees.{Trees, atom, list, none, ◌▸◌, item_count_of_all, Token, open_list, tokens_of_all}
use Rattle.lc_sexp.specs.TreeCode.{tree_count}
use Rattle.lc_sexp.specs.Entries.{Entry, entries_of_all}
use Rattle.lc_sexp.specs.Built.{entries_in}
use Rattle.lc_sexp.specs.Flat.{is_rooted}
use Rattle.lc_sexp.specs.Progress.{told}
use Rattle.lc_sexp.specs.Takes.{parts_ended}
use Rattle.lc_sexp.specs.declared.part.Part.{Part}
use Rattle.lc_sexp.specs.declared.splitter.Splitter.{Splitter}

-- forms, and the items of a list after them if it is open
abbrev pub opened : Bool → Trees → List Trees
opened true items = items ∷ []
opened false items = []

-- their tokens
abbrev pub front : Bool → Trees → Trees → List Token
front true forms items = tokens_of_all forms ++ (open_list ∷ tokens_of_all items)
front false forms items = tokens_of_all forms

-- how many items they have
abbrev pub items_before : Bool → Trees → Trees → ℕ
items_before true forms items = item_count_of_all forms + 1 + item_count_of_all items
items_before false forms items = item_count_of_all forms

-- forms without their parts
abbrev pub emptied : Trees → Trees
emptied none = none
emptied (atom w ▸ ts) = atom w ▸ emptied ts
emptied (list us ▸ ts) = list none ▸ emptied ts

-- What was set aside of a text, whose tokens are `whole` where those of the rest are `rest`.
pub record IsSetAside (whole rest : List ℕ → List Token) (handed : List Part) (in_list : Bool) (shells : List Entry) (next_form next_item : ℕ) : Type 0 where
  pub forms : Trees
  pub items : Trees
  pub tokens : (x : List ℕ) → front in_list forms items ++ rest x ≡ whole x
  pub parts : handed ≡ parts_ended forms (opened in_list items)
  pub ended : shells ≡ entries_of_all (emptied forms)
  pub form : next_form ≡ tree_count forms
  pub item : next_item ≡ items_before in_list forms items

-- how many lists are open
abbrev pub depth_of : Splitter → ℕ
depth_of s = vec_len s.machine.holes + (if s.in_list then 1 else 0)

-- The splitter has taken a text, and these parts of it were handed out: whatever comes next, what was set aside and what is under way are the whole.
pub record Splits (whole : List ℕ → List Token) (rest : List ℕ → List ℕ) (taken : List Part) (s : Splitter) : Type 0 where
  pub aside : IsSetAside whole (λ x. told s.machine.text.items s.machine.start s.machine.nodes.items (rest x)) (taken ++ s.ready.items) s.in_list (entries_in s.ended) s.form s.item
  pub rooted : is_rooted s.machine.nodes.items ≡ true
  pub outside : s.in_list ≡ false → s.machine.holes.items ≡ []
