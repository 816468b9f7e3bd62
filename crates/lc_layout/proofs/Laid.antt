-- What is laid out has the tokens of its trees.
use Rattle.std.proofs.Common.{◌≡◌, ℕ, ◌+◌, Bool, true, false, cond, List, [], ◌∷◌, ◌++◌, replicate, refl, sym, ap, ◌∙◌, append_assoc, nat_le}
use Rattle.lc_sexp.specs.Trees.{Tree, Trees, atom, list, none, ◌▸◌, open_list, close_list, tokens_of, tokens_of_all}
use Rattle.lc_sexp.specs.Text.{begins_word, lexed}
use Rattle.lc_sexp.specs.Printed.{HasAtoms, HaveAtoms}
use Rattle.lc_layout.specs.Layout.{width_of, fits, is_atom_tree, is_short, right_of, stage_behind, spot_behind, spot_of, stage_within, indent_of, brackets_behind, gap_text, closing_gap, laid_items, laid_at, line_start, laid_out}
use Rattle.lc_layout.specs.declared.stage.Stage.{Stage}
use Rattle.lc_layout.specs.declared.stage.Stage.TheVariants.{Lead, Flat, Fresh, Head, Named, Below}
use Rattle.lc_layout.specs.declared.stage.Gap.{Gap}
use Rattle.lc_layout.specs.declared.stage.Gap.TheVariants.{Nothing, Space, Line}
use Rattle.lc_layout.specs.declared.stage.Spot.{Spot}
use Rattle.lc_layout.proofs.Words.{lexed_spaces, IsPlain, IsPlain-append, letters_plain, spaces_plain}
use Rattle.lc_sexp.proofs.PrintedLemmas.{lexed_open, lexed_close, lexed_space, lexed_feed, no_word}
use Rattle.lc_sexp.proofs.Tokens.{lexed_word}

-- an item of a list at this stage is not the first
abbrev pub is_later : Stage → Bool
is_later Lead = false
is_later Fresh = false
is_later Flat = true
is_later Head = true
is_later Named = true
is_later Below = true

-- something comes before the item
abbrev pub is_gap : Gap → Bool
is_gap Nothing = false
is_gap Space = true
is_gap Line = true

-- after the item further items are not the first
pub record IsSound (first : Bool) (s : Spot) : Type 0 where
  pub later : is_later s.stage ≡ true
  pub gap : first ≡ true → is_gap s.gap ≡ true

behind_later : (t : Tree) → is_later (stage_behind t) ≡ true
behind_later (atom w) = refl
behind_later (list ts) = refl

behind_sound : (t : Bool) (column indent behind : ℕ) (stage : Stage) → is_later stage ≡ true
    → IsSound true (cond t (record { gap = Space; column = column; stage = stage; behind = behind }) (record { gap = Line; column = indent; stage = Below; behind = 0 }))
behind_sound true column indent behind stage h = record { later = h; gap = λ k. refl }
behind_sound false column indent behind stage h = record { later = refl; gap = λ k. refl }

choice_sound : (t : Bool) (s : Spot) (indent : ℕ) → IsSound true s → IsSound true (cond t s (record { gap = Line; column = indent; stage = Below; behind = 0 }))
choice_sound true s indent h = h
choice_sound false s indent h = record { later = refl; gap = λ k. refl }

first_sound : (t : Bool) (column indent : ℕ) → IsSound false (cond t (record { gap = Nothing; column = column; stage = Below; behind = 0 }) (record { gap = Line; column = indent; stage = Below; behind = 0 }))
first_sound true column indent = record { later = refl; gap = λ h. absurd (cc) }
first_sound false column indent = record { later = refl; gap = λ h. absurd (cc) }

pub spot_sound : (stage : Stage) (column indent brackets : ℕ) (t : Tree) → IsSound (is_later stage) (spot_of stage column indent brackets t)
spot_sound Lead column indent brackets t = record { later = refl; gap = λ h. absurd (cc) }
spot_sound Flat column indent brackets t = record { later = refl; gap = λ h. refl }
spot_sound Fresh column indent brackets (atom w) = record { later = refl; gap = λ h. absurd (cc) }
spot_sound Fresh column indent brackets (list ts) = first_sound (nat_le column 60) column indent
spot_sound Head column indent brackets t =
    choice_sound (is_atom_tree t) (spot_behind (right_of column 1) indent brackets t) indent (behind_sound (fits (right_of column 1) brackets t) (right_of column 1) indent (right_of column 1 + width_of t) (stage_behind t) (behind_later t))
spot_sound Named column indent brackets t =
    choice_sound (is_short t) (spot_behind (right_of column 1) indent brackets t) indent (behind_sound (fits (right_of column 1) brackets t) (right_of column 1) indent (right_of column 1 + width_of t) (stage_behind t) (behind_later t))
spot_sound Below column indent brackets t = record { later = refl; gap = λ h. refl }

lexed_gap : (g : Gap) (indent : ℕ) (s : List ℕ) → lexed (gap_text g indent ++ s) ≡ lexed s
lexed_gap Nothing indent s = refl
lexed_gap Space indent s = lexed_space s
lexed_gap Line indent s = lexed_feed (replicate indent 32 ++ s) ∙ lexed_spaces indent s

gap_no_word : (g : Gap) (indent : ℕ) (s : List ℕ) → is_gap g ≡ true → begins_word (gap_text g indent ++ s) ≡ false
gap_no_word Nothing indent s h = absurd (cc)
gap_no_word Space indent s h = (no_word s).0
gap_no_word Line indent s h = (no_word (replicate indent 32 ++ s)).1

gap_before_close : (g : Gap) (indent : ℕ) (s : List ℕ) → begins_word (gap_text g indent ++ (41 ∷ s)) ≡ false
gap_before_close Nothing indent s = (no_word s).2
gap_before_close Space indent s = (no_word (41 ∷ s)).0
gap_before_close Line indent s = (no_word (replicate indent 32 ++ (41 ∷ s))).1

at_no_word : (stage : Stage) (indent brackets : ℕ) (t : Tree) (s : Spot) (x : List ℕ) → is_gap s.gap ≡ true → begins_word (laid_at stage indent brackets t s ++ x) ≡ false
at_no_word stage indent brackets (atom w) s x h = ap begins_word (append_assoc (gap_text s.gap indent) w x) ∙ gap_no_word s.gap indent (w ++ x) h
at_no_word stage indent brackets (list ts) s x h =
    let inner : List ℕ = 40 ∷ laid_items (stage_within stage s.column brackets (list ts)) (right_of s.column 1) (indent_of s.column ts) brackets ts in
    ap begins_word (append_assoc (gap_text s.gap indent) inner x) ∙ gap_no_word s.gap indent (inner ++ x) h

-- what is left of a list begins no word, after an item
rest_no_word : (stage : Stage) (column indent brackets : ℕ) (ts : Trees) (x : List ℕ) → is_later stage ≡ true → begins_word (laid_items stage column indent brackets ts ++ x) ≡ false
rest_no_word stage column indent brackets none x h =
    ap begins_word (append_assoc (gap_text (closing_gap stage brackets) indent) (41 ∷ []) x) ∙ gap_before_close (closing_gap stage brackets) indent x
rest_no_word stage column indent brackets (t ▸ ts) x h =
    let b : ℕ = brackets_behind brackets ts in
    let s : Spot = spot_of stage column indent b t in
    ap begins_word (append_assoc (laid_at stage indent b t s) (laid_items s.stage s.behind indent brackets ts) x)
    ∙ at_no_word stage indent b t s (laid_items s.stage s.behind indent brackets ts ++ x) ((spot_sound stage column indent b t).gap h)

mutual
  lexed_at : (stage : Stage) (indent brackets : ℕ) (t : Tree) (s : Spot) (x : List ℕ) → HasAtoms t → begins_word x ≡ false
      → lexed (laid_at stage indent brackets t s ++ x) ≡ tokens_of t ++ lexed x
  lexed_at stage indent brackets (atom []) s x h e = absurd (cc)
  lexed_at stage indent brackets (atom (b ∷ w)) s x h e =
      ap lexed (append_assoc (gap_text s.gap indent) (b ∷ w) x) ∙ lexed_gap s.gap indent ((b ∷ w) ++ x) ∙ lexed_word b w x h e
  lexed_at stage indent brackets (list ts) s x h e =
      let inner : List ℕ = laid_items (stage_within stage s.column brackets (list ts)) (right_of s.column 1) (indent_of s.column ts) brackets ts in
      ap lexed (append_assoc (gap_text s.gap indent) (40 ∷ inner) x)
      ∙ lexed_gap s.gap indent (40 ∷ (inner ++ x))
      ∙ lexed_open (inner ++ x)
      ∙ ap (λ y. open_list ∷ y) (lexed_items (stage_within stage s.column brackets (list ts)) (right_of s.column 1) (indent_of s.column ts) brackets ts x h)
      ∙ ap (λ y. open_list ∷ y) (sym (append_assoc (tokens_of_all ts) (close_list ∷ []) (lexed x)))

  lexed_items : (stage : Stage) (column indent brackets : ℕ) (ts : Trees) (x : List ℕ) → HaveAtoms ts
      → lexed (laid_items stage column indent brackets ts ++ x) ≡ tokens_of_all ts ++ (close_list ∷ lexed x)
  lexed_items stage column indent brackets none x h =
      ap lexed (append_assoc (gap_text (closing_gap stage brackets) indent) (41 ∷ []) x) ∙ lexed_gap (closing_gap stage brackets) indent (41 ∷ x) ∙ lexed_close x
  lexed_items stage column indent brackets (t ▸ ts) x h =
      let b : ℕ = brackets_behind brackets ts in
      let s : Spot = spot_of stage column indent b t in
      let rest : List ℕ = laid_items s.stage s.behind indent brackets ts in
      ap lexed (append_assoc (laid_at stage indent b t s) rest x)
      ∙ lexed_at stage indent b t s (rest ++ x) h.0 (rest_no_word s.stage s.behind indent brackets ts x (spot_sound stage column indent b t).later)
      ∙ ap (λ y. tokens_of t ++ y) (lexed_items s.stage s.behind indent brackets ts x h.1)
      ∙ sym (append_assoc (tokens_of t) (tokens_of_all ts) (close_list ∷ lexed x))

pub lexed_laid : (ts : Trees) → HaveAtoms ts → lexed (laid_out ts) ≡ tokens_of_all ts
lexed_laid none h = refl
lexed_laid (t ▸ ts) h =
    lexed_at Below 0 0 t line_start (10 ∷ laid_out ts) h.0 (no_word (laid_out ts)).1
    ∙ ap (λ x. tokens_of t ++ x) (lexed_feed (laid_out ts) ∙ lexed_laid ts h.1)

gap_plain : (g : Gap) (indent : ℕ) → IsPlain (gap_text g indent)
gap_plain Nothing indent = refl
gap_plain Space indent = refl
gap_plain Line indent = spaces_plain indent

mutual
  plain_at : (stage : Stage) (indent brackets : ℕ) (t : Tree) (s : Spot) → HasAtoms t → IsPlain (laid_at stage indent brackets t s)
  plain_at stage indent brackets (atom []) s h = absurd (cc)
  plain_at stage indent brackets (atom (b ∷ w)) s h = IsPlain-append (gap_text s.gap indent) (b ∷ w) (gap_plain s.gap indent) (letters_plain (b ∷ w) h)
  plain_at stage indent brackets (list ts) s h =
      IsPlain-append (gap_text s.gap indent)
      (40 ∷ laid_items (stage_within stage s.column brackets (list ts)) (right_of s.column 1) (indent_of s.column ts) brackets ts)
      (gap_plain s.gap indent) (plain_items (stage_within stage s.column brackets (list ts)) (right_of s.column 1) (indent_of s.column ts) brackets ts h)

  plain_items : (stage : Stage) (column indent brackets : ℕ) (ts : Trees) → HaveAtoms ts → IsPlain (laid_items stage column indent brackets ts)
  plain_items stage column indent brackets none h = IsPlain-append (gap_text (closing_gap stage brackets) indent) (41 ∷ []) (gap_plain (closing_gap stage brackets) indent) refl
  plain_items stage column indent brackets (t ▸ ts) h =
      let b : ℕ = brackets_behind brackets ts in
      let s : Spot = spot_of stage column indent b t in
      IsPlain-append (laid_at stage indent b t s) (laid_items s.stage s.behind indent brackets ts) (plain_at stage indent b t s h.0) (plain_items s.stage s.behind indent brackets ts h.1)

pub plain_laid : (ts : Trees) → HaveAtoms ts → IsPlain (laid_out ts)
plain_laid none h = refl
plain_laid (t ▸ ts) h = IsPlain-append (laid_at Below 0 0 t line_start) (10 ∷ laid_out ts) (plain_at Below 0 0 t line_start h.0) (plain_laid ts h.1)
