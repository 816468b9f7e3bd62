-- The conditions that are chosen by words of their lines.
use Rattle.std.specs.Prelude.{ℕ, suc, Bool, true, codes, map, ◌&&◌, ◌||◌, List, [], ◌∷◌, ◌++◌, Option, Some, None, if◌then◌else◌}
use Rattle.std.specs.List.{list_any}
use Rattle.std.specs.Str.{bytes_eq}
use Rattle.lc_cond.specs.Conditions.{Condition, conditions}
use Rattle.lc_cond_text.specs.ConditionText.{condition_text, kind_word, or_hyphen, point_names, total_line}
use Rattle.lc_outline.specs.ColumnNames.{name_at}
use Rattle.lc_object.specs.Syntax as O
use Rattle.lc_outline.specs.Development.{Development}

-- the word is the one that is asked for, if one is
abbrev pub is_asked : Option (List ℕ) → List ℕ → Bool
is_asked None word = true
is_asked (Some asked) word = bytes_eq word asked

-- the condition has this POINT and this KIND
abbrev pub is_chosen : (point kind : Option (List ℕ)) → Development → Condition → Bool
is_chosen point kind D c = is_asked point (or_hyphen (name_at (point_names D)) c.place.point) && is_asked kind (kind_word c.kind)

-- the lines of those that are chosen among conditions, from this number on
abbrev pub chosen_from : (point kind : Option (List ℕ)) → Development → ℕ → List Condition → List ℕ
chosen_from point kind D k [] = []
chosen_from point kind D k (c ∷ cs) =
    if is_chosen point kind D c then condition_text D k c ++ 10 ∷ chosen_from point kind D (suc k) cs else chosen_from point kind D (suc k) cs

-- how many they are
abbrev pub chosen_count : (point kind : Option (List ℕ)) → Development → List Condition → ℕ
chosen_count point kind D [] = 0
chosen_count point kind D (c ∷ cs) = if is_chosen point kind D c then suc (chosen_count point kind D cs) else chosen_count point kind D cs

-- a line for each condition that is chosen, and that of how many there are
abbrev pub chosen_text : (point kind : Option (List ℕ)) → Development → List ℕ
chosen_text point kind D = chosen_from point kind D 0 (conditions D) ++ total_line (chosen_count point kind D (conditions D))

abbrev pub names_of : List O.Point → List (List ℕ)
names_of points = map (λ (p : O.Point). p.name) points

-- lines may have the word as their POINT: it is the name of a point, or the hyphen of conditions at none
abbrev pub is_point_word : List ℕ → Development → Bool
is_point_word word D = bytes_eq word (codes "-") || list_any (λ name. bytes_eq name word) (names_of D.object.points)
