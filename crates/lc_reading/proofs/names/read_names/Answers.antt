use Rattle.std.proofs.Common.{◌≡◌, ℕ, ◌+◌, List, ◌++◌, Option, sym, ap, ◌∙◌, refl}
use Rattle.lc_sexp.specs.Trees.{Tree, Trees, ◌▸◌, item_count}
use Rattle.std.proofs.lemmas.List.{append_assoc}
use Rattle.lc_sexp.specs.Shown.{rest_of, number_of}
use Rattle.lc_sexp.specs.declared.cursor.Cursor.{Cursor}
use Rattle.lc_reading.proofs.Noted.{noted_more}
use Rattle.lc_reading.proofs.names.read_names.Goals as goal
use Rattle.lc_reading.specs.Listed.{declared_by, names_among}
use Rattle.lc_reading.specs.Naming.{declaration_reading, names_reading}
use Rattle.lc_reading.specs.Parts.{IsBehind, tree_of, place_of}
use Rattle.lc_reading.specs.Readings.{both}
use Rattle.lc_reading.specs.TableView.{listed}
use Rattle.lc_reading.specs.declared.part.Part.{Part}

-- after the item n, the others are left, from m on
one_more_at : (limit : Option ℕ) (before after : List (List ℕ)) (n i m : ℕ) (t : Tree) (ts us : Trees) → i ≡ n → us ≡ t ▸ ts → m ≡ n + item_count t
    → after ≡ before ++ declared_by t
    → names_reading limit before n us ≡ both (λ (x y : Unit {0}). y) (declaration_reading limit before i t) (names_reading limit after m ts)
one_more_at limit before after n i m t ts us at rest number entered = ap (names_reading limit before n) rest ∙ rw (at, number, entered) refl

-- after one item, the others are left
one_more : (limit : Option ℕ) (before after : List (List ℕ)) (l behind : Cursor) (part : Part) → place_of part ≡ number_of l → IsBehind l (tree_of part) behind
    → after ≡ before ++ declared_by (tree_of part)
    → names_reading limit before (number_of l) (rest_of l)
    ≡ both (λ (x y : Unit {0}). y) (declaration_reading limit before (place_of part) (tree_of part)) (names_reading limit after (number_of behind) (rest_of behind))
one_more limit before after l behind part at next entered =
    one_more_at limit before after (number_of l) (place_of part) (number_of behind) (tree_of part) (rest_of behind) (rest_of l) at next.rest next.number entered

pub names-preserved : goal.names-preserved
names-preserved c =
    let (at, next) = c.in-Ok.ensures in
    let entered = c.in_ok-names-2.ensures in
    let left = one_more c.args.limit (listed c.names.names) (listed c.in_ok-names-2.names) c.names.rest c.next_part.new.list c.in-Ok.part at next entered in
    record {
      names = ap (λ vs. vs ++ names_among (rest_of c.next_part.new.list)) entered
          ∙ append_assoc (listed c.names.names) (declared_by (tree_of c.in-Ok.part)) (names_among (rest_of c.next_part.new.list))
          ∙ ap (λ ts. listed c.names.names ++ names_among ts) (sym next.rest)
          ∙ c.names.invariant.names;
      wrong = noted_more _ _ _ c.names.found c.read_declaration.result c.also-found.result (rw left at c.names.invariant.wrong) c.read_declaration.ensures c.also-found.ensures;
    }
