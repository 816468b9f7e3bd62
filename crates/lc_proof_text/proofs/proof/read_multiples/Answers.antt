use Rattle.std.proofs.Common.{◌≡◌, ◌∷◌, Ok, sym, ap, ◌∙◌}
use Rattle.lc_sexp.specs.Shown.{rest_of, number_of}
use Rattle.lc_sexp.specs.declared.cursor.Cursor.{Cursor}
use Rattle.lc_kernel.specs.View.{multiple_of}
use Rattle.lc_reading.specs.declared.part.Part.{Part}
use Rattle.lc_reading.specs.Parts.{IsBehind, tree_of, place_of}
use Rattle.lc_reading.specs.Readings.{both}
use Rattle.lc_reading.proofs.SoFar.{so_far_push, each_end}
use Rattle.lc_proof_text.specs.Steps.{multiple_reading, multiples_reading}
use Rattle.lc_proof_text.proofs.proof.read_multiples.Goals as goal

-- after one multiple, the others are left
one_more : (l behind : Cursor) (part : Part) → place_of part ≡ number_of l → IsBehind l (tree_of part) behind
    → multiples_reading (number_of l) (rest_of l) ≡ both (λ x xs. x ∷ xs) (multiple_reading (place_of part) (tree_of part)) (multiples_reading (number_of behind) (rest_of behind))
one_more l behind part at next =
    ap (multiples_reading (number_of l)) next.rest
    ∙ ap (λ m. both (λ x xs. x ∷ xs) (multiple_reading (number_of l) (tree_of part)) (multiples_reading m (rest_of behind))) (sym next.number)
    ∙ ap (λ n. both (λ x xs. x ∷ xs) (multiple_reading n (tree_of part)) (multiples_reading (number_of behind) (rest_of behind))) (sym at)

pub multiples-preserved : goal.multiples-preserved
multiples-preserved c =
    let (at, next) = c.in-Ok.ensures in
    let left = one_more c.multiples.rest c.next_part.new.list c.in-Ok.part at next in
    so_far_push multiple_of (λ x xs. x ∷ xs) (multiples_reading (number_of c.args.list) (rest_of c.args.list)) (multiple_reading (place_of c.in-Ok.part) (tree_of c.in-Ok.part))
    (multiples_reading (number_of c.next_part.new.list) (rest_of c.next_part.new.list))
    (Ok c.multiples.multiples) (Ok c.in-Ok-read_multiple.multiple) (Ok c.push.new.self) (rw left at c.multiples.invariant) c.in-Ok-read_multiple.ensures c.in_ok-push.ensures.items

pub returns : goal.returns
returns c =
    each_end multiple_of (multiples_reading (number_of c.args.list) (rest_of c.args.list)) _ (Ok c.multiples.multiples)
    (ap (multiples_reading (number_of c.multiples.rest)) c.in_default.ensures.1) c.multiples.invariant
