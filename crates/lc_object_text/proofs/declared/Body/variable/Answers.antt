use Rattle.std.proofs.Common.{◌≡◌, ℕ, ◌+◌, List, length, Option, Some, None, sym, ap, ◌∙◌, arith}
use Rattle.lc_sexp.specs.Shown.{rest_of}
use Rattle.lc_reading.specs.Listed.{names_among, place_of}
use Rattle.lc_reading.specs.TableView.{listed}
use Rattle.lc_reading.proofs.Places.{place_below}
use Rattle.lc_object_text.proofs.Placed.{among_first, among_others}
use Rattle.lc_object_text.proofs.declared.Body.variable.Goals as goal

-- what is found in the table of the arguments is their names' place
found : (ts ns : List (List ℕ)) (w : List ℕ) (o p : Option ℕ) → ts ≡ ns → o ≡ place_of ts w → o ≡ p → place_of ns w ≡ p
found ts ns w o p e f g = ap (λ xs. place_of xs w) (sym e) ∙ sym f ∙ g

pub returns-in-Some : goal.returns-in-Some
returns-in-Some c =
    let b = c.args.self.now in
    among_first (names_among (rest_of b.arguments)) (listed b.locals) c.args.name.now c.in-Some.place
    (found (listed c.deref.result.now) (names_among (rest_of b.arguments)) c.args.name.now c.place.result _ (ap listed c.deref.ensures ∙ b.shared) c.place.ensures c.in-Some.is)

pub returns-in_err-place : goal.returns-in_err-place
returns-in_err-place c =
    let b = c.args.self.now in
    c.from_residual.ensures ∙ among_others (names_among (rest_of b.arguments)) (listed b.locals) c.args.name.now None
    (found (listed c.deref.result.now) (names_among (rest_of b.arguments)) c.args.name.now c.place.result _ (ap listed c.deref.ensures ∙ b.shared) c.place.ensures c.in_default.is)
    (sym c.in_err-place.ensures)

pub overflow_add-result : goal.overflow_add-result
overflow_add-result c =
    let b = c.args.self.now in
    omega (arith, place_below (listed b.locals) c.args.name.now c.in_ok-place.place (sym c.in_ok-place.ensures), c.len.ensures, ap (λ t. length (listed t)) c.deref-2.ensures, ap length b.shared, b.few_variables)

pub returns : goal.returns
returns c =
    let b = c.args.self.now in
    let count = c.len.ensures ∙ ap length (ap listed c.deref-2.ensures ∙ b.shared) in
    ap (λ n. Some (n + c.in_ok-place.place)) count ∙ among_others (names_among (rest_of b.arguments)) (listed b.locals) c.args.name.now (Some c.in_ok-place.place)
    (found (listed c.deref.result.now) (names_among (rest_of b.arguments)) c.args.name.now c.place.result _ (ap listed c.deref.ensures ∙ b.shared) c.place.ensures c.in_default.is)
    (sym c.in_ok-place.ensures)
