use Rattle.std.proofs.Common.{refl, sym, ◌∙◌, arith, ap, ◌+◌}
use Rattle.lc_sexp.specs.Shown.{rest_of}
use Rattle.lc_sexp.specs.Trees.{none, item_count}
use Rattle.lc_reading.specs.Parts.{tree_of, place_of}
use Rattle.lc_reading.specs.TableView.{listed}
use Rattle.lc_cert.proofs.FormSteps.{first_tree, form_step}
use Rattle.lc_cert.proofs.form_reader.FormReader.read_item.Goals as goal

pub returns : goal.returns
returns c =
    let (at, next) = c.in-Ok.ensures in
    let t = tree_of c.in-Ok.part in
    let same = first_tree c.args.item.now t none (rest_of c.next_part.new.list) (sym c.in_ok-rest.ensures.rest ∙ next.rest) in
    let place = at ∙ c.in_ok-rest.ensures.number in
    let count = c.number-self.ensures ∙ next.number ∙ ap (λ k. k + item_count t) c.in_ok-rest.ensures.number in
    record {
      form = λ parts part taken first is h.
          form_step (listed c.args.columns.now) c.args.name.now parts part taken c.args.self.now c.read_part.new.self _ t (place_of c.in-Ok.part) first (is ∙ same) place refl count
          c.in_ok-read_part.ensures.reads c.in_ok-read_part.ensures.few (omega (arith, c.if-item_count-gt-FILE_LIMIT.false, c.item_count.ensures, ap item_count same)) h;
    }
