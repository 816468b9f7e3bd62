use Rattle.std.proofs.Common.{◌≡◌, ◌≤◌, ap, sym, ◌∙◌, rules, length}
use Rattle.std.specs.Prelude.{option_map}
use Rattle.std.proofs.lemmas.Option.{slice_get-map, slice_get_past}
use Rattle.serde_json.specs.Data.{null}
use Rattle.serde_json.specs.View.{view}
use Rattle.serde_json.specs.declared.value.Value.{Null, the_lemmas}
use Rattle.lc_seq.specs.SpecView.{operation_of}
use Rattle.lc_hist.specs.JsonWritten.{name_of}
use Rattle.lc_hist.proofs.json_writing.name_value.Goals as goal

pub returns-in-None : goal.returns-in-None
returns-in-None c =
    let past : length c.args.operations.now ≤ c.args.op.0 = c.in-None.ensures.lookup.3 in
    let written : view Null ≡ null = search (rules, the_lemmas) in
    written ∙ sym (ap name_of (slice_get-map operation_of c.args.operations.now c.args.op.0 ∙ ap (option_map operation_of) (slice_get_past c.args.operations.now c.args.op.0 past)))
