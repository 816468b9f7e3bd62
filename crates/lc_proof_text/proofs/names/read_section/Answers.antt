use Rattle.std.proofs.Common.{◌≡◌, [], ◌++◌, Err, sym, ap, ◌∙◌}
use Rattle.std.proofs.lemmas.Result.{IfOk-weaker}
use Rattle.lc_sexp.specs.Shown.{rest_of, number_of}
use Rattle.lc_reading.specs.Listed.{names_among}
use Rattle.lc_reading.specs.Naming.{names_reading}
use Rattle.lc_reading.specs.Parts.{tree_of, place_of}
use Rattle.lc_reading.specs.Results.{IsReading}
use Rattle.lc_reading.specs.TableView.{listed}
use Rattle.lc_proof_text.proofs.Behind.{names_behind-is, names_behind-other}
use Rattle.lc_proof_text.specs.FileNames.{names_behind}
use Rattle.lc_proof_text.specs.Files.{section_reading}
use Rattle.lc_proof_text.proofs.names.read_section.Goals as goal
use Rattle.lc_reading.proofs.Parts.{behind_read, behind_wrong}

pub returns-in-Ok-clause-names : goal.returns-in-Ok-clause-names
returns-in-Ok-clause-names c =
    let word = c.args.word.now in
    let left = c.in-Ok.list in
    IfOk-weaker c.read_names.result (λ r. listed r.0 ≡ listed c.new-names.result ++ names_among (rest_of left)) (λ r. listed r.0 ≡ names_behind word (tree_of c.args.part))
    (λ r h. h ∙ ap (λ vs. vs ++ names_among (rest_of left)) c.new-names.ensures ∙ sym (names_behind-is word c.args.part left c.in-Ok.ensures))
    c.read_names.ensures.names

pub returns-in-Ok-clause-wrong : goal.returns-in-Ok-clause-wrong
returns-in-Ok-clause-wrong c =
    let word = c.args.word.now in
    let left = c.in-Ok.list in
    IfOk-weaker c.read_names.result (λ r. IsReading (λ (u : Unit {0}). u) (names_reading c.args.limit (listed c.new-names.result) (number_of left) (rest_of left)) r.1)
    (λ r. IsReading (λ (u : Unit {0}). u) (section_reading word c.args.limit (place_of c.args.part) (tree_of c.args.part)) r.1)
    (λ r h. behind_read (λ (u : Unit {0}). u) word (λ n m ts. names_reading c.args.limit [] m ts) c.args.part left r.1 c.in-Ok.ensures (rw c.new-names.ensures at h))
    c.read_names.ensures.wrong

pub returns-in-Err-clause-names : goal.returns-in-Err-clause-names
returns-in-Err-clause-names c = c.new-names.ensures ∙ sym (names_behind-other c.args.word.now (tree_of c.args.part) c.in-Err.ensures.1)

pub returns-in-Err-clause-wrong : goal.returns-in-Err-clause-wrong
returns-in-Err-clause-wrong c =
    behind_wrong (λ (u : Unit {0}). u) c.args.word.now (λ n m ts. names_reading c.args.limit [] m ts) c.args.part c.in-Err.misfit (Err c.from.result) c.in-Err.ensures c.from.ensures
