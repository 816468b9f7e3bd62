use Rattle.std.proofs.Common.{◌≡◌, ℕ, sym, ap, ◌∙◌, arith}
use Rattle.lc_sexp.proofs.Items.{items_fit_lem}
use Rattle.lc_sexp.specs.Shown.{rest_of, number_of, owner_of}
use Rattle.lc_sexp.specs.Trees.{Trees, item_count_of_all}
use Rattle.lc_reading.proofs.Files.{trees_fault}
use Rattle.lc_reading.specs.Readings.{fine}
use Rattle.lc_table.specs.Tables.{formulas_in}
use Rattle.lc_text.proofs.Variables.{each_in}
use Rattle.lc_proof_text.proofs.Founded.{below, fine_claim_founded}
use Rattle.lc_proof_text.proofs.Sections.{file_at}
use Rattle.lc_proof_text.specs.Files.{seen_claim, claim_in, only, form_reading, file_reading}
use Rattle.lc_proof_text.specs.declared.claim.ClaimTrees.{ClaimTrees}
use Rattle.lc_proof_text.specs.declared.claim.FormulaFile.{FormulaFile}
use Rattle.lc_proof_text.proofs.formula.formula_in.Goals as goal

-- the forms read as what is entered
entered_reads : (n m : ℕ) (ts us : Trees) (claim : ClaimTrees) (file : FormulaFile) → n ≡ item_count_of_all us → m ≡ 0 → ts ≡ us
    → only form_reading n m ts ≡ fine (seen_claim claim) → claim_in file ≡ seen_claim claim → file_reading us ≡ fine (claim_in file)
entered_reads n m ts us claim file owner number rest reads same = sym (file_at n m ts us owner number rest) ∙ reads ∙ ap fine (sym same)

pub read_file-requires : goal.read_file-requires
read_file-requires c =
    omega (arith, items_fit_lem c.requires.0 c.args.forms c.requires.1, c.requires.1.size, ap item_count_of_all c.cursor.ensures.rest)

pub returns-in_err-claim-clause-answer : goal.returns-in_err-claim-clause-answer
returns-in_err-claim-clause-answer c = λ bytes reads.
    let whole = c.cursor.result in
    let same = file_at (owner_of whole) (number_of whole) (rest_of whole) c.args.forms c.cursor.ensures.owner c.cursor.ensures.number c.cursor.ensures.rest in
    trees_fault claim_in file_reading bytes c.args.forms _ c.from_residual.result reads (rw same at c.in_err-claim.ensures) c.from_residual.ensures.1

pub returns-clause-answer : goal.returns-clause-answer
returns-clause-answer c = λ bytes reads.
    let whole = c.cursor.result in
    (c.args.forms, reads, entered_reads (owner_of whole) (number_of whole) (rest_of whole) c.args.forms c.in_ok-claim.claim c.in_ok-entered.field-0 c.cursor.ensures.owner c.cursor.ensures.number c.cursor.ensures.rest c.in_ok-claim.ensures c.in_ok-entered.ensures.same)

pub returns-clause-hypotheses : goal.returns-clause-hypotheses
returns-clause-hypotheses c =
    let whole = c.cursor.result in
    let file = c.in_ok-entered.field-0 in
    let reads = entered_reads (owner_of whole) (number_of whole) (rest_of whole) c.args.forms c.in_ok-claim.claim file c.cursor.ensures.owner c.cursor.ensures.number c.cursor.ensures.rest c.in_ok-claim.ensures c.in_ok-entered.ensures.same in
    each_in (below file.goal.vars) (formulas_in file.terms file.goal.hypotheses) (fine_claim_founded c.args.forms (claim_in file) reads).hypotheses

pub returns-clause-goal : goal.returns-clause-goal
returns-clause-goal c =
    let whole = c.cursor.result in
    let file = c.in_ok-entered.field-0 in
    let reads = entered_reads (owner_of whole) (number_of whole) (rest_of whole) c.args.forms c.in_ok-claim.claim file c.cursor.ensures.owner c.cursor.ensures.number c.cursor.ensures.rest c.in_ok-claim.ensures c.in_ok-entered.ensures.same in
    (fine_claim_founded c.args.forms (claim_in file) reads).goal 0

pub returns-clause-steps : goal.returns-clause-steps
returns-clause-steps c =
    let whole = c.cursor.result in
    let file = c.in_ok-entered.field-0 in
    let reads = entered_reads (owner_of whole) (number_of whole) (rest_of whole) c.args.forms c.in_ok-claim.claim file c.cursor.ensures.owner c.cursor.ensures.number c.cursor.ensures.rest c.in_ok-claim.ensures c.in_ok-entered.ensures.same in
    let room = (fine_claim_founded c.args.forms (claim_in file) reads).room in
    omega (arith, room, items_fit_lem c.requires.0 c.args.forms c.requires.1, c.requires.1.size)
