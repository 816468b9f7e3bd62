use Rattle.std.proofs.Common.{◌≡◌, ℕ, ◌+◌, zero, false, refl, sym, ap, ap₂, ◌∙◌, arith}
use Rattle.std.specs.Prelude.{Result}
use Rattle.std.specs.Result.{IsErrAnd}
use Rattle.lc_sexp.specs.Trees.{Tree, Trees, ◌▸◌, item_count, item_count_of_all}
use Rattle.lc_sexp.specs.Shown.{rest_of, number_of, owner_of}
use Rattle.lc_sexp.specs.declared.cursor.Cursor.{Cursor}
use Rattle.lc_sexp.specs.declared.misfit.Misfit.{Misfit}
use Rattle.lc_sexp.specs.declared.misfit.Misfit.TheVariants.{Shape as Misshapen}
use Rattle.lc_text.specs.Names.{Names}
use Rattle.lc_kernel.specs.Proofs as S
use Rattle.lc_kernel.specs.Proofs.{more}
use Rattle.lc_proof_text.specs.Own.{IsShort}
use Rattle.lc_kernel.specs.View.{proof_of}
use Rattle.lc_kernel.specs.declared.proof.Proof.{Proof as SeenProof}
use Rattle.lc_reading.specs.Results.{IsReading}
use Rattle.lc_reading.specs.declared.flaw.ReadFault.{ReadFault}
use Rattle.lc_proof_text.specs.declared.head.Head.{Head}
use Rattle.lc_reading.specs.declared.part.Part.{Part}
use Rattle.lc_reading.specs.Parts.{IsBehind, tree_of, place_of}
use Rattle.lc_reading.specs.Flaws.{misfit_flaw}
use Rattle.lc_reading.specs.Readings.{both, wrong}
use Rattle.lc_reading.specs.declared.flaw.ReadFault.TheVariants.{Flawed}
use Rattle.lc_reading.specs.declared.pass.Pass.TheVariants.{Shape}
use Rattle.lc_reading.proofs.Combined.{headed_at}
use Rattle.lc_reading.proofs.SoFar.{so_far_push}
use Rattle.lc_proof_text.specs.Heads.{later, is_full, own_parts, proofs_due}
use Rattle.lc_proof_text.specs.Proofs.{proof_reading, proofs_reading, with_proofs}
use Rattle.lc_proof_text.specs.Steps.{step_reading}
use Rattle.lc_proof_text.specs.declared.head.Due.{Due}
use Rattle.lc_proof_text.proofs.Behind.{misfit_at}
use Rattle.lc_proof_text.proofs.Left.{left_proofs, short_proofs}
use Rattle.lc_proof_text.proofs.Proofs.{proofs_end, proofs_wrong}
use Rattle.lc_proof_text.proofs.proof.+read_proof.Goals as goal

pub read_branches-returns-then-is_met : goal.read_branches-returns-then-is_met
read_branches-returns-then-is_met g t c =
    let names = g.S.Scope.names c.args.scope.now in
    let met = sym c.is_met.ensures ∙ c.if-is_met.true in
    proofs_end _ _ c.proofs.proofs (ap (proofs_reading names c.args.owner zero c.proofs.due (number_of c.proofs.list)) c.in_default.ensures.1 ∙ rw met refl) c.proofs.invariant.read

pub read_branches-returns-else-is_met : goal.read_branches-returns-else-is_met
read_branches-returns-else-is_met g t c =
    let names = g.S.Scope.names c.args.scope.now in
    let met = sym c.is_met.ensures ∙ c.if-is_met.false in
    proofs_wrong _ _ c.args.owner c.proofs.proofs _ (ap (proofs_reading names c.args.owner zero c.proofs.due (number_of c.proofs.list)) c.in_default.ensures.1 ∙ rw met refl)
    c.with_misshapen.ensures c.proofs.invariant.read

pub read_branches-returns-then-is_full : goal.read_branches-returns-then-is_full
read_branches-returns-then-is_full g t c =
    let names = g.S.Scope.names c.args.scope.now in
    let full = sym c.is_full.ensures ∙ c.if-is_full.true in
    let (at, next) = c.in-Ok.ensures in
    proofs_wrong _ _ (number_of c.proofs.list) c.proofs.proofs _ (ap (proofs_reading names c.args.owner zero c.proofs.due (number_of c.proofs.list)) next.rest ∙ rw full refl)
    (rw c.number-number.ensures at c.with_misshapen-then-is_full.ensures) c.proofs.invariant.read

-- after one proof, the others are left, from k on
one_more_at : (names : Names) (n : ℕ) (due due' : Due) (m i k : ℕ) (t : Tree) (ts us : Trees) → is_full due ≡ false → due' ≡ later due → i ≡ m → us ≡ t ▸ ts → k ≡ m + item_count t
    → proofs_reading names n zero due m us ≡ both more (proof_reading names i t) (proofs_reading names n zero due' k ts)
one_more_at names n due due' m i k t ts us full after at rest number = rw (rest, full, after, at, number) refl

one_more : (names : Names) (n : ℕ) (due due' : Due) (l behind : Cursor) (part : Part) → is_full due ≡ false → due' ≡ later due → place_of part ≡ number_of l → IsBehind l (tree_of part) behind
    → proofs_reading names n zero due (number_of l) (rest_of l) ≡ both more (proof_reading names (place_of part) (tree_of part)) (proofs_reading names n zero due' (number_of behind) (rest_of behind))
one_more names n due due' l behind part full after at next =
    one_more_at names n due due' (number_of l) (place_of part) (number_of behind) (tree_of part) (rest_of behind) (rest_of l) full after at next.rest next.number

pub read_branches-proofs-preserved : goal.read_branches-proofs-preserved
read_branches-proofs-preserved g t c =
    let names = g.S.Scope.names c.args.scope.now in
    let full = sym c.is_full.ensures ∙ c.if-is_full.false in
    let (at, next) = c.in-Ok.ensures in
    let left = one_more names c.args.owner c.proofs.due c.later-due.result c.proofs.list c.next_part.new.list c.in-Ok.part full c.later-due.ensures at next in
    let size = ap item_count_of_all next.rest in
    record {
      read = so_far_push proof_of more _ _ _ c.proofs.proofs c.read_proof.result c.pushed_proof-proofs.result (rw left at c.proofs.invariant.read)
          c.read_proof.ensures c.pushed_proof-proofs.ensures;
      shorter = omega (arith, size, c.proofs.invariant.shorter);
    }

pub read_proof-returns-in-Some : goal.read_proof-returns-in-Some
read_proof-returns-in-Some g t c =
    let names = g.S.Scope.names c.args.scope.now in
    let other = sym c.is_sum.ensures ∙ c.if-is_sum.false in
    headed_at proof_of (proof_reading names) (with_proofs names c.in-Some.head) _ _ c.in-List.list c.in_ok-word.parts c.in_ok-word.word.now _
    c.in-List.ensures.tree c.in-List.ensures.number c.in-List.ensures.placed c.in_ok-word.ensures (λ n ts. rw (other, sym c.in-Some.ensures) refl) c.read_step.ensures

-- a step that lacks parts
short_step : (names : Names) (h : Head) (n m : ℕ) (ts : Trees) (misfit : Misfit) (result : Result SeenProof ReadFault)
    → (misfit ≡ Misshapen n) × (step_reading names h n m ts ≡ wrong Shape n) × IsShort (own_parts h) ts → IsErrAnd result (λ fault. fault ≡ Flawed (misfit_flaw misfit))
    → IsReading proof_of (with_proofs names h n m ts) result
short_step names h n m ts misfit result (is, own, short) told =
    misfit_at proof_of n (with_proofs names h n m ts) misfit result (ap₂ (both S.proof) own (short_proofs names n (own_parts h) (proofs_due h) m ts short)) is told

pub read_step-returns-in_err-step : goal.read_step-returns-in_err-step
read_step-returns-in_err-step g t c =
    short_step (g.S.Scope.names c.args.scope.now) c.args.head (owner_of c.args.list.now) (number_of c.args.list.now) (rest_of c.args.list.now) _ c.from_residual.result c.in_err-step.ensures c.from_residual.ensures.1

pub read_step-returns : goal.read_step-returns
read_step-returns g t c =
    let names = g.S.Scope.names c.args.scope.now in
    let (own, left) = c.in_ok-step.ensures in
    let due = left_proofs names (owner_of c.args.list.now) (own_parts c.args.head) (proofs_due c.args.head) _ _ c.read_begun.new.list left in
    rw due (c.finished.ensures _ _ own (rw (c.owner-owner.ensures, c.proofs_due.ensures) at c.read_branches.ensures))
