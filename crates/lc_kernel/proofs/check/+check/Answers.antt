use Rattle.std.proofs.Common.{◌≡◌, suc, ◌+◌, ◌++◌, ◌<◌, length, take, drop, sym, ap, subst, ◌∙◌, arith, rules, Err}
use Rattle.std.proofs.Math.Seq.{take-append_seam}
use Rattle.lc_table.specs.Tables.{formulas_in}
use Rattle.lc_table.proofs.Later.{are_formulas_still, kept_on}
use Rattle.lc_kernel.specs.Answers.{Checks, ChecksEach}
use Rattle.lc_kernel.specs.Branches.{branches_in, branch_count, branch_at}
use Rattle.lc_kernel.specs.Derivation.{Derives}
use Rattle.lc_kernel.specs.Proofs.{proofs, size, size_of_all}
use Rattle.lc_kernel.specs.Table.{opens, Gives}
use Rattle.lc_kernel.specs.View.{step_of, proof_of, proofs_of}
use Rattle.lc_kernel.specs.declared.proof.Proof.{out-Proof}
use Rattle.lc_kernel.proofs.Branches.{one_less, one_fails, next_left, next_hypotheses, nothing_left, count_in}
use Rattle.lc_kernel.proofs.Checked.{proof_of-proof, root_flawed, root_checks}
use Rattle.lc_kernel.proofs.Grows.{Gives-grows, Gives-count}
use Rattle.lc_kernel.proofs.check.+check.Goals as goal

pub check-returns-in-Err-clause-checks : goal.check-returns-in-Err-clause-checks
check-returns-in-Err-clause-checks t c =
    let a = c.args in
    root_flawed a.proof.now a.terms.now c.take_step.new.terms a.variables c.len.result a.first a.given.now a.appended.now.items c.as_slice.result.now c.in-Err.fault c.at.result
    c.as_slice.ensures.value (search rules) c.at.ensures c.in-Err.ensures.step

pub check-returns-clause-checks : goal.check-returns-clause-checks
check-returns-clause-checks t c =
    let a = c.args in
    let new = c.take_step.new.terms in
    let opened = c.in-Ok.opened in
    root_checks a.proof.now a.terms.now new a.variables opened.variables c.len.result a.first a.given.now a.appended.now.items c.as_slice.result.now (branches_in new opened.branches) c.deref.result.now c.check_each.result
    c.as_slice.ensures.value (search rules) c.deref.ensures.value c.requires.numbers c.in-Ok.ensures.kept c.in-Ok.ensures.step.1 c.check_each.ensures.checks

pub check_each-returns-in_err-next-clause-checks : goal.check_each-returns-in_err-next-clause-checks
check_each-returns-in_err-next-clause-checks t c =
    let a = c.args in
    let ts = a.terms.now in
    let H = formulas_in ts (a.given.now ++ a.appended.now.items) in
    let bs = branches_in ts a.branches.now in
    let ps = proofs (proofs_of a.children.now) in
    let i = c.loop-i.i in
    let p = c.index-children-i.result in
    let fault = c.in_err-next.field-0.0 in
    let within : i < branch_count a.branches.now = search rules in
    let left = next_left a.variables H bs ps a.first c.loop-i.next ts a.branches.now a.children.now i p within (search rules) c.index-children-i.is c.loop-i.invariant.0 in
    let known = next_hypotheses ts c.loop-i.terms a.given.now a.appended.now.items c.append_branch.new.appended.items a.branches.now i within (search rules) c.requires.numbers c.requires.opened c.loop-i.invariant.2 in
    let checks = subst (λ G. Checks a.variables G (proof_of p) c.loop-i.next (Err fault)) known.1 c.in_err-next.ensures.checks in
    let e : c.from_residual-in_err-next.result ≡ Err fault = search rules in
    subst (ChecksEach a.variables H bs ps a.first) (sym e)
    (one_fails a.variables H bs ps a.first c.loop-i.next (formulas_in ts (branch_at a.branches.now i)) (drop (i + 1) bs) (proof_of p) (proofs (proofs_of (drop (i + 1) a.children.now))) fault left checks)

pub check_each-loop-i-preserved : goal.check_each-loop-i-preserved
check_each-loop-i-preserved t c =
    let a = c.args in
    let ts = a.terms.now in
    let own = a.appended.now.items in
    let cs = a.branches.now in
    let H = formulas_in ts (a.given.now ++ own) in
    let bs = branches_in ts cs in
    let i = c.loop-i.i in
    let p = c.index-children-i.result in
    let within : i < branch_count cs = search rules in
    let appended : c.append_branch.new.appended.items ≡ own ++ branch_at cs i = search rules in
    let left = next_left a.variables H bs (proofs (proofs_of a.children.now)) a.first c.loop-i.next ts cs a.children.now i p within (search rules) c.index-children-i.is c.loop-i.invariant.0 in
    let known = next_hypotheses ts c.loop-i.terms a.given.now own c.append_branch.new.appended.items cs i within appended c.requires.numbers c.requires.opened c.loop-i.invariant.2 in
    let checks = c.in_ok-next.ensures.checks in
    let derives = subst (λ G. Derives a.variables G (proof_of p)) known.1 checks.1 in
    let count : c.len-before.result ≡ length own = search rules in (
      one_less a.variables H bs (proofs (proofs_of a.children.now)) a.first c.loop-i.next c.in_ok-next.next (formulas_in ts (branch_at cs i)) (drop (i + 1) bs) (proof_of p) (proofs (proofs_of (drop (i + 1) a.children.now))) left checks.0 derives,
      c.truncate.ensures.items ∙ ap (λ n. take n c.check.new.appended.items) count ∙ ap (take (length own)) (c.in_ok-next.ensures.kept ∙ appended) ∙ take-append_seam own (branch_at cs i),
      kept_on ts c.loop-i.terms c.check.new.terms c.loop-i.invariant.2 c.in_ok-next.ensures.table,
    )

pub check_each-returns-clause-checks : goal.check_each-returns-clause-checks
check_each-returns-clause-checks t c =
    nothing_left c.args.variables (formulas_in c.args.terms.now (c.args.given.now ++ c.args.appended.now.items)) (branches_in c.args.terms.now c.args.branches.now) (proofs (proofs_of c.args.children.now)) c.args.first c.loop-i.next c.args.terms.now c.args.branches.now c.args.children.now
    c.loop-i.i (search rules) (search rules) c.loop-i.invariant.0

pub check-check_each-requires : goal.check-check_each-requires
check-check_each-requires t c =
    let p = c.args.proof.now in
    let s = step_of (out-Proof p).step in
    let old = c.args.terms.now in
    let new = c.take_step.new.terms in
    let given = c.args.given.now in
    let ks = given ++ c.args.appended.now.items in
    let v = c.args.variables in
    let w = c.in-Ok.opened.variables in
    let opened = c.in-Ok.opened.branches in
    let bs = branches_in new opened in
    let gives = subst (λ xs. Gives v (formulas_in old (given ++ xs)) c.len.result s (opens w bs)) c.as_slice.ensures.value c.in-Ok.ensures.step.1 in
    let grows = Gives-grows v w (formulas_in old ks) c.len.result s bs gives in
    let counted = Gives-count v w (formulas_in old ks) c.len.result s bs gives in
    let sizes : size (proof_of p) ≡ suc (size_of_all (proofs (proofs_of c.deref.result.now))) =
    ap size (proof_of-proof p) ∙ ap (λ xs. suc (size_of_all (proofs (proofs_of xs)))) (sym c.deref.ensures.value) in
    let same : branch_count opened ≡ length c.deref.result.now = sym (count_in new opened) ∙ counted ∙ c.len.ensures ∙ sym c.deref.ensures.len in
    let r = c.requires in (
      omega (arith, c.decreases, sizes),
      (are_formulas_still old new ks r.numbers c.in-Ok.ensures.kept, (c.in-Ok.ensures.step.0, (omega (arith, sizes, grows, r.variables), (omega (arith, sizes, r.steps), same)))),
    )

pub check_each-check-requires : goal.check_each-check-requires
check_each-check-requires t c =
    let a = c.args in
    let r = c.requires in
    let ts = a.terms.now in
    let cs = a.branches.now in
    let i = c.loop-i.i in
    let p = c.index-children-i.result in
    let within : i < branch_count cs = search rules in
    let left = next_left a.variables (formulas_in ts (a.given.now ++ a.appended.now.items)) (branches_in ts cs) (proofs (proofs_of a.children.now)) a.first c.loop-i.next ts cs a.children.now i p within (search rules) c.index-children-i.is c.loop-i.invariant.0 in
    let sizes : size_of_all (proofs (proofs_of a.children.now)) ≡ left.done + (size (proof_of p) + size_of_all (proofs (proofs_of (drop (i + 1) a.children.now)))) = left.sizes in
    let known = next_hypotheses ts c.loop-i.terms a.given.now a.appended.now.items c.append_branch.new.appended.items cs i within (search rules) r.numbers r.opened c.loop-i.invariant.2 in
    let counted = left.counted in
    (omega (arith, c.decreases, sizes), (known.0, (omega (arith, sizes, r.variables), omega (arith, sizes, counted, r.steps))))
