use Rattle.std.proofs.Common.{◌*◌, ◌≤◌, ◌<◌, length, ap, sym, subst}
use Rattle.lc_base.specs.Limits.{condition_limit}
use Rattle.lc_term.specs.View.{formula_of}
use Rattle.lc_outline.proofs.Resolving.{passed_is_resolved}
use Rattle.lc_outline.specs.DevelopmentView.{development_view}
use Rattle.lc_cond.specs.Stretches.{IsWithin}
use Rattle.lc_cond.proofs.Few.{seen_length, idle_stays_few}
use Rattle.lc_cond.proofs.Stretched.{idle_adds}
use Rattle.lc_cond.proofs.part.push_idle_with.Goals as goal

pub stretch_with-asked-requires-clause-few : goal.stretch_with-asked-requires-clause-few
stretch_with-asked-requires-clause-few c =
    let D = development_view c.args.development.now in
    let size = seen_length formula_of c.idle_of-count.result.now D.idle c.idle_of-count.ensures in
    subst (λ m. m * c.action_count-each.result ≤ condition_limit) (sym size)
    (subst (λ m. length D.idle * m ≤ condition_limit) (sym c.action_count-each.ensures) (idle_stays_few D c.args.development.now.resolved c.args.development.now.limited))

pub push_idle_stretch-requires : goal.push_idle_stretch-requires
push_idle_stretch-requires c =
    let D = development_view c.args.development.now in
    let size = seen_length formula_of c.idle_of-count.result.now D.idle c.idle_of-count.ensures in
    subst (λ m. IsWithin m c.stretch_with-asked.result) size c.stretch_with-asked.ensures.within

pub returns-clause-with : goal.returns-clause-with
returns-clause-with c =
    let D = development_view c.args.development.now in
    let s = c.stretch_with-asked.result in
    let place = c.args.wanted.place in
    let each = c.action_count-each.result in
    let size = seen_length formula_of c.idle_of-count.result.now D.idle c.idle_of-count.ensures in
    idle_adds D (passed_is_resolved D c.args.development.now.resolved) c.args.conditions.now.items c.push_idle_stretch.new.terms c.push_idle_stretch.new.conditions.items place (s.from * each) s
    (subst (λ m. IsWithin m s) size c.stretch_with-asked.ensures.within) (idle_stays_few D c.args.development.now.resolved c.args.development.now.limited) (ap (λ m. s.from * m) c.action_count-each.ensures)
    (subst (λ m. place < length D.idle * m → (s.from * m ≤ place) × (place < s.to * m)) c.action_count-each.ensures
    (subst (λ m. place < m * each → (s.from * each ≤ place) × (place < s.to * each)) size c.stretch_with-asked.ensures.has))
    c.in_ok-push_idle_stretch.ensures.list
