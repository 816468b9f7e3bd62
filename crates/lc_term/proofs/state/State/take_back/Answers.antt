use Rattle.std.proofs.Common.{◌≡◌, ◌<◌, ◌∙◌, w64, rules, sym, ap, subst, length}
use Rattle.std.specs.Prelude.{FitsSigned}
use Rattle.std.proofs.lemmas.Int.{to_z-of_z}
use Rattle.std.proofs.lemmas.List.{length-map}
use Rattle.lc_term.specs.Written.{kept_in, kept_of, with_written, taken_back, CanTakeBack}
use Rattle.lc_term.proofs.Written.{can-less, can-restore, taken_back-more, kept-changed}
use Rattle.lc_term.proofs.state.State.take_back.Goals as goal

pub index_mut-requires : goal.index_mut-requires
index_mut-requires c =
    let u = c.in-Some.undo in
    let ks = kept_of c.undo.self in
    let can = can-less ks c.pop.new.self.items u (subst (CanTakeBack ks) c.in-Some.ensures.items c.undo.invariant.can) in
    let small : u.column.0 < length c.undo.self.columns.items = rw length-map at can.0 in
    search rules

pub restore-requires : goal.restore-requires
restore-requires c =
    let u = c.in-Some.undo in
    let index_fits : FitsSigned w64 u.index = search rules in
    let xs = c.undo.self.columns.items in
    let ks = kept_of c.undo.self in
    let can = can-less ks c.pop.new.self.items u (subst (CanTakeBack ks) c.in-Some.ensures.items c.undo.invariant.can) in
    let small : u.column.0 < length xs = rw length-map at can.0 in
    rw (to_z-of_z w64 u.index index_fits) (can-restore xs u.column.0 c.index_mut.result.now u.index u.before small c.index_mut.ensures.value can.1)

pub undo-preserved : goal.undo-preserved
undo-preserved c =
    let u = c.in-Some.undo in
    let index_fits : FitsSigned w64 u.index = search rules in
    let xs = c.undo.self.columns.items in
    let ks = kept_of c.undo.self in
    let us = c.pop.new.self.items in
    let can = can-less ks us u (subst (CanTakeBack ks) c.in-Some.ensures.items c.undo.invariant.can) in
    let small : u.column.0 < length xs = rw length-map at can.0 in
    let back : kept_in c.restore.new.self ≡ with_written (kept_in c.index_mut.result.now) u.index u.before = rw (to_z-of_z w64 u.index index_fits) at c.restore.ensures in
    let is = kept-changed xs u.column.0 c.index_mut.result.now c.restore.new.self u.index u.before small c.index_mut.ensures.value back in
    record {
      same = ap (λ l. taken_back l us) is ∙ sym (taken_back-more ks us u) ∙ sym (ap (taken_back ks) c.in-Some.ensures.items) ∙ c.undo.invariant.same;
      can = subst (λ l. CanTakeBack l us) (sym is) can.2;
    }
