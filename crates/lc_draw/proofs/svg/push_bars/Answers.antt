use Rattle.std.proofs.Common.{◌++◌, ◌∷◌, ◌∙◌, ◌<◌, [], String, arith, false, length, refl, string_bytes, subst, sym, true}
use Rattle.std.proofs.lemmas.List.{length_push}
use Rattle.std.specs.List.{flat_map}
use Rattle.std.specs.declared.alloc.Global.{Global}
use Rattle.lc_draw.specs.Elements.{HasWritten}
use Rattle.lc_draw.specs.Shapes.{bar_elements}
use Rattle.lc_draw.proofs.Stretching.{held-next}
use Rattle.lc_draw.proofs.Written.{none_written, one_written}
use Rattle.lc_draw.proofs.svg.push_bars.Goals as goal
use Rattle.lc_draw.proofs.svg.push_bars.Goals.{else-is_held, then-is_held+in_ok-push_bar}

pub loop-number-init : goal.loop-number-init
loop-number-init c = ([], refl, none_written (string_bytes c.args.out.now))

pub loop-number-preserved : goal.loop-number-preserved
loop-number-preserved c =
    let old = c.loop-number.invariant in
    let held = c.args.held.now in
    let i = c.loop-number.number in
    let fits : i < length held = omega (arith, c.requires, c.loop-number-test.true) in
    let before = string_bytes c.args.out.now in
    elim c.if-is_held.branch [
      | then-is_held+in_ok-push_bar w ↦
          let bar = w.in_ok-push_bar.ensures in (
            old.0 ++ bar.0 ∷ [],
            held-next held i true (length old.0) (length (old.0 ++ bar.0 ∷ [])) fits (sym w.if-is_held.true ∙ c.is_held.ensures) (omega (arith, length_push old.0 bar.0)) old.1,
            subst (λ (out : String Global). HasWritten (flat_map bar_elements (old.0 ++ bar.0 ∷ [])) before (string_bytes out)) (sym w.out-is)
                (one_written bar_elements old.0 bar.0 before (string_bytes c.loop-number.out) (string_bytes w.push_bar.new.out) old.2 bar.1),
          )
      | else-is_held w ↦ (
        old.0,
        held-next held i false (length old.0) (length old.0) fits (sym w.if-is_held.false ∙ c.is_held.ensures) refl old.1,
        subst (λ (out : String Global). HasWritten (flat_map bar_elements old.0) before (string_bytes out)) (sym w.out-is) old.2,
      )
    ]
