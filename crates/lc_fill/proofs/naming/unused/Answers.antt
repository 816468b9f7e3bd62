use Rattle.std.proofs.Common.{◌≡◌, true, ◌+◌, ◌-◌, sym, ap, ap₂, ◌∙◌, arith}
use Rattle.std.specs.Prelude.{string_bytes}
use Rattle.std.specs.List.{list_any}
use Rattle.lc_sexp.specs.Printed.{is_atom}
use Rattle.lc_reading.specs.TableView.{listed}
use Rattle.lc_reading.specs.Words.{is}
use Rattle.lc_fill.specs.Acts.{unused}
use Rattle.lc_fill.proofs.Names.{unused-stop, unused-none, unused-more, longer, todo-atom}
use Rattle.lc_fill.proofs.naming.unused.Goals as goal

pub loop-left-init : goal.loop-left-init
loop-left-init c = record {
  name = ap₂ (λ n w. unused (listed c.args.names.now) n w) c.len-left.ensures c.in_ok-name.ensures.ok;
  spelled = ap is_atom c.in_ok-name.ensures.ok ∙ todo-atom;
}

pub loop-left-preserved : goal.loop-left-preserved
loop-left-preserved c =
    let names = listed c.args.names.now in
    let n = c.loop-left.left in
    let w = string_bytes c.loop-left.name in
    let there : list_any (is w) names ≡ true = ap (λ v. list_any (is v) names) (sym c.as_str.ensures.value) ∙ sym c.contains.ensures ∙ c.if-not-contains.false in
    let less : n ≡ (n - 1) + 1 = omega arith in
    record {
      name = ap (unused names (n - 1)) c.in_ok-push_str.ensures.bytes ∙ sym (unused-more names n (n - 1) w less there) ∙ c.loop-left.invariant.name;
      spelled = ap is_atom c.in_ok-push_str.ensures.bytes ∙ longer w c.loop-left.invariant.spelled;
    }

pub returns-then-not-contains : goal.returns-then-not-contains
returns-then-not-contains c =
    let names = listed c.args.names.now in
    let w = string_bytes c.loop-left.name in
    record {
      name = sym (unused-stop names c.loop-left.left w (ap (λ v. list_any (is v) names) (sym c.as_str.ensures.value) ∙ sym c.contains.ensures ∙ c.if-not-contains.true)) ∙ c.loop-left.invariant.name;
      spelled = c.loop-left.invariant.spelled;
    }

pub returns : goal.returns
returns c =
    let names = listed c.args.names.now in
    record {
      name = sym (unused-none names c.loop-left.left (string_bytes c.loop-left.name) (omega arith)) ∙ c.loop-left.invariant.name;
      spelled = c.loop-left.invariant.spelled;
    }
