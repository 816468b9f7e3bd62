use Rattle.std.proofs.Common.{◌≡◌, suc, string_bytes, rules}
use Rattle.std.proofs.lemmas.Result.{on_ok_weaker}
use Rattle.lc_explain_cert.proofs.Parted.{in_groups}
use Rattle.lc_explain_cert.specs.Names.{spelled}
use Rattle.lc_explain_cert.proofs.state.push_state.Goals as goal

pub returns : goal.returns
returns c =
    let next : c.in-Some.behind ≡ suc c.args.given = search rules in
    on_ok_weaker c.push_group-3.result
    (λ written. λ before goal added is count.
    in_groups (spelled c.args.names.now) c.args.all.now c.args.given c.in-Some.behind before goal added (string_bytes c.args.text.now) (string_bytes c.push_group.new.text)
    (string_bytes c.push_group-2.new.text) (string_bytes c.push_group-3.new.text) next is count c.in_ok-push_group.ensures c.in_ok-push_group-2.ensures written)
    c.push_group-3.ensures
