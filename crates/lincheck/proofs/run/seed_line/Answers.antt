use Rattle.std.proofs.Common.{ℕ, Vec, ap}
use Rattle.std.specs.declared.alloc.Global.{Global}
use Rattle.lincheck.proofs.Running.{seed_line_is}
use Rattle.lincheck.proofs.run.seed_line.Goals as goal

pub returns : goal.returns
returns c =
    seed_line_is c.args.seed c.args.entries c.args.ends.now c.in_ok-words.words.bytes.items c.into_bytes-line.result.items c.push_all_ended.new.line.items c.push.new.self.items c.in_ok-words.ensures.ok
    (ap (λ (v : Vec ℕ Global). v.items) c.into_bytes-line.ensures.value) c.in_ok-push_all_ended.ensures c.in_ok-push.ensures.items
