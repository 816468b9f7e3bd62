use Rattle.std.proofs.Common.{◌++◌}
use Rattle.std.proofs.lemmas.Result.{on_ok_weaker}
use Rattle.lc_cert.proofs.cert_reader.CertReader.feed_all.Goals as goal

pub returns : goal.returns
returns c =
    on_ok_weaker c.read_ready.result
    (λ g fed taken h. g c.in_ok-feed.ensures.spent (fed ++ c.args.piece.now) h.parts taken h.form (c.in_ok-feed.ensures.fed_behind fed h.parts h.read))
    c.read_ready.ensures
