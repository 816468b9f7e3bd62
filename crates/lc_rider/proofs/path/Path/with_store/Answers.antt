use Rattle.std.proofs.Common.{refl}
use Rattle.lc_rider.proofs.PathParts.{columns_put}
use Rattle.lc_rider.proofs.path.Path.with_store.Goals as goal

pub returns-clause-path : goal.returns-clause-path
returns-clause-path c =
    columns_put c.args.terms.now c.store_in.new.terms c.args.self _ c.store_in.new.columns.items _ c.requires.path c.store_in.ensures.kept refl refl refl c.in_ok-store_in.ensures.are c.in_ok-store_in.ensures.stored
