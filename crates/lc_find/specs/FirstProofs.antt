-- The first places of proofs.
use Rattle.std.specs.Prelude.{ℕ, suc, ◌==◌, if◌then◌else◌, List, [], ◌∷◌, Option, Some, None, option_map}
use Rattle.lc_cert.specs.Certificates.{Entry}

-- the first place of a number
abbrev pub place_at : List Entry → ℕ → Option ℕ
place_at [] number = None
place_at (e ∷ es) number = if number == e.number then Some 0 else option_map suc (place_at es number)
