use Rattle.std.proofs.Common.{◌≡◌, map, drop}
use Rattle.std.specs.List.{list_any}
use Rattle.std.specs.Str.{bytes_eq}
use Rattle.lc_object.specs.View.{point_of}
use Rattle.lc_cond_text.specs.Chosen.{names_of}
use Rattle.lc_cond_text.proofs.words.is_named.Given as goal

-- the points that are left decide the answer
abbrev pub invariant-loop-point : goal.invariant-loop-point
invariant-loop-point l =
    list_any (λ other. bytes_eq other l.name) (names_of (map point_of l.points)) ≡ list_any (λ other. bytes_eq other l.name) (names_of (map point_of (drop l.point-index l.points)))
