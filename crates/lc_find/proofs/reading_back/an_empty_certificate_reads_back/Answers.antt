use Rattle.std.proofs.Common.{◌≡◌, ◌≤◌, [], ◌∷◌, ◌++◌, length, length-append, true, refl, subst, arith, lit≤}
use Rattle.lc_base.specs.NameText.{is_name}
use Rattle.lc_base.specs.Limits.{name_limit}
use Rattle.lc_outline.specs.DevelopmentView.{development_view}
use Rattle.lc_find.proofs.reading_back.an_empty_certificate_reads_back.Goals as goal

pub returns : goal.returns
returns c =
    let D = development_view c.args.development.now in
    let n = D.object.name in
    let is = c.object_name-name.ensures.text in
    let limit = c.object_name-name.ensures.limit in
    let short : length n ≤ name_limit = subst (λ b. length b ≤ name_limit) is limit in
    let a = length-append (n ++ [] ++ 41 ∷ []) (10 ∷ []) in
    let b = length-append (n ++ []) (41 ∷ []) in
    let e = length-append n [] in
    c.printed_certificates_read_back.ensures.made D [] refl tt (record {
      name = subst (λ b. is_name b ≡ true) is c.object_name-name.ensures.name;
      nesting = lit≤ tt;
      size = omega (arith, a, b, e, short);
    })
