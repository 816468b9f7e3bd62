use Rattle.std.proofs.Common.{◌≡◌, ◌++◌, List, ℕ, ap, ◌∙◌, codes, rules}
use Rattle.std.specs.Fmt.{signed_decimal}
use Rattle.lc_trace.proofs.Joined.{joined}
use Rattle.lc_trace.proofs.lines.push_cell.Goals as goal

pub returns : goal.returns
returns c =
    let before = c.args.text.now.items in
    let index = signed_decimal c.args.cell.index in
    let value = signed_decimal c.args.cell.value in
    let name = c.column_name-name.result.now in
    let words : c.in_ok-words.words.bytes.items ≡ codes "[\"" ++ (name ++ (codes "\"," ++ (index ++ (codes "," ++ (value ++ codes "]"))))) = search rules in
    c.in_ok-extend_from_slice.ensures.items
    ∙ ap (λ l. before ++ l)
    (c.as_bytes.ensures.value
    ∙ (words
    ∙ (joined (codes "[\"") name (codes "\",") index (codes ",") value (codes "]")
    ∙ ap (λ (n : List ℕ). codes "[\"" ++ n ++ codes "\"," ++ index ++ codes "," ++ value ++ codes "]") c.column_name-name.ensures)))
