use Rattle.std.proofs.Common.{◌≡◌, ◌++◌, string_bytes, to_z, of_z, w64, ap, ◌∙◌, rules}
use Rattle.std.specs.Fmt.{signed_decimal}
use Rattle.lc_draw.specs.Elements.{are_plain}
use Rattle.lc_draw.proofs.Plainness.{plain_append, plain_signed}
use Rattle.lc_draw.proofs.texts.Plain.number.Goals as goal

pub invariant_of-result : goal.invariant_of-result
invariant_of-result c =
    let same : to_z w64 (of_z w64 c.args.number) ≡ c.args.number = search rules in
    record {
      plain = ap are_plain (c.in_ok-write.ensures.bytes ∙ ap (λ z. string_bytes c.args.self.text ++ signed_decimal z) same)
          ∙ plain_append (string_bytes c.args.self.text) (signed_decimal c.args.number) c.args.self.plain (plain_signed c.args.number c.ranges.number.sfits);
    }
