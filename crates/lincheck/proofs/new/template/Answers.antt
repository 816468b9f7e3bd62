use Rattle.lincheck.specs.New.{template_of}
use Rattle.lincheck.proofs.new.template.Goals as goal

pub returns : goal.returns
unfolding template_of
returns c =
    rw (
      c.in_ok-extend_from_slice-5.ensures.items,
      c.in_ok-extend_from_slice-4.ensures.items,
      c.in_ok-extend_from_slice-3.ensures.items,
      c.in_ok-extend_from_slice-2.ensures.items,
      c.in_ok-extend_from_slice.ensures.items,
      c.new-text.ensures.items,
      c.as_bytes-name.ensures.value,
    )
