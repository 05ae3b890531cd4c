use Rattle.std.proofs.Common.{append_assoc}
use Rattle.line_format.proofs.write.put_numbered_line.Goals as goal

pub returns : goal.returns
returns c = simp (c.in_ok-push-3.ensures.items, c.in_ok-put_number-2.ensures, c.in_ok-push-2.ensures.items, c.in_ok-put_number.ensures, c.in_ok-push.ensures.items, c.in_ok-extend_from_slice.ensures.items, append_assoc)
