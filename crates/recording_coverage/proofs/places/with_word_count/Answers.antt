use Rattle.std.proofs.Common.{◌&&◌, ◌||◌, ◌==◌, ◌-◌, ap, sym, rules, ◌∙◌}
use Rattle.bus_word.specs.Mask.{has_bit}
use Rattle.recording_coverage.proofs.PlaceLaws.{set_at}
use Rattle.recording_coverage.proofs.places.with_word_count.Goals as goal

pub returns-then-n-le32 : goal.returns-then-n-le32
returns-then-n-le32 c = λ m l h.
    set_at c.args.bits c.args.n m c.from.result (search rules) c.if-n-ge1.true c.if-n-le32.true l ∙ sym (ap (λ b. (b && (c.args.n == m)) || has_bit c.args.bits (m - 1)) c.if-set.true)
