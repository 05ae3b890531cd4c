use Rattle.std.proofs.Common.{◌≡◌, ap, ◌∙◌, arith}
use Rattle.std.proofs.lemmas.Grind.{common_steps}
use Rattle.hex.specs.Hex.{encode_lower}
use Rattle.script_lines.proofs.DigitLaws.{all_bytes}
use Rattle.script_lines.proofs.known_pairs.KnownPairs.asked.Goals as goal

pub invariant_of-result : goal.invariant_of-result
invariant_of-result c =
    let i = c.loop-byte.invariant in
    let all = all_bytes c.loop-byte.bytes i.long (λ k below. i.each k (omega (arith, below, c.loop-byte-test.false))) in
    let wrote : c.encode_to_slice.new.output ≡ encode_lower c.loop-byte.bytes = grind (arith, common_steps) in
    record { known = wrote ∙ ap encode_lower all }
