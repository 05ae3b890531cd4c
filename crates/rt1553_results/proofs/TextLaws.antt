-- Texts of words and of what is handed over.
use Rattle.std.proofs.Common.{◌≡◌, ℕ, ◌≤◌, List, ◌-◌, ◌∙◌, sym, Option, Some, take, length, drop, ap, arith}
use Rattle.terminal_rules.specs.Out.{Handing, HandsOver}
use Rattle.bus_terminal.specs.Answer.{words_handed}
use Rattle.script_lines.specs.Transcript.{hand_text}
use Rattle.script_lines.proofs.TranscriptLaws.{small_text}
use Rattle.rt1553_results.specs.Table.{inner_text, handed_text}

-- the line of what is handed over has room, and something behind `hand `
pub hand_fits : (handing : Handing) → length (words_handed handing) ≤ 32 → length (hand_text handing) ≤ 320
hand_fits handing few = let small : length (hand_text handing) ≤ 186 = small_text (HandsOver handing) few in omega arith

-- what was cut out of the line of what is handed over
pub cut_out : (line : List ℕ) (handing : Handing) (handed : Option Handing) → line ≡ hand_text handing → handed ≡ Some handing → take (length line - 1 - 5) (drop 5 line) ≡ handed_text handed
cut_out line handing handed is some =
    let same : length line - 1 - 5 ≡ length line - 6 = omega arith in
    ap (λ n. take n (drop 5 line)) same ∙ (ap inner_text is ∙ sym (ap handed_text some))
