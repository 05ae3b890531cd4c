-- The lines that a terminal can answer, and the masks that admit one.
use Rattle.std.specs.Prelude.{ℕ, ◌≡◌, ◌≤◌, ◌<◌, ◌^◌, true, List, length, All}
use Rattle.terminal_rules.specs.Out.{Handing, HandsReceived, HandsSynchronizeWith, Out, SendsWord, HandsOver}
use Rattle.script_lines.specs.Transcript.{answer_text}
use Rattle.rt1553_verify.specs.declared.matching.Matching.TheVariants.{Exact}
use Rattle.rt1553_verify.specs.Stated.{can_be_given, with_line_feed}

-- a word has 16 bits, and what was received is 1 to 32 words at a subaddress of data
abbrev pub IsProperHanding : Handing → Type 0
IsProperHanding (HandsReceived broadcast s ws) = (1 ≤ s) × (s ≤ 30) × (1 ≤ length ws) × (length ws ≤ 32) × All (λ w. w < 2 ^ 16) ws
IsProperHanding (HandsSynchronizeWith word) = word < 2 ^ 16
IsProperHanding _ = Unit {0}

abbrev pub IsProperAnswer : Out → Type 0
IsProperAnswer (SendsWord s) = s.bits < 2 ^ 16
IsProperAnswer (HandsOver handing) = IsProperHanding handing
IsProperAnswer _ = Unit {0}

-- an answer is written as a line, or as nothing, that can be stated of it
abbrev pub AnswersCanBeStated : Type 0
AnswersCanBeStated = (o : Out) → IsProperAnswer o → (line : List ℕ) × (answer_text o ≡ with_line_feed line) × (can_be_given Exact line ≡ true)
