-- The line of a word is read as that word.
use Rattle.std.proofs.Common.{ℕ, ◌≡◌, ◌<◌, ◌^◌, ◌∙◌, Option, Some, None, Result, Ok, refl, ap, sym}
use Rattle.hex.specs.Hex.{encode_with}
use Rattle.bus_word.specs.declared.word.Bus.{Bus}
use Rattle.bus_word.specs.declared.word.Bus.TheVariants.{A, B}
use Rattle.bus_word.specs.declared.word.Kind.{Kind}
use Rattle.bus_word.specs.declared.word.Kind.TheVariants.{Com, Dat}
use Rattle.terminal_rules.specs.declared.event.Event.{Event}
use Rattle.terminal_rules.specs.declared.event.Event.TheVariants.{Vector}
use Rattle.terminal_rules.specs.Out.{Sending, sending}
use Rattle.line_format.specs.Front.{◌>>=◌}
use Rattle.script_lines.specs.Digits.{word_of, digits_of}
use Rattle.script_lines.specs.Transcript.{sent_text}
use Rattle.script_lines.specs.Line.{meaning, or_refused}
use Rattle.script_lines.specs.declared.line.LineFault.{LineFault}
use Rattle.script_lines.proofs.RoundTrip.{event_read}
use Rattle.script_recordings.specs.inner.Words.{any_digits}

-- four digits are read as the word, since a vector word is
abbrev vector_in : Result (Option Event) LineFault → Option ℕ
vector_in (Ok (Some (Vector word))) = Some word
vector_in _ = None

vector_back : (bits : Option ℕ) → vector_in (or_refused (bits >>= λ b. Some (Vector b))) ≡ bits
vector_back None = refl
vector_back (Some b) = refl

word_read : (word : ℕ) → word < 2 ^ 16 → word_of (digits_of word) ≡ Some word
unfolding meaning encode_with
word_read word small = sym (vector_back (word_of (digits_of word))) ∙ ap vector_in (event_read (Vector word) small)

abbrev word_with : Bus → Kind → Option ℕ → Option Sending
word_with bus kind bits = bits >>= λ b. Some (sending bus kind b)

read_back : (bus : Bus) (kind : Kind) (bits : ℕ) → bits < 2 ^ 16 → any_digits (sent_text (sending bus kind bits)) ≡ Some (sending bus kind bits)
unfolding encode_with
read_back A Com bits small = ap (word_with A Com) (word_read bits small)
read_back A Dat bits small = ap (word_with A Dat) (word_read bits small)
read_back B Com bits small = ap (word_with B Com) (word_read bits small)
read_back B Dat bits small = ap (word_with B Dat) (word_read bits small)

pub word_read_back : (w : Sending) → w.bits < 2 ^ 16 → any_digits (sent_text w) ≡ Some w
word_read_back w small = read_back w.bus w.kind w.bits small
