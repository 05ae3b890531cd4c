-- The line of each message of a command is read as this message.
use Rattle.std.proofs.Common.{ℕ, zero, suc, ◌≡◌, ◌≢◌, ◌∙◌, ◌+◌, ◌*◌, ◌^◌, ◌/◌, ◌%◌, ◌<◌, ◌≤◌, Bool, true, false, ◌||◌, ◌==◌, if◌then◌else◌, List, [], ◌∷◌, ◌++◌, Option, Some, None, IfSome, Result, Ok, Err, is_ok, is_some, All, length, codes, flat_map, map, replicate, slice_index, lit<, refl, sym, ap, arith, length-append, append-nil, append_assoc}
use Rattle.std.proofs.lemmas.Bool.Decides.{nat_tests}
use Rattle.std.specs.Char.{to_ascii_lowercase}
use Rattle.hex.specs.Hex.{lower_digits, encode_with, IsBytes}
use Rattle.bus_word.specs.declared.word.Bus.{Bus}
use Rattle.bus_word.specs.declared.word.Bus.TheVariants.{A, B}
use Rattle.bus_word.specs.Command.{AreOfTheirWidth, command_bits, expected, count_of, count_in}
use Rattle.bus_word.proofs.WordLaws.{fields_are_unique}
use Rattle.line_format.specs.Format.{digits}
use Rattle.line_format.specs.Reading.{number_at, field_at, fields_at}
use Rattle.line_format.specs.Shapes.{word}
use Rattle.line_format.proofs.Digits.{number_at-digits}
use Rattle.line_format.proofs.Hexadecimals.{encoded_digits}
use Rattle.script_lines.specs.Digits.{digits_of, decimal_digits}
use Rattle.script_lines.specs.Line.{word_on, event_on, or_refused, meaning}
use Rattle.script_lines.specs.Transcript.{bus_letter}
use Rattle.script_lines.proofs.TranscriptLaws.{four_digits}
use Rattle.rt1553_tool.specs.declared.fields.CommandFields.{CommandFields}
use Rattle.rt1553_tool.specs.declared.fields.WordFields.{WordFields}
use Rattle.rt1553_tool.specs.declared.fields.WordFields.TheVariants as fields
use Rattle.rt1553_tool.specs.Fields.{in_word}
use Rattle.rt1553_tool.specs.WordLines.{word_line}
use Rattle.rt1553_tool.specs.WordTexts.{short_decimal, address_text, tr_text, mode_text, transfer_text, asks_mode, command_text}
use Rattle.rt1553_expand.specs.declared.fault.ExpandFault.{ExpandFault}
use Rattle.rt1553_expand.specs.declared.fault.ExpandFault.TheVariants.{Sender, Comment, NotReceive}
use Rattle.rt1553_expand.specs.declared.script_for.ScriptFor.{ScriptFor}
use Rattle.rt1553_expand.specs.Message.{◌>>=◌, cut, SaidMessage, named_word, sender_line, another_terminal, sender_of, words_wanted, nothing_behind, data_in, data_behind, message_of, message_by_cuts, message_in}
use Rattle.rt1553_expand.specs.Gathered.{CommandMessage, said, from_text, spaced_word, data_words_text, message_text, listed_line, IsSender, IsMessage, EachIsSaid}
use Rattle.rt1553_expand.proofs.FeedLaws.{no_byte}
use Rattle.rt1553_expand.proofs.PartsLaws.{Free, free, free-append, free-if, free-decimal, free-above, cut-free, cut-at, cut-from, cut-from-none}
use Rattle.rt1553_expand.proofs.WordReadLaws.{command-says, sender-read, length-decimal, length-address, length-direction}

-- ---- which bytes a message has

-- a byte that no word, no address and no number has
record Mark (c : ℕ) : Type 0 where
  mode : Free c (codes "mode ")
  space : Free c (codes " ")
  last : Free c (codes " 31")
  all : Free c (codes "all")
  tx : Free c (codes "tx")
  rx : Free c (codes "rx")
  number : (n : ℕ) → n < 100 → Free c (short_decimal n)

hash : Mark 35
hash = record { mode = free 35 (codes "mode ") refl; space = free 35 (codes " ") refl; last = free 35 (codes " 31") refl; all = free 35 (codes "all") refl; tx = free 35 (codes "tx") refl; rx = free 35 (codes "rx") refl; number = λ n low. free-decimal 35 n (omega arith) }

colon : Mark 58
colon = record { mode = free 58 (codes "mode ") refl; space = free 58 (codes " ") refl; last = free 58 (codes " 31") refl; all = free 58 (codes "all") refl; tx = free 58 (codes "tx") refl; rx = free 58 (codes "rx") refl; number = λ n low. free-above 58 n (omega arith) low }

letter_f : Mark 102
letter_f = record { mode = free 102 (codes "mode ") refl; space = free 102 (codes " ") refl; last = free 102 (codes " 31") refl; all = free 102 (codes "all") refl; tx = free 102 (codes "tx") refl; rx = free 102 (codes "rx") refl; number = λ n low. free-above 102 n (omega arith) low }

space-free : (c : ℕ) (xs : List ℕ) → Mark c → Free c xs → Free c (codes " " ++ xs)
space-free c xs m p = free-append c (codes " ") xs m.space p

address-free : (c a : ℕ) → Mark c → a < 100 → Free c (address_text a)
address-free c a m low = free-if c (a == 31) (codes "all") (short_decimal a) m.all (m.number a low)

direction-free : (c : ℕ) (transmit : Bool) → Mark c → Free c (tr_text transmit)
direction-free c true m = m.tx
direction-free c false m = m.rx

count-small : (low : ℕ) → low ≤ 31 → count_in low < 100
count-small low small = grind (arith, nat_tests, small)

mode-free : (c : ℕ) (f : CommandFields) → Mark c → AreOfTheirWidth (in_word f) → Free c (mode_text f)
mode-free c f m wide =
    free-append c (codes "mode ") _ m.mode (free-append c (address_text f.address) _ (address-free c f.address m (omega (arith, wide.address)))
    (space-free c _ m (free-append c (short_decimal f.low) _ (m.number f.low (omega (arith, wide.low)))
    (space-free c _ m (free-append c (tr_text f.transmit) _ (direction-free c f.transmit m) (free-if c (f.subaddress == 31) (codes " 31") [] m.last tt))))))

transfer-free : (c : ℕ) (f : CommandFields) → Mark c → AreOfTheirWidth (in_word f) → Free c (transfer_text f)
transfer-free c f m wide =
    free-append c (tr_text f.transmit) _ (direction-free c f.transmit m) (space-free c _ m (free-append c (address_text f.address) _ (address-free c f.address m (omega (arith, wide.address)))
    (space-free c _ m (free-append c (short_decimal f.subaddress) _ (m.number f.subaddress (omega (arith, wide.subaddress)))
    (space-free c _ m (m.number (count_in f.low) (count-small f.low wide.low)))))))

command-free : (c : ℕ) (f : CommandFields) → Mark c → AreOfTheirWidth (in_word f) → Free c (command_text f)
command-free c f m wide = free-if c (asks_mode f) (mode_text f) (transfer_text f) (mode-free c f m wide) (transfer-free c f m wide)

from-free : (c : ℕ) (receiver : CommandFields) (sender : Option CommandFields) → Mark c → Free c (codes " from ") → IfSome sender (IsSender receiver) → Free c (from_text sender)
from-free c receiver None m from is = tt
from-free c receiver (Some f) m from is =
    free-append c (codes " from ") _ from (free-append c (address_text f.address) _ (address-free c f.address m (omega (arith, is.address)))
    (space-free c _ m (m.number f.subaddress (omega (arith, is.most)))))

digits-free : (w : ℕ) → Free 35 (digits_of w)
unfolding encode_with
digits-free w = (one (w / 256 / 16), (one (w / 256 % 16), (one (w % 256 / 16), (one (w % 256 % 16), tt))))
  where
    one : (i : ℕ) → slice_index lower_digits i ≢ 35
    one i = no_byte 35 refl (λ e. absurd (omega (arith, e))) i

each-free : (words : List ℕ) → Free 35 (flat_map spaced_word words)
each-free [] = tt
each-free (w ∷ words) = free-append 35 (spaced_word w) (flat_map spaced_word words) (space-free 35 (digits_of w) hash (digits-free w)) (each-free words)

words-free : (words : List ℕ) → Free 35 (data_words_text words)
words-free [] = tt
words-free (w ∷ words) = free-append 35 (codes ":") (flat_map spaced_word (w ∷ words)) (free 35 (codes ":") refl) (each-free (w ∷ words))

-- ---- data words

word-digits : (w : ℕ) → w < 2 ^ 16 → digits_of w ≡ digits 16 4 w
word-digits w low =
    let same : (0 * 256 + w / 256) * 256 + w % 256 ≡ w = omega arith in
    encoded_digits (w / 256 ∷ w % 256 ∷ []) bytes ∙ ap (digits 16 4) same
  where
    bytes : IsBytes (w / 256 ∷ w % 256 ∷ [])
    bytes zero = omega (arith, low)
    bytes (suc zero) = omega arith
    bytes (suc (suc i)) = lit< tt

-- no byte is a capital
abbrev Small : List ℕ → Type 0
Small [] = Unit {0}
Small (b ∷ bytes) = (to_ascii_lowercase b ≡ b) × Small bytes

small_at : (xs : List ℕ) (i : ℕ) → Small xs → to_ascii_lowercase (slice_index xs i) ≡ slice_index xs i
small_at [] i s = refl
small_at (x ∷ xs) zero s = s.0
small_at (x ∷ xs) (suc i) s = small_at xs i s.1

small-digit : (i : ℕ) → to_ascii_lowercase (slice_index lower_digits i) ≡ slice_index lower_digits i
small-digit i = small_at lower_digits i (refl, (refl, (refl, (refl, (refl, (refl, (refl, (refl, (refl, (refl, (refl, (refl, (refl, (refl, (refl, (refl, tt))))))))))))))))

small-words : (words : List ℕ) → Small (flat_map spaced_word words)
unfolding encode_with
small-words [] = tt
small-words (w ∷ words) = (refl, (small-digit (w / 256 / 16), (small-digit (w / 256 % 16), (small-digit (w % 256 / 16), (small-digit (w % 256 % 16), small-words words)))))

small_stays : (xs : List ℕ) → Small xs → map to_ascii_lowercase xs ≡ xs
small_stays [] s = refl
small_stays (x ∷ xs) s = rw s.0 (ap (λ ys. x ∷ ys) (small_stays xs s.1))

word-read : (w : ℕ) (rest : List ℕ) → w < 2 ^ 16 → field_at 16 4 (spaced_word w ++ rest) ≡ Some (w, rest)
word-read w rest low =
    let same : 0 * 16 ^ 4 + w ≡ w = omega arith in
    ap (λ ds. number_at 16 4 0 (ds ++ rest)) (word-digits w low) ∙ number_at-digits 16 4 0 w rest low ∙ ap (λ n. Some (n, rest)) same

words-read : (words : List ℕ) → All (λ w. w < 2 ^ 16) words → fields_at (replicate (length words) word) (flat_map spaced_word words) ≡ Some (words, [])
words-read [] small = refl
words-read (w ∷ words) small =
    rw (word-read w (flat_map spaced_word words) (small 0 0 (omega arith))) (rw (words-read words (λ k d low. small (suc k) d (omega (arith, low)))) refl)

data-read : (count : ℕ) (words : List ℕ) → length words ≡ count → All (λ w. w < 2 ^ 16) words → data_in count (flat_map spaced_word words) ≡ Ok words
data-read count words is small =
    ap (λ n. nothing_behind (fields_at (replicate n word) (flat_map spaced_word words))) (sym is) ∙ ap nothing_behind (words-read words small)

-- ---- the sender

count-is : (f : CommandFields) → AreOfTheirWidth (in_word f) → count_of (command_bits (in_word f)) ≡ count_in f.low
count-is f wide = ap (λ w. count_in w.low) (fields_are_unique (in_word f) wide).1

-- the terminal and the subaddress that a sender has behind `from`
abbrev place_text : CommandFields → List ℕ
place_text f = address_text f.address ++ (codes " " ++ short_decimal f.subaddress)

sender-line-read : (receiver f : CommandFields) → AreOfTheirWidth (in_word receiver) → IsSender receiver f
    → word_line (sender_line receiver (place_text f)) ≡ Ok (record { fields = fields.Command f; by_fields = true })
sender-line-read receiver f wide is =
    ap (λ n. word_line (codes "tx " ++ (place_text f ++ (32 ∷ decimal_digits n)))) (count-is receiver wide)
    ∙ ap (λ t. word_line (codes "tx " ++ t)) (append_assoc (address_text f.address) (codes " " ++ short_decimal f.subaddress) (32 ∷ decimal_digits (count_in receiver.low)))
    ∙ sender-read f.address f.subaddress receiver.low (omega (arith, is.address)) is.least is.most wide.low
    ∙ ap (λ low. Ok (record { fields = fields.Command (record { address = f.address; transmit = true; subaddress = f.subaddress; low = low }); by_fields = true })) (sym is.low)
    ∙ ap (λ t. Ok (record { fields = fields.Command (record { address = f.address; transmit = t; subaddress = f.subaddress; low = f.low }); by_fields = true })) (sym is.transmit)

sender-said : (receiver f : CommandFields) → AreOfTheirWidth (in_word receiver) → IsSender receiver f → sender_of (fields.Command receiver) (Some (place_text f)) ≡ Ok (Some f)
sender-said receiver f wide is =
    let other : ((f.address == 31) || (f.address == receiver.address)) ≡ false = grind (arith, nat_tests, is.address, is.other) in
    ap (λ b. if b then another_terminal receiver (word_line (sender_line receiver (place_text f))) else Err NotReceive) is.receives
    ∙ ap (another_terminal receiver) (sender-line-read receiver f wide is)
    ∙ ap (λ b. if b then Err Sender else Ok (Some f)) other

-- what stands behind `from`
abbrev behind_from : Option CommandFields → Option (List ℕ)
behind_from None = None
behind_from (Some f) = Some (place_text f)

sender-back : (command : CommandFields) (sender : Option CommandFields) → AreOfTheirWidth (in_word command) → IfSome sender (IsSender command)
    → sender_of (fields.Command command) (behind_from sender) ≡ Ok sender
sender-back command None wide is = refl
sender-back command (Some f) wide is = sender-said command f wide is

-- ---- the message

-- what stands behind the colon
abbrev behind_colon : List ℕ → Option (List ℕ)
behind_colon [] = None
behind_colon (w ∷ words) = Some (flat_map spaced_word (w ∷ words))

data-back : (own : ScriptFor) (sender : Option CommandFields) (count : ℕ) (words : List ℕ) → length words ≡ count → All (λ w. w < 2 ^ 16) words
    → data_behind own sender count (behind_colon words) ≡ Ok words
data-back own sender count [] is small = ap (λ n. data_behind own sender n None) (sym is)
data-back own sender count (w ∷ words) is small =
    ap (data_in count) (small_stays (flat_map spaced_word (w ∷ words)) (small-words (w ∷ words))) ∙ data-read count (w ∷ words) is small

colon-cut : (command from : List ℕ) (words : List ℕ) → Free 58 (command ++ from) → cut (codes ":") (command ++ (from ++ data_words_text words)) ≡ record { front = command ++ from; behind = behind_colon words }
colon-cut command from [] p = ap (λ t. cut (codes ":") (command ++ t)) (append-nil from) ∙ cut-free 58 (command ++ from) p
colon-cut command from (w ∷ words) p =
    ap (cut (codes ":")) (sym (append_assoc command from (58 ∷ flat_map spaced_word (w ∷ words)))) ∙ cut-at 58 (command ++ from) (flat_map spaced_word (w ∷ words)) p

from-cut : (command : List ℕ) (sender : Option CommandFields) → Free 102 command → cut (codes " from ") (command ++ from_text sender) ≡ record { front = command; behind = behind_from sender }
from-cut command None p = ap (cut (codes " from ")) (append-nil command) ∙ cut-from-none command p
from-cut command (Some f) p = cut-from command (place_text f) p

abbrev with_words : WordFields → Option CommandFields → List ℕ → Result SaidMessage ExpandFault
with_words first sender words = Ok (record { first = first; sender = sender; words = words })

abbrev with_sender : ScriptFor → Option (List ℕ) → WordFields → Option CommandFields → Result SaidMessage ExpandFault
with_sender own colon first sender = data_behind own sender (words_wanted first) colon >>= with_words first sender

abbrev with_first : ScriptFor → Option (List ℕ) → Option (List ℕ) → WordFields → Result SaidMessage ExpandFault
with_first own from colon first = sender_of first from >>= with_sender own colon first

parts-said : (own : ScriptFor) (m : CommandMessage) → IsMessage m → message_of own (command_text m.command) (behind_from m.sender) (behind_colon m.words) ≡ Ok (said m)
parts-said own m is =
    ap (λ r. named_word (command_text m.command) (behind_colon m.words) r >>= with_first own (behind_from m.sender) (behind_colon m.words)) (command-says m.command is.command)
    ∙ ap (λ r. r >>= with_sender own (behind_colon m.words) (fields.Command m.command)) (sender-back m.command m.sender is.command is.sender)
    ∙ ap (λ r. r >>= with_words (fields.Command m.command) m.sender) (data-back own m.sender (words_wanted (fields.Command m.command)) m.words is.count is.words)

text-free : (m : CommandMessage) → IsMessage m → Free 35 (message_text m)
text-free m is =
    free-append 35 (command_text m.command) _ (command-free 35 m.command hash is.command)
    (free-append 35 (from_text m.sender) (data_words_text m.words) (from-free 35 m.command m.sender hash (free 35 (codes " from ") refl) is.sender) (words-free m.words))

message-read : (own : ScriptFor) (m : CommandMessage) → IsMessage m → message_in own (message_text m) ≡ Ok (said m)
message-read own m is =
    let text : List ℕ = message_text m in
    let head : List ℕ = command_text m.command ++ from_text m.sender in
    let no_colon : Free 58 head = free-append 58 (command_text m.command) (from_text m.sender) (command-free 58 m.command colon is.command) (from-free 58 m.command m.sender colon (free 58 (codes " from ") refl) is.sender) in
    ap (λ k. if is_some k.behind then Err Comment else message_by_cuts own (cut (codes " from ") (cut (codes ":") text).front) (cut (codes ":") text)) (cut-free 35 text (text-free m is))
    ∙ ap (λ w. message_by_cuts own (cut (codes " from ") w.front) w) (colon-cut (command_text m.command) (from_text m.sender) m.words no_colon)
    ∙ ap (λ h. message_by_cuts own h (record { front = head; behind = behind_colon m.words })) (from-cut (command_text m.command) m.sender (command-free 102 m.command letter_f is.command))
    ∙ parts-said own m is

-- ---- no line of a script

-- a word has a space behind its kind
no-word : (bus : Bus) (k s : ℕ) (rest : List ℕ) → (s == 32) ≡ false → word_on bus (k ∷ s ∷ rest) ≡ None
no-word bus k s [] other = refl
no-word bus k s (a ∷ []) other = refl
no-word bus k s (a ∷ b ∷ []) other = refl
no-word bus k s (a ∷ b ∷ c ∷ []) other = refl
no-word bus k s (a ∷ b ∷ c ∷ d ∷ []) other = rw other refl
no-word bus k s (a ∷ b ∷ c ∷ d ∷ t ∷ []) other = refl
no-word bus k s (a ∷ b ∷ c ∷ d ∷ t ∷ p ∷ []) other = rw other refl
no-word bus k s (a ∷ b ∷ c ∷ d ∷ t ∷ p ∷ q ∷ rest) other = refl

no-line : (bus : Bus) (text : List ℕ) → event_on bus text ≡ None → is_ok (meaning (bus_letter bus ++ (codes " " ++ text))) ≡ false
unfolding meaning
no-line A text none = ap (λ o. is_ok (or_refused o)) none
no-line B text none = ap (λ o. is_ok (or_refused o)) none

command-none : (bus : Bus) (f : CommandFields) (more : List ℕ) → event_on bus (command_text f ++ more) ≡ None
command-none bus f more = case (asks_mode f)
  where
    transfer : (transmit : Bool) (t : List ℕ) → event_on bus ((tr_text transmit ++ t) ++ more) ≡ None
    transfer true t = no-word bus 116 120 (t ++ more) refl
    transfer false t = no-word bus 114 120 (t ++ more) refl

    mode : (t : List ℕ) → event_on bus ((codes "mode " ++ t) ++ more) ≡ None
    mode t = no-word bus 109 111 ((codes "de " ++ t) ++ more) refl

    case : (b : Bool) → event_on bus ((if b then mode_text f else transfer_text f) ++ more) ≡ None
    case true = mode (address_text f.address ++ (codes " " ++ (short_decimal f.low ++ (codes " " ++ (tr_text f.transmit ++ (if f.subaddress == 31 then codes " 31" else []))))))
    case false = transfer f.transmit (codes " " ++ (address_text f.address ++ (codes " " ++ (short_decimal f.subaddress ++ (codes " " ++ short_decimal (count_in f.low))))))

-- ---- short enough

command-short : (f : CommandFields) → length (command_text f) ≤ 20
command-short f = case (asks_mode f)
  where
    last : (b : Bool) → length (if b then codes " 31" else []) ≤ 3
    last true = omega arith
    last false = omega arith

    case : (b : Bool) → length (if b then mode_text f else transfer_text f) ≤ 20
    case true =
        omega (
          arith,
          length-append (address_text f.address) (codes " " ++ (short_decimal f.low ++ (codes " " ++ (tr_text f.transmit ++ (if f.subaddress == 31 then codes " 31" else []))))),
          length-append (short_decimal f.low) (codes " " ++ (tr_text f.transmit ++ (if f.subaddress == 31 then codes " 31" else []))),
          length-append (tr_text f.transmit) (if f.subaddress == 31 then codes " 31" else []),
          length-address f.address,
          length-decimal f.low,
          length-direction f.transmit,
          last (f.subaddress == 31),
        )
    case false =
        omega (
          arith,
          length-append (tr_text f.transmit) (codes " " ++ (address_text f.address ++ (codes " " ++ (short_decimal f.subaddress ++ (codes " " ++ short_decimal (count_in f.low)))))),
          length-append (address_text f.address) (codes " " ++ (short_decimal f.subaddress ++ (codes " " ++ short_decimal (count_in f.low)))),
          length-append (short_decimal f.subaddress) (codes " " ++ short_decimal (count_in f.low)),
          length-address f.address,
          length-decimal f.subaddress,
          length-decimal (count_in f.low),
          length-direction f.transmit,
        )

from-short : (sender : Option CommandFields) → length (from_text sender) ≤ 12
from-short None = omega arith
from-short (Some f) =
    omega (arith, length-append (address_text f.address) (codes " " ++ short_decimal f.subaddress), length-address f.address, length-decimal f.subaddress)

each-short : (words : List ℕ) → length (flat_map spaced_word words) ≡ 5 * length words
each-short [] = refl
each-short (w ∷ words) = omega (arith, length-append (spaced_word w) (flat_map spaced_word words), four_digits w, each-short words)

words-short : (words : List ℕ) → length (data_words_text words) ≤ 1 + 5 * length words
words-short [] = omega arith
words-short (w ∷ words) = omega (arith, each-short (w ∷ words))

wanted-few : (c : ℕ) → expected c ≤ 32
wanted-few c = grind (arith, nat_tests)

letter-short : (bus : Bus) → length (bus_letter bus) ≡ 1
letter-short A = refl
letter-short B = refl

line-short : (bus : Bus) (m : CommandMessage) → length m.words ≤ 32 → length (listed_line bus m) ≤ 256
line-short bus m few =
    omega (
      arith,
      length-append (bus_letter bus) (codes " " ++ message_text m),
      length-append (command_text m.command) (from_text m.sender ++ data_words_text m.words),
      length-append (from_text m.sender) (data_words_text m.words),
      letter-short bus,
      command-short m.command,
      from-short m.sender,
      words-short m.words,
      few,
    )

pub each_is_said : EachIsSaid
each_is_said bus m is = record {
  short = line-short bus m (omega (arith, is.count, wanted-few (command_bits (in_word m.command))));
  other = no-line bus (message_text m) (command-none bus m.command (from_text m.sender ++ data_words_text m.words));
  read = λ own. message-read own m is;
}
