-- The message that is found is the one whose events come next, if one's do that can be listed.
use Rattle.std.proofs.Common.{ℕ, ◌≡◌, ◌∙◌, ◌≤◌, Bool, true, false, ◌==◌, if◌then◌else◌, List, [], ◌∷◌, ◌++◌, Option, Some, None, IfSome, length, map, take, drop, replicate, refl, sym, ap, arith, append_assoc}
use Rattle.std.proofs.lemmas.Bool.Decides.{nat_tests}
use Rattle.bus_word.specs.declared.word.Bus.{Bus}
use Rattle.bus_word.specs.declared.word.Kind.TheVariants.{Com}
use Rattle.bus_word.specs.Word.{bit_of}
use Rattle.bus_word.specs.Command.{AreOfTheirWidth, command_bits, is_receive, expected}
use Rattle.bus_word.proofs.WordLaws.{fields_are_unique}
use Rattle.terminal_rules.specs.declared.event.Event.{Event}
use Rattle.terminal_rules.specs.declared.event.Event.TheVariants as event
use Rattle.terminal_exchanges.proofs.ExchangeLaw.{is_valid-valid_word}
use Rattle.rt1553_tool.specs.declared.fields.CommandFields.{CommandFields}
use Rattle.rt1553_tool.specs.declared.fields.WordFields.TheVariants as fields
use Rattle.rt1553_tool.specs.Fields.{in_word, command_fields_in}
use Rattle.rt1553_tool.specs.WordLines.{status_with}
use Rattle.rt1553_expand.specs.declared.script_for.ScriptFor.{ScriptFor}
use Rattle.rt1553_expand.specs.Message.{SaidMessage, words_wanted}
use Rattle.rt1553_expand.specs.Own.{is_own}
use Rattle.rt1553_expand.specs.Events.{word_event, data_events, message_end, own_events, receiver_events, heard_events, message_events}
use Rattle.rt1553_expand.specs.Gathered.{CommandMessage, said, IsSender, IsListed}
use Rattle.rt1553_expand.specs.inner.Found.{heard_in, fields_heard, sender_found, bits_heard, events_before, words_found, message_sent_by, message_behind, message_at}

bit-back : (b : Bool) → (bit_of b == 1) ≡ b
bit-back true = refl
bit-back false = refl

-- the fields of the command word with these fields
fields-back : (f : CommandFields) → AreOfTheirWidth (in_word f) → command_fields_in (command_bits (in_word f)) ≡ f
fields-back f wide =
    let same = (fields_are_unique (in_word f) wide).1 in
    let address = ap (λ w. w.address) same in
    let transmit = ap (λ w. w.tr == 1) same ∙ bit-back f.transmit in
    let subaddress = ap (λ w. w.subaddress) same in
    let low = ap (λ w. w.low) same in
    λ i. record { address = address i; transmit = transmit i; subaddress = subaddress i; low = low i }

-- a command word is heard as its command
heard-command : (bus : Bus) (f : CommandFields) → AreOfTheirWidth (in_word f) → heard_in (word_event bus (fields.Command f)) ≡ Some (record { bus = bus; command = f })
heard-command bus f wide =
    rw (is_valid-valid_word Com (command_bits (in_word f))) (ap (λ g. Some (record { bus = bus; command = g })) (fields-back f wide))

-- the events of a message behind its first word
abbrev behind : ScriptFor → Bus → CommandFields → Option CommandFields → List ℕ → List Event
behind own bus command sender words =
    let m : SaidMessage = record { first = fields.Command command; sender = sender; words = words } in
    if is_own own sender then own_events bus sender ++ receiver_events own bus m else heard_events bus m

-- a command to receive wants a data word at least
wanted-some : (c : ℕ) → is_receive c ≡ true → 1 ≤ expected c
wanted-some c receive = grind (arith, nat_tests, receive)

-- behind a command without a sender comes no command
none-back : (bus : Bus) (command : CommandFields) (words : List ℕ) (more : List Event) → length words ≡ words_wanted (fields.Command command)
    → sender_found command (data_events bus words ++ more) ≡ None
none-back bus command words more count = case words (is_receive (command_bits (in_word command))) refl count
  where
    case : (words : List ℕ) (r : Bool) → is_receive (command_bits (in_word command)) ≡ r → length words ≡ words_wanted (fields.Command command)
        → sender_found command (data_events bus words ++ more) ≡ None
    case words false e count = rw e refl
    case [] true e count = absurd (omega (arith, count, wanted-some (command_bits (in_word command)) e))
    case (word ∷ words) true e count = rw e refl

-- behind a command with a sender comes the command to the sender
some-back : (bus : Bus) (command f : CommandFields) (more : List Event) → AreOfTheirWidth (in_word f) → is_receive (command_bits (in_word command)) ≡ true
    → sender_found command (word_event bus (fields.Command f) ∷ more) ≡ Some f
some-back bus command f more wide receive = rw receive (ap fields_heard (heard-command bus f wide))

sender-back : (own : ScriptFor) (bus : Bus) (command : CommandFields) (sender : Option CommandFields) (words : List ℕ) (rest : List Event)
    → IfSome sender (λ f. AreOfTheirWidth (in_word f) × (is_receive (command_bits (in_word command)) ≡ true)) → length words ≡ words_wanted (fields.Command command)
    → sender_found command (behind own bus command sender words ++ rest) ≡ sender
sender-back own bus command None words rest of count =
    ap (sender_found command) (append_assoc (data_events bus words) (message_end bus (fields.Command command)) rest) ∙ none-back bus command words _ count
sender-back own bus command (Some f) words rest of count = case (is_own own (Some f)) refl
  where
    case : (b : Bool) → is_own own (Some f) ≡ b → sender_found command (behind own bus command (Some f) words ++ rest) ≡ Some f
    case true e = rw e (some-back bus command f ((message_end bus (fields.Command f) ++ receiver_events own bus (record { first = fields.Command command; sender = Some f; words = words })) ++ rest) of.0 of.1)
    case false e = rw e (some-back bus command f (event.Gap bus ∷ word_event bus (fields.Status (status_with f.address []))
        ∷ ((data_events bus words ++ message_end bus (fields.Command command)) ++ rest)) of.0 of.1)

-- data words are heard
words-heard : (bus : Bus) (words : List ℕ) (more : List Event) → map bits_heard (take (length words) (data_events bus words ++ more)) ≡ words
words-heard bus [] more = refl
words-heard bus (word ∷ words) more = ap (λ ws. word ∷ ws) (words-heard bus words more)

words-back : (own : ScriptFor) (bus : Bus) (command : CommandFields) (sender : Option CommandFields) (words : List ℕ) (rest : List Event)
    → length words ≡ words_wanted (fields.Command command) → (is_own own sender ≡ true → words ≡ replicate (words_wanted (fields.Command command)) 0)
    → words_found own sender (words_wanted (fields.Command command)) (behind own bus command sender words ++ rest) ≡ words
words-back own bus command sender words rest count zeros = case sender (is_own own sender) refl zeros
  where
    heard : (sender : Option CommandFields) → map bits_heard (take (words_wanted (fields.Command command)) (drop (events_before sender)
        (heard_events bus (record { first = fields.Command command; sender = sender; words = words }) ++ rest))) ≡ words
    heard None =
        ap (λ es. map bits_heard (take (words_wanted (fields.Command command)) es)) (append_assoc (data_events bus words) (message_end bus (fields.Command command)) rest)
        ∙ ap (λ n. map bits_heard (take n (data_events bus words ++ (message_end bus (fields.Command command) ++ rest)))) (sym count)
        ∙ words-heard bus words (message_end bus (fields.Command command) ++ rest)
    heard (Some f) =
        ap (λ es. map bits_heard (take (words_wanted (fields.Command command)) es)) (append_assoc (data_events bus words) (message_end bus (fields.Command command)) rest)
        ∙ ap (λ n. map bits_heard (take n (data_events bus words ++ (message_end bus (fields.Command command) ++ rest)))) (sym count)
        ∙ words-heard bus words (message_end bus (fields.Command command) ++ rest)

    case : (sender : Option CommandFields) (b : Bool) → is_own own sender ≡ b → (is_own own sender ≡ true → words ≡ replicate (words_wanted (fields.Command command)) 0)
        → words_found own sender (words_wanted (fields.Command command)) (behind own bus command sender words ++ rest) ≡ words
    case sender true e zeros = rw e (sym (zeros e))
    case sender false e zeros = rw e (heard sender)

-- the command to a sender has fields of their width
with-receive : (command : CommandFields) (sender : Option CommandFields) → AreOfTheirWidth (in_word command) → IfSome sender (IsSender command)
    → IfSome sender (λ f. AreOfTheirWidth (in_word f) × (is_receive (command_bits (in_word command)) ≡ true))
with-receive command None wide is = tt
with-receive command (Some f) wide is =
    let tr : bit_of f.transmit ≡ 1 = ap bit_of is.transmit in (
      record { address = omega (arith, is.address); tr = omega (arith, tr); subaddress = omega (arith, is.most); low = omega (arith, is.low, wide.low) },
      is.receives,
    )

-- the message of these events is found
pub found-next : (own : ScriptFor) (bus : Bus) (m : CommandMessage) (rest : List Event) → IsListed own m
    → message_at own (message_events own bus (said m) ++ rest) ≡ Some (record { bus = bus; message = m })
found-next own bus m rest listed =
    let es : List Event = behind own bus m.command m.sender m.words ++ rest in
    let by_sender = sender-back own bus m.command m.sender m.words rest (with-receive m.command m.sender listed.message.command listed.message.sender) listed.message.count in
    let words = words-back own bus m.command m.sender m.words rest listed.message.count listed.zeros in
    ap (message_behind own es) (heard-command bus m.command listed.message.command)
    ∙ ap (λ s. Some (record { bus = bus; message = message_sent_by own m.command s es })) by_sender
    ∙ ap (λ ws. Some (record { bus = bus; message = record { command = m.command; sender = m.sender; words = ws } })) words
