-- What is said of an answer, and what other terminals see of a word that is sent.
use Rattle.std.proofs.Common.{◌≡◌, ◌≢◌, ℕ, ◌+◌, ◌*◌, ◌/◌, ◌%◌, ◌<◌, Bool, true, false, not, ◌&&◌, ◌==◌, if◌then◌else◌, Option, Some, None, List, [], ◌∷◌, map, refl, ap, sym, ◌∙◌, arith, is_some}
use Rattle.bus_word.specs.declared.word.Bus.{Bus}
use Rattle.bus_word.specs.declared.word.Bus.TheVariants.{A, B}
use Rattle.bus_word.specs.declared.word.Kind.{Kind}
use Rattle.bus_word.specs.declared.word.Kind.TheVariants.{Com, Dat}
use Rattle.bus_word.specs.declared.status.StatusParts.{StatusParts}
use Rattle.bus_word.specs.declared.cell.Cell.TheVariants.{OwnReceive, OwnTransmit, BroadReceive, OwnMode, BroadMode}
use Rattle.bus_word.specs.Word.{bit_of, valid_word}
use Rattle.bus_word.specs.Command.{address_of, is_broadcast}
use Rattle.bus_word.specs.Status.{status_word}
use Rattle.bus_word.specs.Mode as mode
use Rattle.bus_word.proofs.WordLaws.{status_has_bits}
use Rattle.bus_legal.specs.Description.{Description}
use Rattle.terminal_rules.specs.declared.event.Event.{Event}
use Rattle.terminal_rules.specs.declared.event.Event.TheVariants.{Word, Noise, Gap, Write, Vector, Bit, Flag as FlagIs, Slot}
use Rattle.terminal_rules.specs.History.{Noted, Replying, Ending, Nothing, Badly, Illegal, Blocked, Done}
use Rattle.terminal_rules.specs.Reply.{reply_now}
use Rattle.terminal_rules.specs.Ends.{ends_now}
use Rattle.terminal_rules.specs.Status.{kept_now}
use Rattle.terminal_rules.specs.Past.{past}
use Rattle.terminal_rules.specs.Out.{Out, Silence, SendsWord, Handing, HandsSynchronize, HandsSynchronizeWith, HandsSelfTest, HandsBusControl, Sending, sending, reply_word, next_sent, sends, first_word, code_hands, hands, handing_over, sending_out, out}
use Rattle.terminal_bus.proofs.Walk.{valid, other_command}
use Rattle.terminal_schedules.specs.Schedule.{said_datum, said_word, said_handing, said_out, is_before_data}
use Rattle.terminal_schedules.proofs.Seen.{Seen, seen_word, seen_ending}
use Rattle.terminal_schedules.proofs.Step.{SeenEvent, GapComes, SlotComes, seen_event, Shape, shape, ignored_by, ignored_law, end_by, end_law, WordComes, NoiseComes, FlagComes, OtherComes, idle_seen, masked, shown, ends_as}

abbrev pub said_sending : Bool → Sending → Sending
said_sending e x = sending x.bus x.kind (said_word e x.kind x.bits)

-- what is handed over
abbrev said_hands : Bool → Option Handing → Option Handing
said_hands e None = None
said_hands e (Some x) = Some (said_handing e x)

first_said : (e : Bool) (ds : List ℕ) → said_datum e (first_word ds) ≡ first_word (map (said_datum e) ds)
first_said true [] = refl
first_said false [] = refl
first_said e (d ∷ ds) = refl

code_said : (e : Bool) (code : ℕ) (accept : Bool) (ds : List ℕ) → said_hands e (code_hands code accept ds) ≡ code_hands code accept (map (said_datum e) ds)
code_said e code accept ds = by_tests (code == mode.dynamic_bus_control) (code == mode.synchronize) (code == mode.self_test) (code == mode.synchronize_with_word) accept
  where
    by_tests : (d s t w a : Bool) →
        said_hands e (if d then (if a then Some HandsBusControl else None) else if s then Some HandsSynchronize else if t then Some HandsSelfTest else if w then Some (HandsSynchronizeWith (first_word ds)) else None)
        ≡ (if d then (if a then Some HandsBusControl else None) else if s then Some HandsSynchronize else if t then Some HandsSelfTest else if w then Some (HandsSynchronizeWith (first_word (map (said_datum e) ds))) else None)
    by_tests true s t w true = refl
    by_tests true s t w false = refl
    by_tests false true t w a = refl
    by_tests false false true w a = refl
    by_tests false false false true a = ap (λ d. Some (HandsSynchronizeWith d)) (first_said e ds)
    by_tests false false false false a = refl

hands_said : (e : Bool) (P : Description) (x : Ending) → said_hands e (hands P x) ≡ hands P (seen_ending e x)
hands_said e P Nothing = refl
hands_said e P (Badly c) = refl
hands_said e P (Illegal c) = refl
hands_said e P (Blocked c cell) = refl
hands_said e P (Done c (OwnReceive s n) ds) = refl
hands_said e P (Done c (OwnTransmit s n) ds) = refl
hands_said e P (Done c (BroadReceive s n) ds) = refl
hands_said e P (Done c (OwnMode code) ds) = code_said e code P.accept ds
hands_said e P (Done c (BroadMode code) ds) = code_said e code false ds

handing_said : (e : Bool) (x : Option Handing) → said_out e (handing_over x) ≡ handing_over (said_hands e x)
handing_said e None = refl
handing_said e (Some x) = refl

-- what is sent
top_of : (status a e rest : ℕ) → e < 2 → status / 2048 ≡ a → status / 1024 % 2 ≡ e → status / 1024 ≡ a * 2 + e
top_of status a e rest h p q = omega arith

bit_below : (b : Bool) → bit_of b < 2
bit_below true = omega arith
bit_below false = omega arith

status_top : (a : ℕ) (s : StatusParts) → status_word a s / 1024 ≡ a * 2 + bit_of s.error
status_top a s = top_of (status_word a s) a (bit_of s.error) 0 (bit_below s.error) (status_has_bits a s).address_field (status_has_bits a s).error

-- with data words told, none is to be sent
abbrev pub CanSay : Bool → Option Replying → Type 0
CanSay true r = is_before_data r ≡ true
CanSay false r = Unit {0}

abbrev sends_by : Description → Bool → Option Replying → Out
sends_by P error None = Silence
sends_by P error (Some r) = SendsWord (if r.number == 0 then sending r.bus Com (P.address * 2 + bit_of error) else sending r.bus Dat 0)

said_status : (e : Bool) (P : Description) (h : List Noted) (b : Bus) → said_sending e (sending b Com (status_word P.address (kept_now P h))) ≡ sending b Com (P.address * 2 + bit_of (kept_now P h).error)
said_status e P h b = ap (sending b Com) (status_top P.address (kept_now P h))

sent_said : (e : Bool) (P : Description) (h : List Noted) (r : Replying) → CanSay e (Some r) →
    said_sending e (next_sent P h r) ≡ (if r.number == 0 then sending r.bus Com (P.address * 2 + bit_of (kept_now P h).error) else sending r.bus Dat 0)
sent_said true P h r c =
    (λ j. said_sending true (if c j then sending r.bus Com (status_word P.address (kept_now P h)) else sending r.bus Dat (reply_word P h r.cell r.number)))
    ∙ (said_status true P h r.bus
    ∙ (λ j. if sym c j then sending r.bus Com (P.address * 2 + bit_of (kept_now P h).error) else sending r.bus Dat 0))
sent_said false P h r c =
    elim (r.number == 0) as (λ t. said_sending false (if t then sending r.bus Com (status_word P.address (kept_now P h)) else sending r.bus Dat (reply_word P h r.cell r.number))
    ≡ (if t then sending r.bus Com (P.address * 2 + bit_of (kept_now P h).error) else sending r.bus Dat 0)) [ true ↦ said_status false P h r.bus | false ↦ refl ]

sends_said : (e : Bool) (P : Description) (h : List Noted) (r : Option Replying) → CanSay e r → said_out e (sending_out (sends P h r)) ≡ sends_by P (kept_now P h).error r
sends_said e P h None c = refl
sends_said e P h (Some r) c = ap (λ x. SendsWord x) (sent_said e P h r c)

-- what is said of an answer, by what is seen
abbrev pub says : Description → SeenEvent → Shape → Out
says P (GapComes b) t = handing_over (hands P (end_by P (ignored_by t.reply (GapComes b)) (GapComes b) t))
says P SlotComes t = sends_by P t.error t.reply
says P _ t = Silence

-- in a slot
abbrev pub CanSayAt : Bool → Option Replying → Event → Type 0
CanSayAt e r Slot = CanSay e r
CanSayAt e r _ = Unit {0}

pub says_law : (e : Bool) (P : Description) (h : List Event) (x : Event) → CanSayAt e (reply_now (past P h)) x → said_out e (out P h x) ≡ says P (seen_event e P x) (shape e P h)
says_law e P h (Word b w) c = refl
says_law e P h (Noise b) c = refl
says_law e P h (Gap b) c =
    let v : SeenEvent = GapComes b in
    let t : Shape = shape e P h in
    handing_said e (hands P (ends_now P (past P h) (Gap b)))
    ∙ ap handing_over (hands_said e P (ends_now P (past P h) (Gap b)) ∙ ap (hands P) (end_law e P (past P h) (Gap b) ∙ ap (λ i. end_by P i v t) (ignored_law e P t.reply (Gap b))))
says_law e P h (Write q v) c = refl
says_law e P h (Vector v) c = refl
says_law e P h (Bit v) c = refl
says_law e P h (FlagIs f v) c = refl
says_law e P h Slot c = sends_said e P (past P h) (reply_now (past P h)) c

sends_masked : (P : Description) (error x y : Bool) (r : Option Replying) → sends_by P error r ≡ sends_by P (if x && (y && not (is_some r)) then false else error) r
sends_masked P error x y None = refl
sends_masked P error true true (Some r) = refl
sends_masked P error true false (Some r) = refl
sends_masked P error false y (Some r) = refl

pub says_mask : (z : Bool) (P : Description) (v : SeenEvent) (t : Shape) → says P v t ≡ says P v (masked z t)
says_mask z P (WordComes b s) t = refl
says_mask z P (NoiseComes b) t = refl
says_mask z P (GapComes b) t = refl
says_mask true P SlotComes t = refl
says_mask false P SlotComes t = sends_masked P t.error (idle_seen (t.message A)) (idle_seen (t.message B)) t.reply
says_mask z P (FlagComes f v) t = refl
says_mask z P OtherComes t = refl

-- what is handed over, exactly
pub gap_says : (z : Bool) (P : Description) (h : List Event) (b : Bus) → out P h (Gap b) ≡ says P (GapComes b) (shown z P h)
gap_says z P h b = ap (λ x. handing_over (hands P x)) (ends_as z P h (Gap b) (shown z P h) _ refl refl)

-- what other terminals see of a status word, by its highest bits
abbrev pub seen_status : ℕ → ℕ → Seen
seen_status own d = record {
  carried = None;
  transmitter = if (d % 2 == 1) && (not (d / 2 == own) && not (d / 2 == 31)) then Some (d / 2) else None;
  status = Some (d / 2);
  command = None;
}

halves : (v : ℕ) → v / 2048 ≡ v / 1024 / 2
halves v = omega arith

-- the word of another terminal: a status word has its address, and is no broadcast
pub record IsFromOther (Q : Description) (kind : Kind) (bits : ℕ) : Type 0 where
  pub other : kind ≡ Com → address_of bits ≢ Q.address
  pub own : kind ≡ Com → is_broadcast bits ≡ false

abbrev pub seen_sent : Description → Kind → ℕ → Seen
seen_sent Q Com d = seen_status Q.address d
seen_sent Q Dat d = record { carried = Some d; transmitter = None; status = None; command = None }

pub sent_law : (e : Bool) (Q : Description) (kind : Kind) (bits : ℕ) → IsFromOther Q kind bits → seen_word e Q (Some (valid_word kind bits)) ≡ seen_sent Q kind (said_word e kind bits)
sent_law e Q Com bits f =
    λ j. record {
      carried = None;
      transmitter = if valid Com bits j && ((bits / 1024 % 2 == 1) && (not (halves bits j == Q.address) && not (halves bits j == 31))) then Some (halves bits j) else None;
      status = if valid Com bits j then Some (halves bits j) else None;
      command = if other_command Q bits (f.other refl) (f.own refl) j then Some bits else None;
    }
sent_law e Q Dat bits f =
    λ j. record {
      carried = ap (λ (t : Bool). elim (if t then Some bits else None) as (λ o. Option ℕ) [ None ↦ None | Some v ↦ Some (said_datum e v) ]) (valid Dat bits) j;
      transmitter = None;
      status = None;
      command = None;
    }

-- two words of which the same is said are seen alike
pub seen_alike : (e : Bool) (Q : Description) (x y : Sending) → said_sending e x ≡ said_sending e y → IsFromOther Q x.kind x.bits → IsFromOther Q y.kind y.bits →
    seen_word e Q (Some (valid_word x.kind x.bits)) ≡ seen_word e Q (Some (valid_word y.kind y.bits))
seen_alike e Q x y s f g =
    sent_law e Q x.kind x.bits f ∙ ((λ j. seen_sent Q (s j).kind (s j).bits) ∙ sym (sent_law e Q y.kind y.bits g))
