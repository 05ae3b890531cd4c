-- What is answered, from the registers, the reply in progress and the words held ready.
use Rattle.std.proofs.Common.{◌≡◌, ℕ, ◌≤◌, Bool, true, false, ◌||◌, ◌==◌, if◌then◌else◌, Option, Some, None, List, refl, ap, sym, ◌∙◌, arith}
use Rattle.std.proofs.lemmas.Bool.Decides.{nat_tests}
use Rattle.bus_word.specs.declared.word.Bus.{Bus}
use Rattle.bus_word.specs.declared.word.Kind.TheVariants.{Com, Dat}
use Rattle.bus_word.specs.declared.cell.Cell.{Cell}
use Rattle.bus_word.specs.declared.cell.Cell.TheVariants.{OwnReceive, OwnTransmit, BroadReceive, OwnMode, BroadMode}
use Rattle.bus_word.specs.Cell.{is_data_place}
use Rattle.bus_word.specs.Status.{status_word}
use Rattle.bus_legal.specs.Description.{Description}
use Rattle.terminal_rules.specs.declared.event.Event.{Event}
use Rattle.terminal_rules.specs.declared.event.Event.TheVariants.{Gap, Slot}
use Rattle.terminal_rules.specs.declared.event.Flag.TheVariants.{Busy}
use Rattle.terminal_state.specs.declared.registers.Registers.{Registers}
use Rattle.bus_terminal.specs.declared.terminal.Terminal.{Terminal}
use Rattle.terminal_rules.specs.History.{Noted, Ending, Replying}
use Rattle.terminal_rules.specs.Open.{open_now}
use Rattle.terminal_rules.specs.Reply.{reply_now, ignores}
use Rattle.terminal_rules.specs.Flags.{flag_now}
use Rattle.terminal_rules.specs.Ends.{at_gap, unless_ignored}
use Rattle.terminal_rules.specs.SinceReset.{held_now}
use Rattle.terminal_rules.specs.Past.{past}
use Rattle.terminal_rules.specs.Out.{Out, handing_over, sending_out, sending, hands, reply_word, sends, out}
use Rattle.terminal_state.specs.Standing.{gap_ends}
use Rattle.terminal_state.specs.Registers.{registers_now}
use Rattle.terminal_state.specs.Places.{has_place}
use Rattle.terminal_state.specs.Replies.{shown_reply, can_send}
use Rattle.bus_terminal.specs.Stands.{StandsAt, held_word, own_description}
use Rattle.bus_terminal.specs.inner.Terminal.{reply_word_from, sends_from, ends_at_gap, IsSameSetup}
use Rattle.terminal_state.proofs.CollectedLaw.{gap_ends_law}
use Rattle.terminal_state.proofs.CanSendLaw.{can_send_law}

-- a terminal that stood at a history answers a gap that is not ignored, once it has taken it, as the definitions say
pub gap_answers : {L : Type 0} (is_legal : L → Cell → Bool) (P : Description) (h : List Event) (b : Bus) (t u : Terminal L) (x : Ending) (o : Out) →
    ignores (shown_reply t.reply) (Gap b) ≡ false → StandsAt is_legal P h t → IsSameSetup is_legal t u →
    x ≡ ends_at_gap is_legal t b → o ≡ handing_over (hands (own_description is_legal u) x) → o ≡ out P h (Gap b)
gap_answers is_legal P h b t u x o i s same ended answered =
    let e : ignores (reply_now (past P h)) (Gap b) ≡ false = ap (λ r. ignores r (Gap b)) (sym s.reply) ∙ i in
    answered
    ∙ ((λ j. handing_over (hands (same.description j) (ended j)))
    ∙ ((λ j. handing_over (hands (s.description j) (gap_ends (s.description j) (s.registers j).flags.busy (s.standing b j))))
    ∙ sym
    (ap (λ i. handing_over (hands P (unless_ignored i (at_gap P (flag_now (past P h) Busy) (open_now P (past P h) b))))) e
    ∙ ap (λ x. handing_over (hands P x)) (gap_ends_law P (flag_now (past P h) Busy) (open_now P (past P h) b)))))

reply_word_is : (P : Description) (h : List Noted) (cell : Option Cell) (m : ℕ) → reply_word_from (registers_now P h) (held_now P h) cell m ≡ reply_word P h cell m
reply_word_is P h None m = refl
reply_word_is P h (Some (OwnReceive s n)) m = refl
reply_word_is P h (Some (OwnTransmit s n)) m = refl
reply_word_is P h (Some (BroadReceive s n)) m = refl
reply_word_is P h (Some (OwnMode code)) m = refl
reply_word_is P h (Some (BroadMode code)) m = refl

-- what is sent, where the registers and the words held ready are those of a history
sends_is : (P : Description) (h : List Noted) (r : Option Replying) → sends_from P.address (registers_now P h) (held_now P h) r ≡ sends P h r
sends_is P h None = refl
sends_is P h (Some r) =
    ap (λ w. Some (if r.number == 0 then sending r.bus Com (status_word P.address (registers_now P h).kept) else sending r.bus Dat w)) (reply_word_is P h r.cell r.number)

place_low : (s n : ℕ) → is_data_place s n ≡ true → 1 ≤ s
place_low s n e = grind (arith, nat_tests)

place_high : (s n : ℕ) → is_data_place s n ≡ true → s ≤ 30
place_high s n e = grind (arith, nat_tests)

place_first : (s n : ℕ) → is_data_place s n ≡ true → 1 ≤ n
place_first s n e = grind (arith, nat_tests)

place_last : (s n : ℕ) → is_data_place s n ≡ true → n ≤ 32
place_last s n e = grind (arith, nat_tests)

-- only a word of a place that is there goes into a reply
word_alike : (r : Registers) (f g : ℕ → ℕ → ℕ) (cell : Option Cell) (m : ℕ) → has_place cell m ≡ true →
    ((s i : ℕ) → 1 ≤ s → s ≤ 30 → 1 ≤ i → i ≤ 32 → f s i ≡ g s i) → reply_word_from r f cell m ≡ reply_word_from r g cell m
word_alike r f g None m p e = refl
word_alike r f g (Some (OwnReceive s n)) m p e = refl
word_alike r f g (Some (OwnTransmit s n)) m p e = e s m (place_low s m p) (place_high s m p) (place_first s m p) (place_last s m p)
word_alike r f g (Some (BroadReceive s n)) m p e = refl
word_alike r f g (Some (OwnMode code)) m p e = refl
word_alike r f g (Some (BroadMode code)) m p e = refl

sends_alike : (address : ℕ) (r : Registers) (f g : ℕ → ℕ → ℕ) (reply : Option Replying) → can_send reply ≡ true →
    ((s i : ℕ) → 1 ≤ s → s ≤ 30 → 1 ≤ i → i ≤ 32 → f s i ≡ g s i) → sends_from address r f reply ≡ sends_from address r g reply
sends_alike address r f g None p e = refl
sends_alike address r f g (Some reply) p e = by_status (reply.number == 0) p
  where
    by_status : (t : Bool) → t || has_place reply.cell reply.number ≡ true →
        Some (if t then sending reply.bus Com (status_word address r.kept) else sending reply.bus Dat (reply_word_from r f reply.cell reply.number))
        ≡ Some (if t then sending reply.bus Com (status_word address r.kept) else sending reply.bus Dat (reply_word_from r g reply.cell reply.number))
    by_status true p = refl
    by_status false p = ap (λ w. Some (sending reply.bus Dat w)) (word_alike r f g reply.cell reply.number p e)

-- and it answers a slot so
pub slot_answers : {L : Type 0} (is_legal : L → Cell → Bool) (P : Description) (h : List Event) (t : Terminal L) → StandsAt is_legal P h t →
    sending_out (sends_from t.settings.address t.registers (held_word t) (shown_reply t.reply)) ≡ out P h Slot
slot_answers is_legal P h t s =
    ap sending_out
    (sends_alike t.settings.address t.registers (held_word t) (held_now P (past P h)) (shown_reply t.reply) (can_send_law t.reply) s.held
    ∙ ((λ j. sends_from (s.description j).address (s.registers j) (held_now P (past P h)) (s.reply j))
    ∙ sends_is P (past P h) (reply_now (past P h))))
