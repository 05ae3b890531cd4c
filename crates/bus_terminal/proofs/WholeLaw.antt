-- A command in whose way nothing stands, and its gap.
use Rattle.std.proofs.Common.{◌≡◌, ℕ, Bool, true, false, ◌&&◌, ◌==◌, if◌then◌else◌, Option, Some, None, IfSome, List, [], ◌∷◌, length, refl, ap, sym, subst, ◌∙◌}
use Rattle.bus_word.specs.declared.word.Bus.{Bus}
use Rattle.bus_word.specs.declared.word.Kind.TheVariants.{Com}
use Rattle.bus_word.specs.declared.cell.Cell.{Cell}
use Rattle.bus_word.specs.Word.{valid_word, low_bits, ones, is_command}
use Rattle.bus_word.specs.Command.{is_addressed_to}
use Rattle.bus_word.specs.Cell.{cell_of}
use Rattle.bus_word.proofs.Parity.{odd_with_parity}
use Rattle.bus_legal.specs.Description.{Description}
use Rattle.terminal_rules.specs.declared.event.Event.{Event}
use Rattle.terminal_rules.specs.declared.event.Event.TheVariants.{Word, Gap}
use Rattle.terminal_rules.specs.Buses.{same_bus}
use Rattle.terminal_rules.specs.History.{Done}
use Rattle.terminal_rules.specs.Past.{history_after}
use Rattle.terminal_rules.specs.Out.{Out, hands, handing_over, out}
use Rattle.terminal_rules.specs.SinceReset.{wrapped}
use Rattle.terminal_rules.specs.Open.{Idle, Collects, is_on}
use Rattle.terminal_rules.specs.Starts.{is_for_terminal}
use Rattle.terminal_rules.specs.Reply.{reply_bus}
use Rattle.terminal_state.specs.Buses.{with_bus}
use Rattle.terminal_state.specs.Standing.{Words, Complete, starts_by, entry_fails, fresh_in, gap_end, gap_end_of, ending_at}
use Rattle.terminal_state.specs.declared.decoded.Decoded.{Decoded}
use Rattle.terminal_state.specs.declared.ended.Ended.{Ended}
use Rattle.terminal_state.specs.declared.message.InProgress.{InProgress}
use Rattle.terminal_state.specs.Ended.{ending_of}
use Rattle.terminal_state.specs.Replies.{shown_reply}
use Rattle.terminal_state.specs.Message.{standing_on}
use Rattle.terminal_state.specs.Registers.{failed_by}
use Rattle.bus_terminal.specs.declared.answer.Receiving.{Receiving}
use Rattle.bus_terminal.specs.declared.terminal.Terminal.{Terminal}
use Rattle.bus_terminal.specs.Stands.{StandsAt, own_description}
use Rattle.bus_terminal.specs.Received.{data_words_on, receiving_by, receiving}
use Rattle.bus_terminal.specs.inner.Terminal.{collecting, receives_from, starts_in, ends_at_gap, TakesStart, Settles, TakesGap, StartsAlone, started_alone}
use Rattle.bus_terminal.proofs.TakesLaw.{before_start, starting_word}
use Rattle.bus_terminal.proofs.StandsLaw.{word_stands, gap_stands}
use Rattle.bus_terminal.proofs.AnswerLaw.{gap_answers}
use Rattle.bus_terminal.proofs.ReceivedLaw.{same_self, leaves_none, receives_law, received_stands}

valid_command : (c : ℕ) → is_command (valid_word Com c) ≡ true
valid_command c = odd_with_parity (ones (low_bits 16 c))

module _ {L : Type 0} (is_legal : L → Cell → Bool) (b : Bus) (c : ℕ) (t : Terminal L) (a : StartsAlone b c t) where
  -- no message is in progress
  pub idle : (d : Bus) → standing_on d t.in_progress ≡ Idle
  idle d = ap (λ m. standing_on d (record t.in_progress { message = m })) a.none

  ours : is_for_terminal (own_description is_legal t) (valid_word Com c) ≡ true
  ours = ap (λ v. v && is_addressed_to t.settings.address t.settings.broadcast c) (valid_command c) ∙ a.ours

  starts : starts_in is_legal t b (Some (valid_word Com c)) ≡ true
  starts = (λ j. starts_by (own_description is_legal t) (Some (valid_word Com c)) (a.first j) (idle b j)) ∙ ap (λ k. k && true) ours

  before : before_start is_legal b (valid_word Com c) t ≡ record t { heard = with_bus b true t.heard }
  before = λ j. record t {
    heard = if ours j then with_bus b true t.heard else t.heard;
    registers = failed_by (own_description is_legal t) (entry_fails (Some (valid_word Com c)) (idle b j)) t.registers;
  }

  pub alone_stands : (P : Description) (h : List Event) → StandsAt is_legal P h t → StandsAt is_legal P (Word b (valid_word Com c) ∷ h) (started_alone is_legal b c t)
  alone_stands P h s = word_stands is_legal P h b (Some (valid_word Com c)) t (started_alone is_legal b c t) a.hears s
      (starting_word is_legal b (valid_word Com c) t (started_alone is_legal b c t) starts
      (subst (λ x. TakesStart is_legal b c x (started_alone is_legal b c t)) (sym before)
      (record { setup = record { description = refl; legality = refl }; heard = refl; standing = λ d. refl; registers = refl; reply = refl; held = refl })))

  -- what it is to receive
  pub alone_receives : (P : Description) (h : List Event) (it : Receiving) → t.registers.flags.busy ≡ false → receiving_by (own_description is_legal t) c (cell_of c) ≡ Some it
      → StandsAt is_legal P h t → receiving P (Word b (valid_word Com c) ∷ h) b ≡ Some it
  alone_receives P h it free e s =
      sym (receives_law is_legal P (Word b (valid_word Com c) ∷ h) b (started_alone is_legal b c t) (alone_stands P h s))
      ∙ (λ j. if free j then None else receives_from (own_description is_legal t) (fresh_in (if same_self b j then Collects c (Words []) else Idle)))
      ∙ e

  pub receives_if : (n : ℕ) → c ≡ n → t.registers.flags.busy ≡ false → (o : Option Receiving) → o ≡ receiving_by (own_description is_legal t) c (cell_of c)
      → IfSome o (λ it. (P : Description) (h : List Event) → StandsAt is_legal P h t → receiving P (Word b (valid_word Com n) ∷ h) b ≡ Some it)
  receives_if n same free None e = tt
  receives_if n same free (Some it) e = λ P h s. subst (λ k. receiving P (Word b (valid_word Com k) ∷ h) b ≡ Some it) same (alone_receives P h it free (sym e) s)

module _ {L : Type 0} (is_legal : L → Cell → Bool) (b : Bus) (d : Decoded) (n : ℕ) (t x u : Terminal L) (a : StartsAlone b d.command t) (same : d.command ≡ n)
    (started : record x { in_progress = collecting b d.command [] } ≡ started_alone is_legal b d.command t) (P : Description) (h : List Event) (s : StandsAt is_legal P h t) where
  -- once it was started
  begun_stands : StandsAt is_legal P (Word b (valid_word Com d.command) ∷ h) (record x { in_progress = collecting b d.command [] })
  begun_stands = subst (StandsAt is_legal P (Word b (valid_word Com d.command) ∷ h)) (sym started) (alone_stands is_legal b d.command t a P h s)

  -- with its words and its gap
  pub message_stands : (it : Receiving) (ds : List ℕ) (cell : Cell) → d.cell ≡ Some cell → u.in_progress ≡ t.in_progress
      → ((ds : List ℕ) (i : InProgress) → ((k m : ℕ) → wrapped x.settings.wrap k m (Done d.command cell x.in_progress.words.items) ≡ wrapped x.settings.wrap k m (Done d.command cell ds)) → Settles is_legal b (Done d.command cell ds) (record x { in_progress = i }) u)
      → receiving P (Word b (valid_word Com n) ∷ h) b ≡ Some it → length ds ≡ it.count
      → StandsAt is_legal P (Gap b ∷ history_after (data_words_on b ds) (Word b (valid_word Com n) ∷ h)) u
  message_stands it ds cell is kept settles e count =
      subst (λ k. StandsAt is_legal P (Gap b ∷ history_after (data_words_on b ds) (Word b (valid_word Com k) ∷ h)) u) same
      (received_stands is_legal P (Word b (valid_word Com d.command) ∷ h) b it ds x.in_progress.words.items d cell (record x { in_progress = collecting b d.command [] }) u
      (subst (λ k. receiving P (Word b (valid_word Com k) ∷ h) b ≡ Some it) (sym same) e) count begun_stands
      (ap (λ k. fresh_in (if k then Collects d.command (Words []) else Idle)) (same_self b)) is settles (λ q. ap (standing_on q) kept ∙ idle is_legal b d.command t a q))

  module _ (ip : InProgress) (ended : Ended) (empty : ip.words.items ≡ []) (none : d.count ≡ 0) (gone : (q : Bus) → standing_on q ip ≡ Idle) (kept : u.in_progress ≡ ip)
      (judged : ending_of ended [] ≡ ending_at (own_description is_legal x) x.registers.flags.busy (Complete d.command []))
      (settles : (ds : List ℕ) (i : InProgress) → ((k m : ℕ) → wrapped x.settings.wrap k m (ending_of ended ip.words.items) ≡ wrapped x.settings.wrap k m (ending_of ended ds)) → Settles is_legal b (ending_of ended ds) (record x { in_progress = i }) u) where
    hears : is_on b (reply_bus (shown_reply x.reply)) ≡ false
    hears = ap (λ y. is_on b (reply_bus (shown_reply y.reply))) started

    ends : ends_at_gap is_legal (record x { in_progress = collecting b d.command [] }) b ≡ ending_of ended []
    ends =
        (λ j. ending_at (own_description is_legal x) x.registers.flags.busy (gap_end (if same_self b j then Collects d.command (Words []) else Idle)))
        ∙ (λ j. ending_at (own_description is_legal x) x.registers.flags.busy (gap_end_of d.command (if 0 == (sym d.counted ∙ none) j then Some [] else None) None))
        ∙ sym judged

    takes : TakesGap is_legal b (record x { in_progress = collecting b d.command [] }) u
    takes = record {
      standing = λ q. ap (standing_on q) kept ∙ gone q ∙ leaves_none (same_bus q b) d.command [];
      settles = subst (λ e. Settles is_legal b e (record x { in_progress = collecting b d.command [] }) u) (sym ends)
          (settles [] (collecting b d.command []) (λ k m. ap (λ ws. wrapped x.settings.wrap k m (ending_of ended ws)) empty));
    }

    -- with its gap
    pub bare_stands : StandsAt is_legal P (Gap b ∷ Word b (valid_word Com n) ∷ h) u
    bare_stands = subst (λ k. StandsAt is_legal P (Gap b ∷ Word b (valid_word Com k) ∷ h) u) same
        (gap_stands is_legal P (Word b (valid_word Com d.command) ∷ h) b (record x { in_progress = collecting b d.command [] }) u hears begun_stands takes)

    pub bare_answers : (o : Out) → o ≡ handing_over (hands (own_description is_legal u) (ending_of ended u.in_progress.words.items)) → o ≡ out P (Word b (valid_word Com n) ∷ h) (Gap b)
    bare_answers o answered = subst (λ k. o ≡ out P (Word b (valid_word Com k) ∷ h) (Gap b)) same
        (gap_answers is_legal P (Word b (valid_word Com d.command) ∷ h) b (record x { in_progress = collecting b d.command [] }) u (ending_of ended u.in_progress.words.items) o hears begun_stands takes.settles.setup
        (ap (λ i. ending_of ended i.words.items) kept ∙ ap (ending_of ended) empty ∙ sym ends) answered)
