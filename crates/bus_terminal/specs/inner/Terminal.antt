-- What an event makes of a terminal, and what is answered from what it keeps.
use Rattle.std.specs.Prelude.{◌≡◌, ℕ, ◌≤◌, Bool, true, false, ◌&&◌, ◌||◌, ◌==◌, if◌then◌else◌, Option, Some, None, List, [], refl}
use Rattle.bus_word.specs.declared.word.Bus.{Bus}
use Rattle.bus_word.specs.declared.word.Kind.TheVariants.{Com, Dat}
use Rattle.bus_word.specs.declared.word.Raw.{Raw}
use Rattle.bus_word.specs.declared.cell.Cell.{Cell}
use Rattle.bus_word.specs.declared.cell.Cell.TheVariants.{OwnTransmit, OwnMode}
use Rattle.bus_word.specs.Status.{status_word}
use Rattle.bus_word.specs.Mode as mode
use Rattle.bus_word.specs.Cell.{cell_of}
use Rattle.bus_word.specs.Command.{expected, is_addressed_to}
use Rattle.terminal_state.specs.declared.message.InProgress.{InProgress}
use Rattle.terminal_state.specs.declared.message.Collected.TheVariants as buffer
use Rattle.terminal_state.specs.declared.message.Phase.TheVariants as phase
use Rattle.bus_legal.specs.Description.{Description, word_at}
use Rattle.terminal_rules.specs.Place.{Place}
use Rattle.terminal_state.specs.declared.buses.OnBuses.{OnBuses}
use Rattle.terminal_state.specs.declared.registers.Registers.{Registers}
use Rattle.bus_terminal.specs.declared.answer.Receiving.{Receiving}
use Rattle.bus_terminal.specs.declared.terminal.Terminal.{Terminal}
use Rattle.terminal_rules.specs.History.{Replying, Ending}
use Rattle.terminal_rules.specs.Buses.{same_bus}
use Rattle.terminal_rules.specs.Open.{Idle, Collects, is_on}
use Rattle.terminal_rules.specs.Starts.{is_word_for}
use Rattle.terminal_rules.specs.Reply.{reply_bus}
use Rattle.terminal_rules.specs.Status.{spares, adds_error}
use Rattle.terminal_rules.specs.Turn.{is_answered, done_cell}
use Rattle.terminal_rules.specs.Out.{Sending, sending}
use Rattle.terminal_state.specs.Standing.{Standing, Words, word_bits, word_leaves, entry_fails, fails, gap_leaves, gap_ends, fresh_in, starts_by}
use Rattle.terminal_state.specs.Message.{standing_on}
use Rattle.terminal_state.specs.Registers.{failed_by, started, started_if, settled, reset_if}
use Rattle.terminal_rules.specs.Steps.{resets_at_gap, dropped_if, begun_if, sent_one, resets_next}
use Rattle.terminal_state.specs.Buses.{on_bus, with_bus}
use Rattle.terminal_state.specs.Held.{held_after}
use Rattle.terminal_state.specs.Replies.{shown_reply}
use Rattle.bus_terminal.specs.Stands.{own_description, held_word}
use Rattle.bus_terminal.specs.Received.{receiving_by}

-- the data word of an own mode code, from the registers
abbrev pub code_word_from : Registers → ℕ → ℕ
code_word_from r code =
    if code == mode.vector_word then r.vector
    else if code == mode.last_command then r.last
    else if code == mode.bit_word then r.bit
    else 0

-- data word number m of a reply, from the registers and the words held ready
abbrev pub reply_word_from : Registers → (ℕ → ℕ → ℕ) → Option Cell → ℕ → ℕ
reply_word_from r held (Some (OwnTransmit s n)) m = held s m
reply_word_from r held (Some (OwnMode code)) m = code_word_from r code
reply_word_from r held _ m = 0

-- the word that is sent next, from the registers and the words held ready
abbrev pub next_sent_from : ℕ → Registers → (ℕ → ℕ → ℕ) → Replying → Sending
next_sent_from address r held reply =
    if reply.number == 0
    then sending reply.bus Com (status_word address r.kept)
    else sending reply.bus Dat (reply_word_from r held reply.cell reply.number)

-- the same of the reply in progress, where there is one
abbrev pub sends_from : ℕ → Registers → (ℕ → ℕ → ℕ) → Option Replying → Option Sending
sends_from address r held None = None
sends_from address r held (Some reply) = Some (next_sent_from address r held reply)

-- on which buses the run holds a word for the terminal, after a word or noise
abbrev pub heard_after_word : Description → Bus → Option Raw → OnBuses → OnBuses
heard_after_word P b w heard = if is_word_for P w then with_bus b true heard else heard

-- whether a word or noise starts a message
abbrev pub starts_in : {L : Type 0} → (L → Cell → Bool) → Terminal L → Bus → Option Raw → Bool
starts_in is_legal t b w = starts_by (own_description is_legal t) w (on_bus b t.heard) (standing_on b t.in_progress)

-- how a gap on this bus ends the message in progress
abbrev pub ends_at_gap : {L : Type 0} → (L → Cell → Bool) → Terminal L → Bus → Ending
ends_at_gap is_legal t b = gap_ends (own_description is_legal t) t.registers.flags.busy (standing_on b t.in_progress)

-- how a word or noise ends it
abbrev pub ends_at_entry : Option Raw → Standing → Ending
ends_at_entry w s = fails (entry_fails w s)

-- whether a reply to it begins
abbrev pub begins_in : {L : Type 0} → Terminal L → Bus → Ending → Bool
begins_in t b x = is_answered (on_bus b t.registers.off) x

-- what the message on this bus is to receive
abbrev pub receives_from : Description → Option ℕ → Option Receiving
receives_from P None = None
receives_from P (Some c) = receiving_by P c (cell_of c)

-- the same from what the terminal keeps: nothing while it replies on this bus, or while the busy flag is set
abbrev pub receives_in : {L : Type 0} → (L → Cell → Bool) → Terminal L → Bus → Option Receiving
receives_in is_legal t b =
    if is_on b (reply_bus (shown_reply t.reply)) || t.registers.flags.busy then None
    else receives_from (own_description is_legal t) (fresh_in (standing_on b t.in_progress))

-- the same set-up and legality
pub record IsSameSetup {L : Type 0} (is_legal : L → Cell → Bool) (t u : Terminal L) : Type 0 where
  pub description : own_description is_legal u ≡ own_description is_legal t
  pub legality : u.legality ≡ t.legality

-- what a command makes of it that starts a message
pub record TakesStart {L : Type 0} (is_legal : L → Cell → Bool) (b : Bus) (c : ℕ) (t u : Terminal L) : Type 0 where
  pub setup : IsSameSetup is_legal t u
  pub heard : u.heard ≡ t.heard
  pub standing : (d : Bus) → standing_on d u.in_progress ≡ (if same_bus d b then Collects c (Words []) else Idle)
  pub registers : u.registers ≡ started (spares (own_description is_legal t) c) c t.registers
  pub reply : u.reply ≡ None
  pub held : u.held ≡ t.held

-- what a word or noise that isn't ignored makes of a terminal t
pub record TakesWord {L : Type 0} (is_legal : L → Cell → Bool) (b : Bus) (w : Option Raw) (t u : Terminal L) : Type 0 where
  pub setup : IsSameSetup is_legal t u
  pub heard : u.heard ≡ heard_after_word (own_description is_legal t) b w t.heard
  pub standing : (c : Bus) → standing_on c u.in_progress ≡ word_leaves t.settings.address (starts_in is_legal t b w) (same_bus c b) w (standing_on c t.in_progress)
  pub registers : u.registers ≡ started_if (starts_in is_legal t b w) (spares (own_description is_legal t) (word_bits w)) (word_bits w) (failed_by (own_description is_legal t) (entry_fails w (standing_on b t.in_progress)) t.registers)
  pub reply : shown_reply u.reply ≡ dropped_if (starts_in is_legal t b w) (shown_reply t.reply)
  pub held : u.held ≡ t.held

-- what a gap that ends a message so, or none, makes of all of it but the message in progress
pub record Settles {L : Type 0} (is_legal : L → Cell → Bool) (b : Bus) (x : Ending) (t u : Terminal L) : Type 0 where
  pub setup : IsSameSetup is_legal t u
  pub heard : u.heard ≡ with_bus b false t.heard
  pub registers : u.registers ≡ settled t.settings.accept (adds_error (own_description is_legal t) x) b (resets_at_gap (begins_in t b x) x) x t.registers
  pub reply : shown_reply u.reply ≡ begun_if (begins_in t b x) b (done_cell x) (shown_reply t.reply)
  pub held : (s i : ℕ) → 1 ≤ s → s ≤ 30 → 1 ≤ i → i ≤ 32 → held_word u s i ≡ held_after t.held t.settings.wrap s i (resets_at_gap (begins_in t b x) x) x

-- what a gap makes of it
pub record TakesGap {L : Type 0} (is_legal : L → Cell → Bool) (b : Bus) (t u : Terminal L) : Type 0 where
  pub standing : (c : Bus) → standing_on c u.in_progress ≡ (if same_bus c b then gap_leaves (standing_on c t.in_progress) else standing_on c t.in_progress)
  pub settles : Settles is_legal b (ends_at_gap is_legal t b) t u

-- what a write of the subsystem makes of it
pub record TakesWrite {L : Type 0} (is_legal : L → Cell → Bool) (place : Place) (v : ℕ) (t u : Terminal L) : Type 0 where
  pub setup : IsSameSetup is_legal t u
  pub heard : u.heard ≡ t.heard
  pub in_progress : u.in_progress ≡ t.in_progress
  pub registers : u.registers ≡ t.registers
  pub reply : u.reply ≡ t.reply
  pub held : (s i : ℕ) → 1 ≤ s → s ≤ 30 → 1 ≤ i → i ≤ 32 → held_word u s i ≡ (if (place.subaddress == s) && (place.number == i) then v else held_word t s i)

-- what a slot makes of it
pub record TakesSlot {L : Type 0} (is_legal : L → Cell → Bool) (t u : Terminal L) : Type 0 where
  pub setup : IsSameSetup is_legal t u
  pub heard : u.heard ≡ t.heard
  pub in_progress : u.in_progress ≡ t.in_progress
  pub registers : u.registers ≡ reset_if (resets_next (shown_reply t.reply)) t.registers
  pub reply : shown_reply u.reply ≡ sent_one (shown_reply t.reply)
  pub held : (s i : ℕ) → 1 ≤ s → s ≤ 30 → 1 ≤ i → i ≤ 32 → held_word u s i ≡ (if resets_next (shown_reply t.reply) then word_at t.held.initial s i else held_word t s i)

-- the message with these words
abbrev pub collecting : Bus → ℕ → List ℕ → InProgress
collecting b c ds = record {
  message = Some (record {
    bus = b;
    decoded = record { command = c; cell = cell_of c; count = expected c; of_command = refl; counted = refl };
    phase = phase.Collects buffer.Words;
  });
  words = record { items = ds };
}

-- nothing stands in the way of a command on this bus: no message is in progress, no reply is on the bus, its run holds no word for
-- the terminal yet, and the command is for the terminal
pub record StartsAlone {L : Type 0} (b : Bus) (c : ℕ) (t : Terminal L) : Type 0 where
  pub none : t.in_progress.message ≡ None
  pub hears : is_on b (reply_bus (shown_reply t.reply)) ≡ false
  pub first : on_bus b t.heard ≡ false
  pub ours : is_addressed_to t.settings.address t.settings.broadcast c ≡ true

-- with the message of such a command
abbrev pub started_alone : {L : Type 0} → (L → Cell → Bool) → Bus → ℕ → Terminal L → Terminal L
started_alone is_legal b c t = record t {
  heard = with_bus b true t.heard;
  in_progress = collecting b c [];
  registers = started (spares (own_description is_legal t) c) c t.registers;
  reply = None;
}
