-- What an event makes of a terminal, put together from what its functions do one after the other.
use Rattle.std.proofs.Common.{◌≡◌, ℕ, ◌≤◌, true, false, Bool, Some, ap, sym, ◌∙◌}
use Rattle.bus_word.specs.declared.word.Bus.{Bus}
use Rattle.bus_word.specs.declared.word.Raw.{Raw}
use Rattle.bus_word.specs.declared.cell.Cell.{Cell}
use Rattle.bus_legal.specs.Description.{word_at}
use Rattle.terminal_rules.specs.Buses.{same_bus}
use Rattle.terminal_rules.specs.History.{Ending}
use Rattle.terminal_rules.specs.Status.{spares, adds_error}
use Rattle.terminal_rules.specs.SinceReset.{wrapped}
use Rattle.terminal_rules.specs.Turn.{done_cell}
use Rattle.terminal_rules.specs.Steps.{dropped_if, begun_if, resets_at_gap, unless_reset}
use Rattle.terminal_state.specs.Standing.{word_leaves, entry_fails}
use Rattle.terminal_state.specs.Message.{standing_on}
use Rattle.terminal_state.specs.Registers.{failed_by, started_if, settled}
use Rattle.terminal_state.specs.Buses.{with_bus}
use Rattle.terminal_state.specs.Held.{held_after}
use Rattle.terminal_state.specs.Replies.{shown_reply}
use Rattle.bus_terminal.specs.declared.terminal.Terminal.{Terminal}
use Rattle.bus_terminal.specs.Stands.{own_description, held_word}
use Rattle.bus_terminal.specs.inner.Terminal.{heard_after_word, starts_in, begins_in, IsSameSetup, TakesStart, TakesWord, Settles}

-- the set-up is kept where the settings, the legality and the words of power-up are
pub same_setup : {L : Type 0} (is_legal : L → Cell → Bool) (t u : Terminal L) →
    u.settings ≡ t.settings → u.legality ≡ t.legality → u.registers.power_up ≡ t.registers.power_up → u.held.initial ≡ t.held.initial → IsSameSetup is_legal t u
same_setup is_legal t u settings legality power_up initial = record {
  description = λ j. own_description is_legal (record t {
    settings = settings j;
    legality = legality j;
    registers = record t.registers { power_up = power_up j };
    held = record t.held { initial = initial j };
  });
  legality = legality;
}

-- the terminal with which a word starts a message: a transfer that waited has failed, and the word is noted
abbrev pub before_start : {L : Type 0} → (L → Cell → Bool) → Bus → Raw → Terminal L → Terminal L
before_start is_legal b w t = record t {
  heard = heard_after_word (own_description is_legal t) b (Some w) t.heard;
  registers = failed_by (own_description is_legal t) (entry_fails (Some w) (standing_on b t.in_progress)) t.registers;
}

-- a word that starts a message
pub starting_word : {L : Type 0} (is_legal : L → Cell → Bool) (b : Bus) (w : Raw) (t u : Terminal L) → starts_in is_legal t b (Some w) ≡ true →
    TakesStart is_legal b w.bits (before_start is_legal b w t) u → TakesWord is_legal b (Some w) t u
starting_word is_legal b w t u e k = record {
  setup = record { description = k.setup.description; legality = k.setup.legality };
  heard = k.heard;
  standing = λ c. k.standing c ∙ ap (λ s. word_leaves t.settings.address s (same_bus c b) (Some w) (standing_on c t.in_progress)) (sym e);
  registers = k.registers ∙ ap (λ s. started_if s (spares (own_description is_legal t) w.bits) w.bits (before_start is_legal b w t).registers) (sym e);
  reply = ap shown_reply k.reply ∙ ap (λ s. dropped_if s (shown_reply t.reply)) (sym e);
  held = k.held;
}

-- a gap, by what was asked of it before it was settled; y is x with the words of the buffer
pub settled_gap : {L : Type 0} (is_legal : L → Cell → Bool) (b : Bus) (x y : Ending) (begins resets spares : Bool) (t u : Terminal L) →
    begins ≡ begins_in t b x → resets ≡ resets_at_gap begins x → spares ≡ adds_error (own_description is_legal t) x →
    IsSameSetup is_legal t u →
    u.heard ≡ with_bus b false t.heard →
    u.registers ≡ settled t.settings.accept spares b resets x t.registers →
    shown_reply u.reply ≡ begun_if begins b (done_cell x) (shown_reply t.reply) →
    ((s i : ℕ) → 1 ≤ s → s ≤ 30 → 1 ≤ i → i ≤ 32 → held_word u s i ≡ held_after t.held t.settings.wrap s i resets y) →
    ((s i : ℕ) → wrapped t.settings.wrap s i y ≡ wrapped t.settings.wrap s i x) →
    Settles is_legal b x t u
settled_gap is_legal b x y begins resets spares t u begin reset spare setup heard registers reply held words =
    let acts : resets ≡ resets_at_gap (begins_in t b x) x = reset ∙ ap (λ k. resets_at_gap k x) begin in
    record {
      setup = setup;
      heard = heard;
      registers = registers ∙ (λ j. settled t.settings.accept (spare j) b (acts j) x t.registers);
      reply = reply ∙ ap (λ k. begun_if k b (done_cell x) (shown_reply t.reply)) begin;
      held = λ s i low high first last.
          held s i low high first last ∙ (λ j. unless_reset (acts j) (word_at t.held.initial s i) (words s i j) (held_word t s i));
    }
