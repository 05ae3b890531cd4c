-- Terminals of one state answer alike.
use Rattle.std.proofs.Common.{◌≡◌, ℕ, zero, suc, ◌+◌, ◌-◌, ◌<◌, ◌≤◌, Bool, true, false, if◌then◌else◌, Option, Some, None, List, [], ◌∷◌, length, get_or, refl, ap, sym, ◌∙◌, arith}
use Rattle.bus_word.specs.declared.word.Bus.{Bus}
use Rattle.bus_word.specs.declared.cell.Cell.{Cell}
use Rattle.bus_legal.specs.Description.{Description}
use Rattle.bus_legal.specs.Parts.{Parts, description_in}
use Rattle.bus_legal.specs.Tables.{tables_say}
use Rattle.terminal_rules.specs.declared.event.Event.{Event}
use Rattle.terminal_rules.specs.Buses.{same_bus}
use Rattle.terminal_rules.specs.Open.{Idle}
use Rattle.terminal_state.specs.declared.message.Collected.TheVariants as collected
use Rattle.terminal_state.specs.declared.message.Phase.{Phase}
use Rattle.terminal_state.specs.declared.message.Phase.TheVariants.{Collects, Waits, Resumes}
use Rattle.terminal_state.specs.declared.message.Message.{Message}
use Rattle.terminal_state.specs.declared.held.HeldWords.{HeldWords}
use Rattle.terminal_state.specs.Held.{block_in}
use Rattle.terminal_state.specs.Message.{standing_in, standing_by}
use Rattle.terminal_state.specs.Standing.{Standing}
use Rattle.bus_terminal.specs.declared.terminal.Terminal.{Terminal}
use Rattle.bus_terminal.specs.Stands.{StandsAt, own_description}
use Rattle.rt1553_live.specs.declared.message.SavedMessage.{SavedMessage}
use Rattle.rt1553_live.specs.Numbers.{has_words}
use Rattle.rt1553_live.specs.State.{State, saved_message, saved_words, held_from, state_of, IsMade}
use Rattle.rt1553_live.specs.Text.{word_number}

-- ---- the message in progress

-- so many words are saved as the message tells
pub counted : (m : Option Message) (ds : List ℕ) → word_number (saved_message m ds) ≡ length (saved_words m ds)
counted None ds = refl
counted (Some m) ds = by_test (has_words m.phase)
  where
    by_test : (t : Bool) → (if t then length ds else 0) ≡ length (if t then ds else [])
    by_test true = refl
    by_test false = refl

-- how a message stands, by what is saved of it
abbrev standing_saved : Bus → Option SavedMessage → List ℕ → Standing
standing_saved b None ds = Idle
standing_saved b (Some m) ds = if same_bus b m.bus then standing_in m.command m.phase ds else Idle

same_phase : (c : ℕ) (p : Phase) (ds : List ℕ) → standing_in c p (if has_words p then ds else []) ≡ standing_in c p ds
same_phase c (Collects collected.Words) ds = refl
same_phase c (Collects (collected.Transmitter a)) ds = refl
same_phase c (Collects collected.Spoilt) ds = refl
same_phase c (Waits a) ds = refl
same_phase c (Resumes collected.Words) ds = refl
same_phase c (Resumes (collected.Transmitter a)) ds = refl
same_phase c (Resumes collected.Spoilt) ds = refl

stands_saved : (b : Bus) (m : Option Message) (ds : List ℕ) → standing_saved b (saved_message m ds) (saved_words m ds) ≡ standing_by b m ds
stands_saved b None ds = refl
stands_saved b (Some m) ds = ap (λ s. if same_bus b m.bus then s else Idle) (same_phase m.decoded.command m.phase ds)

-- ---- the words held ready

-- the words at a place, by those that are saved
held_at : (held : HeldWords) (s k i : ℕ) → i < k → get_or (held_from held s k) i [] ≡ block_in held (s + i)
held_at held s zero i l = absurd (omega arith)
held_at held s (suc k) zero l = ap (block_in held) (sym (omega arith))
held_at held s (suc k) (suc i) l = held_at held (suc s) k i (omega arith) ∙ ap (block_in held) (let same : suc s + i ≡ s + suc i = omega arith in same)

-- blocks that are held are those that are saved
pub held_all : (held : HeldWords) (blocks : List (List ℕ)) (s k : ℕ) → ((i : ℕ) → i < k → block_in held (s + i) ≡ get_or blocks i []) → length blocks ≡ k → held_from held s k ≡ blocks
held_all held [] s zero same long = refl
held_all held (x ∷ xs) s zero same long = absurd (omega arith)
held_all held [] s (suc k) same long = absurd (omega arith)
held_all held (x ∷ xs) s (suc k) same long =
    let here : block_in held s ≡ x = ap (block_in held) (let at : s ≡ s + 0 = omega arith in at) ∙ same 0 (omega arith) in
    let later : held_from held (suc s) k ≡ xs = held_all held xs (suc s) k (λ i l. ap (block_in held) (let at : suc s + i ≡ s + suc i = omega arith in at) ∙ same (suc i) (omega arith)) (omega arith) in
    λ j. here j ∷ later j

-- ---- terminals

abbrev is_legal : Parts → Cell → Bool
is_legal normal = tables_say normal.tables

-- a terminal of the same state stands wherever the other one stands
pub stands_alike : (t u : Terminal Parts) → IsMade t → IsMade u → state_of t ≡ state_of u → (P : Description) (h : List Event) → StandsAt is_legal P h t → StandsAt is_legal P h u
stands_alike t u own other same P h s =
    record {
      description = set_up_same ∙ s.description;
      heard = ap (λ x. x.bits.heard) back ∙ s.heard;
      standing = λ b.
          sym (stands_saved b u.in_progress.message u.in_progress.words.items)
          ∙ ap (λ (x : State). standing_saved b x.message x.words) back
          ∙ stands_saved b t.in_progress.message t.in_progress.words.items
          ∙ s.standing b;
      registers = same_registers ∙ s.registers;
      reply = ap (λ x. x.reply) back ∙ s.reply;
      held = λ m i low high first last.
          ap (λ block. get_or block (i - 1) 0) (sym (at_place u m low high) ∙ ap (λ x. get_or x.held (m - 1) []) back ∙ at_place t m low high)
          ∙ s.held m i low high first last;
    }
  where
    back : state_of u ≡ state_of t
    back = sym same

    at_place : (t : Terminal Parts) (m : ℕ) → 1 ≤ m → m ≤ 30 → get_or (held_from t.held 1 30) (m - 1) [] ≡ block_in t.held m
    at_place t m low high = held_at t.held 1 30 (m - 1) (omega arith) ∙ ap (block_in t.held) (let at : 1 + (m - 1) ≡ m = omega arith in at)

    set_up_same : own_description is_legal u ≡ own_description is_legal t
    set_up_same = other ∙ ap (λ (x : State). description_in x.parts) back ∙ sym own

    same_registers : u.registers ≡ t.registers
    same_registers = λ j. record {
      power_up = record { vector = (set_up_same j).vector; bit = (set_up_same j).bit };
      flags = (back j).bits.flags;
      inhibited = (back j).bits.inhibited;
      off = (back j).bits.off;
      vector = get_or (back j).registers 0 0;
      bit = get_or (back j).registers 1 0;
      last = get_or (back j).registers 2 0;
      kept = (back j).bits.status;
    }
