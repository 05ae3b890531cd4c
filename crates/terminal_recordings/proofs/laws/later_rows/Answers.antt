use Rattle.std.proofs.Common.{◌≡◌, ◌≤◌, List, [], ◌∷◌, Bool, true, false, refl, ap, arith}
use Rattle.bus_word.specs.declared.word.Bus.{Bus}
use Rattle.bus_word.specs.declared.word.Bus.TheVariants.{A, B}
use Rattle.bus_word.specs.declared.cell.Cell.TheVariants.{OwnMode}
use Rattle.bus_legal.specs.Description.{Description}
use Rattle.terminal_rules.specs.declared.event.Event.{Event}
use Rattle.terminal_rules.specs.declared.event.Event.TheVariants.{Gap, Flag as FlagIs, Slot}
use Rattle.terminal_rules.specs.declared.event.Flag.TheVariants.{Service}
use Rattle.terminal_rules.specs.History.{run}
use Rattle.terminal_rules.specs.Open.{Idle}
use Rattle.terminal_rules.specs.Past.{past, open_at, history_after}
use Rattle.terminal_rules.specs.WorkedExamples.Words.{Step, five, command, steps_of}
use Rattle.terminal_recordings.specs.Later.{BeginsAfresh, ShutDown, shown_later}
use Rattle.terminal_recordings.specs.RecordingRows.{recording_of, DoesNotExplain}
use Rattle.terminal_recordings.specs.LaterRows.{asking, ExplainsLater, DoesNotExplainLater, IsNotShown, silent_on_a}
use Rattle.terminal_recordings.proofs.Law.{explained_shown}
use Rattle.terminal_recordings.proofs.LaterLaw.{later_law}
use Rattle.terminal_recordings.proofs.Tests.{is_recording, is_recording_law, bits_of, same_bits, same_or}
use Rattle.terminal_recordings.specs.Completion.{shown_of}
use Rattle.terminal_recordings.proofs.laws.later_rows.Goals as goal

explains : (P : Description) (lines : List (List Step)) (shut : ShutDown) → P.address ≤ 30 → P.legal (OwnMode 4) ≡ true → is_recording (recording_of (steps_of lines)) ≡ true →
    BeginsAfresh P (recording_of (steps_of lines)) → shown_later P shut (recording_of (steps_of lines)) ≡ recording_of (steps_of lines) → ExplainsLater P lines
unfolding ExplainsLater
explains P lines shut low l r a e = (later_law.decided P (recording_of (steps_of lines)) low l (is_recording_law (recording_of (steps_of lines)) r) a).1 (shut, e)

-- what is shown after a beginning is other than the recording
abbrev IsOther : Description → List (List Step) → ShutDown → Type 0
IsOther P lines shut = same_bits (bits_of (shown_later P shut (recording_of (steps_of lines)))) (bits_of (recording_of (steps_of lines))) ≡ false

-- after each of the four
record AreOther (P : Description) (lines : List (List Step)) : Type 0 where
  pub none : IsOther P lines (record { a = false; b = false })
  pub on_a : IsOther P lines (record { a = true; b = false })
  pub on_b : IsOther P lines (record { a = false; b = true })
  pub both : IsOther P lines (record { a = true; b = true })

is_other : (P : Description) (lines : List (List Step)) → AreOther P lines → (a b : Bool) → IsOther P lines (record { a = a; b = b })
is_other P lines o false false = o.none
is_other P lines o true false = o.on_a
is_other P lines o false true = o.on_b
is_other P lines o true true = o.both

not_shown : (P : Description) (lines : List (List Step)) → AreOther P lines → IsNotShown P lines
unfolding IsNotShown
not_shown P lines other shut e = same_or (bits_of (shown_later P shut (recording_of (steps_of lines)))) (bits_of (recording_of (steps_of lines))) (ap bits_of e) (is_other P lines other shut.a shut.b)

does_not_explain : (P : Description) (lines : List (List Step)) → P.address ≤ 30 → P.legal (OwnMode 4) ≡ true → is_recording (recording_of (steps_of lines)) ≡ true →
    BeginsAfresh P (recording_of (steps_of lines)) → AreOther P lines → DoesNotExplainLater P lines
unfolding DoesNotExplainLater
does_not_explain P lines low l r a other x =
    let f = (later_law.decided P (recording_of (steps_of lines)) low l (is_recording_law (recording_of (steps_of lines)) r) a).0 x in
    same_or (bits_of (shown_later P f.0 (recording_of (steps_of lines)))) (bits_of (recording_of (steps_of lines))) (ap bits_of f.1) (is_other P lines other f.0.a f.0.b)

-- as at power-up
does_not_explain_at_once : (P : Description) (lines : List (List Step)) → P.address ≤ 30 → same_bits (bits_of (shown_of P (recording_of (steps_of lines)))) (bits_of (recording_of (steps_of lines))) ≡ false → DoesNotExplain P lines
unfolding DoesNotExplain
does_not_explain_at_once P lines low other x = same_or (bits_of (shown_of P (recording_of (steps_of lines)))) (bits_of (recording_of (steps_of lines))) (ap bits_of (explained_shown P low [] (recording_of (steps_of lines)) x)) other

-- of one that asks back: a service request stood while an illegal command was answered
abbrev earlier : List Event
earlier = FlagIs Service true ∷ command A 0x2c05 ∷ Gap A ∷ Slot ∷ []

asks_back : ExplainsLater (five []) (asking)
unfolding ExplainsLater
asks_back = (
  earlier,
  (tt, (omega arith, (tt, (tt, tt)))),
  record { message = no_message; run = no_run; reply = refl },
  (command A 0x2c02 ∷ Gap A ∷ Slot ∷ [], (omega arith, (tt, (tt, tt))), refl),
)
  where
    no_message : (b : Bus) → open_at (five []) (history_after earlier []) b ≡ Idle
    no_message A = refl
    no_message B = refl

    no_run : (b : Bus) → run (past (five []) (history_after earlier [])) b ≡ []
    no_run A = refl
    no_run B = refl

pub returns : goal.returns
returns c = record {
  shut_before = explains (five []) silent_on_a (record { a = true; b = false }) (omega arith) refl refl refl refl;
  not_at_power_up = does_not_explain_at_once (five []) silent_on_a (omega arith) refl;
  on_again = does_not_explain (five []) _ (omega arith) refl refl refl (record { none = refl; on_a = refl; on_b = refl; both = refl });
  illegal = does_not_explain (five []) _ (omega arith) refl refl refl (record { none = refl; on_a = refl; on_b = refl; both = refl });
  asks_back = asks_back;
  not_shown = not_shown (five []) _ (record { none = refl; on_a = refl; on_b = refl; both = refl });
}
