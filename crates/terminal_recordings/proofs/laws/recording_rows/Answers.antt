use Rattle.std.proofs.Common.{◌≡◌, ◌≤◌, List, [], ◌∷◌, true, false, refl, ap, arith}
use Rattle.bus_word.specs.declared.cell.Cell.TheVariants.{OwnTransmit, OwnMode}
use Rattle.bus_legal.specs.Description.{Description}
use Rattle.terminal_rules.specs.WorkedExamples.Words.{Step, five, steps_of}
use Rattle.terminal_recordings.specs.Completion.{shown_of}
use Rattle.terminal_recordings.specs.RecordingRows.{recording_of, Explains, DoesNotExplain}
use Rattle.terminal_recordings.proofs.Law.{explained_shown, told_explains}
use Rattle.terminal_recordings.proofs.Tests.{is_recording, is_recording_law, bits_of, same_bits, same_or}
use Rattle.terminal_recordings.proofs.laws.recording_rows.Goals as goal

explains : (P : Description) (lines : List (List Step)) → is_recording (recording_of (steps_of lines)) ≡ true → shown_of P (recording_of (steps_of lines)) ≡ recording_of (steps_of lines) → Explains P lines
unfolding Explains
explains P lines r e = told_explains P [] (recording_of (steps_of lines)) (recording_of (steps_of lines)) (is_recording_law (recording_of (steps_of lines)) r) e

does_not_explain : (P : Description) (lines : List (List Step)) → P.address ≤ 30 → same_bits (bits_of (shown_of P (recording_of (steps_of lines)))) (bits_of (recording_of (steps_of lines))) ≡ false → DoesNotExplain P lines
unfolding DoesNotExplain
does_not_explain P lines low other x = same_or (bits_of (shown_of P (recording_of (steps_of lines)))) (bits_of (recording_of (steps_of lines))) (ap bits_of (explained_shown P low [] (recording_of (steps_of lines)) x)) other

pub returns : goal.returns
returns c = record {
  any_data = explains (five (OwnTransmit 3 1 ∷ [])) _ refl refl;
  busy_holds_back = explains (five (OwnTransmit 3 1 ∷ [])) _ refl refl;
  no_word_unless_busy = does_not_explain (five (OwnTransmit 3 1 ∷ [])) _ (omega arith) refl;
  no_word_while_busy = does_not_explain (five (OwnTransmit 3 1 ∷ [])) _ (omega arith) refl;
  busy_once = explains (five (OwnTransmit 3 1 ∷ [])) _ refl refl;
  no_other_bit = does_not_explain (five (OwnTransmit 3 1 ∷ [])) _ (omega arith) refl;
  a_word_too_many = does_not_explain (five (OwnTransmit 3 1 ∷ [])) _ (omega arith) refl;
  shut_down = does_not_explain (five []) _ (omega arith) refl;
  shown_later = explains (five []) _ refl refl;
  shown_again = does_not_explain (five []) _ (omega arith) refl;
  none_at_power_up = does_not_explain (five []) _ (omega arith) refl;
  inhibited = does_not_explain (five (OwnMode 6 ∷ [])) _ (omega arith) refl;
  last_command = explains (five (OwnMode 18 ∷ [])) _ refl refl;
  other_last_command = does_not_explain (five (OwnMode 18 ∷ [])) _ (omega arith) refl;
  illegal = does_not_explain (five []) _ (omega arith) refl;
}
