use Rattle.std.proofs.Common.{◌≡◌, ◌∙◌, Some, None, true, false, option_map, sym, ap, arith}
use Rattle.std.proofs.lemmas.Slice.Eq.{bytes_eq-Decides}
use Rattle.bus_terminal.specs.Answer.{shown_word}
use Rattle.terminal_rules.specs.Out.{Sending}
use Rattle.script_lines.specs.Transcript.{sent_text}
use Rattle.script_lines.proofs.TranscriptLaws.{sent_length}
use Rattle.script_recordings.specs.inner.Words.{any_digits}
use Rattle.script_recordings.proofs.WordLaws.{word_read_back}
use Rattle.script_recordings.proofs.words.read_sent.Goals as goal

pub write_answer-requires : goal.write_answer-requires
write_answer-requires c = omega (arith, sent_length (shown_word c.in_ok-sent.sent))

pub returns-in_err-sent-clause-none : goal.returns-in_err-sent-clause-none
returns-in_err-sent-clause-none c none w small is =
    let e : None ≡ Some w = sym (ap (option_map shown_word) c.in_err-sent.was) ∙ (c.read_any_digits.ensures ∙ (ap any_digits (sym is) ∙ word_read_back w small)) in
    cc

pub returns-else-eq-clause-none : goal.returns-else-eq-clause-none
returns-else-eq-clause-none c none w small is =
    let sent : Sending = shown_word c.in_ok-sent.sent in
    let e : Some sent ≡ Some w = sym (ap (option_map shown_word) c.in_ok-sent.was) ∙ (c.read_any_digits.ensures ∙ (ap any_digits (sym is) ∙ word_read_back w small)) in
    let same : sent ≡ w = cc in
    let bytes : c.as_bytes.result.now ≡ c.args.line.now = c.as_bytes.ensures.value ∙ (c.as_str.ensures.value ∙ (c.write_answer.ensures ∙ (ap sent_text same ∙ is))) in
    let wrong : true ≡ false = sym ((bytes_eq-Decides c.as_bytes.result.now c.args.line.now).1 bytes) ∙ (sym c.eq.ensures ∙ c.if-eq.false) in
    cc
