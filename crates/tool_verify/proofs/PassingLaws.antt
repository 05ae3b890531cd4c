-- The verdict on a script.
use Rattle.std.proofs.Common.{ℕ, ◌≡◌, ◌↔◌, ◌∙◌, suc, not, cond, Bool, true, false, Option, Some, None, is_none, IfSome, List, [], ◌∷◌, ◌==◌, length, map, filter, Ok, refl, sym, ap, subst, arith}
use Rattle.std.proofs.lemmas.Bool.Decides.{nat_tests}
use Rattle.std.proofs.lemmas.List.{length-map}
use Rattle.bus_legal.specs.Description.{Description}
use Rattle.bus_legal.specs.Parts.{Parts, description_in}
use Rattle.bus_legal.specs.Reach.{reach}
use Rattle.rt1553_verify.specs.Stated.{StatedEvent, shown, script_warning, stated_in, stated_warning, states_answer}
use Rattle.rt1553_verify.specs.declared.stated.ScriptWarning.{ScriptWarning}
use Rattle.rt1553_verify.specs.declared.stated.Stated.{Stated}
use Rattle.rt1553_report.specs.Verdict.{verdict_of}
use Rattle.rt1553_report.specs.declared.verdict.Unjudged.{Unjudged}
use Rattle.rt1553_report.specs.declared.verdict.ScriptVerdict.TheVariants.{Failed}
use Rattle.rt1553_verify.specs.declared.verifying.WrongAnswer.{WrongAnswer}
use Rattle.rt1553_verify.specs.Verify.{ToldAnswer, told_answer, wrong_answers_from, by_script, on_bus_by_script}
use Rattle.script_recordings.specs.declared.explaining.UnexplainedLine.{UnexplainedLine}
use Rattle.script_recordings.specs.Explained.{told_first, IsJudgedFrom, IsJudgedSince, NothingExplains}
use Rattle.rt1553_tool_args.specs.declared.command.ScriptKind.TheVariants.{Recording, LaterRecording}
use Rattle.tool_verify.specs.Passing.{tells_nothing, scoped, test_kind, unjudged_by, unjudged_recorded, unjudged_since, unjudged_test, TestStates, IsCompared, SaysBy}
use Rattle.tool_verify.specs.declared.compared.Compared.{Compared}

-- the verdict on the events of a test is that on the test
pub says_so : (on_bus : Bool) (P : Description) (script : List ℕ) (stated seen : List StatedEvent) (answers : ℕ) (same : Bool) (unjudged : Option Unjudged)
    → stated_in script ≡ Ok stated → answers ≡ length (filter states_answer stated) → seen ≡ scoped on_bus stated → same ≡ tells_nothing (Ok (wrong_answers_from P [] seen)) → unjudged ≡ unjudged_test (Ok stated)
    → SaysBy (test_kind on_bus) P script (verdict_of same unjudged) answers 0 0 None
says_so false P script stated seen answers same unjudged reads many is says why =
    let told = subst (λ (l : List StatedEvent). same ≡ tells_nothing (Ok (wrong_answers_from P [] l))) is says ∙ ap tells_nothing (sym (ap (by_script P) reads)) in
    let reason = why ∙ ap unjudged_test (sym reads) in
    (λ j. verdict_of (told j) (reason j), (stated, reads, many), refl, refl, refl)
says_so true P script stated seen answers same unjudged reads many is says why =
    let told = subst (λ (l : List StatedEvent). same ≡ tells_nothing (Ok (wrong_answers_from P [] l))) is says ∙ ap tells_nothing (sym (ap (on_bus_by_script P) reads)) in
    let reason = why ∙ ap unjudged_test (sym reads) in
    (λ j. verdict_of (told j) (reason j), (stated, reads, many), refl, refl, refl)

-- the answers that are stated, counted in the code and by the definitions
pub same_answers : (stated : List Stated) → length (filter (λ s. states_answer (shown s)) stated) ≡ length (filter states_answer (map shown stated))
same_answers [] = refl
same_answers (s ∷ stated) = by_case (same_answers stated) (states_answer (shown s))
  where
    by_case : length (filter (λ x. states_answer (shown x)) stated) ≡ length (filter states_answer (map shown stated)) → (b : Bool)
        → length (cond b (s ∷ filter (λ x. states_answer (shown x)) stated) (filter (λ x. states_answer (shown x)) stated)) ≡ length (cond b (shown s ∷ filter states_answer (map shown stated)) (filter states_answer (map shown stated)))
    by_case rest true = ap suc rest
    by_case rest false = rest

-- why nothing of a test is judged, by the events of the code
pub same_reason : (stated : List Stated) → unjudged_by (script_warning stated) ≡ unjudged_test (Ok (map shown stated))
same_reason stated = λ j. unjudged_by (stated_warning (not (sym (length-map stated shown) j == 0)) (same_answers stated j))

-- nothing is told where no answer is wrong
pub nothing_told : (wrong : List WrongAnswer) (told : List ToldAnswer) → map told_answer wrong ≡ told → (length wrong == 0) ≡ tells_nothing (Ok told)
nothing_told [] told is = ap (λ l. tells_nothing (Ok l)) is
nothing_told (w ∷ wrong) told is =
    let some : (length (w ∷ wrong) == 0) ≡ false = grind (arith, nat_tests) in some ∙ ap (λ l. tells_nothing (Ok l)) is

none_told : (first : Option UnexplainedLine) → is_none first ≡ is_none (told_first first)
none_told None = refl
none_told (Some line) = refl

-- counts that are handed on
handed_on : (Says : ℕ → ℕ → ℕ → Type 0) (k n o l m p : ℕ) → l ≡ k → m ≡ n → p ≡ o → Says k n o → Says l m p
handed_on Says k n o l m p answers silences stretches says = subst (λ l. Says l m p) (sym answers) (subst (λ m. Says k m p) (sym silences) (subst (Says k n) (sym stretches) says))

-- the verdict on a recording, by what is told of it
pub says_recorded : (input : Option (List ℕ)) (value : Parts) (first : Option UnexplainedLine) (warning : Option ScriptWarning) (k n o : ℕ) (it : Compared)
    → ((P : Description) → description_in value ≡ reach P → IfSome input (λ script. IsJudgedFrom P (description_in value) script (told_first first) warning k n o))
    → (length it.wrong.items == 0) ≡ is_none first → it.unjudged ≡ unjudged_recorded o warning → (it.answers ≡ k) × (it.silences ≡ n) × (it.stretches ≡ o) × (it.after ≡ None)
    → IfSome input (λ script. IsCompared Recording value script it)
says_recorded None value first warning k n o it judged told why counts = tt
says_recorded (Some script) value first warning k n o it judged told why (answers, silences, stretches, after) = λ P reached. (
  record {
    told = told_first first;
    warning = warning;
    judged = handed_on (IsJudgedFrom P (reach P) script (told_first first) warning) k n o it.answers it.silences it.stretches answers silences stretches
        (subst (λ D. IsJudgedFrom P D script (told_first first) warning k n o) reached (judged P reached));
    is = λ j. verdict_of ((told ∙ none_told first) j) ((why ∙ ap (λ o. unjudged_recorded o warning) (sym stretches)) j);
  },
  after,
)

-- what does not differ does not fail
no_failure : (unjudged : Option Unjudged) → verdict_of true unjudged ≡ Failed → ⊥
no_failure None e = absurd (cc)
no_failure (Some why) e = absurd (cc)

-- the verdict on a recording that began at any time
pub says_later : (input : Option (List ℕ)) (value : Parts) (after : Option ℕ) (first : Option UnexplainedLine) (warning : Option ScriptWarning) (k n o : ℕ) (it : Compared)
    → IfSome input (λ script. IsJudgedSince (description_in value) script after (told_first first) warning k n o)
    → ((P : Description) → description_in value ≡ reach P → IfSome first (λ line. IfSome input (λ script. NothingExplains P script)))
    → (length it.wrong.items == 0) ≡ is_none first → it.unjudged ≡ unjudged_since o after warning → (it.answers ≡ k) × (it.silences ≡ n) × (it.stretches ≡ o) × (it.after ≡ after)
    → IfSome input (λ script. IsCompared LaterRecording value script it)
says_later None value after first warning k n o it judged never told why counts = tt
says_later (Some script) value after first warning k n o it judged never told why (answers, silences, stretches, line) = λ P reached. record {
  told = told_first first;
  warning = warning;
  judged = subst (λ after. IsJudgedSince (reach P) script after (told_first first) warning it.answers it.silences it.stretches) (sym line)
      (handed_on (IsJudgedSince (reach P) script after (told_first first) warning) k n o it.answers it.silences it.stretches answers silences stretches
      (subst (λ D. IsJudgedSince D script after (told_first first) warning k n o) reached judged));
  is = λ j. verdict_of ((told ∙ none_told first) j) ((why ∙ (λ i. unjudged_since (sym stretches i) (sym line i) warning)) j);
  never = λ fails. by P first refl fails (never P reached);
}
  where
    by : (P : Description) (o : Option UnexplainedLine) → first ≡ o → verdict_of (length it.wrong.items == 0) it.unjudged ≡ Failed → IfSome o (λ line. NothingExplains P script) → NothingExplains P script
    by P None is fails x = absurd (no_failure it.unjudged (ap (λ b. verdict_of b it.unjudged) (sym (told ∙ ap is_none is)) ∙ fails))
    by P (Some line) is fails x = x
