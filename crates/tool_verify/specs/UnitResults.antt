-- What comes of the results of a unit, and how a report has it.
use Rattle.std.specs.Prelude.{ℕ, ◌≡◌, ◌<◌, ◌++◌, Bool, true, false, List, [], ◌∷◌, map, take, None, IfSome, option_map, option_to_list}
use Rattle.std.specs.Option.{unwrap_or}
use Rattle.bus_legal.specs.Description.{Description}
use Rattle.bus_legal.specs.Reach.{reach}
use Rattle.rt1553_report.specs.declared.unit.ReplyDifference.{ReplyDifference}
use Rattle.rt1553_report.specs.declared.unit.UnitVerdict.{UnitVerdict}
use Rattle.rt1553_results.specs.Asked.{AsksTheTest}
use Rattle.rt1553_results.specs.Compare.{ToldReply, told_reply, numbers_in, Compares}
use Rattle.rt1553_results.specs.ExplainedResults.{ExplainsResults}
use Rattle.rt1553_results.specs.Results.{SaysResults, answer, line_in}
use Rattle.rt1553_results.specs.declared.comparison.Comparison.{Comparison}
use Rattle.rt1553_results.specs.declared.explaining.ResultsExplained.{ResultsExplained}
use Rattle.rt1553_results.specs.declared.explaining.UnexplainedReply.{UnexplainedReply}
use Rattle.rt1553_results.specs.declared.results.Results.{Results}
use Rattle.sha2.specs.Sha256.{sha256}
use Rattle.tool_verify.specs.declared.unit_results.JudgedResults.{JudgedResults}
use Rattle.tool_verify.specs.declared.unit_results.JudgedResults.TheVariants.{Compared, Explained}
use Rattle.tool_verify.specs.declared.unit_results.LoadedResults.{LoadedResults}

-- they are the results of a text that asks the test of the terminal of P, with its digest
abbrev pub IsLoadedResults : Description → LoadedResults → Type 0
IsLoadedResults P loaded = (text : List ℕ) × SaysResults text loaded.results × AsksTheTest P text × (loaded.digest ≡ sha256 text)

-- the unit is the terminal, or can be: no reply is another one, or none is that nothing explains; and none is missing
abbrev pub UnitPasses : JudgedResults → Type 0
UnitPasses (Compared c) = (map told_reply c.wrong_replies.items ≡ []) × (numbers_in c.missing.items ≡ [])
UnitPasses (Explained e) = (e.first ≡ None) × (numbers_in e.missing.items ≡ [])

-- what is told of results is what comes of a comparison with the test of D, what can be reached of a terminal, or of the search for a behaviour
-- of its subsystem
abbrev pub IsVerdictOn : Description → Results → Bool → JudgedResults → Type 0
IsVerdictOn D results any_subsystem (Compared c) = (any_subsystem ≡ false) × Compares D (answer results) c
IsVerdictOn D results any_subsystem (Explained e) = (any_subsystem ≡ true) × ((P : Description) → D ≡ reach P → ExplainsResults D P (answer results) e)

-- a difference as these definitions speak of it, and that of a reply, at the line of its row
abbrev pub told_difference : ReplyDifference → ℕ × ToldReply
told_difference d = (d.line, told_reply d.reply)

abbrev pub reply_difference : Results → ToldReply → ℕ × ToldReply
reply_difference results r = (unwrap_or (line_in results r.number) 0, r)

-- the differences are the replies of a comparison, in their order, and the missing numbers are its
pub record TellsCompared (results : Results) (c : Comparison) (unit : UnitVerdict) : Type 0 where
  pub exchanges : unit.exchanges ≡ c.total
  pub differences : map told_difference unit.differences.items ≡ map (λ r. reply_difference results (told_reply r)) c.wrong_replies.items
  pub missing : unit.missing ≡ c.missing

-- the line and the number of a difference, and the words that came
abbrev pub told_place : ReplyDifference → ℕ × ℕ × List ℕ
told_place d = (d.line, d.reply.number, d.reply.came.items)

abbrev pub unexplained_place : Results → UnexplainedReply → ℕ × ℕ × List ℕ
unexplained_place results r = (unwrap_or (line_in results r.number) 0, r.number, r.came.items)

-- in place of the reply that nothing explains: the words before the one that is not explained, and the one that can come there
abbrev pub expected_of : UnexplainedReply → List ℕ
expected_of r = take r.slot r.came.items ++ option_to_list (option_map (λ s. s.bits) r.possible)

-- the only difference is the reply that nothing explains, if there is one, and the missing numbers are those of the search
pub record TellsExplained (results : Results) (e : ResultsExplained) (unit : UnitVerdict) : Type 0 where
  pub exchanges : unit.exchanges ≡ e.total
  pub differences : map told_place unit.differences.items ≡ map (unexplained_place results) (option_to_list e.first)
  pub expected : IfSome e.first (λ r. r.slot < 33 → map (λ d. d.reply.expected.items) unit.differences.items ≡ expected_of r ∷ [])
  pub missing : unit.missing ≡ e.missing

-- a report tells of a unit what its results tell
abbrev pub TellsOf : Results → JudgedResults → UnitVerdict → Type 0
TellsOf results (Compared c) unit = TellsCompared results c unit
TellsOf results (Explained e) unit = TellsExplained results e unit
