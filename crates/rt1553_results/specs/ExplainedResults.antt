-- Whether some behaviour of the subsystem explains the results of a unit, and the first reply that none explains.
use Rattle.std.specs.Prelude.{ℕ, suc, ◌≡◌, ◌↔◌, ◌<◌, Option, None, IfSome, List, [], ◌∷◌, ◌++◌, length}
use Rattle.bus_legal.specs.Description.{Description}
use Rattle.terminal_rules.specs.Out.{Sending}
use Rattle.bus_complete_test.specs.CompleteTest.{tried}
use Rattle.terminal_recordings.specs.Recordings.{IsExplained}
use Rattle.recorded_terminal.specs.SentWords.{word_shown}
use Rattle.rt1553_acceptance.specs.Label.{label_of}
use Rattle.rt1553_results.specs.declared.explaining.UnexplainedReply.{UnexplainedReply}
use Rattle.rt1553_results.specs.declared.explaining.ResultsExplained.{ResultsExplained}
use Rattle.rt1553_results.specs.Recorded.{Replied, replied, slots_of, exchange_seen, recorded_replies}
use Rattle.rt1553_results.specs.Compare.{missing, numbers_in}

-- The exchanges before one are explained with their replies, and so is this one up to a word of its reply; with that word, or without
-- one in its place, nothing explains it, but with the word that is told, or without one.
pub record IsFirstUnexplainedReply (P : Description) (rs : List Replied) (it : UnexplainedReply) : Type 0 where
  pub before : List Replied
  pub replied : Replied
  pub later : List Replied
  pub all : rs ≡ before ++ replied ∷ later
  pub number : it.number ≡ suc (length before)
  pub command : it.command ≡ replied.exchange.command
  pub came : it.came.items ≡ replied.reply
  pub sent : List (Option Sending)
  pub seen : Option Sending
  pub left : List (Option Sending)
  pub slots : slots_of replied ≡ sent ++ seen ∷ left
  pub slot : it.slot ≡ length sent
  pub explained : IsExplained P (recorded_replies before ++ exchange_seen replied.exchange sent)
  pub unexplained : IsExplained P (recorded_replies before ++ exchange_seen replied.exchange (sent ++ seen ∷ [])) → ⊥
  pub possible : IsExplained P (recorded_replies before ++ exchange_seen replied.exchange (sent ++ word_shown it.possible ∷ []))

-- What is told of results by the acceptance test of D, of P, of which D is what can be reached: no reply exactly if some behaviour of the
-- subsystem explains all before the first that is missing, and else the first that none explains.
pub record ExplainsResults (D P : Description) (came : ℕ → Option (List ℕ)) (it : ResultsExplained) : Type 0 where
  pub explained : (it.first ≡ None) ↔ IsExplained P (recorded_replies (replied D came))
  pub first : IfSome it.first (IsFirstUnexplainedReply P (replied D came))

-- Of which exchanges there is no result, and of how many in all; no result is of an exchange beyond the last, and the name of what an
-- exchange tries is its own.
pub record TellsMissing (D : Description) (came : ℕ → Option (List ℕ)) (it : ResultsExplained) : Type 0 where
  pub total : it.total ≡ length (tried D)
  pub miss : numbers_in it.missing.items ≡ missing came 1 (tried D)
  pub within : (n : ℕ) → length (tried D) < n → came n ≡ None
  pub label : IfSome it.first (λ reply. reply.label.bytes ≡ label_of D reply.command)
