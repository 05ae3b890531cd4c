-- What was written of exchanges that were played.
use Rattle.std.specs.Prelude.{ℕ, Bool, List, Option}
use Rattle.std.specs.Io.KnownBytes.{Appends}
use Rattle.bus_word.specs.declared.cell.Cell.{Cell}
use Rattle.bus_legal.specs.Description.{Description}
use Rattle.terminal_rules.specs.declared.event.Event.{Event}
use Rattle.terminal_rules.specs.Past.{history_after}
use Rattle.terminal_exchanges.specs.Exchanges.{Exchange, script_of}
use Rattle.bus_terminal.specs.declared.terminal.Terminal.{Terminal}
use Rattle.bus_terminal.specs.Stands.{StandsAt}
use Rattle.message_names.specs.NameRow.{NameRow}
use Rattle.rt1553_acceptance.specs.Text.{exchanges_stated}
use Rattle.rt1553_acceptance.specs.inner.Fits.{AllFit}

-- A terminal of P took these exchanges, each was written behind its comment with what is stated of the answers, and no more;
-- and the answers have a size that lines can state.
pub record Puts {L W : Type 0} (is_legal : L → Cell → Bool) (written : W → Option (List ℕ)) (rows : List NameRow) (P : Description) (t t' : Terminal L) (w w' : W) (xs : List Exchange) : Type 0 where
  pub at : (h : List Event) → StandsAt is_legal P h t → StandsAt is_legal P (history_after (script_of xs) h) t'
  pub text : (h : List Event) → StandsAt is_legal P h t → Appends (written w) (written w') (exchanges_stated rows P h xs)
  pub fit : (h : List Event) → StandsAt is_legal P h t → AllFit P h (script_of xs)
