-- The results of a unit, compared with the acceptance test of a terminal.
use Rattle.std.specs.Prelude.{ℕ, zero, suc, ◌≡◌, ◌+◌, ◌<◌, if◌then◌else◌, Option, Some, None, List, [], ◌∷◌, ◌++◌, length, map, nat_eq}
use Rattle.std.specs.Cmp.Lexicographic.{pointwise}
use Rattle.std.specs.List.{flat_map}
use Rattle.bus_legal.specs.Description.{Description}
use Rattle.rt1553_acceptance.specs.Label.{label_of}
use Rattle.rt1553_verify.specs.declared.replies.WrongReply.{WrongReply}
use Rattle.rt1553_verify.specs.declared.replies.NumberRange.{NumberRange}
use Rattle.rt1553_results.specs.declared.comparison.Comparison.{Comparison}
use Rattle.rt1553_results.specs.declared.comparing.CompareFault.{CompareFault}
use Rattle.rt1553_results.specs.declared.comparing.CompareFault.TheVariants.{Beyond, Other, Memory}
use Rattle.rt1553_results.specs.declared.results.Results.{Results}
use Rattle.rt1553_results.specs.Rows.{Answered, rows_of}
use Rattle.rt1553_results.specs.Results.{line_in}

-- the exchange of this number was to be answered by these words, and was answered by others
pub record ToldReply : Type 0 where
  pub number : ℕ
  pub command : ℕ
  pub label : List ℕ
  pub expected : List ℕ
  pub came : List ℕ

-- a wrong reply as these definitions speak of it
abbrev pub told_reply : WrongReply → ToldReply
told_reply d = record { number = d.number; command = d.command; label = d.label.bytes; expected = d.expected.items; came = d.came.items }

-- what is told of exchange number n, of the terminal of P, by the reply that came, if there is a result
abbrev pub replies_told : Description → ℕ → Answered → Option (List ℕ) → List ToldReply
replies_told P n row None = []
replies_told P n row (Some came) =
    if pointwise nat_eq came row.reply then []
    else record { number = n; command = row.exchange.command; label = label_of P row.exchange.command; expected = row.reply; came = came } ∷ []

-- what is told of rows, in their order, of which the first has number n
unfoldable pub wrong_replies : Description → (ℕ → Option (List ℕ)) → ℕ → List Answered → List ToldReply
wrong_replies P came n [] = []
wrong_replies P came n (row ∷ rows) = replies_told P n row (came n) ++ wrong_replies P came (n + 1) rows

-- the number, if there is no result for it
abbrev pub missing_at : ℕ → Option (List ℕ) → List ℕ
missing_at n None = n ∷ []
missing_at n (Some came) = []

-- the numbers of rows, or of exchanges, without a result, of which the first has number n
unfoldable pub missing : {T : Type 0} → (ℕ → Option (List ℕ)) → ℕ → List T → List ℕ
missing came n [] = []
missing came n (row ∷ rows) = missing_at n (came n) ++ missing came (n + 1) rows

-- so many numbers one after the other
unfoldable pub counted : ℕ → ℕ → List ℕ
counted first zero = []
counted first (suc n) = first ∷ counted (first + 1) n

-- the numbers that ranges have, in their order
abbrev pub numbers_in : List NumberRange → List ℕ
numbers_in ranges = flat_map (λ range. counted range.first range.count) ranges

-- What is told of results by a comparison with the terminal of P: just the exchanges to which another reply came, and just
-- those for which there is none.
pub record TellsResults (P : Description) (came : ℕ → Option (List ℕ)) (c : Comparison) : Type 0 where
  pub total : c.total ≡ length (rows_of P)
  pub differ : map told_reply c.wrong_replies.items ≡ wrong_replies P came 1 (rows_of P)
  pub miss : numbers_in c.missing.items ≡ missing came 1 (rows_of P)

-- The same, and no result is of an exchange beyond the last.
pub record Compares (P : Description) (came : ℕ → Option (List ℕ)) (c : Comparison) : Type 0 where
  pub tells : TellsResults P came c
  pub within : (n : ℕ) → length (rows_of P) < n → came n ≡ None

-- Why results are not compared with the terminal of P: the row at this line has a number that no exchange has; or memory. Commands are
-- not looked at.
abbrev pub AreNotCompared : Description → Results → CompareFault → Type 0
AreNotCompared P results (Beyond line) = (n : ℕ) × (length (rows_of P) < n) × (line_in results n ≡ Some line)
AreNotCompared P results (Other place) = ⊥
AreNotCompared P results Memory = Unit {0}
