-- Numbers in the tables of a page.
use Rattle.std.specs.Prelude.{ℕ, List, ◌++◌, codes}
use Rattle.std.specs.Fmt.{decimal}

-- a field with a number
unfoldable pub count_field : ℕ → List ℕ
count_field n = codes "<td class=\"count\">" ++ decimal n ++ codes "</td>"

-- a row: what is counted, and the number
unfoldable pub count_row : List ℕ → ℕ → List ℕ
count_row what n = codes "<tr><th scope=\"row\">" ++ what ++ codes "</th>" ++ count_field n ++ codes "</tr>\n"
