-- The fields of a table of results: numbers, replies, and the columns of a header.
use Rattle.std.proofs.Common.{◌≡◌, ◌≢◌, ℕ, zero, suc, ◌-◌, ◌<◌, ◌≤◌, ◌==◌, nat_le, Bool, true, false, if◌then◌else◌, Option, Some, None, option_map, take, List, [], ◌∷◌, ◌++◌, length, drop, get_or, refl, sym, ap, subst, ◌∙◌, append_assoc, arith}
use Rattle.std.proofs.Math.Logic.{⊎_elim}
use Rattle.std.specs.Str.{IsUtf8}
use Rattle.std.specs.Str.Parse.{IsNumeral}
use Rattle.std.proofs.lemmas.Fmt.{IsAscii-from_digits}
use Rattle.std.proofs.lemmas.Str.{IsUtf8-from_ascii}
use Rattle.std.proofs.lemmas.Bool.{cases_lt}
use Rattle.std.proofs.lemmas.Bool.Decides.{nat_tests}
use Rattle.std.proofs.lemmas.List.{length-append, length-drop, take_all}
use Rattle.csv.specs.Records.{field_at}
use Rattle.csv.proofs.RecordFacts.{field-none}
use Rattle.script_lines.specs.Digits.{word_of}
use Rattle.rt1553_results.specs.declared.results.Columns.{Columns}
use Rattle.rt1553_results.specs.Results.{word_then, words_said, at_most_33, IsColumn, AreColumns}
use Rattle.rt1553_results.specs.Refused.{IsMissing, HasPlaces}

pub numeral_is_text : (bs : List ℕ) → IsNumeral 10 bs → IsUtf8 bs
numeral_is_text bs is = IsUtf8-from_ascii bs (IsAscii-from_digits bs is.1)

-- ---- words

abbrev pub first_digits : List ℕ → List ℕ
first_digits rest = get_or rest 0 0 ∷ get_or rest 1 0 ∷ get_or rest 2 0 ∷ get_or rest 3 0 ∷ []

said_few : (rest : List ℕ) → length rest < 4 → words_said rest ≡ None
unfolding words_said
said_few [] few = refl
said_few (a ∷ []) few = refl
said_few (a ∷ b ∷ []) few = refl
said_few (a ∷ b ∷ c ∷ []) few = refl
said_few (a ∷ b ∷ c ∷ d ∷ rest) few = absurd (omega arith)

said_last : (rest : List ℕ) → length rest ≡ 4 → words_said rest ≡ word_then (word_of (first_digits rest)) (Some [])
unfolding words_said
said_last [] four = absurd (omega arith)
said_last (a ∷ []) four = absurd (omega arith)
said_last (a ∷ b ∷ []) four = absurd (omega arith)
said_last (a ∷ b ∷ c ∷ []) four = absurd (omega arith)
said_last (a ∷ b ∷ c ∷ d ∷ []) four = refl
said_last (a ∷ b ∷ c ∷ d ∷ e ∷ rest) four = absurd (omega arith)

said_more : (rest : List ℕ) → 4 < length rest → words_said rest ≡ (if get_or rest 4 0 == 32 then word_then (word_of (first_digits rest)) (words_said (drop 5 rest)) else None)
unfolding words_said
said_more [] more = absurd (omega arith)
said_more (a ∷ []) more = absurd (omega arith)
said_more (a ∷ b ∷ []) more = absurd (omega arith)
said_more (a ∷ b ∷ c ∷ []) more = absurd (omega arith)
said_more (a ∷ b ∷ c ∷ d ∷ []) more = absurd (omega arith)
said_more (a ∷ b ∷ c ∷ d ∷ e ∷ rest) more = refl

no_word_then : (o : Option (List ℕ)) → word_then None o ≡ None
no_word_then None = refl
no_word_then (Some words) = refl

if_none : (b : Bool) → (let n : Option (List ℕ) = None in if b then n else n) ≡ None
if_none true = refl
if_none false = refl

-- without a word there is nothing
pub said_wrong : (rest : List ℕ) → 4 ≤ length rest → word_of (first_digits rest) ≡ None → words_said rest ≡ None
said_wrong rest long wrong = by_length (length rest == 4) refl
  where
    by_length : (b : Bool) → (length rest == 4) ≡ b → words_said rest ≡ None
    by_length true e = said_last rest (grind (arith, nat_tests)) ∙ ap (λ o. word_then o (Some [])) wrong
    by_length false e =
        said_more rest (grind (arith, nat_tests))
        ∙ ap (λ (o : Option (List ℕ)). if get_or rest 4 0 == 32 then o else None) (ap (λ o. word_then o (words_said (drop 5 rest))) wrong ∙ no_word_then (words_said (drop 5 rest)))
        ∙ if_none (get_or rest 4 0 == 32)

pub said_apart : (rest : List ℕ) → 4 < length rest → get_or rest 4 0 ≢ 32 → words_said rest ≡ None
said_apart rest long apart = said_more rest long ∙ ap (λ b. if b then word_then (word_of (first_digits rest)) (words_said (drop 5 rest)) else None) (let no : (get_or rest 4 0 == 32) ≡ false = grind (arith, nat_tests) in no)

then_some : (o : Option ℕ) (p : Option (List ℕ)) (words : List ℕ) → word_then o p ≡ Some words → 1 ≤ length words
then_some None None words e = cc e
then_some None (Some more) words e = cc e
then_some (Some word) None words e = cc e
then_some (Some word) (Some more) words e = let is : word ∷ more ≡ words = cc e in subst (λ ws. 1 ≤ length ws) is (omega arith)

if_some : (b : Bool) (o : Option ℕ) (p : Option (List ℕ)) (words : List ℕ) → (if b then word_then o p else None) ≡ Some words → 1 ≤ length words
if_some true o p words e = then_some o p words e
if_some false o p words e = cc e

-- what is said has a word
said_some : (rest words : List ℕ) → words_said rest ≡ Some words → 1 ≤ length words
unfolding words_said
said_some [] words e = cc e
said_some (a ∷ []) words e = cc e
said_some (a ∷ b ∷ []) words e = cc e
said_some (a ∷ b ∷ c ∷ []) words e = cc e
said_some (a ∷ b ∷ c ∷ d ∷ []) words e = then_some (word_of (a ∷ b ∷ c ∷ d ∷ [])) (Some []) words e
said_some (a ∷ b ∷ c ∷ d ∷ s ∷ rest) words e = if_some (s == 32) (word_of (a ∷ b ∷ c ∷ d ∷ [])) (words_said rest) words e

-- words that were read, before those that are said
abbrev pub behind : List ℕ → Option (List ℕ) → Option (List ℕ)
behind words o = option_map (λ more. words ++ more) o

pub refused : (words : List ℕ) (said all : Option (List ℕ)) → behind words said ≡ all → said ≡ None → None ≡ at_most_33 all
refused words said all is none = ap at_most_33 (sym (ap (behind words) none) ∙ is)

pub too_few : (words rest : List ℕ) (all : Option (List ℕ)) → behind words (words_said rest) ≡ all → length rest < 4 → None ≡ at_most_33 all
too_few words rest all is few = refused words (words_said rest) all is (said_few rest few)

pub too_many : (words rest : List ℕ) (all : Option (List ℕ)) → behind words (words_said rest) ≡ all → 33 ≤ length words → None ≡ at_most_33 all
too_many words rest all is full = by_said (words_said rest) refl ∙ ap at_most_33 is
  where
    by_said : (said : Option (List ℕ)) → words_said rest ≡ said → None ≡ at_most_33 (behind words said)
    by_said None e = refl
    by_said (Some more) e =
        let some : 1 ≤ length more = said_some rest more e in
        let long : nat_le (length (words ++ more)) 33 ≡ false = simp length-append (grind (arith, nat_tests)) in
        sym (ap (λ b. if b then Some (words ++ more) else None) long)

pub last_word : (words rest : List ℕ) (all : Option (List ℕ)) (word : ℕ) → behind words (words_said rest) ≡ all → length rest ≡ 4 → word_of (first_digits rest) ≡ Some word → length words < 33
    → Some (words ++ word ∷ []) ≡ at_most_33 all
last_word words rest all word is four there room =
    let said : words_said rest ≡ Some (word ∷ []) = said_last rest four ∙ ap (λ o. word_then o (Some [])) there in
    let few : nat_le (length (words ++ word ∷ [])) 33 ≡ true = simp length-append (grind (arith, nat_tests)) in
    sym (ap (λ b. if b then Some (words ++ word ∷ []) else None) few) ∙ ap at_most_33 (sym (ap (behind words) said) ∙ is)

pub next_word : (words rest : List ℕ) (all : Option (List ℕ)) (word : ℕ) → behind words (words_said rest) ≡ all → 4 < length rest → word_of (first_digits rest) ≡ Some word → get_or rest 4 0 ≡ 32
    → behind (words ++ word ∷ []) (words_said (drop 5 rest)) ≡ all
next_word words rest all word is long there space =
    let test : (get_or rest 4 0 == 32) ≡ true = grind (arith, nat_tests) in
    let said : words_said rest ≡ word_then (Some word) (words_said (drop 5 rest)) =
    said_more rest long ∙ (λ j. if test j then word_then (there j) (words_said (drop 5 rest)) else None) in
    by_more (words_said (drop 5 rest)) ∙ (sym (ap (behind words) said) ∙ is)
  where
    by_more : (more : Option (List ℕ)) → behind (words ++ word ∷ []) more ≡ behind words (word_then (Some word) more)
    by_more None = refl
    by_more (Some more) = ap Some (append_assoc words (word ∷ []) more)

-- the same where what is left is taken whole
pub next_word_of : (words rest : List ℕ) (all : Option (List ℕ)) (word : ℕ) → behind words (words_said rest) ≡ all → 4 < length rest → word_of (first_digits rest) ≡ Some word → get_or rest 4 0 ≡ 32
    → behind (words ++ word ∷ []) (words_said (take (length rest - 5) (drop 5 rest))) ≡ all
next_word_of words rest all word is long there space =
    let whole : take (length rest - 5) (drop 5 rest) ≡ drop 5 rest = take_all (length rest - 5) (drop 5 rest) (omega (arith, length-drop 5 rest)) in
    ap (λ more. behind (words ++ word ∷ []) (words_said more)) whole ∙ next_word words rest all word is long there space

-- ---- columns

-- what is found of a name in the fields before a place
abbrev pub Found : List (List ℕ) → List ℕ → ℕ → Option ℕ → Type 0
Found header name place None = (k : ℕ) → k < place → field_at header k ≡ Some name → ⊥
Found header name place (Some found) = (field_at header found ≡ Some name) × ((k : ℕ) → k < place → field_at header k ≡ Some name → k ≡ found) × (found < place)

none_past : (header : List (List ℕ)) (name : List ℕ) (place k : ℕ) → length header ≤ place → place ≤ k → field_at header k ≡ Some name → ⊥
none_past header name place k all past there = let no : field_at header k ≡ None = field-none header k (omega (arith, all, past)) in cc (sym no ∙ there)

pub found_column : (header : List (List ℕ)) (name : List ℕ) (place found : ℕ) → length header ≤ place → Found header name place (Some found) → IsColumn name header found
found_column header name place found all before = record {
  there = before.0;
  alone = (λ k there. ⊎_elim (λ below. before.1 k below there) (λ past. absurd (none_past header name place k all past there)) (cases_lt k place));
}

pub found_none : (header : List (List ℕ)) (name : List ℕ) (place : ℕ) → length header ≤ place → Found header name place None → IsMissing name header
found_none header name place all before k there = ⊎_elim (λ below. before k below there) (λ past. none_past header name place k all past there) (cases_lt k place)

-- ---- the fields of a row

field_in : (fields : List (List ℕ)) (k : ℕ) (field : List ℕ) → field_at fields k ≡ Some field → k < length fields
field_in fields k field there = ⊎_elim (λ below. below) (λ past. absurd (none_past fields field (length fields) k (omega arith) past there)) (cases_lt k (length fields))

pub has_places : (header : List (List ℕ)) (columns : Columns) → AreColumns header columns → HasPlaces columns
has_places header columns are = (
  subst (λ n. columns.number < n) (sym are.width) (field_in header columns.number _ are.number.there),
  subst (λ n. columns.reply < n) (sym are.width) (field_in header columns.reply _ are.reply.there),
)

pub field_there : (fields : List (List ℕ)) (k : ℕ) → k < length fields → field_at fields k ≡ None → ⊥
unfolding field_at
field_there [] k few none = omega (arith, few)
field_there (f ∷ fields) zero few none = cc none
field_there (f ∷ fields) (suc k) few none = field_there fields k (omega (arith, few)) none
