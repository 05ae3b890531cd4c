-- The fields of a command, written, are read again.
use Rattle.std.proofs.Common.{ℕ, ◌≡◌, ◌∙◌, ◌+◌, ◌-◌, ◌*◌, ◌/◌, ◌%◌, ◌<◌, ◌≤◌, Bool, true, false, ◌&&◌, ◌||◌, ◌==◌, nat_le, nat_lt, if◌then◌else◌, List, [], ◌∷◌, ◌++◌, Some, None, Result, Ok, Err, length, codes, refl, ap, arith, length-append, append-nil}
use Rattle.std.proofs.lemmas.Bool.Decides.{nat_tests}
use Rattle.std.specs.List.{slice_get}
use Rattle.std.specs.Str.{bytes_eq}
use Rattle.bus_word.specs.Command.{AreOfTheirWidth, count_in}
use Rattle.script_lines.specs.Digits.{is_decimal_digit, number_of, decimal_digits}
use Rattle.rt1553_tool.specs.declared.fields.CommandFields.{CommandFields}
use Rattle.rt1553_tool.specs.declared.fields.WordFields.{WordFields}
use Rattle.rt1553_tool.specs.declared.fields.WordFields.TheVariants.{Command}
use Rattle.rt1553_tool.specs.declared.word_lines.WordLineFault.{WordLineFault}
use Rattle.rt1553_tool.specs.declared.word_lines.WordLineFault.TheVariants.{Long, Address, Subaddress, Count, Code, Much}
use Rattle.rt1553_tool.specs.Fields.{in_word}
use Rattle.rt1553_tool.specs.Parts.{line_parts}
use Rattle.rt1553_tool.specs.WordLines.{SaidWord, ◌>>=◌, small_number, within, number_part, address_part, ended_at, transfer_line, direction_part, mode_subaddress_part, mode_line, by_fields, said_by_parts, word_line}
use Rattle.rt1553_tool.specs.WordTexts.{short_decimal, address_text, tr_text, mode_text, transfer_text, command_text}
use Rattle.rt1553_expand.proofs.PartsLaws.{IsPart, spaced, ArePart, parts-spaced, decimal-part, address-part, direction-part, mode-part, thirty_one-part, two-part}

-- ---- numbers

digit-is : (d : ℕ) → d < 10 → is_decimal_digit (48 + d) ≡ true
digit-is d low = grind (arith, nat_tests, low)

pub digits-read : (t d : ℕ) → t < 10 → d < 10 → number_of (48 + t) (48 + d) ≡ Some (t * 10 + d)
digits-read t d small low =
    let tens : (48 + t) - 48 ≡ t = omega arith in
    let ones : (48 + d) - 48 ≡ d = omega arith in
    ap (λ b. if b && is_decimal_digit (48 + d) then Some (((48 + t) - 48) * 10 + ((48 + d) - 48)) else None) (digit-is t small)
    ∙ ap (λ b. if b then Some (((48 + t) - 48) * 10 + ((48 + d) - 48)) else None) (digit-is d low)
    ∙ ap (λ n. Some (n * 10 + ((48 + d) - 48))) tens ∙ ap (λ n. Some (t * 10 + n)) ones

small-decimal : (n : ℕ) → n < 100 → small_number (short_decimal n) ≡ Some n
small-decimal n small = case (nat_lt n 10) refl
  where
    case : (t : Bool) → nat_lt n 10 ≡ t → small_number (if t then (48 + n) ∷ [] else (48 + n / 10) ∷ (48 + n % 10) ∷ []) ≡ Some n
    case true e =
        let low : n < 10 = grind (arith, nat_tests, e) in
        let same : 0 * 10 + n ≡ n = omega arith in
        digits-read 0 n (omega arith) low ∙ ap Some same
    case false e =
        let same : n / 10 * 10 + n % 10 ≡ n = omega arith in
        digits-read (n / 10) (n % 10) (omega (arith, small)) (omega arith) ∙ ap Some same

two-decimal : (n : ℕ) → n < 100 → small_number (decimal_digits n) ≡ Some n
two-decimal n small =
    let same : n / 10 * 10 + n % 10 ≡ n = omega arith in
    digits-read (n / 10) (n % 10) (omega (arith, small)) (omega arith) ∙ ap Some same

in-bounds : (least most n : ℕ) (fault : WordLineFault) (part : List ℕ) → small_number part ≡ Some n → least ≤ n → n ≤ most → number_part least most fault (Some part) ≡ Ok n
in-bounds least most n fault part is low high =
    let both : (nat_le least n && nat_le n most) ≡ true = grind (arith, nat_tests, low, high) in
    ap (within least most fault) is ∙ ap (λ b. if b then Ok n else Err fault) both

pub number-read : (least most n : ℕ) (fault : WordLineFault) → least ≤ n → n ≤ most → most < 100 → number_part least most fault (Some (short_decimal n)) ≡ Ok n
number-read least most n fault low high small = in-bounds least most n fault (short_decimal n) (small-decimal n (omega (arith, high, small))) low high

pub two-read : (least most n : ℕ) (fault : WordLineFault) → least ≤ n → n ≤ most → most < 100 → number_part least most fault (Some (decimal_digits n)) ≡ Ok n
two-read least most n fault low high small = in-bounds least most n fault (decimal_digits n) (two-decimal n (omega (arith, high, small))) low high

and-false : (b : Bool) → (b && false) ≡ false
and-false true = refl
and-false false = refl

-- a number is not `all`
not-all : (n : ℕ) → bytes_eq (short_decimal n) (codes "all") ≡ false
not-all n = case (nat_lt n 10)
  where
    case : (t : Bool) → bytes_eq (if t then (48 + n) ∷ [] else (48 + n / 10) ∷ (48 + n % 10) ∷ []) (codes "all") ≡ false
    case true = and-false ((48 + n) == 97)
    case false = ap (λ b. ((48 + n / 10) == 97) && b) (and-false ((48 + n % 10) == 108)) ∙ and-false ((48 + n / 10) == 97)

pub address-read : (a : ℕ) → a ≤ 31 → address_part (Some (address_text a)) ≡ Ok a
address-read a low = case (a == 31) refl
  where
    case : (t : Bool) → (a == 31) ≡ t → address_part (Some (if t then codes "all" else short_decimal a)) ≡ Ok a
    case true e = let same : 31 ≡ a = grind (arith, nat_tests, e) in ap Ok same
    case false e =
        let high : a ≤ 30 = grind (arith, nat_tests, e, low) in
        ap (λ b. if b then Ok 31 else number_part 0 30 Address (Some (short_decimal a))) (not-all a) ∙ number-read 0 30 a Address (omega arith) high (omega arith)

-- ---- the parts of a transfer

abbrev counted : List (List ℕ) → ℕ → Bool → ℕ → ℕ → Result WordFields WordLineFault
counted parts address transmit subaddress count = ended_at 4 parts (Command (record { address = address; transmit = transmit; subaddress = subaddress; low = count % 32 }))

abbrev placed : List (List ℕ) → ℕ → Bool → ℕ → Result WordFields WordLineFault
placed parts address transmit subaddress = number_part 1 32 Count (slice_get parts 3) >>= counted parts address transmit subaddress

abbrev addressed : List (List ℕ) → Bool → ℕ → Result WordFields WordLineFault
addressed parts transmit address = number_part 1 30 Subaddress (slice_get parts 2) >>= placed parts address transmit

pub transfer-read : (name : List ℕ) (transmit : Bool) (a s n : ℕ) (address subaddress count : List ℕ) → address_part (Some address) ≡ Ok a → number_part 1 30 Subaddress (Some subaddress) ≡ Ok s
    → number_part 1 32 Count (Some count) ≡ Ok n
    → transfer_line transmit (name ∷ address ∷ subaddress ∷ count ∷ []) ≡ Ok (Command (record { address = a; transmit = transmit; subaddress = s; low = n % 32 }))
transfer-read name transmit a s n address subaddress count p q r =
    let parts : List (List ℕ) = name ∷ address ∷ subaddress ∷ count ∷ [] in
    ap (λ x. x >>= addressed parts transmit) p ∙ ap (λ x. x >>= placed parts a transmit) q ∙ ap (λ x. x >>= counted parts a transmit s) r

-- ---- the parts of a mode command

abbrev at_subaddress : List (List ℕ) → ℕ → ℕ → Bool → ℕ → Result WordFields WordLineFault
at_subaddress parts address code transmit subaddress = ended_at 5 parts (Command (record { address = address; transmit = transmit; subaddress = subaddress; low = code }))

abbrev directed : List (List ℕ) → ℕ → ℕ → Bool → Result WordFields WordLineFault
directed parts address code transmit = mode_subaddress_part (slice_get parts 4) >>= at_subaddress parts address code transmit

abbrev coded : List (List ℕ) → ℕ → ℕ → Result WordFields WordLineFault
coded parts address code = direction_part code (slice_get parts 3) >>= directed parts address code

abbrev asked : List (List ℕ) → ℕ → Result WordFields WordLineFault
asked parts address = number_part 0 31 Code (slice_get parts 2) >>= coded parts address

direction-read : (code : ℕ) (transmit : Bool) → direction_part code (Some (tr_text transmit)) ≡ Ok transmit
direction-read code true = refl
direction-read code false = refl

mode-read : (transmit : Bool) (a c s : ℕ) (rest : List (List ℕ)) → a ≤ 31 → c ≤ 31 → mode_subaddress_part (slice_get rest 0) ≡ Ok s → length rest ≤ 1
    → mode_line (codes "mode" ∷ address_text a ∷ short_decimal c ∷ tr_text transmit ∷ rest) ≡ Ok (Command (record { address = a; transmit = transmit; subaddress = s; low = c }))
mode-read transmit a c s rest low small is short =
    let parts : List (List ℕ) = codes "mode" ∷ address_text a ∷ short_decimal c ∷ tr_text transmit ∷ rest in
    let few : nat_lt 5 (length parts) ≡ false = grind (arith, nat_tests, short) in
    ap (λ x. x >>= asked parts) (address-read a low) ∙ ap (λ x. x >>= coded parts a) (number-read 0 31 c Code (omega arith) small (omega arith))
    ∙ ap (λ x. x >>= directed parts a c) (direction-read c transmit) ∙ ap (λ x. x >>= at_subaddress parts a c transmit) is
    ∙ ap (λ b. if b then Err Much else Ok (Command (record { address = a; transmit = transmit; subaddress = s; low = c }))) few

-- ---- a command

pub length-decimal : (n : ℕ) → length (short_decimal n) ≤ 2
length-decimal n = case (nat_lt n 10)
  where
    case : (t : Bool) → length (if t then (48 + n) ∷ [] else (48 + n / 10) ∷ (48 + n % 10) ∷ []) ≤ 2
    case true = omega arith
    case false = omega arith

pub length-address : (a : ℕ) → length (address_text a) ≤ 3
length-address a = case (a == 31)
  where
    case : (t : Bool) → length (if t then codes "all" else short_decimal a) ≤ 3
    case true = omega arith
    case false = omega (arith, length-decimal a)

pub length-direction : (transmit : Bool) → length (tr_text transmit) ≡ 2
length-direction true = refl
length-direction false = refl

-- the line of these parts is one that is short enough
short-read : (p : List ℕ) (ps : List (List ℕ)) (x : Result SaidWord WordLineFault) → ArePart (p ∷ ps) → length (spaced p ps) ≤ 128 → said_by_parts (p ∷ ps) ≡ x → word_line (spaced p ps) ≡ x
short-read p ps x are short is =
    let few : nat_lt 128 (length (spaced p ps)) ≡ false = grind (arith, nat_tests, short) in
    ap (λ b. if b then Err Long else said_by_parts (line_parts (spaced p ps))) few ∙ ap said_by_parts (parts-spaced p ps are) ∙ is

abbrev pub SaysCommand : List ℕ → CommandFields → Type 0
SaysCommand line f = word_line line ≡ Ok (record { fields = Command f; by_fields = true })

-- `tx A S N` or `rx A S N`, with this spelling of N
counted-read : (transmit : Bool) (a s n : ℕ) (count : List ℕ) → a ≤ 31 → 1 ≤ s → s ≤ 30 → IsPart count → length count ≤ 2 → number_part 1 32 Count (Some count) ≡ Ok n
    → SaysCommand (spaced (tr_text transmit) (address_text a ∷ short_decimal s ∷ count ∷ [])) (record { address = a; transmit = transmit; subaddress = s; low = n % 32 })
counted-read transmit a s n count low some small part short is =
    short-read (tr_text transmit) (address_text a ∷ short_decimal s ∷ count ∷ []) _
    (direction-part transmit, (address-part a (omega (arith, low)), (decimal-part s (omega (arith, small)), (part, tt))))
    (omega (
      arith,
      length-append (tr_text transmit) (32 ∷ (address_text a ++ 32 ∷ (short_decimal s ++ 32 ∷ count))),
      length-append (address_text a) (32 ∷ (short_decimal s ++ 32 ∷ count)),
      length-append (short_decimal s) (32 ∷ count),
      length-direction transmit,
      length-address a,
      length-decimal s,
      short,
    ))
    (by_name transmit (ap by_fields (transfer-read (tr_text transmit) transmit a s n (address_text a) (short_decimal s) count (address-read a low) (number-read 1 30 s Subaddress some small (omega arith)) is)))
  where
    by_name : (transmit : Bool) {x : Result SaidWord WordLineFault} → by_fields (transfer_line transmit (tr_text transmit ∷ address_text a ∷ short_decimal s ∷ count ∷ [])) ≡ x
        → said_by_parts (tr_text transmit ∷ address_text a ∷ short_decimal s ∷ count ∷ []) ≡ x
    by_name true same = same
    by_name false same = same

-- a count as its field has it
count-low : (low : ℕ) → low ≤ 31 → count_in low % 32 ≡ low
count-low low small = case (low == 0) refl
  where
    case : (t : Bool) → (low == 0) ≡ t → (if t then 32 else low) % 32 ≡ low
    case true e = let none : low ≡ 0 = grind (arith, nat_tests, e) in omega (arith, none)
    case false e = omega (arith, small)

count-some : (low : ℕ) → 1 ≤ count_in low
count-some low = grind (arith, nat_tests)

count-most : (low : ℕ) → low ≤ 31 → count_in low ≤ 32
count-most low small = grind (arith, nat_tests, small)

with-low : (a : ℕ) (transmit : Bool) (s low : ℕ) (line : List ℕ) → low ≤ 31 → SaysCommand line (record { address = a; transmit = transmit; subaddress = s; low = count_in low % 32 })
    → SaysCommand line (record { address = a; transmit = transmit; subaddress = s; low = low })
with-low a transmit s low line small says = says ∙ ap (λ n. Ok (record { fields = Command (record { address = a; transmit = transmit; subaddress = s; low = n }); by_fields = true })) (count-low low small)

-- the command of a sender, behind `from`, with the count of the receiver
pub sender-read : (a s low : ℕ) → a ≤ 31 → 1 ≤ s → s ≤ 30 → low ≤ 31
    → SaysCommand (spaced (codes "tx") (address_text a ∷ short_decimal s ∷ decimal_digits (count_in low) ∷ [])) (record { address = a; transmit = true; subaddress = s; low = low })
sender-read a s low la some small ll =
    with-low a true s low (spaced (codes "tx") (address_text a ∷ short_decimal s ∷ decimal_digits (count_in low) ∷ [])) ll
    (counted-read true a s (count_in low) (decimal_digits (count_in low)) la some small (two-part (count_in low) (omega (arith, count-most low ll))) (omega arith)
    (two-read 1 32 (count_in low) Count (count-some low) (count-most low ll) (omega arith)))

transfer-says : (transmit : Bool) (a s low : ℕ) → a ≤ 31 → 1 ≤ s → s ≤ 30 → low ≤ 31
    → SaysCommand (transfer_text (record { address = a; transmit = transmit; subaddress = s; low = low })) (record { address = a; transmit = transmit; subaddress = s; low = low })
transfer-says transmit a s low la some small ll =
    with-low a transmit s low (transfer_text (record { address = a; transmit = transmit; subaddress = s; low = low })) ll
    (counted-read transmit a s (count_in low) (short_decimal (count_in low)) la some small (decimal-part (count_in low) (omega (arith, count-most low ll))) (length-decimal (count_in low))
    (number-read 1 32 (count_in low) Count (count-some low) (count-most low ll) (omega arith)))

-- `mode A CODE TR`, and with 31 behind it
mode-says : (transmit : Bool) (a c : ℕ) (t : Bool) → a ≤ 31 → c ≤ 31
    → SaysCommand (codes "mode " ++ (address_text a ++ (codes " " ++ (short_decimal c ++ (codes " " ++ (tr_text transmit ++ (if t then codes " 31" else [])))))))
    (record { address = a; transmit = transmit; subaddress = if t then 31 else 0; low = c })
mode-says transmit a c true la lc =
    short-read (codes "mode") (address_text a ∷ short_decimal c ∷ tr_text transmit ∷ codes "31" ∷ []) _
    (mode-part, (address-part a (omega (arith, la)), (decimal-part c (omega (arith, lc)), (direction-part transmit, (thirty_one-part, tt)))))
    (omega (
      arith,
      length-append (address_text a) (32 ∷ (short_decimal c ++ 32 ∷ (tr_text transmit ++ codes " 31"))),
      length-append (short_decimal c) (32 ∷ (tr_text transmit ++ codes " 31")),
      length-append (tr_text transmit) (codes " 31"),
      length-direction transmit,
      length-address a,
      length-decimal c,
    ))
    (ap by_fields (mode-read transmit a c 31 (codes "31" ∷ []) la lc refl (omega arith)))
mode-says transmit a c false la lc =
    ap (λ t. word_line (codes "mode " ++ (address_text a ++ (codes " " ++ (short_decimal c ++ (codes " " ++ t)))))) (append-nil (tr_text transmit))
    ∙ short-read (codes "mode") (address_text a ∷ short_decimal c ∷ tr_text transmit ∷ []) _
    (mode-part, (address-part a (omega (arith, la)), (decimal-part c (omega (arith, lc)), (direction-part transmit, tt))))
    (omega (
      arith,
      length-append (address_text a) (32 ∷ (short_decimal c ++ 32 ∷ tr_text transmit)),
      length-append (short_decimal c) (32 ∷ tr_text transmit),
      length-direction transmit,
      length-address a,
      length-decimal c,
    ))
    (ap by_fields (mode-read transmit a c 0 [] la lc refl (omega arith)))

-- a command that is written by its fields is read again
pub command-says : (f : CommandFields) → AreOfTheirWidth (in_word f) → SaysCommand (command_text f) f
command-says f wide = case (f.subaddress == 0) refl (f.subaddress == 31) refl
  where
    case : (t : Bool) → (f.subaddress == 0) ≡ t → (u : Bool) → (f.subaddress == 31) ≡ u → SaysCommand (if t || u then mode_text f else transfer_text f) f
    case true e true h = let none : f.subaddress ≡ 0 = grind (arith, nat_tests, e) in let high : f.subaddress ≡ 31 = grind (arith, nat_tests, h) in absurd (omega (arith, none, high))
    case true e false h =
        let none : 0 ≡ f.subaddress = grind (arith, nat_tests, e) in
        ap (λ t. word_line (codes "mode " ++ (address_text f.address ++ (codes " " ++ (short_decimal f.low ++ (codes " " ++ (tr_text f.transmit ++ (if t then codes " 31" else [])))))))) h
        ∙ mode-says f.transmit f.address f.low false wide.address wide.low
        ∙ ap (λ s. Ok (record { fields = Command (record { address = f.address; transmit = f.transmit; subaddress = s; low = f.low }); by_fields = true })) none
    case false e true h =
        let high : 31 ≡ f.subaddress = grind (arith, nat_tests, h) in
        ap (λ t. word_line (codes "mode " ++ (address_text f.address ++ (codes " " ++ (short_decimal f.low ++ (codes " " ++ (tr_text f.transmit ++ (if t then codes " 31" else [])))))))) h
        ∙ mode-says f.transmit f.address f.low true wide.address wide.low
        ∙ ap (λ s. Ok (record { fields = Command (record { address = f.address; transmit = f.transmit; subaddress = s; low = f.low }); by_fields = true })) high
    case false e false h =
        let some : 1 ≤ f.subaddress = grind (arith, nat_tests, e) in
        let small : f.subaddress ≤ 30 = grind (arith, nat_tests, h, wide.subaddress) in
        transfer-says f.transmit f.address f.subaddress f.low wide.address some small wide.low
