-- Laws of the ways for all flags that the next status word can show.
use Rattle.std.proofs.Common.{◌≡◌, ◌∙◌, ℕ, suc, ◌+◌, ◌<◌, ◌≤◌, ◌^◌, arith, Bool, true, false, length, map, ◌⊎◌, inl, inr, Option, Some, None, List, [], ◌∷◌, ◌++◌, refl, sym, ap, subst, take, get_or, add-one}
use Rattle.std.proofs.lemmas.List.{map-append, length-map, get_or_default}
use Rattle.std.specs.List.{AllByRecursion}
use Rattle.bus_word.specs.declared.word.Bus.TheVariants.{A}
use Rattle.bus_word.specs.declared.word.Kind.TheVariants.{Com}
use Rattle.bus_word.specs.declared.cell.Cell.{Cell}
use Rattle.bus_legal.specs.Description.{Description}
use Rattle.terminal_rules.specs.declared.event.Event.{Event}
use Rattle.terminal_rules.specs.declared.event.Event.TheVariants.{Slot}
use Rattle.terminal_rules.specs.declared.event.Flag.{Flag}
use Rattle.terminal_rules.specs.declared.event.Flag.TheVariants.{Service, Busy, Subsystem, Terminal}
use Rattle.terminal_recordings.specs.Recordings.{Sighting, IsRecording}
use Rattle.terminal_recordings.specs.Completion.{next_status, flag_bit, flag_shown}
use Rattle.recorded_terminal.specs.declared.flag_ways.FlagWays.{FlagWays}
use Rattle.recorded_terminal.specs.declared.watch.Marked.{Marked}
use Rattle.recorded_terminal.specs.declared.watch.Unexplained.{Unexplained}
use Rattle.recorded_terminal.specs.declared.way.Way.{Way}
use Rattle.recorded_terminal.specs.Follows.{ShowTheSame}
use Rattle.recorded_terminal.specs.Marks.{seen_in}
use Rattle.recorded_terminal.specs.Ways.{AnyOf, EachBy, AreWays, WayIsAt, Goes, CanGoOn}
use Rattle.recorded_terminal.specs.Watched.{IsUnexplainedAt, LeadOn, LeadOnBy, LeadOnByFlags}
use Rattle.recorded_terminal.specs.inner.Steps.{AreCopies}
use Rattle.recorded_terminal.specs.inner.Followed.{AreFollowed, EndsAt}
use Rattle.recorded_terminal.proofs.WayLaws.{all_first, all_last, all_join, any_first, any_last, any_parts, one_longer, cut_of, take_more}
use Rattle.recorded_terminal.proofs.WatchLaws.{before_later, leads_waiting, leads_same, leads_copies, found_in}

-- ---- copies

pub copies_more : {L : Type 0} (is_legal : L → Cell → Bool) (olds news : List (Way L)) (w c : Way L) → AreCopies is_legal olds news → ((P : Description) (h : List Event) → WayIsAt is_legal P h w → WayIsAt is_legal P h c) → AreCopies is_legal (olds ++ w ∷ []) (news ++ c ∷ [])
copies_more is_legal olds news w c are copies = record {
  goes = λ P h ms x.
      let g = (all_last (Goes is_legal P h ms) olds (w ∷ []) x).0 in
      all_join (Goes is_legal P h ms) news (c ∷ []) (are.goes P h ms (all_first (Goes is_legal P h ms) olds (w ∷ []) x)) ((g.0, copies P g.0 g.1, g.2), tt);
  goes_on = λ P more x. elim (any_parts (CanGoOn is_legal P more) olds (w ∷ []) x) [
    | inl y ↦ any_first (CanGoOn is_legal P more) news (c ∷ []) (are.goes_on P more y)
    | inr y ↦ any_last (CanGoOn is_legal P more) news (c ∷ []) (elim y [ inl z ↦ inl (z.0, copies P z.0 z.1, z.2) | inr z ↦ absurd z ])
  ];
  long = omega (arith, are.long, one_longer olds w, one_longer news c);
}

-- ---- the choices of flags

-- a status word for each
abbrev pub status_words : List ℕ
status_words = 0 ∷ 1 ∷ 4 ∷ 5 ∷ 8 ∷ 9 ∷ 12 ∷ 13 ∷ 256 ∷ 257 ∷ 260 ∷ 261 ∷ 264 ∷ 265 ∷ 268 ∷ 269 ∷ []

-- one of them, of 16 bits, shows the flags of this word
covers : (bits : ℕ) → AnyOf (λ word. (word < 2 ^ 16) × ShowTheSame (Some bits) (Some word)) status_words
covers bits = by (flag_bit Service bits) (flag_bit Busy bits) (flag_bit Subsystem bits) (flag_bit Terminal bits) refl refl refl refl
  where
    all : (word : ℕ) → flag_bit Service bits ≡ flag_bit Service word → flag_bit Busy bits ≡ flag_bit Busy word → flag_bit Subsystem bits ≡ flag_bit Subsystem word → flag_bit Terminal bits ≡ flag_bit Terminal word → ShowTheSame (Some bits) (Some word)
    all word s b u t Service = s
    all word s b u t Busy = b
    all word s b u t Subsystem = u
    all word s b u t Terminal = t

    by : (s b u t : Bool) → flag_bit Service bits ≡ s → flag_bit Busy bits ≡ b → flag_bit Subsystem bits ≡ u → flag_bit Terminal bits ≡ t → AnyOf (λ word. (word < 2 ^ 16) × ShowTheSame (Some bits) (Some word)) status_words
    by false false false false p q r x = inl (omega arith, all 0 p q r x)
    by false false false true p q r x = inr (inl (omega arith, all 1 p q r x))
    by false false true false p q r x = inr (inr (inl (omega arith, all 4 p q r x)))
    by false false true true p q r x = inr (inr (inr (inl (omega arith, all 5 p q r x))))
    by false true false false p q r x = inr (inr (inr (inr (inl (omega arith, all 8 p q r x)))))
    by false true false true p q r x = inr (inr (inr (inr (inr (inl (omega arith, all 9 p q r x))))))
    by false true true false p q r x = inr (inr (inr (inr (inr (inr (inl (omega arith, all 12 p q r x)))))))
    by false true true true p q r x = inr (inr (inr (inr (inr (inr (inr (inl (omega arith, all 13 p q r x))))))))
    by true false false false p q r x = inr (inr (inr (inr (inr (inr (inr (inr (inl (omega arith, all 256 p q r x)))))))))
    by true false false true p q r x = inr (inr (inr (inr (inr (inr (inr (inr (inr (inl (omega arith, all 257 p q r x))))))))))
    by true false true false p q r x = inr (inr (inr (inr (inr (inr (inr (inr (inr (inr (inl (omega arith, all 260 p q r x)))))))))))
    by true false true true p q r x = inr (inr (inr (inr (inr (inr (inr (inr (inr (inr (inr (inl (omega arith, all 261 p q r x))))))))))))
    by true true false false p q r x = inr (inr (inr (inr (inr (inr (inr (inr (inr (inr (inr (inr (inl (omega arith, all 264 p q r x)))))))))))))
    by true true false true p q r x = inr (inr (inr (inr (inr (inr (inr (inr (inr (inr (inr (inr (inr (inl (omega arith, all 265 p q r x))))))))))))))
    by true true true false p q r x = inr (inr (inr (inr (inr (inr (inr (inr (inr (inr (inr (inr (inr (inr (inl (omega arith, all 268 p q r x)))))))))))))))
    by true true true true p q r x = inr (inr (inr (inr (inr (inr (inr (inr (inr (inr (inr (inr (inr (inr (inr (inl (omega arith, all 269 p q r x))))))))))))))))

-- the first so many, and the next
pub word_more : (n : ℕ) → n < length status_words → take n status_words ++ get_or status_words n 0 ∷ [] ≡ take (n + 1) status_words
word_more n within =
    let word : ℕ = get_or status_words n 0 in
    sym (take_more status_words n word (cut_of status_words n word within (get_or_default status_words n 0 word within))) ∙ (λ j. take (sym (add-one n) j) status_words)

-- ways for each of them are for every status word
every_by : {L : Type 0} (parts : List (FlagWays L)) → map (λ o. o.status) parts ≡ status_words → (bits : ℕ) → AnyOf (λ o. ShowTheSame (Some bits) (Some o.status)) parts
every_by {L = L} parts are bits = on parts (subst (AnyOf (λ word. (word < 2 ^ 16) × ShowTheSame (Some bits) (Some word))) (sym are) (covers bits))
  where
    on : (ps : List (FlagWays L)) → AnyOf (λ word. (word < 2 ^ 16) × ShowTheSame (Some bits) (Some word)) (map (λ o. o.status) ps) → AnyOf (λ o. ShowTheSame (Some bits) (Some o.status)) ps
    on [] x = x
    on (p ∷ ps) (inl x) = inl x.1
    on (p ∷ ps) (inr x) = inr (on ps x)

-- some recording of 16 bits shows the flags of a status word next
shown_later : (bits : ℕ) → (later : List Sighting) × IsRecording later × ShowTheSame (next_status later) (Some bits)
shown_later bits = by status_words (covers bits)
  where
    by : (words : List ℕ) → AnyOf (λ word. (word < 2 ^ 16) × ShowTheSame (Some bits) (Some word)) words → (later : List Sighting) × IsRecording later × ShowTheSame (next_status later) (Some bits)
    by [] x = absurd x
    by (word ∷ words) (inl x) =
        (record { event = Slot; sent = Some (record { kind = Com; bus = A; bits = word }) } ∷ [], (record { seen = refl; proper = tt; bits = x.0 }, tt), λ f. sym (x.1 f))
    by (word ∷ words) (inr x) = by words x

-- ---- parting

-- so far
pub record ArePartedBy {L : Type 0} (is_legal : L → Cell → Bool) (ways : List (Way L)) (words : List ℕ) (parts : List (FlagWays L)) : Type 0 where
  pub are : map (λ o. o.status) parts ≡ words
  pub each : AllByRecursion (λ o. AreCopies is_legal ways o.ways.items) parts

pub none_parted : {L : Type 0} (is_legal : L → Cell → Bool) (ways : List (Way L)) → ArePartedBy is_legal ways [] []
none_parted is_legal ways = record { are = refl; each = tt }

pub one_parted : {L : Type 0} (is_legal : L → Cell → Bool) (ways : List (Way L)) (words : List ℕ) (parts : List (FlagWays L)) (o : FlagWays L) → ArePartedBy is_legal ways words parts → AreCopies is_legal ways o.ways.items → ArePartedBy is_legal ways (words ++ o.status ∷ []) (parts ++ o ∷ [])
one_parted is_legal ways words parts o parted copies = record {
  are = map-append (λ p. p.status) parts (o ∷ []) ∙ ap (λ l. l ++ o.status ∷ []) parted.are;
  each = all_join (λ p. AreCopies is_legal ways p.ways.items) parts (o ∷ []) parted.each (copies, tt);
}

pub all_parted : {L : Type 0} (is_legal : L → Cell → Bool) (P : Description) (h : List Event) (ms : List Marked) (ways : List (Way L)) (parts : List (FlagWays L)) → ArePartedBy is_legal ways status_words parts → ((status : Option ℕ) → LeadOn is_legal P h ms status ways) →
    LeadOnByFlags is_legal P h ms parts
all_parted {L = L} is_legal P h ms ways parts parted leads = record { each = on parts parted.each; every = every_by parts parted.are; few = omega (arith, sym (length-map parts (λ o. o.status)) ∙ ap length parted.are) }
  where
    on : (ps : List (FlagWays L)) → AllByRecursion (λ o. AreCopies is_legal ways o.ways.items) ps → AllByRecursion (λ o. LeadOn is_legal P h ms (Some o.status) o.ways.items) ps
    on [] x = tt
    on (p ∷ ps) (x, xs) = (leads_copies is_legal P h ms (Some p.status) ways p.ways.items x (leads (Some p.status)), on ps xs)

-- where they are parted already
pub are_parted : {L : Type 0} (is_legal : L → Cell → Bool) (P : Description) (h : List Event) (ms : List Marked) (ways : List (Way L)) (parts : List (FlagWays L)) → (parts ≡ [] → ⊥) → LeadOnBy is_legal P h ms ways parts → LeadOnByFlags is_legal P h ms parts
are_parted is_legal P h ms ways [] some leads = absurd (some refl)
are_parted is_legal P h ms ways (p ∷ ps) some leads = leads

-- ---- choosing

-- the ways lead on for this status word, or one of the parts is for it
pub record IsChosen {L : Type 0} (is_legal : L → Cell → Bool) (P : Description) (h : List Event) (ms : List Marked) (status : Option ℕ) (ways : List (Way L)) (parts : List (FlagWays L)) : Type 0 where
  pub each : AllByRecursion (λ o. LeadOn is_legal P h ms (Some o.status) o.ways.items) parts
  pub found : LeadOn is_legal P h ms status ways ⊎ AnyOf (λ o. ShowTheSame status (Some o.status)) parts

pub chosen_from : {L : Type 0} (is_legal : L → Cell → Bool) (P : Description) (h : List Event) (ms : List Marked) (status : Option ℕ) (ways : List (Way L)) (parts : List (FlagWays L)) → LeadOnBy is_legal P h ms ways parts → IsChosen is_legal P h ms status ways parts
chosen_from {L = L} is_legal P h ms status ways [] leads = record { each = tt; found = inl (leads status) }
chosen_from {L = L} is_legal P h ms (Some bits) ways (p ∷ ps) leads = record { each = leads.each; found = inr (leads.every bits) }
chosen_from {L = L} is_legal P h ms None ways (p ∷ ps) leads = record { each = leads.each; found = inr (shown (p ∷ ps) (leads.every 0)) }
  where
    shown : (parts : List (FlagWays L)) → AnyOf (λ o. ShowTheSame (Some 0) (Some o.status)) parts → AnyOf (λ o. ShowTheSame None (Some o.status)) parts
    shown [] x = x
    shown (o ∷ parts) (inl x) = inl (λ f. none f ∙ x f)
      where
        none : (f : Flag) → flag_shown None f ≡ flag_shown (Some 0) f
        none Service = refl
        none Busy = refl
        none Subsystem = refl
        none Terminal = refl
    shown (o ∷ parts) (inr x) = inr (shown parts x)

-- the last part is for it
pub chosen_here : {L : Type 0} (is_legal : L → Cell → Bool) (P : Description) (h : List Event) (ms : List Marked) (status : Option ℕ) (ways : List (Way L)) (parts : List (FlagWays L)) (o : FlagWays L) → ShowTheSame status (Some o.status) →
    IsChosen is_legal P h ms status ways (parts ++ o ∷ []) → IsChosen is_legal P h ms status o.ways.items parts
chosen_here is_legal P h ms status ways parts o same s = record {
  each = all_first (λ p. LeadOn is_legal P h ms (Some p.status) p.ways.items) parts (o ∷ []) s.each;
  found = inl (leads_same is_legal P h ms status (Some o.status) o.ways.items same (all_last (λ p. LeadOn is_legal P h ms (Some p.status) p.ways.items) parts (o ∷ []) s.each).0);
}

-- or is not
pub chosen_before : {L : Type 0} (is_legal : L → Cell → Bool) (P : Description) (h : List Event) (ms : List Marked) (status : Option ℕ) (ways : List (Way L)) (parts : List (FlagWays L)) (o : FlagWays L) → (ShowTheSame status (Some o.status) → ⊥) →
    IsChosen is_legal P h ms status ways (parts ++ o ∷ []) → IsChosen is_legal P h ms status ways parts
chosen_before is_legal P h ms status ways parts o other s = record {
  each = all_first (λ p. LeadOn is_legal P h ms (Some p.status) p.ways.items) parts (o ∷ []) s.each;
  found = elim s.found [
    | inl x ↦ inl x
    | inr x ↦ elim (any_parts (λ p. ShowTheSame status (Some p.status)) parts (o ∷ []) x) [
      | inl y ↦ inr y
      | inr y ↦ elim y [ inl z ↦ absurd (other z) | inr z ↦ absurd z ]
    ]
  ];
}

pub chosen_ways : {L : Type 0} (is_legal : L → Cell → Bool) (P : Description) (h : List Event) (ms : List Marked) (status : Option ℕ) (ways : List (Way L)) → IsChosen is_legal P h ms status ways [] → LeadOn is_legal P h ms status ways
chosen_ways is_legal P h ms status ways s = elim s.found [ inl x ↦ x | inr x ↦ absurd x ]

-- ---- following

-- a part with these sightings more, wherever so many came before them, and it led on
abbrev pub PartFollows : {L : Type 0} → (L → Cell → Bool) → ℕ → List Marked → FlagWays L → FlagWays L → Type 0
PartFollows is_legal n ws old new =
    (new.status ≡ old.status)
    × (n + length ws < 2 ^ 64 → next_status (seen_in ws) ≡ None → (P : Description) (h : List Event) (ms : List Marked) → P.address ≤ 30 → LeadOn is_legal P h ms (Some old.status) old.ways.items → LeadOn is_legal P h (ms ++ ws) (Some old.status) new.ways.items)

pub part_follows : {L : Type 0} (is_legal : L → Cell → Bool) (ws : List Marked) (n : ℕ) (o p : FlagWays L) → p.status ≡ o.status →
    ((P : Description) (h : List Event) (ms : List Marked) → P.address ≤ 30 → n + length ws < 2 ^ 64 → AreWays is_legal P h ms o.ways.items → AreFollowed is_legal P h ms (Some o.status) ws o.ways.items p.ways.items) → PartFollows is_legal n ws o p
part_follows is_legal ws n o p same followed =
    (same, λ bound none P h ms low i. leads_waiting is_legal P h ms ws (Some o.status) o.ways.items p.ways.items i (followed P h ms low bound i.ways) none)

pub parts_follow : {L : Type 0} (is_legal : L → Cell → Bool) (P : Description) (h : List Event) (ms ws : List Marked) (n : ℕ) (olds news : List (FlagWays L)) → P.address ≤ 30 → n + length ws < 2 ^ 64 → next_status (seen_in ws) ≡ None → EachBy (PartFollows is_legal n ws) olds news → LeadOnByFlags is_legal P h ms olds → LeadOnByFlags is_legal P h (ms ++ ws) news
parts_follow {L = L} is_legal P h ms ws n olds news low bound none follows leads = record { each = each olds news follows leads.each; every = λ bits. every bits olds news follows (leads.every bits); few = omega (arith, long olds news follows, leads.few) }
  where
    each : (os ps : List (FlagWays L)) → EachBy (PartFollows is_legal n ws) os ps → AllByRecursion (λ o. LeadOn is_legal P h ms (Some o.status) o.ways.items) os → AllByRecursion (λ o. LeadOn is_legal P h (ms ++ ws) (Some o.status) o.ways.items) ps
    each [] [] f x = tt
    each [] (p ∷ ps) f x = absurd f
    each (o ∷ os) [] f x = absurd f
    each (o ∷ os) (p ∷ ps) (f, fs) (x, xs) = (subst (λ s. LeadOn is_legal P h (ms ++ ws) (Some s) p.ways.items) (sym f.0) (f.1 bound none P h ms low x), each os ps fs xs)

    long : (os ps : List (FlagWays L)) → EachBy (PartFollows is_legal n ws) os ps → length ps ≡ length os
    long [] [] f = refl
    long [] (p ∷ ps) f = absurd f
    long (o ∷ os) [] f = absurd f
    long (o ∷ os) (p ∷ ps) (f, fs) = ap suc (long os ps fs)

    every : (bits : ℕ) (os ps : List (FlagWays L)) → EachBy (PartFollows is_legal n ws) os ps → AnyOf (λ o. ShowTheSame (Some bits) (Some o.status)) os → AnyOf (λ o. ShowTheSame (Some bits) (Some o.status)) ps
    every bits [] [] f x = x
    every bits [] (p ∷ ps) f x = absurd f
    every bits (o ∷ os) [] f x = absurd f
    every bits (o ∷ os) (p ∷ ps) (f, fs) (inl x) = inl (subst (λ s. ShowTheSame (Some bits) (Some s)) (sym f.0) x)
    every bits (o ∷ os) (p ∷ ps) (f, fs) (inr x) = inr (every bits os ps fs x)

-- what is found on the ways for one choice of flags no choice explains
pub found_by_flags : {L : Type 0} (is_legal : L → Cell → Bool) (P : Description) (h : List Event) (ms ws : List Marked) (n bits : ℕ) (olds : List (Way L)) (it : Unexplained) → n ≡ length ms → next_status (seen_in ws) ≡ None →
    LeadOn is_legal P h ms (Some bits) olds → EndsAt is_legal P h ms n (Some bits) ws olds it → IsUnexplainedAt P h (ms ++ ws) it
found_by_flags is_legal P h ms ws n bits olds it counted none leads ends =
    let s = shown_later bits in
    found_in is_legal P h ms ws n (Some bits) s.0 olds it s.1 (before_later ws (Some bits) s.0 none s.2) counted leads ends
