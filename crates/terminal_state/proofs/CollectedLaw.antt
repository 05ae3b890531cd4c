-- What a terminal keeps of a message in progress, after one event more.
use Rattle.std.proofs.Common.{◌≡◌, ℕ, ◌+◌, ◌≤◌, ◌<◌, Bool, true, false, not, ◌&&◌, ◌==◌, if◌then◌else◌, Option, Some, None, List, [], ◌∷◌, ◌++◌, length, refl, ap, sym, ◌∙◌, ne_eqb, arith, nat_le, nat_lt}
use Rattle.std.proofs.lemmas.Bool.Decides.{nat_tests}
use Rattle.std.proofs.lemmas.Bool.{leb-false}
use Rattle.std.proofs.lemmas.List.{length-append}
use Rattle.bus_word.specs.declared.word.Kind.{Kind}
use Rattle.bus_word.specs.declared.word.Kind.TheVariants.{Com, Dat}
use Rattle.bus_word.specs.declared.word.Raw.{Raw}
use Rattle.bus_word.specs.Word.{is_command_sync, is_data_sync, is_valid}
use Rattle.bus_word.specs.Command.{address_of, transmits, is_receive, code_of, count_of, is_mode, is_broadcast, expected}
use Rattle.bus_legal.specs.Description.{Description}
use Rattle.terminal_rules.specs.History.{Entry}
use Rattle.terminal_rules.specs.Open.{Open, Idle, Collects, Waits, Resumes, transmitter, is_status_of, transfer}
use Rattle.terminal_rules.specs.Starts.{is_free, is_fresh_broadcast}
use Rattle.terminal_rules.specs.Ends.{data_words, with_word, data_of, if_expected, complete, at_gap, at_entry, ends_with}
use Rattle.terminal_state.specs.Standing.{Collected, Words, Transmitter, Spoilt, lone_transmitter, transmitter_or_spoilt, few, collected_by, collected_of, standing_of, next, whole_of, transfer_of, gap_ends, gap_end_of, ending_at, waits_for, gap_leaves, entry_leaves, entry_fails, fails, fresh_in, is_broadcast_receive, stands_fresh}
use Rattle.terminal_rules.proofs.OpenLaw.{after_gap, after_entry, waits}

few_more : (ds : List ℕ) (d : ℕ) (a : Option ℕ) → few (ds ++ d ∷ []) ≡ next (few ds) (Some d) a
few_more ds d a =
    let grows : length (ds ++ d ∷ []) ≡ length ds + 1 = simp length-append in
    rw grows (room_law ds d a (nat_le (length ds) 32) (nat_lt (length ds) 32) (nat_le (length ds + 1) 32) refl refl refl)
  where
    room_law : (ds : List ℕ) (d : ℕ) (a : Option ℕ) (p q r : Bool) → nat_le (length ds) 32 ≡ p → nat_lt (length ds) 32 ≡ q → nat_le (length ds + 1) 32 ≡ r →
        (if nat_le (length ds + 1) 32 then Words (ds ++ d ∷ []) else Spoilt) ≡ next (few ds) (Some d) a
    room_law ds d a p q r x y z = grind (arith, nat_tests)

-- behind data words, what is none spoils them
spoilt_test : (b : Bool) (e : ℕ) (es : List ℕ) (a : Option ℕ) → next (if b then Words (e ∷ es) else Spoilt) None a ≡ Spoilt
spoilt_test true e es a = refl
spoilt_test false e es a = refl

spoilt_behind : (es : List ℕ) (e : ℕ) (a : Option ℕ) → next (few (es ++ e ∷ [])) None a ≡ Spoilt
spoilt_behind [] e a = refl
spoilt_behind (f ∷ es) e a = spoilt_test (nat_le (length (f ∷ es ++ e ∷ [])) 32) f (es ++ e ∷ []) a

-- one entry more behind one or more
pair_law : (P : Description) (x y : Entry) (ys : List Entry) (m : Option (List ℕ)) (k l : Option ℕ) (a : Option ℕ) →
    collected_by P (x ∷ y ∷ ys) (with_word (with_word m k) l) ≡ next (collected_by P (y ∷ ys) (with_word m k)) l a
pair_law P x y ys None k l a = elim (lone_transmitter P (y ∷ ys)) as (λ q. Spoilt ≡ next (transmitter_or_spoilt q) l a) [ None ↦ refl | Some b ↦ refl ]
pair_law P x y ys (Some es) None l a = elim (lone_transmitter P (y ∷ ys)) as (λ q. Spoilt ≡ next (transmitter_or_spoilt q) l a) [ None ↦ refl | Some b ↦ refl ]
pair_law P x y ys (Some es) (Some e) None a = sym (spoilt_behind es e a)
pair_law P x y ys (Some es) (Some e) (Some d) a = few_more (es ++ e ∷ []) d a

one_law : (P : Description) (x : Entry) (k : Option ℕ) → collected_by P (x ∷ []) (with_word (Some []) k) ≡ next (Words []) k (transmitter P x)
one_law P x None = refl
one_law P x (Some d) = refl

-- what was collected, with one entry more
pub collected_step : (P : Description) (x : Entry) (xs : List Entry) → collected_of P (x ∷ xs) ≡ next (collected_of P xs) (data_of x.word) (transmitter P x)
collected_step P x [] = one_law P x (data_of x.word)
collected_step P x (y ∷ ys) = pair_law P x y ys (data_words ys) (data_of y.word) (data_of x.word) (transmitter P x)

-- an entry is a data word, or a command to a transmitter, and not both
abbrev Apart : Option ℕ → Option ℕ → Type 0
Apart None a = Unit {0}
Apart (Some d) a = a ≡ None

apart_kind : (k : Kind) (v m : Bool) (b a : ℕ) → Apart (if is_data_sync k && v then Some b else None) (if is_command_sync k && v && m then Some a else None)
apart_kind Com v m b a = tt
apart_kind Dat true m b a = refl
apart_kind Dat false m b a = tt

apart_word : (P : Description) (x : Entry) (w : Option Raw) → x.word ≡ w → Apart (data_of x.word) (transmitter P x)
apart_word P x None e = rw e tt
apart_word P x (Some w) e = rw e (apart_kind w.kind (is_valid w) (transmits w.bits && (not (address_of w.bits == P.address) && not (is_broadcast w.bits))) w.bits (address_of w.bits))

few_no_transfer : (c : ℕ) (ds : List ℕ) → None ≡ transfer_of c (few ds)
few_no_transfer c ds = elim (nat_le (length ds) 32) as (λ b. None ≡ transfer_of c (if b then Words ds else Spoilt)) [ true ↦ refl | false ↦ refl ]

abbrev alone : ℕ → Bool → Option ℕ → Option (ℕ × ℕ)
alone c r None = None
alone c r (Some a) = if r then Some (c, a) else None

alone_is : (P : Description) (c : ℕ) (x : Entry) → transfer P (Some (c, x ∷ [])) ≡ alone c (is_receive c) (transmitter P x)
alone_is P c x = elim (is_receive c) as (λ r. (if r then (elim (transmitter P x) [ None ↦ None | Some a ↦ Some (c, a) ]) else None) ≡ alone c r (transmitter P x)) [
  | true ↦ elim (transmitter P x) as (λ q. elim q [ None ↦ None | Some a ↦ Some (c, a) ] ≡ alone c true q) [ None ↦ refl | Some a ↦ refl ]
  | false ↦ elim (transmitter P x) as (λ q. None ≡ alone c false q) [ None ↦ refl | Some a ↦ refl ]
]

alone_kept : (c : ℕ) (k a : Option ℕ) → Apart k a → alone c (is_receive c) a ≡ transfer_of c (next (Words []) k a)
alone_kept c None None h = refl
alone_kept c None (Some a) h = refl
alone_kept c (Some d) a h = rw h refl

longer : (P : Description) (c : ℕ) (x y : Entry) (ys : List Entry) (m : Option (List ℕ)) → None ≡ transfer_of c (collected_by P (x ∷ y ∷ ys) m)
longer P c x y ys None = refl
longer P c x y ys (Some ds) = few_no_transfer c ds

-- the transfer for which a message comes to wait
pub transfer_law : (P : Description) (c : ℕ) (after : List Entry) → transfer P (Some (c, after)) ≡ transfer_of c (collected_of P after)
transfer_law P c [] = refl
transfer_law P c (x ∷ []) = alone_is P c x ∙ (alone_kept c (data_of x.word) (transmitter P x) (apart_word P x x.word refl) ∙ ap (transfer_of c) (sym (collected_step P x [])))
transfer_law P c (x ∷ y ∷ ys) = longer P c x y ys (data_words (x ∷ y ∷ ys))

choice_few : (b : Bool) (m n k : ℕ) → m ≤ k → n ≤ k → (if b then m else n) ≤ k
choice_few true m n k h i = h
choice_few false m n k h i = i

-- no command expects more than 32 words
pub expected-le : (c : ℕ) → expected c ≤ 32
expected-le c =
    let low : code_of c ≤ 32 = omega arith in
    let count : count_of c ≤ 32 = choice_few (code_of c == 0) 32 (code_of c) 32 (omega arith) low in
    let word : (if nat_le 16 (code_of c) then 1 else 0) ≤ 32 = choice_few (nat_le 16 (code_of c)) 1 0 32 (omega arith) (omega arith) in
    choice_few (transmits c) 0 _ 32 (omega arith) (choice_few (is_mode c) _ (count_of c) 32 word count)

whole_test : (c : ℕ) (ds : List ℕ) (b : Bool) → expected c ≤ 32 → nat_le (length ds) 32 ≡ b → (if length ds == expected c then Some ds else None) ≡ whole_of c (if b then Words ds else Spoilt)
whole_test c ds true h e = refl
whole_test c ds false h e =
    let many : 32 < length ds = leb-false (length ds) 32 e in
    let other : length ds == expected c ≡ false = ne_eqb (length ds) (expected c) (omega arith) in
    rw other refl

whole_by : (P : Description) (c : ℕ) (after : List Entry) (m : Option (List ℕ)) → if_expected c m ≡ whole_of c (collected_by P after m)
whole_by P c after None = elim (lone_transmitter P after) as (λ q. None ≡ whole_of c (transmitter_or_spoilt q)) [ None ↦ refl | Some a ↦ refl ]
whole_by P c after (Some ds) = whole_test c ds (nat_le (length ds) 32) (expected-le c) refl

-- the words with which a message ends well
pub complete_law : (P : Description) (c : ℕ) (after : List Entry) → complete c after ≡ whole_of c (collected_of P after)
complete_law P c after = whole_by P c after (data_words after)

ends_stop : (P : Description) (busy : Bool) (c : ℕ) (m : Option (List ℕ)) (t : Option (ℕ × ℕ)) → ends_with P busy c m t ≡ ending_at P busy (gap_end_of c m t)
ends_stop P busy c None None = refl
ends_stop P busy c None (Some t) = refl
ends_stop P busy c (Some ds) t = refl

-- what a gap ends
pub gap_ends_law : (P : Description) (busy : Bool) (o : Open) → at_gap P busy o ≡ gap_ends P busy (standing_of P o)
gap_ends_law P busy Idle = refl
gap_ends_law P busy (Waits c a) = refl
gap_ends_law P busy (Collects c after) =
    ap (λ m. ends_with P busy c m (transfer P (Some (c, after)))) (complete_law P c after)
    ∙ (ap (ends_with P busy c (whole_of c (collected_of P after))) (transfer_law P c after)
    ∙ ends_stop P busy c (whole_of c (collected_of P after)) (transfer_of c (collected_of P after)))
gap_ends_law P busy (Resumes c after) = ap (λ m. ends_with P busy c m None) (complete_law P c after) ∙ ends_stop P busy c (whole_of c (collected_of P after)) None

waits_law : (P : Description) (t : Option (ℕ × ℕ)) → standing_of P (waits t) ≡ waits_for t
waits_law P None = refl
waits_law P (Some t) = refl

-- what a gap leaves
pub gap_leaves_law : (P : Description) (o : Open) → standing_of P (after_gap P o) ≡ gap_leaves (standing_of P o)
gap_leaves_law P Idle = refl
gap_leaves_law P (Waits c a) = refl
gap_leaves_law P (Resumes c after) = refl
gap_leaves_law P (Collects c after) = waits_law P (transfer P (Some (c, after))) ∙ ap waits_for (transfer_law P c after)

status_law : (P : Description) (c a : ℕ) (s : Bool) → standing_of P (if s then Resumes c [] else Idle) ≡ (if s then Resumes c (Words []) else Idle)
status_law P c a true = refl
status_law P c a false = refl

-- what a word or noise leaves
pub entry_leaves_law : (P : Description) (x : Entry) (o : Open) → standing_of P (after_entry x o) ≡ entry_leaves P.address x.word (standing_of P o)
entry_leaves_law P x Idle = refl
entry_leaves_law P x (Collects c after) = ap (Collects c) (collected_step P x after)
entry_leaves_law P x (Waits c a) = status_law P c a (is_status_of a x)
entry_leaves_law P x (Resumes c after) = ap (Resumes c) (collected_step P x after)

waiting_fails : (c : ℕ) (s : Bool) → (if s then fails None else fails (Some c)) ≡ fails (if s then None else Some c)
waiting_fails c true = refl
waiting_fails c false = refl

-- what a word or noise ends
pub entry_ends_law : (P : Description) (w : Option Raw) (o : Open) → at_entry w o ≡ fails (entry_fails w (standing_of P o))
entry_ends_law P w Idle = refl
entry_ends_law P w (Collects c after) = refl
entry_ends_law P w (Waits c a) = waiting_fails c _
entry_ends_law P w (Resumes c after) = refl

pub free_law : (P : Description) (o : Open) → is_free o ≡ is_free (standing_of P o)
free_law P Idle = refl
free_law P (Collects c after) = refl
free_law P (Waits c a) = refl
free_law P (Resumes c after) = refl

-- the command that nothing has followed
abbrev pub fresh_open : Open → Option ℕ
fresh_open (Collects c []) = Some c
fresh_open _ = None

more_not_fresh : (c : ℕ) (b : Bool) (ds : List ℕ) (d : ℕ) → fresh_in (Collects c (if b then Words (ds ++ d ∷ []) else Spoilt)) ≡ None
more_not_fresh c false ds d = refl
more_not_fresh c true [] d = refl
more_not_fresh c true (e ∷ ds) d = refl

not_fresh : (c : ℕ) (f : Collected) (k a : Option ℕ) → fresh_in (Collects c (next f k a)) ≡ None
not_fresh c (Words ds) (Some d) a = more_not_fresh c (nat_lt (length ds) 32) ds d
not_fresh c (Words []) None None = refl
not_fresh c (Words []) None (Some b) = refl
not_fresh c (Words (d ∷ ds)) None a = refl
not_fresh c (Transmitter b) k a = refl
not_fresh c Spoilt k a = refl

pub fresh_law : (P : Description) (o : Open) → fresh_in (standing_of P o) ≡ fresh_open o
fresh_law P Idle = refl
fresh_law P (Collects c []) = refl
fresh_law P (Collects c (x ∷ xs)) = ap (λ f. fresh_in (Collects c f)) (collected_step P x xs) ∙ not_fresh c (collected_of P xs) (data_of x.word) (transmitter P x)
fresh_law P (Waits c a) = refl
fresh_law P (Resumes c after) = refl

fresh_broadcast : (o : Open) → is_fresh_broadcast o ≡ is_broadcast_receive (fresh_open o)
fresh_broadcast Idle = refl
fresh_broadcast (Collects c []) = refl
fresh_broadcast (Collects c (x ∷ xs)) = refl
fresh_broadcast (Waits c a) = refl
fresh_broadcast (Resumes c after) = refl

pub fresh_broadcast_law : (P : Description) (o : Open) → is_fresh_broadcast o ≡ stands_fresh (standing_of P o)
fresh_broadcast_law P o = fresh_broadcast o ∙ ap is_broadcast_receive (sym (fresh_law P o))
