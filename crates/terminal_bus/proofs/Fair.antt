-- A transfer keeps to the discipline.
use Rattle.std.proofs.Common.{◌≡◌, ℕ, zero, suc, ◌+◌, ◌≤◌, Bool, true, false, not, ◌&&◌, ◌||◌, if◌then◌else◌, inl, inr, Some, List, [], ◌∷◌, map, refl, ap, sym, ◌∙◌, subst, arith}
use Rattle.bus_word.specs.declared.word.Bus.{Bus}
use Rattle.bus_word.specs.declared.word.Bus.TheVariants.{A, B}
use Rattle.bus_word.specs.declared.word.Kind.TheVariants.{Com}
use Rattle.bus_word.specs.declared.word.Raw.{Raw}
use Rattle.bus_word.specs.Word.{is_command, valid_word}
use Rattle.bus_word.specs.Command.{address_of}
use Rattle.bus_legal.specs.Description.{Description}
use Rattle.terminal_rules.specs.declared.event.Event.{Event}
use Rattle.terminal_rules.specs.declared.event.Event.TheVariants.{Word, Gap}
use Rattle.terminal_rules.specs.LookBack.{some}
use Rattle.terminal_rules.specs.Open.{Open, Idle, Collects, Waits, Resumes, open_now}
use Rattle.terminal_rules.specs.Starts.{starts_now}
use Rattle.terminal_rules.specs.Past.{past, open_at}
use Rattle.terminal_rules.specs.Steps.{replies_on}
use Rattle.terminal_rules.proofs.OpenLaw.{after_entry, after_word, unheard, open_law}
use Rattle.terminal_bus.specs.declared.event.BusEvent.{BusEvent}
use Rattle.terminal_bus.specs.declared.event.BusEvent.TheVariants.{OnBus, SlotPasses}
use Rattle.terminal_bus.specs.Members.{Member, after_events}
use Rattle.terminal_bus.specs.Discipline.{replies, awaits_address, awaits, has_address, may_put, is_disciplined}
use Rattle.terminal_bus.specs.Transfer.{Has, is_waiting, passing, transfer_between}
use Rattle.terminal_bus.proofs.Replies.{replies_at, word_replies}
use Rattle.terminal_bus.proofs.Deliver.{Scene, staged, Plays, after_slot, begun_all}

none_passes : (p : Member → Bool) (f : Member → Member) (ms : List Member) → ((m : Member) → Has ms m → p (f m) ≡ false) → some p (map f ms) ≡ false
none_passes p f [] e = refl
none_passes p f (m ∷ ms) e = λ j. e m (inl refl) j || none_passes p f ms (λ n h. e n (inr h)) j

none_passes_now : (p : Member → Bool) (ms : List Member) → ((m : Member) → Has ms m → p m ≡ false) → some p ms ≡ false
none_passes_now p [] e = refl
none_passes_now p (m ∷ ms) e = λ j. e m (inl refl) j || none_passes_now p ms (λ n h. e n (inr h)) j

-- who doesn't wait awaits nobody, and a word makes none wait
not_awaited : (a : ℕ) (o : Open) → is_waiting o ≡ false → awaits_address a o ≡ false
not_awaited a Idle e = refl
not_awaited a (Collects c after) e = refl
not_awaited a (Waits c d) e = cc
not_awaited a (Resumes c after) e = refl

entered : (w : Raw) (o : Open) → is_waiting o ≡ false → is_waiting (after_entry (unheard (Some w)) o) ≡ false
entered w Idle e = refl
entered w (Collects c after) e = refl
entered w (Waits c d) e = cc
entered w (Resumes c after) e = refl

word_entered : (b : Bus) (w : Raw) (s : Bool) (o : Open) → is_waiting o ≡ false → is_waiting (after_word b b w s o) ≡ false
word_entered A w true o e = refl
word_entered B w true o e = refl
word_entered A w false o e = entered w o e
word_entered B w false o e = entered w o e

word_waiting : (P : Description) (h : List Event) (b : Bus) (w : Raw) → is_waiting (open_at P h b) ≡ false → is_waiting (open_at P (Word b w ∷ h) b) ≡ false
word_waiting P h b w e = ap is_waiting (open_law P (past P h) b (Word b w)) ∙ by_ignored (replies_on (past P h) b)
  where
    by_ignored : (i : Bool) → is_waiting (if i then open_now P (past P h) b else after_word b b w (starts_now P (past P h) (Word b w)) (open_now P (past P h) b)) ≡ false
    by_ignored true = e
    by_ignored false = word_entered b w (starts_now P (past P h) (Word b w)) (open_now P (past P h) b) e

word_quiet : (P : Description) (h : List Event) (b : Bus) (w : Raw) → replies_at P h ≡ false → replies_at P (Word b w ∷ h) ≡ false
word_quiet P h b w e = by_answer (replies_at P (Word b w ∷ h)) refl
  where
    by_answer : (t : Bool) → replies_at P (Word b w ∷ h) ≡ t → replies_at P (Word b w ∷ h) ≡ false
    by_answer true q = let no : true ≡ false = sym (word_replies P h b w q) ∙ e in cc
    by_answer false q = q

-- what may be put
free_word : (k : Bool) (x y : Bool) → y ≡ false → not (k && (x && y)) ≡ true
free_word true true y e = ap not e
free_word true false y e = refl
free_word false x y e = refl

pub record IsQuiet (b : Bus) (m : Member) : Type 0 where
  pub silent : replies m ≡ false
  pub waiting : is_waiting (open_at m.description m.history b) ≡ false

after_quiet : (b : Bus) (w : Raw) (m : Member) → IsQuiet b m → IsQuiet b (after_events (Word b w ∷ []) m)
after_quiet b w m q = record { silent = word_quiet m.description m.history b w q.silent; waiting = word_waiting m.description m.history b w q.waiting }

abbrev both : Bool → Bool → Bool → Bool → Bool
both p q r s = p && (q && (r && s))

all_four : (p q r s : Bool) → p ≡ true → q ≡ true → r ≡ true → s ≡ true → both p q r s ≡ true
all_four p q r s a b c d = λ j. both (a j) (b j) (c j) (d j)

-- the slots, and what is left
slots_fair : (T : Scene) (p : Plays T) (xs : List BusEvent) (j k : ℕ) → k + j ≡ suc T.n →
    is_disciplined (map (staged T k) T.members) (passing j xs) ≡ is_disciplined (map (staged T (suc T.n)) T.members) xs
slots_fair T p xs zero k e = let at : k ≡ suc T.n = omega (arith, e) in ap (λ k. is_disciplined (map (staged T k) T.members) xs) at
slots_fair T p xs (suc j) k e =
    let low : k ≤ T.n = omega (arith, e) in
    let next : suc k + j ≡ suc T.n = omega (arith, e) in
    ap (λ ms. is_disciplined ms (passing j xs)) (after_slot T p k low) ∙ slots_fair T p xs j (suc k) next

pub fair_law : (T : Scene) → Plays T → ((m : Member) → Has T.members m → IsQuiet T.bus m) → ((m : Member) → Has T.members m → replies (staged T (suc T.n) m) ≡ false) →
    is_disciplined T.members (transfer_between T.bus T.c T.d T.n) ≡ true
fair_law T p quiet over =
    let w1 : Raw = valid_word Com T.c in
    let w2 : Raw = valid_word Com T.d in
    let first : Member → Member = (λ m. after_events (Word T.bus w1 ∷ []) m) in
    let second : Member → Member = (λ m. after_events (Word T.bus w2 ∷ []) m) in
    let ms1 : List Member = map first T.members in
    let ms2 : List Member = map second ms1 in
    let in1 : (m : Member) → Has ms1 m → IsQuiet T.bus m = has_map first T.members (λ m h. after_quiet T.bus w1 m (quiet m h)) in
    let in2 : (m : Member) → Has ms2 m → IsQuiet T.bus m = has_map second ms1 (λ m h. after_quiet T.bus w2 m (in1 m h)) in
    all_four (may_put T.members (Word T.bus w1)) (may_put ms1 (Word T.bus w2)) (may_put ms2 (Gap T.bus)) _
    (word_free T.members w1 quiet) (word_free ms1 w2 in1)
    (ap not (none_passes_now replies ms2 (λ m h. (in2 m h).silent)))
    (ap (λ ms. is_disciplined ms (passing (suc T.n) (OnBus (Gap T.bus) ∷ SlotPasses ∷ []))) (begun_all T)
    ∙ (slots_fair T p (OnBus (Gap T.bus) ∷ SlotPasses ∷ []) (suc T.n) 0 (omega arith)
    ∙ (λ j. not (none_passes replies (staged T (suc T.n)) T.members over j) && true)))
  where
    has_map : (f : Member → Member) (ms : List Member) → ((m : Member) → Has ms m → IsQuiet T.bus (f m)) → (n : Member) → Has (map f ms) n → IsQuiet T.bus n
    has_map f [] q n h = absurd h
    has_map f (m ∷ ms) q n h = elim h [ inl e ↦ subst (IsQuiet T.bus) e (q m (inl refl)) | inr e ↦ has_map f ms (λ m h. q m (inr h)) n e ]

    word_free : (ms : List Member) (w : Raw) → ((m : Member) → Has ms m → IsQuiet T.bus m) → may_put ms (Word T.bus w) ≡ true
    word_free ms w q =
        free_word (is_command w) (some (has_address (address_of w.bits)) ms) _
        (none_passes_now (awaits T.bus (address_of w.bits)) ms (λ m h. not_awaited (address_of w.bits) (open_at m.description m.history T.bus) (q m h).waiting))
