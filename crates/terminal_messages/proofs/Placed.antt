-- Each command has its place in the messages.
use Rattle.std.proofs.Common.{◌≡◌, ℕ, Bool, true, false, not, ◌&&◌, ◌||◌, if◌then◌else◌, Option, Some, None, is_some, refl, ap, sym, ◌∙◌, subst}
use Rattle.bus_word.specs.declared.word.Bus.{Bus}
use Rattle.bus_word.specs.declared.word.Bus.TheVariants.{A, B}
use Rattle.bus_legal.specs.Description.{Description}
use Rattle.terminal_rules.specs.declared.event.Event.TheVariants.{Word}
use Rattle.terminal_rules.specs.History.{is_ignored}
use Rattle.terminal_rules.specs.Open.{is_on}
use Rattle.terminal_rules.specs.Past.{past}
use Rattle.terminal_messages.specs.declared.part.MessagePart.{MessagePart}
use Rattle.terminal_messages.specs.declared.part.MessagePart.TheVariants.{Plain, First, Second, Status, Within, Unheard}
use Rattle.terminal_messages.specs.Told.{ToldEvent, is_first_command, belongs_on}
use Rattle.terminal_messages.specs.Message.{Message, message_on_bus}
use Rattle.terminal_messages.specs.Parts.{told, tell, part_of_command, takes_second, takes_status}
use Rattle.terminal_messages.specs.Laws.{HasPlace, PlacedLaw}
use Rattle.terminal_messages.proofs.Engaged.{engaged_before}
use Rattle.terminal_messages.proofs.Partition.{stands, open_own}

second_some : (c : ℕ) (m : Option Message) → takes_second c m ≡ true → is_some m ≡ true
second_some c None e = cc
second_some c (Some m) e = refl

status_some : (P : Description) (c : ℕ) (m : Option Message) → takes_status P c m ≡ true → is_some m ≡ true
status_some P c None e = cc
status_some P c (Some m) e = refl

-- by the part: where it is neither a first command nor unheard, it is heard, and there is a message
placed_by : (P : Description) (c : ℕ) (i s n a k l : Bool) (m : Option Message) → takes_second c m ≡ k → takes_status P c m ≡ l →
    (s ≡ false → n ≡ true → is_some m ≡ true) → (x y : Bool) → (i ≡ false → x ≡ true) → (f : MessagePart → Bool) →
    ((p : MessagePart) → is_first_command p ≡ false → f p ≡ false) →
    HasPlace (if i then Unheard else if k then Second else if s then First else if n then (if a then Status else Within) else if l then Status else First) m x
    (f (if i then Unheard else if k then Second else if s then First else if n then (if a then Status else Within) else if l then Status else First))
placed_by P c true s n a k l m k' l' e x y h f z = tt
placed_by P c false s n a true l m k' l' e x y h f z = (second_some c m k', h refl, z Second refl)
placed_by P c false true n a false l m k' l' e x y h f z = tt
placed_by P c false false true true false l m k' l' e x y h f z = (e refl refl, h refl, z Status refl)
placed_by P c false false true false false l m k' l' e x y h f z = (e refl refl, h refl, z Within refl)
placed_by P c false false false a false true m k' l' e x y h f z = (status_some P c m l', h refl, z Status refl)
placed_by P c false false false a false false m k' l' e x y h f z = tt

same_self : (b : Bus) → (is_on b (Some b)) ≡ true
same_self A = refl
same_self B = refl

and_false : (x : Bool) → (x && false) ≡ false
and_false true = refl
and_false false = refl

-- an event on a bus that is no first command closes nothing there
closes_none : (b : Bus) (f s o g : Bool) → f ≡ false → o ≡ true → ((f && o) || (((f || s) && not o) && g)) ≡ false
closes_none b f s o g p q = (λ j. (p j && o) || (((p j || s) && not (q j)) && g)) ∙ ap (λ x. x && g) (and_false s)

pub placed_law : PlacedLaw
placed_law P h b w e =
    subst (λ (p : MessagePart). HasPlace p (message_on_bus (tell P h) b) (belongs_on b t) ((is_first_command p && is_on b (Some b)) || (((is_first_command p || t.noted.starts) && not (is_on b (Some b))) && not (t.engaged b))))
    (sym part_is)
    (placed_by P w.bits (is_ignored t.noted.turn) t.noted.starts (t.engaged b) t.awaits (takes_second w.bits (message_on_bus (tell P h) b)) (takes_status P w.bits (message_on_bus (tell P h) b)) (message_on_bus (tell P h) b)
    refl refl some_there (belongs_on b t) true heard
    (λ p. (is_first_command p && is_on b (Some b)) || (((is_first_command p || t.noted.starts) && not (is_on b (Some b))) && not (t.engaged b)))
    (λ p k. closes_none b (is_first_command p) t.noted.starts (is_on b (Some b)) (not (t.engaged b)) k (same_self b)))
  where
    t : ToldEvent
    t = told P (past P h) (tell P h) (Word b w)

    part_is : t.part ≡ part_of_command P w.bits (is_ignored t.noted.turn) t.noted.starts (t.engaged b) t.awaits (message_on_bus (tell P h) b)
    part_is = ap (λ (x : Bool). if x then part_of_command P w.bits (is_ignored t.noted.turn) t.noted.starts (t.engaged b) t.awaits (message_on_bus (tell P h) b) else Plain) e

    some_there : t.noted.starts ≡ false → t.engaged b ≡ true → is_some (message_on_bus (tell P h) b) ≡ true
    some_there s n = open_own (message_on_bus (tell P h) b) ((stands P h).engaged b (engaged_before P (past P h) (Word b w) b s n))

    heard : is_ignored t.noted.turn ≡ false → belongs_on b t ≡ true
    heard i = λ j. not (i j) && (same_self b j || false)
