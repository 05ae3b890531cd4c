-- The message on a bus after one event more.
use Rattle.std.proofs.Common.{◌≡◌, Bool, true, false, if◌then◌else◌, Option, Some, None, List, [], ◌∷◌, refl}
use Rattle.bus_word.specs.declared.word.Bus.{Bus}
use Rattle.terminal_rules.specs.LookBack.{latest, since, keep}
use Rattle.terminal_messages.specs.Told.{ToldEvent, begins_on, closes, belongs_on}
use Rattle.terminal_messages.specs.Message.{Message, message_on_bus, message_begun, leaves_open, belonging}

-- a message with one event more
abbrev pub with_later : ToldEvent → Option Message → Option Message
with_later t None = None
with_later t (Some m) = Some (record m { later = t ∷ m.later })

abbrev pub begun_with : Bus → ToldEvent → Message
begun_with b t = record { bus = b; first = t; later = []; closer = None }

-- the message on a bus after an event, by whether that closes it, begins one there, and concerns it
abbrev pub after_by : Bus → ToldEvent → (closes begins_message belongs_on : Bool) → Option Message → Option Message
after_by b t true true n m = Some (begun_with b t)
after_by b t true false n m = None
after_by b t false k true m = with_later t m
after_by b t false k false m = m

abbrev pub after_told : Bus → ToldEvent → Option Message → Option Message
after_told b t m = after_by b t (closes b t) (begins_on b t) (belongs_on b t) m

added : (b : Bus) (t : ToldEvent) (later : List ToldEvent) (o : Option (Option ToldEvent)) → message_begun b (t ∷ later) o ≡ with_later t (message_begun b later o)
added b t later None = refl
added b t later (Some None) = refl
added b t later (Some (Some first)) = refl

by_tests : (b : Bus) (t : ToldEvent) (h : List ToldEvent) (c k n : Bool) →
    message_begun b
    (keep (belonging b) (if c then [] else t ∷ since (closes b) h))
    (elim (if c then Some (if k then Some t else None) else None) as (λ o. Option (Option ToldEvent)) [ None ↦ latest (leaves_open b) h | Some y ↦ Some y ])
    ≡ after_by b t c k (belongs_on b t) (message_on_bus h b)
by_tests b t h true true n = refl
by_tests b t h true false n = refl
by_tests b t h false k n = by_concern (belongs_on b t)
  where
    by_concern : (n : Bool) →
        message_begun b
        (elim (if n then Some t else None) as (λ o. List ToldEvent) [ None ↦ keep (belonging b) (since (closes b) h) | Some y ↦ y ∷ keep (belonging b) (since (closes b) h) ])
        (latest (leaves_open b) h)
        ≡ after_by b t false k n (message_on_bus h b)
    by_concern true = added b t (keep (belonging b) (since (closes b) h)) (latest (leaves_open b) h)
    by_concern false = refl

pub message_law : (b : Bus) (t : ToldEvent) (h : List ToldEvent) → message_on_bus (t ∷ h) b ≡ after_told b t (message_on_bus h b)
message_law b t h = by_tests b t h (closes b t) (begins_on b t) (belongs_on b t)
