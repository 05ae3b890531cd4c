-- What entries say of the bits of a mask, and of a table of masks.
use Rattle.std.specs.Prelude.{◌≡◌, ℕ, suc, ◌<◌, Bool, true, not, ◌&&◌, if◌then◌else◌, List, length, get_or, drop, HoldsAt, Option, Some, None}
use Rattle.std.specs.List.{list_any}
use Rattle.bus_word.specs.Mask.{has_bit}
use Rattle.bus_legal.specs.declared.entries.Rule.{Rule}
use Rattle.bus_legal.specs.declared.profile.Profile.{Profile}
use Rattle.bus_legal.specs.Last.{last_of}
use Rattle.bus_legal.specs.inner.Masks.{bit_said}
use Rattle.spare_entries.specs.declared.said.Said.{Said}
use Rattle.spare_entries.specs.declared.rules.Table.{Table}
use Rattle.spare_entries.specs.declared.rules.Table.TheVariants.{OwnReceive, OwnTransmit, BroadcastReceive}
use Rattle.spare_entries.specs.Without.{without}

-- what an entry says, or this where there is none
abbrev pub what_is_said : Bool → Option Said → Bool
what_is_said default None = default
what_is_said default (Some e) = e.legal

-- a bit after these entries: the last that speaks of it says what it is, and with none it is this
abbrev pub bit_after : Bool → List Said → ℕ → Bool
bit_after default entries i = what_is_said default (last_of (λ e. has_bit e.bits i) entries)

-- each of these masks has the bits of which its entry is the last to speak
abbrev pub AreLastBits : List Said → List ℕ → Type 0
AreLastBits entries masks = (k i : ℕ) → k < length entries → i < 32 → HoldsAt (λ e. has_bit (get_or masks k 0) i ≡ (not (list_any (λ later. has_bit later.bits i) (drop (suc k) entries)) && has_bit e.bits i)) entries k

-- without the entry the bits of these numbers are the same, from a mask on
abbrev pub SameBits : ℕ → ℕ → List Said → ℕ → Type 0
SameBits start numbers entries k = (i : ℕ) → i < 32 → has_bit numbers i ≡ true → bit_after (has_bit start i) entries i ≡ bit_after (has_bit start i) (without k entries) i

-- the rule speaks of commands of the table
abbrev pub concerns : Table → Rule → Bool
concerns OwnReceive r = r.own && r.receive
concerns OwnTransmit r = r.own && r.transmit
concerns BroadcastReceive r = r.broadcast && r.receive

-- what a rule says of the word counts at a subaddress, from 0
abbrev pub counts_said : Table → ℕ → Rule → Said
counts_said table s r = record { bits = if concerns table r && has_bit r.subaddresses s then r.counts else 0; legal = r.legal }

-- without the rule the table has the same bits at a subaddress, from 0
abbrev pub SameMask : Table → List Rule → ℕ → ℕ → Type 0
SameMask table rules k s = (i : ℕ) → i < 32 → bit_said (concerns table) rules s i ≡ bit_said (concerns table) (without k rules) s i

-- without the rule the table is the same
abbrev pub SameTable : Table → List Rule → ℕ → Type 0
SameTable table rules k = (s : ℕ) → s < 30 → SameMask table rules k s

-- without the rule the tables of the commands that the terminal hears are the same
abbrev pub SameTables : Profile → ℕ → Type 0
SameTables p k = SameTable OwnReceive p.rules k × SameTable OwnTransmit p.rules k × (p.broadcast ≡ true → SameTable BroadcastReceive p.rules k)
