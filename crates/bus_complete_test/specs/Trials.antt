-- What the complete test tries, in its order.
use Rattle.std.specs.Prelude.{ℕ, ◌+◌, ◌-◌, ◌<◌, ◌≡◌, true, Option, Some, None, List, [], ◌++◌}
use Rattle.bus_word.specs.Cell.{is_data_place}
use Rattle.bus_legal.specs.Description.{Description}
use Rattle.terminal_exchanges.specs.Exchanges.{Exchange}
use Rattle.bus_complete_test.specs.CompleteTest.{each_in, each_place, each_code, each_subaddress, option_tried, transmit_tried, receive_tried, own_code_tried, broadcast_receive_tried, broadcast_code_tried, broadcasts_tried, wraparound_tried, tried}
use Rattle.bus_complete_test.specs.Steps.{from_place, places_left, from_code, codes_left}
use Rattle.bus_complete_test.specs.declared.trial.Trial.{Trial}
use Rattle.bus_complete_test.specs.declared.trial.Trial.TheVariants.{BroadcastOption, Transmit, Receive, OwnCode, BroadcastReceive, BroadcastCode, Wraparound}

-- subaddresses, word counts and mode codes are in their ranges
abbrev pub IsTrialInRange : Trial → Type 0
IsTrialInRange BroadcastOption = Unit {0}
IsTrialInRange (Transmit s n) = is_data_place s n ≡ true
IsTrialInRange (Receive s n) = is_data_place s n ≡ true
IsTrialInRange (OwnCode code) = code < 32
IsTrialInRange (BroadcastReceive s n) = is_data_place s n ≡ true
IsTrialInRange (BroadcastCode code) = code < 32
IsTrialInRange (Wraparound s) = is_data_place s 1 ≡ true

-- the exchanges of a trial
abbrev pub tried_at : Description → Trial → List Exchange
tried_at P BroadcastOption = option_tried P
tried_at P (Transmit s n) = transmit_tried P s n
tried_at P (Receive s n) = receive_tried P s n
tried_at P (OwnCode code) = own_code_tried P code
tried_at P (BroadcastReceive s n) = broadcast_receive_tried P s n
tried_at P (BroadcastCode code) = broadcast_code_tried P code
tried_at P (Wraparound s) = wraparound_tried P s

-- the exchanges of a trial and of all later ones
abbrev pub tried_from : Description → Trial → List Exchange
tried_from P BroadcastOption = tried P
tried_from P (Transmit s n) =
    from_place (transmit_tried P) s n ++ (each_place (receive_tried P) ++ (each_code (own_code_tried P) ++ (broadcasts_tried P ++ each_subaddress (wraparound_tried P))))
tried_from P (Receive s n) = from_place (receive_tried P) s n ++ (each_code (own_code_tried P) ++ (broadcasts_tried P ++ each_subaddress (wraparound_tried P)))
tried_from P (OwnCode code) = from_code (own_code_tried P) code ++ (broadcasts_tried P ++ each_subaddress (wraparound_tried P))
tried_from P (BroadcastReceive s n) = from_place (broadcast_receive_tried P) s n ++ (each_code (broadcast_code_tried P) ++ each_subaddress (wraparound_tried P))
tried_from P (BroadcastCode code) = from_code (broadcast_code_tried P) code ++ each_subaddress (wraparound_tried P)
tried_from P (Wraparound s) = each_in s (31 - s) (wraparound_tried P)

-- the exchanges of the next trial, if there is one, and of all later ones
abbrev pub tried_after : Description → Option Trial → List Exchange
tried_after P None = []
tried_after P (Some trial) = tried_from P trial

-- no fewer trials than are left, which become fewer with each
abbrev pub trials_left : Option Trial → ℕ
trials_left None = 0
trials_left (Some BroadcastOption) = 7000
trials_left (Some (Transmit s n)) = 5000 + places_left (Some (s, n))
trials_left (Some (Receive s n)) = 3000 + places_left (Some (s, n))
trials_left (Some (OwnCode code)) = 2000 + codes_left (Some code)
trials_left (Some (BroadcastReceive s n)) = 100 + places_left (Some (s, n))
trials_left (Some (BroadcastCode code)) = 31 + codes_left (Some code)
trials_left (Some (Wraparound s)) = 31 - s
