-- What the code keeps, as views of messages.
use Rattle.std.specs.Prelude.{Option}
use Rattle.std.specs.Option.{option_map}
use Rattle.bus_terminal.specs.Answer.{shown_copy}
use Rattle.terminal_messages.specs.Ends.{handed_in}
use Rattle.terminal_messages.specs.declared.kept.KeptMessage.{KeptMessage}
use Rattle.terminal_messages.specs.View.{View}

abbrev pub shown_message : KeptMessage → View
shown_message k = record {
  state = k.state;
  words = k.words.items;
  left_out = k.left_out;
  handed = handed_in (shown_copy k.handed);
  number = k.number;
  place = k.place;
}

abbrev pub shown_slot : Option KeptMessage → Option View
shown_slot o = option_map shown_message o
