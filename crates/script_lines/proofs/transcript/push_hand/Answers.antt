use Rattle.std.proofs.Common.{arith}
use Rattle.script_lines.proofs.TranscriptLaws.{received_length, synchronize_length}
use Rattle.script_lines.proofs.transcript.push_hand.Goals as goal

pub push_received-requires : goal.push_received-requires
push_received-requires c =
    let room = rw c.in-Received.is at c.requires in
    omega (arith, received_length c.in-Received.broadcast c.in-Received.subaddress c.in-Received.words.now)

pub push_synchronize_with-requires : goal.push_synchronize_with-requires
push_synchronize_with-requires c =
    let room = rw c.in-SynchronizeWith.is at c.requires in omega (arith, synchronize_length c.in-SynchronizeWith.word)

pub returns-in-SelfTest : goal.returns-in-SelfTest
returns-in-SelfTest c = rw c.in-SelfTest.is c.push_str-in-SelfTest.ensures.bytes

pub returns-in-BusControl : goal.returns-in-BusControl
returns-in-BusControl c = rw c.in-BusControl.is c.push_str-in-BusControl.ensures.bytes
