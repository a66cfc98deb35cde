-- The whole task: one block is ordered by three lines, sent, and looked at.
use Rattle.std.specs.Prelude.{ℕ, List, Ok, Err, Option, Result}
use Rattle.acknowledgement.specs.Acu.{acu_of}
use Rattle.answers.specs.declared.parts.Arrival.{Arrival}
use Rattle.answers.specs.declared.parts.Fault.{Fault}
use Rattle.blocks.specs.Block.{contents_of, block_of}
use Rattle.one_block.specs.Passage.{passages, readings, outcomes}
use Rattle.orders.specs.declared.parts.Order.{Order}
use Rattle.reserved.specs.declared.numbers.CodeNumbers.{CodeNumbers}

-- The codes that the block is made with.
abbrev pub codes_used : CodeNumbers
codes_used = record { changeover = 0xA0001; load_transfer = 0xA0002; acknowledgement = 0xA0003; pattern = 0xB000 }

-- What is seen at the twelve places.
abbrev pub reported : Result Order Fault → Result (List Arrival) Fault
reported (Ok o) = Ok (passages o.marks (block_of o.block (acu_of o.acu)))
reported (Err fault) = Err fault

-- What was read at the twelve places of a report.
abbrev pub read_in : Result (List Arrival) Fault → Result (List (Option ℕ)) Fault
read_in (Ok arrivals) = Ok (readings arrivals)
read_in (Err fault) = Err fault

-- What has to be read at the twelve places: the content that stands there in the block, unless the place is marked.
abbrev pub arrived : Result Order Fault → Result (List (Option ℕ)) Fault
arrived (Ok o) = Ok (outcomes o.marks (contents_of o.block (acu_of o.acu)))
arrived (Err fault) = Err fault
