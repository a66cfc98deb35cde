use Rattle.std.proofs.Common.{◌≡◌, ◌+◌, ◌≤◌, length, Ok}
use Rattle.orders.specs.Order.{put_fields, contents_line}
use Rattle.text.specs.Field.{fields_of}
use Rattle.orders.proofs.reading.contents_line.Given as goal

-- what is left of the fields makes of the block what the whole line makes; the next place is one behind what was put, which is
-- eleven contents at most
abbrev pub invariant-loop-field : goal.invariant-loop-field
invariant-loop-field l =
    (put_fields l.field-iterator.b.start (Ok l.block) (fields_of l.field-iterator.a.rest.now) ≡ contents_line l.fn.codes l.line)
    × (l.field-iterator.b.start ≡ length l.block.contents + 1) × (length l.block.contents ≤ 11)
