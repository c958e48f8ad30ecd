-- The rooms that a replay asks for at first, by the number of its commands.
use Rattle.std.specs.Prelude.{ℕ, ◌+◌, ◌*◌, ◌/◌, min}

-- the commands for which room is asked for at first, at most 65,536
abbrev pub counted_commands : ℕ → ℕ
counted_commands commands = min commands 65536

-- the streams for which there is room: an estimate is that one in eight commands makes one
abbrev pub streams_room : ℕ → ℕ
streams_room commands = counted_commands commands / 8 + 4

-- the bytes of a report for which there is room: most lines have fewer than 24
abbrev pub report_room : ℕ → ℕ
report_room commands = counted_commands commands * 24
