use Rattle.std.proofs.Common.{inl}
use Rattle.entry_outcomes.proofs.parse.parse_entries.Goals as goal

pub returns-in-Ok : goal.returns-in-Ok
returns-in-Ok g c =
    let (f, d, same) = c.in-Ok.ensures.denotes in
    inl (f, c.parse_buffer.result, d, rw (← same) c.parse_buffer.ensures, c.of_parser.ensures)
