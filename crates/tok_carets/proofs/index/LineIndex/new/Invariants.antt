use Rattle.std.proofs.Common.{◌≡◌, ◌++◌}
use Rattle.memchr.specs.Find.{is_byte, places}
use Rattle.tok_carets.proofs.index.LineIndex.new.Given as goal

abbrev pub invariant-loop-at : goal.invariant-loop-at
invariant-loop-at l = l.feeds.items ++ l.at-iterator ≡ places (is_byte 10) l.text
