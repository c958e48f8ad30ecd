use Rattle.memchr.specs.Find.{Nowhere, Passes, is_byte}
use Rattle.tok_lexical.specs.Ascii.{space}
use Rattle.replay_program.proofs.command_text.first_space.Given as goal

abbrev pub invariant-loop-i : goal.invariant-loop-i
invariant-loop-i l = Nowhere (Passes (is_byte space) l.bytes) 0 l.i
