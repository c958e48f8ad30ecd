use Rattle.std.proofs.Common.{length}
use denote.Text.{Utf8}
use denote.Shadow.{shadow}
use Rattle.tok_core.specs.Private.Built.{state}
use Rattle.tok_core.proofs.Lexical.Cuts.{SoFar}
use Rattle.tok_core.proofs.lexer.read.Given as goal

abbrev pub invariant-loop-rest : goal.invariant-loop-rest
invariant-loop-rest g l = shadow (Utf8 l.rest) × SoFar l.start l.mode l.source l.text
    l.rest l.at (state g.B.Build.levels l.nest)

abbrev pub decreases-loop-rest : goal.decreases-loop-rest
decreases-loop-rest g l = length l.rest
