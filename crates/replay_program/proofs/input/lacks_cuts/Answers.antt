use Rattle.std.proofs.Common.{codes, None, subst}
use Rattle.memchr.specs.Find.{FindsNeedle}
use Rattle.tok_lexical.specs.Ascii.{line_feed}
use Rattle.replay_program.proofs.Dashes.{not_a_line}
use Rattle.replay_program.proofs.input.lacks_cuts.Goals as goal

pub returns-in-None : goal.returns-in-None
returns-in-None c _ =
    not_a_line (codes "---") line_feed c.args.text.now
    (subst (λ z. FindsNeedle z (codes "---") 0 None) c.as_bytes.ensures.value c.in-None.ensures)
