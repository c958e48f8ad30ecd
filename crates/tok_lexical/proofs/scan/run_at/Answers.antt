use Rattle.std.proofs.Common.{◌∙◌, refl, sym}
use Rattle.tok_lexical.proofs.Lanes.{first_stop, no_stop}
use Rattle.tok_lexical.proofs.scan.run_at.Goals as goal

pub returns-then-fails-eq0 : goal.returns-then-fails-eq0
returns-then-fails-eq0 g c = no_stop (g.S.ByteTest.passes c.args.test.now) c.args.bytes.now
    c.args.at c.requires (sym c.fails-fails.ensures ∙ c.if-fails-eq0.true)

pub returns-else-fails-eq0 : goal.returns-else-fails-eq0
returns-else-fails-eq0 g c = first_stop (g.S.ByteTest.passes c.args.test.now) c.args.bytes.now
    c.args.at _ _ c.requires c.fails-fails.ensures c.if-fails-eq0.false refl
