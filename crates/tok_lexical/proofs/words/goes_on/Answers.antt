use Rattle.std.proofs.Common.{sym, ◌∙◌}
use Rattle.unicode_ident.proofs.IdentLemmas.{is_xid_continue-ascii}
use Rattle.tok_lexical.proofs.words.goes_on.Goals as goal

pub returns-then-c-lt128 : goal.returns-then-c-lt128
returns-then-c-lt128 c = c.holds.ensures ∙ sym (is_xid_continue-ascii c.args.c c.if-c-lt128.true)
