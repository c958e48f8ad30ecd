use Rattle.std.proofs.Common.{◌∙◌, []}
use Rattle.std.proofs.Math.ListN.{get_or-map}
use Rattle.tok_types.specs.Texts.{punctuations, in_backquotes}
use Rattle.tok_types.proofs.texts.punctuation_display.Goals as goal

pub returns : goal.returns
returns c = c.row.ensures.display ∙ get_or-map in_backquotes punctuations c.args.k []
