use Rattle.std.proofs.Common.{rules, ◌≡◌, ◌∷◌, []}
use Rattle.tok_entries.proofs.Splits.{only_byte}
use Rattle.tok_entries.proofs.Words.{punct_told}
use Rattle.tok_entries.proofs.intake.leaf.punct_of_text.Goals as goal

pub returns-in-len1 : goal.returns-in-len1
returns-in-len1 c =
    let whole : c.args.text.now ≡ c.from.result ∷ [] =
    only_byte c.args.text.now c.from.result (search rules) (search rules) (search rules) in
    punct_told c.args.text.now c.from.result c.args.spacing c.args.span c.new_spanned.result whole
    c.new_spanned.ensures
