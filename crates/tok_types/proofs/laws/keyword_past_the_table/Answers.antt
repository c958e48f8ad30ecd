use Rattle.std.proofs.Common.{◌∙◌, ap, [], is_some}
use Rattle.std.proofs.lemmas.List.{get_or_past}
use Rattle.tok_buffer.specs.Reads.{read_keyword}
use Rattle.tok_types.specs.Texts.{keywords}
use Rattle.tok_types.proofs.laws.keyword_past_the_table.Goals as goal

pub returns : goal.returns
returns g c = λ past place found finds. finds ∙ ap (λ t. is_some (read_keyword t place))
    (get_or_past keywords g.row.K [] past)
