use Rattle.std.proofs.Common.{rules}
use Rattle.syn_parse.specs.Takings.{lighter, told}
use Rattle.syn_punctuated.proofs.ListTakes.{separated_list_keeps}
use Rattle.syn_derive.specs.Paths.{lightens_any_segment, take_any_segment, take_any_segments}
use Rattle.syn_derive.proofs.path.parse_any_segments.Goals as goal

pub returns : goal.returns
unfolding take_any_segments
returns c =
    search (
      rules,
      separated_list_keeps (told (λ v. v) take_any_segment (lighter lightens_any_segment))
          c.parse_separated_nonempty_with.ensures.turns,
    )
