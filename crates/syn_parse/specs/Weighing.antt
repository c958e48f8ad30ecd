-- Whether what is taken adds nothing to what is ahead, or takes something of it.
use Rattle.syn_parse.specs.After.{descends_after_token, lightens_after}
use Rattle.syn_parse.specs.Lighter.{lowering}
use Rattle.syn_parse.specs.Many.{descends_many, lightens_many}
use Rattle.syn_parse.specs.Nested.{descending}
use Rattle.syn_parse.specs.Optional.{descends_optional, lightens_optional}
use Rattle.syn_parse.specs.Runs.{lightens_run}
use Rattle.syn_parse.specs.Sequences.{lightens_both, lightens_three, lowers_first, lowers_second}
use Rattle.syn_parse.specs.Sequences.{lowers_three}
use Rattle.syn_parse.specs.TreeTakes.{lightens_rest, lightens_tree, lowers_tree}

-- with these `search` proves it of what is built of tokens, trees, groups, options, tuples, loops
-- and runs
pub ruleset weighing = (
  descending,
  lowering,
  lightens_optional,
  lightens_after,
  lightens_many,
  lightens_both,
  lowers_first,
  lowers_second,
  lightens_three,
  lowers_three,
  lowers_tree,
  lightens_tree,
  lightens_rest,
  lightens_run,
  descends_optional,
  descends_after_token,
  descends_many,
)
