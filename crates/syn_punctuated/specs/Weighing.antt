-- Whether what is taken adds nothing to what is ahead, or takes something of it.
use Rattle.syn_parse.specs.Weighing.{weighing}
use Rattle.syn_punctuated.specs.NestedLists.{descending_lists}

-- with these `search` proves it of what has lists too
pub ruleset weighing_lists = (weighing, descending_lists)
