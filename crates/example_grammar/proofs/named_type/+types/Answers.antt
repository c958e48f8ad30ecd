use Rattle.std.proofs.Common.{◌<◌, arith, rules}
use Rattle.tok_buffer.specs.Progress.{remaining}
use Rattle.syn_parse.specs.Reads.{does}
use Rattle.syn_punctuated.proofs.ListTakes.{separated_list_keeps}
use Rattle.example_grammar.specs.NamedTypes.{types}
use Rattle.example_grammar.proofs.named_type.+types.Goals as goal

pub read_type-read_arguments-requires : goal.read_type-read_arguments-requires
read_type-read_arguments-requires t c =
    let less : remaining c.parse.new.self.place < remaining c.args.input.now.place =
    c.parses_go_on.ensures.idents.lowers _ c.in_ok-name.name _
    (does _ _ _ _ c.in_ok-name.ensures.reads) in
    (omega (arith, less), tt)

pub read_types-returns : goal.read_types-returns
read_types-returns t c =
    search (rules, separated_list_keeps types c.parse_separated_nonempty_with.ensures.turns)
