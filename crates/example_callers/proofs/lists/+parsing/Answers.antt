use Rattle.std.proofs.Common.{arith}
use Rattle.tok_lexical.specs.declared.delimiter.Delimiter.TheVariants.{Parenthesis}
use Rattle.tok_buffer.specs.Entry.{enter}
use Rattle.example_callers.specs.Lists.{name}
use Rattle.example_callers.proofs.Listed.{is_absent, one_list}
use Rattle.syn_parse.specs.Reads.{does}
use Rattle.example_callers.proofs.lists.+parsing.Goals as goal

pub parse_item-within-requires : goal.parse_item-within-requires
parse_item-within-requires t c κs =
    let inwards = (c.entries_go_on.ensures.groups Parenthesis).inwards in grind arith

pub parse_item-returns-in_ok-parse : goal.parse_item-returns-in_ok-parse
parse_item-returns-in_ok-parse t c =
    let s = c.args.input.now in
    let absent =
    is_absent (enter Parenthesis s.place) c.peek.result c.peek.ensures.peeks c.if-peek.false in
    name s c.parse.new.self c.in_ok-parse.field-0 absent (does _ _ _ _ c.in_ok-parse.ensures.reads)

pub parse_item-returns-in_ok-span : goal.parse_item-returns-in_ok-span
parse_item-returns-in_ok-span t c =
    one_list _ _ (λ a r b h. h) c.args.input.now c.within.new.self c.in_ok-span.span
    c.in_ok-span.items c.new.result c.new.ensures (does _ _ _ _ c.in_ok-span.ensures.runs)
