use Rattle.std.proofs.Common.{rules}
use Rattle.tok_entries.proofs.Groups.{no_cut, no_words, no_span, no_edges}
use Rattle.tok_entries.proofs.intake.group.group_parts.Goals as goal

pub returns-in_default-cut-clause-parts : goal.returns-in_default-cut-clause-parts
returns-in_default-cut-clause-parts c =
    no_cut c.args.begin c.args.opening.now.distance c.args.opening.now c.args.after.now
    c.args.rest.now (search rules) (search rules)

pub returns-in_default-text_up_to-clause-parts : goal.returns-in_default-text_up_to-clause-parts
returns-in_default-text_up_to-clause-parts c =
    no_words c.args.begin c.in-Some-cut.closing.now.text_start c.args.opening.now
    c.in-Some-cut.closing.now c.args.after.now c.in-Some-cut.inside.now c.in-Some-cut.later.now
    c.args.rest.now (search rules) (search rules) (search rules) (search rules)

pub returns-in_default-source_span-clause-parts : goal.returns-in_default-source_span-clause-parts
returns-in_default-source_span-clause-parts c =
    no_span c.args.begin c.args.opening.now c.in-Some-cut.closing.now c.args.after.now
    c.in-Some-cut.inside.now c.in-Some-cut.later.now c.args.rest.now (search rules) (search rules)
    (search rules)

pub returns-else-are_edges-clause-parts : goal.returns-else-are_edges-clause-parts
returns-else-are_edges-clause-parts c =
    no_edges c.args.begin c.args.opening.now c.in-Some-cut.closing.now c.args.after.now
    c.in-Some-cut.inside.now c.in-Some-cut.later.now c.args.rest.now c.in-Some.delimiter
    c.in-Some-source_span.span (search rules) (search rules) (search rules) (search rules)
    (search rules)
