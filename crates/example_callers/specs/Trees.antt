-- Trees that a caller builds.
use Rattle.std.specs.Prelude.{[], ◌∷◌, codes}
use Rattle.tok_lexical.specs.declared.delimiter.Delimiter.TheVariants.{Parenthesis, None}
use Rattle.tok_leaves.specs.declared.punct.Spacing.TheVariants.{Alone, Joint}
use Rattle.tok_leaves.specs.Leaves.{ident, punct}
use Rattle.tok_core.specs.Forest.{leaf, group, Forest, forest}
use Rattle.tok_leaves.specs.Spans.{call_site}

-- `a (b «c») +=`, at the call site
abbrev pub by_hand : Forest
by_hand =
    let inner = forest (leaf (ident (codes "c") call_site) ∷ []) in
    let outer = forest (leaf (ident (codes "b") call_site) ∷ group None inner call_site ∷ []) in
    forest (leaf (ident (codes "a") call_site) ∷ group Parenthesis outer call_site ∷ leaf
    (punct 43 Joint call_site) ∷ leaf (punct 61 Alone call_site) ∷ [])
