-- The leftover, from the first visible tree.
use Rattle.std.proofs.Common.{◌≡◌, Bool, cond, List, [], ◌∷◌, Some, sym, ap}
use Rattle.tok_leaves.specs.declared.span.Span.{Span}
use Rattle.tok_lexical.specs.declared.delimiter.Delimiter.{Delimiter}
use Rattle.tok_lexical.specs.declared.delimiter.Delimiter.TheVariants as delimiter
use Rattle.tok_core.specs.Forest.{Tree, tree_span}
use Rattle.tok_buffer.specs.Ahead.{first_left, first_of, left_of}

pub left_first : (scope : Delimiter) (xs : List (Bool × Tree)) (m : Bool) (span : Span) →
    first_of xs ≡ Some (m, span) → left_of (Some (span, cond m delimiter.None scope))
    ≡ first_left scope xs
left_first scope [] m span e = cc
left_first scope (x ∷ xs) m span e =
    let q : (x.0, tree_span x.1) ≡ (m, span) = cc in
    sym (ap (λ (z : Bool × Span). left_of (Some (z.1, cond z.0 delimiter.None scope))) q)
