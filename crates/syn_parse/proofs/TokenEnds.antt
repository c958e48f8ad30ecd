-- Where the tokens of a source end.
use Rattle.std.proofs.Common.{arith, ◌≡◌, ap, subst, refl, ℕ, true, Option, Some, List, []}
use Rattle.std.proofs.lemmas.Option.{same_Some}
use Rattle.tok_leaves.specs.Spans.{call_site}
use Rattle.tok_leaves.specs.declared.span.Span.{Span}
use Rattle.tok_core.specs.Forest.{Tree, Forest, no_trees, tree, tree_span}
use Rattle.tok_buffer.specs.Place.{Place, at, frame, is_at_end, start, whole}
use Rattle.tok_buffer.specs.Reads.{place_after, read_tree}
use Rattle.tok_buffer.specs.Spans.{last_span, previous_span}
use Rattle.tok_buffer.specs.Trees.{EndsScope, PassesTrees, further, here}
use Rattle.syn_parse.specs.Sources.{end_of_span, end_of_tokens}

-- the span of the tree that was passed last
abbrev last-passed : Forest → Span
last-passed no_trees = call_site
last-passed (tree t p) = tree_span t

-- a place outside of all groups, of which these trees are the last
data IsOutside (last : Span) : Place → Type 0 where
  outside : (n s c : ℕ) (passed ahead : Forest) → last_span (last-passed passed) ahead ≡ last
      → IsOutside last (at n s c (frame whole passed ahead) [])

after-some : {x : Option (List Tree × Place)} {ts : List Tree} {r : Place}
    → x ≡ Some (ts, r) → place_after x ≡ Some r
after-some e = ap place_after e

passes-one : (last : Span) (q r : Place) (ts : List Tree) → IsOutside last q
    → read_tree q ≡ Some (ts, r) → IsOutside last r
passes-one last q r ts (outside n s c passed no_trees h) e = absurd (cc)
passes-one last q r ts (outside n s c passed (tree t f) h) e =
    subst (IsOutside last) (same_Some _ _ (after-some e)) (outside n s _ (tree t passed) f h)

passes-all : (last : Span) (p q : Place) → IsOutside last p → PassesTrees p q → IsOutside last q
passes-all last p q h here = h
passes-all last p z h (further q r ts k e) = passes-one last q r ts (passes-all last p q h k) e

ends-outside : (number : ℕ) (last : Span) (q : Place) → IsOutside last q → is_at_end q ≡ true
    → end_of_span number (previous_span q) ≡ end_of_span number last
ends-outside number last q h e = grind arith

-- the span before the end of a whole buffer ends where its tokens do
pub tokens_end : (number n : ℕ) (f : Forest) (q : Place) → EndsScope (start n f) q
    → end_of_span number (previous_span q) ≡ end_of_tokens number f
tokens_end number n f q h =
    ends-outside number (last_span call_site f) q
    (passes-all (last_span call_site f) (start n f) q (outside n _ 0 no_trees f refl) h.passes)
    h.at_end
