-- What the parts of values are written as.
use Rattle.std.specs.Prelude.{ℕ, List, [], ◌∷◌, Option, None, Some}
use Rattle.tok_lexical.specs.declared.delimiter.Delimiter.{Delimiter}
use Rattle.tok_leaves.specs.Spans.{call_site, whole_span}
use Rattle.tok_leaves.specs.declared.span.DelimSpan.{DelimSpan}
use Rattle.tok_core.specs.Forest.{Forest, concat, group, no_trees, tree}
use Rattle.tok_types.specs.Printed.{puncts, word}
use Rattle.tok_types.specs.Texts.{keyword_text, punctuation_word}
use Rattle.tok_types.specs.declared.keyword.Keyword.{Keyword}
use Rattle.tok_types.specs.declared.punctuation.Punctuation.{Punctuation}

-- a keyword as a tree
abbrev pub keyword_trees : {k : ℕ} → Keyword k → Forest
keyword_trees {k} keyword = word (keyword_text k) keyword.span

-- a punctuation as its puncts
abbrev pub sign_trees : {k n : ℕ} → Punctuation k n → Forest
sign_trees {k} {n} sign = puncts (punctuation_word k n) sign.spans

-- a punctuation of one character, or that at the call site
abbrev pub or_default_trees : {k : ℕ} → Option (Punctuation k 1) → Forest
or_default_trees {k} (Some sign) = sign_trees sign
or_default_trees {k} None = puncts (punctuation_word k 1) (call_site ∷ [])

-- values in turn
abbrev pub all_trees : {X : Type 0} → (X → Forest) → List X → Forest
all_trees printed [] = no_trees
all_trees printed (x ∷ xs) = concat (printed x) (all_trees printed xs)

-- a group with this delimiter, span and contents
abbrev pub group_trees : Delimiter → DelimSpan → Forest → Forest
group_trees d span inside = tree (group d inside (whole_span span)) no_trees
