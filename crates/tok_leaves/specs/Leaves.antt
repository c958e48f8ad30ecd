-- Leaves, as contracts see them, and their parts.
use Rattle.std.specs.Prelude.{ℕ, ◌==◌, ◌&&◌, if◌then◌else◌, List, ◌∷◌, codes, encode_utf8}
use Rattle.tok_lexical.specs.Ascii.{lower_r, number_sign}
use Rattle.tok_leaves.specs.declared.span.Span.{Span}
use Rattle.tok_leaves.specs.declared.ident.Ident.{Ident}
use Rattle.tok_leaves.specs.declared.ident.MakeFault.{MakeFault}
use Rattle.tok_leaves.specs.declared.ident.MakeFault.TheVariants.{Refused, Memory}
use Rattle.tok_leaves.specs.declared.punct.Punct.{Punct}
use Rattle.tok_leaves.specs.declared.punct.Spacing.{Spacing}
use Rattle.tok_leaves.specs.declared.punct.Spacing.TheVariants.{Alone}
use Rattle.tok_leaves.specs.declared.literal.Literal.{Literal}

-- a text is the list of its bytes, a character its code
pub data Leaf : Type 0 where
  ident : List ℕ → Span → Leaf
  punct : ℕ → Spacing → Span → Leaf
  literal : List ℕ → Span → Leaf

-- the most bytes of a text that is stored in place
abbrev pub most_short : ℕ
most_short = 14

-- the leaf that an `Ident` stands for
abbrev pub ident_of : Ident → Leaf
ident_of i = ident i.text i.span

-- the leaf that a `Punct` stands for
abbrev pub punct_of : Punct → Leaf
punct_of p = punct p.ch p.spacing p.span

-- the leaf that a `Literal` stands for
abbrev pub literal_of : Literal → Leaf
literal_of l = literal l.text l.span

-- the bytes that a leaf prints; a punct prints its character in UTF-8
abbrev pub leaf_text : Leaf → List ℕ
leaf_text (ident text span) = text
leaf_text (punct c spacing span) = encode_utf8 c
leaf_text (literal text span) = text

-- the range of a leaf in a source, or the call site
abbrev pub leaf_span : Leaf → Span
leaf_span (ident text span) = span
leaf_span (punct c spacing span) = span
leaf_span (literal text span) = span

-- the character and the spacing of a punct, with a default for other leaves
abbrev pub leaf_char : Leaf → ℕ
leaf_char (punct c spacing span) = c
leaf_char l = 0

-- whether a punct is joint; `Alone` for other leaves
abbrev pub leaf_spacing : Leaf → Spacing
leaf_spacing (punct c spacing span) = spacing
leaf_spacing l = Alone

-- an identifier's text without a leading `r#`
abbrev pub unraw : List ℕ → List ℕ
unraw (c ∷ (d ∷ word)) = if c == lower_r && d == number_sign then word else c ∷ (d ∷ word)
unraw text = text

-- why no identifier was made, in words
abbrev pub make_fault_words : MakeFault → List ℕ
make_fault_words Refused = codes "not an identifier, or one without a raw form"
make_fault_words Memory = codes "out of memory"
