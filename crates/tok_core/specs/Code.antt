-- How a model holds a forest: as a list of its items, which is read from the last to the first.
use Rattle.std.specs.Prelude.{◌≡◌, ℕ, Bool, true, false, List, [], ◌∷◌, ◌++◌, ◌⊎◌, Option, Some}
use Rattle.std.specs.Prelude.{None, refl}
use Rattle.std.proofs.Common.{zero, suc, inl, inr, ap, arith}
use Rattle.std.specs.Coded.{Coded, code_by, coded×, coded_ℕ, coded_bool, coded_list, coded_option}
use Rattle.std.specs.Coded.{coded⊎}
use base.Stored.{coded_unit}
use Rattle.tok_leaves.specs.declared.span.Origin.{Origin}
use Rattle.tok_leaves.specs.declared.span.Origin.TheVariants.{CallSite, Source}
use Rattle.tok_leaves.specs.declared.span.Span.{Span}
use Rattle.tok_lexical.specs.declared.delimiter.Delimiter.{Delimiter}
use Rattle.tok_lexical.specs.declared.delimiter.Delimiter.TheVariants as delimiter
use Rattle.tok_leaves.specs.declared.punct.Spacing.{Spacing}
use Rattle.tok_leaves.specs.declared.punct.Spacing.TheVariants.{Alone, Joint}
use Rattle.tok_leaves.specs.Leaves.{Leaf, ident, punct, literal}
use Rattle.tok_core.specs.Forest.{leaf, group, Forest, no_trees, tree}

-- a source's number and a range in it, or nothing for the call site
abbrev pub SpanCode : Type 0
SpanCode = Option (ℕ × (ℕ × ℕ))

-- an identifier, a punct or a literal: the text, or the character and the spacing, and the span
abbrev pub LeafCode : Type 0
LeafCode = (List ℕ × SpanCode) ⊎ ((ℕ × (Bool × SpanCode)) ⊎ (List ℕ × SpanCode))

-- the end of a forest, a leaf, or a group's delimiter and span
abbrev pub ItemCode : Type 0
ItemCode = Unit {0} ⊎ (LeafCode ⊎ (ℕ × SpanCode))

-- the code of an origin: `None` for the call site
abbrev pub origin_code : Origin → SpanCode
origin_code CallSite = None
origin_code (Source n a b) = Some (n, (a, b))

-- the origin that a code stands for
abbrev pub place_of : SpanCode → Origin
place_of None = CallSite
place_of (Some c) = Source c.0 c.1.0 c.1.1

-- decoding an origin undoes its encoding
pub origin_back : (p : Origin) → place_of (origin_code p) ≡ p
origin_back p = grind arith

-- the code of a span
abbrev pub span_code : Span → SpanCode
span_code s = origin_code s.origin

-- the span that a code stands for
abbrev pub span_of : SpanCode → Span
span_of c = record { origin = place_of c }

-- decoding a span undoes its encoding
pub span_back : (s : Span) → span_of (span_code s) ≡ s
span_back s = ap (λ p. record { origin = p }) (origin_back s.origin)

-- the code of a spacing
abbrev pub spacing_code : Spacing → Bool
spacing_code Alone = false
spacing_code Joint = true

-- the spacing that a code stands for
abbrev pub spacing_of : Bool → Spacing
spacing_of false = Alone
spacing_of true = Joint

-- decoding a spacing undoes its encoding
pub spacing_back : (s : Spacing) → spacing_of (spacing_code s) ≡ s
spacing_back s = grind arith

-- the code of a delimiter
abbrev pub delimiter_code : Delimiter → ℕ
delimiter_code delimiter.Parenthesis = 0
delimiter_code delimiter.Brace = 1
delimiter_code delimiter.Bracket = 2
delimiter_code delimiter.None = 3

-- the delimiter that a code stands for
abbrev pub delimiter_of : ℕ → Delimiter
delimiter_of zero = delimiter.Parenthesis
delimiter_of (suc zero) = delimiter.Brace
delimiter_of (suc (suc zero)) = delimiter.Bracket
delimiter_of (suc (suc (suc n))) = delimiter.None

-- decoding a delimiter undoes its encoding
pub delimiter_back : (d : Delimiter) → delimiter_of (delimiter_code d) ≡ d
delimiter_back d = grind arith

-- the code of a leaf
abbrev pub leaf_code : Leaf → LeafCode
leaf_code (ident text span) = inl (text, span_code span)
leaf_code (punct c spacing span) = inr (inl (c, (spacing_code spacing, span_code span)))
leaf_code (literal text span) = inr (inr (text, span_code span))

-- the leaf that a code stands for
abbrev pub leaf_of : LeafCode → Leaf
leaf_of (inl c) = ident c.0 (span_of c.1)
leaf_of (inr (inl c)) = punct c.0 (spacing_of c.1.0) (span_of c.1.1)
leaf_of (inr (inr c)) = literal c.0 (span_of c.1)

-- decoding a leaf undoes its encoding
pub leaf_back : (l : Leaf) → leaf_of (leaf_code l) ≡ l
leaf_back (ident text span) = cc (span_back span)
leaf_back (punct c spacing span) = cc (spacing_back spacing, span_back span)
leaf_back (literal text span) = cc (span_back span)

-- the items of a forest: a group is before its contents, and an end after the last tree of a level
abbrev pub encode : Forest → List ItemCode
encode no_trees = inl tt ∷ []
encode (tree (leaf l) f) = inr (inl (leaf_code l)) ∷ encode f
encode (tree (group d inside span) f) =
    inr (inr (delimiter_code d, span_code span)) ∷ (encode inside ++ encode f)

-- the stack of forests after one more item; an item that lacks its forests empties the stack
abbrev pub stack_item : ItemCode → List Forest → List Forest
stack_item (inl u) s = no_trees ∷ s
stack_item (inr (inl l)) [] = []
stack_item (inr (inl l)) (f ∷ s) = tree (leaf (leaf_of l)) f ∷ s
stack_item (inr (inr g)) [] = []
stack_item (inr (inr g)) (c ∷ []) = []
stack_item (inr (inr g)) (c ∷ f ∷ s) = tree (group (delimiter_of g.0) c (span_of g.1)) f ∷ s

-- the stack after all items, read from the last to the first
abbrev pub stack_items : List ItemCode → List Forest → List Forest
stack_items [] s = s
stack_items (x ∷ xs) s = stack_item x (stack_items xs s)

-- the first forest of the stack, or no trees if it is empty
abbrev pub top : List Forest → Forest
top [] = no_trees
top (f ∷ s) = f

-- the forest that these items stand for
abbrev pub decode : List ItemCode → Forest
decode xs = top (stack_items xs [])

-- of two lists of items, the second is read first
pub stack_items_append : (xs ys : List ItemCode) (s : List Forest) →
    stack_items (xs ++ ys) s ≡ stack_items xs (stack_items ys s)
stack_items_append [] ys s = refl
stack_items_append (x ∷ xs) ys s = ap (stack_item x) (stack_items_append xs ys s)

-- the items of a forest put it on the stack
pub stack_items_encode : (f : Forest) (s : List Forest) → stack_items (encode f) s ≡ f ∷ s
stack_items_encode no_trees s = refl
stack_items_encode (tree (leaf l) f) s = rw (stack_items_encode f s, leaf_back l) refl
stack_items_encode (tree (group d c p) f) s =
    rw (
      stack_items_append (encode c) (encode f) s,
      stack_items_encode f s,
      stack_items_encode c (f ∷ s),
      delimiter_back d,
      span_back p,
    ) refl

-- the items of a forest stand for this forest
pub decode_encode : (f : Forest) → decode (encode f) ≡ f
decode_encode f = rw (stack_items_encode f []) refl

-- codes of spans, as a model holds them
abbrev pub coded_span : Coded SpanCode
coded_span = coded_option (coded× coded_ℕ (coded× coded_ℕ coded_ℕ))

-- forests, as a model holds them: as their items
abbrev pub forest_code : Coded Forest
forest_code =
    code_by (List ItemCode)
    (coded_list
    (coded⊎ coded_unit
    (coded⊎ (coded⊎ (coded× (coded_list coded_ℕ) coded_span)
    (coded⊎ (coded× coded_ℕ (coded× coded_bool coded_span))
    (coded× (coded_list coded_ℕ) coded_span)))
    (coded× coded_ℕ coded_span)))) encode decode decode_encode
