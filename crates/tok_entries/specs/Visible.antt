-- The visible trees of the entries that are left of a scope, and what it is to read the first ones.
use Rattle.std.specs.Prelude.{◌≡◌, ◌⊎◌, ℕ, ◌+◌, ◌-◌, ◌==◌, Bool, true, false}
use Rattle.std.specs.Prelude.{List, [], ◌∷◌, ◌++◌, drop, length, take, Option, Some, MatchOption}
use Rattle.std.specs.List.{slice_get}
use Rattle.tok_lexical.specs.Ascii.{apostrophe}
use Rattle.tok_lexical.specs.declared.delimiter.Delimiter.{Delimiter}
use Rattle.tok_lexical.specs.declared.delimiter.Delimiter.TheVariants as delimiter
use Rattle.tok_leaves.specs.declared.punct.Spacing.TheVariants.{Joint}
use Rattle.tok_leaves.specs.declared.span.Span.{Span}
use Rattle.tok_leaves.specs.Leaves.{Leaf, ident, punct, leaf_text}
use Rattle.tok_core.specs.Erase.{erase}
use Rattle.tok_core.specs.Forest.{Tree, leaf, group, Forest, no_trees, tree}
use Rattle.tok_core.specs.Kinds.{any_tree, is_ident, is_literal, is_punct}
use Rattle.tok_entries.specs.Entries.{BeginsWith, delimiter_code, edge, leaf_entry, texts}
use Rattle.tok_entries.specs.Entries.{tree_entries, tree_texts}
use Rattle.tok_entries.specs.Cursor.{read_group, read_ident, read_lifetime, read_literal}
use Rattle.tok_entries.specs.Cursor.{read_punct, skip}
use Rattle.tok_entries.specs.declared.cursor.Step.{Step}
use Rattle.tok_entries.specs.declared.entry.Entry.{Entry}

-- any delimiter but `None`
abbrev pub IsVisible : Delimiter → Type 0
IsVisible d = d ≡ delimiter.None → ⊥

-- the visible trees among entries whose texts begin at this byte: an edge of an invisible group
-- adds none, whether or not its other edge is there
pub data Shows : (at : ℕ) → List Entry → Forest → Type 0 where
  at_end : (at : ℕ) → Shows at [] no_trees
  past_opening : (at distance : ℕ) (span : Span) (es : List Entry) (f : Forest) → Shows at es f
      → Shows at (edge 3 delimiter.None span at distance ∷ es) f
  past_closing : (at distance : ℕ) (span : Span) (es : List Entry) (f : Forest) → Shows at es f
      → Shows at (edge 4 delimiter.None span at distance ∷ es) f
  with_leaf : (at : ℕ) (l : Leaf) (es : List Entry) (f : Forest)
      → Shows (at + length (leaf_text l)) es f → Shows at (leaf_entry at l ∷ es) (tree (leaf l) f)
  with_group : (at : ℕ) (d : Delimiter) (inside : Forest) (span : Span) (es : List Entry)
      (f : Forest) → IsVisible d → Shows (at + length (texts inside)) es f
      → Shows at (tree_entries at (group d inside span) ++ es)
      (tree (group d (erase inside) span) f)

-- the visible trees of entries that are left, and their texts among those of all entries
abbrev pub IsLeft : (at : ℕ) → (bs : List ℕ) → List Entry → Forest → Type 0
IsLeft at bs es f = Shows at es f × BeginsWith (drop at bs) (texts f)

-- a group of this delimiter
abbrev pub is_group_of : Delimiter → Tree → Bool
is_group_of d (group e inside span) = delimiter_code e == delimiter_code d
is_group_of d t = false

-- the entries of a token
abbrev pub between : Step → List Entry → List Entry
between s es = take (s.last + 1 - s.at) (drop s.at es)

-- the entries of a tree that is this one without invisible groups
abbrev pub AreEntriesOf : (at : ℕ) → Tree → List Entry → Type 0
AreEntriesOf at t es =
    (whole : Tree) × (erase (tree whole no_trees) ≡ tree t no_trees) × (es ≡ tree_entries at whole)

-- the first visible tree is wanted, and is the token; the trees after it are left
abbrev pub FindsTree : (Tree → Bool) → (at : ℕ) → (bs : List ℕ) → List Entry → Forest → Step
    → Type 0
FindsTree wanted at bs es f s =
    (t : Tree) × (rest : Forest) × (f ≡ tree t rest) × (wanted t ≡ true)
    × AreEntriesOf at t (between s es)
    × IsLeft (at + length (tree_texts t)) bs (drop s.next es) rest

-- the first visible tree, if any, is not wanted
abbrev pub HasNoTree : (Tree → Bool) → Forest → Type 0
HasNoTree wanted f = (t : Tree) (rest : Forest) → f ≡ tree t rest → wanted t ≡ true → ⊥

-- the step over the first visible tree if that is wanted, else none
abbrev pub Reads : (Tree → Bool) → (at : ℕ) → (bs : List ℕ) → List Entry → Forest → Option Step
    → Type 0
Reads wanted at bs es f r = MatchOption r (HasNoTree wanted f) (FindsTree wanted at bs es f)

-- a joint apostrophe and an identifier come first
abbrev pub BeginsLifetime : Forest → Span → (name : List ℕ) → Span → (rest : Forest) → Type 0
BeginsLifetime f quote name span rest =
    f ≡ tree (leaf (punct apostrophe Joint quote)) (tree (leaf (ident name span)) rest)

-- the first two visible trees are a lifetime and the token; the trees after them are left
abbrev pub FindsLifetime : (at : ℕ) → (bs : List ℕ) → List Entry → Forest → Step → Type 0
FindsLifetime at bs es f s =
    (quote : Span) × (name : List ℕ) × (span : Span) × (rest : Forest)
    × BeginsLifetime f quote name span rest
    × (slice_get es s.at ≡ Some (leaf_entry at (punct apostrophe Joint quote)))
    × (slice_get es s.last ≡ Some (leaf_entry (at + 1) (ident name span)))
    × IsLeft (at + 1 + length name) bs (drop s.next es) rest

-- the first visible trees, if any, are no lifetime
abbrev pub HasNoLifetime : Forest → Type 0
HasNoLifetime f =
    (quote : Span) (name : List ℕ) (span : Span) (rest : Forest)
    → BeginsLifetime f quote name span rest → ⊥

-- each call finds what comes first among the visible trees, and leaves what comes after it
pub record ReadsFirst (at : ℕ) (bs : List ℕ) (es : List Entry) (f : Forest) : Type 0 where
  pub ident : Reads is_ident at bs es f (read_ident es)
  pub punct : Reads is_punct at bs es f (read_punct bs es)
  pub literal : Reads is_literal at bs es f (read_literal es)
  pub group : (d : Delimiter) → IsVisible d → Reads (is_group_of d) at bs es f (read_group d es)
  pub lifetime : MatchOption (read_lifetime bs es) (HasNoLifetime f) (FindsLifetime at bs es f)
  pub skip : MatchOption (skip bs es) (f ≡ no_trees) (λ s. FindsLifetime at bs es f s
      ⊎ (HasNoLifetime f × FindsTree any_tree at bs es f s))

-- an invisible group that comes first is found, and what comes after it is left
abbrev pub FindsInvisible : (at : ℕ) → (bs : List ℕ) → (inside : Forest) → Span → List Entry
    → Forest → Type 0
FindsInvisible at bs inside span more f =
    let es = tree_entries at (group delimiter.None inside span) ++ more in
    (s : Step) × (read_group delimiter.None es ≡ Some s)
    × (between s es ≡ tree_entries at (group delimiter.None inside span))
    × IsLeft (at + length (texts inside)) bs (drop s.next es) f
