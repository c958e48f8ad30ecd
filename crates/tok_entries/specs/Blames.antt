-- Which entry is rejected, and why.
use Rattle.std.specs.Prelude.{◌≡◌, ◌≤◌, ◌+◌, ℕ, List, [], ◌∷◌, ◌++◌, length}
use Rattle.std.specs.Str.{IsUtf8}
use Rattle.tok_lexical.specs.declared.delimiter.Delimiter.{Delimiter}
use Rattle.tok_leaves.specs.declared.span.Span.{Span}
use Rattle.tok_leaves.specs.Leaves.{Leaf, leaf_span, leaf_spacing, leaf_text}
use Rattle.tok_leaves.specs.Spans.{opening_span, closing_span}
use Rattle.tok_core.specs.Forest.{Tree, no_trees, tree}
use Rattle.tok_core.specs.Lexical.Items.{depth, most_levels}
use Rattle.tok_entries.specs.declared.entry.Entry.{Entry}
use Rattle.tok_entries.specs.declared.intake.fault.Refusal.{Refusal}
use Rattle.tok_entries.specs.declared.intake.fault.Refusal.TheVariants.{Shape, Text, Depth}
use Rattle.tok_entries.specs.Entries.{edge, leaf_as, leaf_entry, leaf_kind, spacing_number}
use Rattle.tok_entries.specs.Entries.{tree_entries, tree_texts}
use Rattle.tok_entries.specs.Texts.{IsInSource, IsLeafIn, IsTreeIn}

-- The fields are those of a leaf at a range of source 0, and its text comes next. Any UTF-8 text
-- may stand for the leaf's own.
abbrev pub FitsLeaf : (at : ℕ) → Entry → List ℕ → Type 0
FitsLeaf at e bs =
    (l : Leaf) × (text : List ℕ) × (behind : List ℕ)
    × (e ≡ leaf_as (leaf_kind l) (spacing_number (leaf_spacing l)) (leaf_span l) at
    (at + length text))
    × (bs ≡ text ++ behind) × IsUtf8 text × IsInSource (leaf_span l)

-- no leaf has this entry, and its text at the front of the texts
abbrev pub HasNoLeaf : (at : ℕ) → Entry → List ℕ → Type 0
HasNoLeaf at e bs =
    (l : Leaf) (behind : List ℕ) → IsLeafIn l → e ≡ leaf_entry at l → bs ≡ leaf_text l ++ behind
    → ⊥

-- the first entry and a later one are the edges of a group around these entries and texts, at a
-- range of source 0
abbrev pub Encloses : (at : ℕ) → List Entry → List ℕ → (inside : List Entry) → (words : List ℕ)
    → Type 0
Encloses at es bs inside words =
    (d : Delimiter) × (span : Span) × (later : List Entry) × (behind : List ℕ)
    × (es ≡ edge 3 d (opening_span span) at (length inside + 1)
    ∷ (inside
    ++ edge 4 d (closing_span span) (at + length words) (length inside + 1) ∷ later))
    × (bs ≡ words ++ behind) × IsUtf8 words × IsInSource span

-- the first entry and a later one are the edges of a group
abbrev pub OpensGroup : (at : ℕ) → List Entry → List ℕ → Type 0
OpensGroup at es bs =
    (inside : List Entry) × (words : List ℕ) × Encloses at es bs inside words

-- Why the first entry is rejected. `Shape`: its fields are no leaf's, and it opens no group.
-- `Text`: its fields are a leaf's, and its text is not. `Depth`: it opens a group, and no more may
-- be nested. If there is no entry, texts are left over.
abbrev pub Rejects : (at levels : ℕ) → List Entry → List ℕ → Refusal → Type 0
Rejects at levels [] bs why = (why ≡ Shape) × (bs ≡ [] → ⊥)
Rejects at levels (e ∷ es) bs Shape = (FitsLeaf at e bs → ⊥) × (OpensGroup at (e ∷ es) bs → ⊥)
Rejects at levels (e ∷ es) bs Text = FitsLeaf at e bs × HasNoLeaf at e bs
Rejects at levels (e ∷ es) bs Depth = OpensGroup at (e ∷ es) bs × (levels ≡ 0)

-- a tree is at the front of the entries and texts, before these
abbrev pub TakesTree : (at levels : ℕ) → List Entry → List ℕ → Tree → (later : List Entry)
    → (behind : List ℕ) → Type 0
TakesTree at levels es bs t later behind =
    (es ≡ tree_entries at t ++ later) × (bs ≡ tree_texts t ++ behind) × IsTreeIn t
    × (depth (tree t no_trees) ≤ levels)

-- Which entry is rejected, and why: the first one, one inside the group that comes first, or one
-- after the tree that comes first. The first entry has this number, its texts begin at this byte,
-- and no more than so many groups may be nested.
pub data BlamesFrom : (number at levels : ℕ) → List Entry → List ℕ → Refusal → ℕ → Type 0 where
  first_entry : (number at levels : ℕ) (es : List Entry) (bs : List ℕ) (why : Refusal)
      → Rejects at levels es bs why → BlamesFrom number at levels es bs why number
  entry_inside : (number at levels : ℕ) (es : List Entry) (bs : List ℕ) (inside : List Entry)
      (words : List ℕ) (why : Refusal) (named : ℕ) → Encloses at es bs inside words
      → BlamesFrom (number + 1) at levels inside words why named
      → BlamesFrom number at (levels + 1) es bs why named
  entry_after : (number at levels : ℕ) (es : List Entry) (bs : List ℕ) (t : Tree)
      (later : List Entry) (behind : List ℕ) (why : Refusal) (named : ℕ)
      → TakesTree at levels es bs t later behind
      → BlamesFrom (number + length (tree_entries at t)) (at + length (tree_texts t)) levels later
      behind why named → BlamesFrom number at levels es bs why named

-- The entry with this number is rejected, and why. Texts left over in a group are named by its
-- closing, and texts left over at the end by the number of all entries.
abbrev pub Blames : List Entry → List ℕ → Refusal → ℕ → Type 0
Blames es bs why named = BlamesFrom 0 0 most_levels es bs why named
