-- How levels that are open are laid out as entries and texts, and which levels are there.
use Rattle.std.specs.Prelude.{◌≡◌, ℕ, ◌+◌, ◌-◌, ◌==◌, ◌&&◌, Bool, true, false, if◌then◌else◌, nat_lt}
use Rattle.std.specs.Prelude.{List, [], ◌∷◌, ◌++◌, length, map, take, drop, slice_index}
use Rattle.tok_leaves.specs.declared.punct.Spacing.{Spacing}
use Rattle.tok_leaves.specs.declared.punct.Spacing.TheVariants.{Alone, Joint}
use Rattle.tok_leaves.specs.declared.span.Origin.TheVariants.{CallSite, Source}
use Rattle.tok_leaves.specs.declared.span.Span.{Span}
use Rattle.tok_leaves.specs.Leaves.{Leaf, ident, punct, literal, leaf_span}
use Rattle.tok_leaves.specs.Spans.{source}
use Rattle.tok_core.specs.Building.{Levels, levels_of, places}
use Rattle.tok_core.specs.Code.{delimiter_of}
use Rattle.tok_core.specs.Forest.{Tree, leaf, group, Forest, no_trees, tree}
use Rattle.tok_entries.specs.declared.entry.Entry.{Entry}
use Rattle.tok_entries.specs.Entries.{entries, texts}

-- the entry in the place of an opening whose group is not yet closed
abbrev pub unclosed : ℕ → Entry
unclosed at =
    record {
      kind = 5;
      spacing = 0;
      delimiter = 0;
      start = 0;
      end = 0;
      text_start = at;
      text_end = at;
      distance = 0;
    }

-- the entries of levels, outermost first, each before the place of the next one's opening
abbrev pub laid : ℕ → List Forest → List Entry
laid at [] = []
laid at (f ∷ s) =
    entries at f ++ unclosed (at + length (texts f)) ∷ laid (at + length (texts f)) s

-- the texts of levels, outermost first
abbrev pub laid_texts : List Forest → List ℕ
laid_texts [] = []
laid_texts (f ∷ s) = texts f ++ laid_texts s

-- the span is a range of source 0
abbrev pub is_in_source : Span → Bool
is_in_source span = elim span.origin [ CallSite ↦ false | Source number from to ↦ number == 0 ]

-- a leaf that is a punct has a character of one byte
abbrev pub is_small : Leaf → Bool
is_small (ident text span) = true
is_small (punct c spacing span) = nat_lt c 128
is_small (literal text span) = true

-- nothing of a leaf is lost in its entry: it is in source 0, and a punct is ASCII
abbrev pub fits_leaf : Leaf → Bool
fits_leaf l = is_in_source (leaf_span l) && is_small l

abbrev mutual
  -- nothing of a tree is lost in its entries
  pub fits_tree : Tree → Bool
  fits_tree (leaf l) = fits_leaf l
  fits_tree (group delimiter inside span) = fits inside && is_in_source span

  -- nothing of these trees is lost in their entries
  pub fits : Forest → Bool
  fits no_trees = true
  fits (tree t f) = fits_tree t && fits f

-- nothing of any of these levels is lost in its entries
abbrev pub all_fit : List Forest → Bool
all_fit [] = true
all_fit (f ∷ s) = fits f && all_fit s

-- the text of an entry, among all texts
abbrev pub text_of : List ℕ → Entry → List ℕ
text_of bs e = take (e.text_end - e.text_start) (drop e.text_start bs)

-- the spacing of a number in an entry; any but 0 is `Joint`
abbrev pub spacing_of : ℕ → Spacing
spacing_of n = if n == 0 then Alone else Joint

-- the range of an entry, in source 0
abbrev pub span_of : Entry → Span
span_of e = source 0 e.start e.end

-- the leaf of an entry
abbrev pub leaf_of : List ℕ → Entry → Leaf
leaf_of bs e =
    if e.kind == 0 then ident (text_of bs e) (span_of e)
    else if e.kind == 1
    then punct (slice_index (text_of bs e) 0) (spacing_of e.spacing) (span_of e)
    else literal (text_of bs e) (span_of e)

-- a level that is read from the back: its trees so far, and the byte at which its group ends
abbrev Level : Type 0
Level = Forest × ℕ

-- the first level with this tree put before its trees
abbrev pub stack_tree : Tree → List Level → List Level
stack_tree t [] = []
stack_tree t (f ∷ s) = (tree t f.0, f.1) ∷ s

-- the first level, made a group and put before the trees of the next level
abbrev pub stack_group : Entry → List Level → List Level
stack_group e [] = []
stack_group e (f ∷ s) =
    stack_tree (group (delimiter_of e.delimiter) f.0 (source 0 e.start f.1)) s

-- the levels ahead with this entry before them; entries are read from the back
abbrev pub stack_entry : List ℕ → Entry → List Level → List Level
stack_entry bs e s =
    if e.kind == 5 then (no_trees, 0) ∷ s
    else if e.kind == 4 then (no_trees, e.end) ∷ s
    else if e.kind == 3 then stack_group e s
    else stack_tree (leaf (leaf_of bs e)) s

-- the levels ahead after all entries, read from the last to the first
abbrev pub stack_entries : List ℕ → List Entry → List Level → List Level
stack_entries bs [] s = s
stack_entries bs (e ∷ es) s = stack_entry bs e (stack_entries bs es s)

-- the levels that are in the entries and texts
abbrev pub levels_in : List Entry → List ℕ → Levels
levels_in es bs = levels_of (map (λ f. f.0) (stack_entries bs es ((no_trees, 0) ∷ [])))

-- These are the entries, texts and places of the levels, and all of each fits in an entry.
abbrev pub IsLaid : List Entry → List ℕ → List ℕ → Levels → Type 0
IsLaid es bs ps s =
    (es ≡ laid 0 s.outer ++ entries (length (laid_texts s.outer)) s.inner)
    × (bs ≡ laid_texts s.outer ++ texts s.inner) × (ps ≡ places 0 s.outer)
    × ((all_fit s.outer && fits s.inner) ≡ true)
