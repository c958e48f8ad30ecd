-- What single calls return at a place, by the visible trees ahead of it.
use Rattle.std.specs.Prelude.{◌≡◌, ℕ, true, if◌then◌else◌, not, List}
use Rattle.std.specs.Prelude.{Option, Some, None, option_map}
use Rattle.tok_lexical.specs.declared.delimiter.Delimiter.{Delimiter}
use Rattle.tok_leaves.specs.declared.span.Span.{Span}
use Rattle.tok_core.specs.Erase.{erase}
use Rattle.tok_core.specs.Filled.{filled, has_trees}
use Rattle.tok_core.specs.Forest.{Tree, leaf, group, Forest, no_trees, tree, tree_span}
use Rattle.tok_buffer.specs.Buffer.{Laid}
use Rattle.tok_buffer.specs.EachRead.{EachRead}
use Rattle.tok_buffer.specs.Entry.{enter, Entered, entered_with, EnteredWith, same_delimiter}
use Rattle.tok_buffer.specs.Place.{Place, start, is_at_end}
use Rattle.tok_buffer.specs.Reached.{Reached}
use Rattle.tok_buffer.specs.SameView.{leftover_span}
use Rattle.tok_buffer.specs.View.{erased_ahead, IsVisibleDelimiter}

-- a read, with the erased trees ahead of the place after it
abbrev pub with_ahead : Option (List Tree × Place) → Option (List Tree × Forest)
with_ahead r = option_map (λ q. (q.0, erased_ahead q.1)) r

-- a group that is entered, with the visible trees ahead in its contents and after it
abbrev pub entered_ahead : Entered → EnteredWith Forest
entered_ahead = entered_with erased_ahead

-- the first group, if it has this delimiter, with its content and the trees after it
abbrev pub first_group : Delimiter → Forest → Option (EnteredWith Forest)
first_group d no_trees = None
first_group d (tree (leaf l) f) = None
first_group d (tree (group e inside span) f) =
    if same_delimiter d e
    then Some (record { delimiter = e; span = span; content = inside; after = f }) else None

-- the span of the first tree, if there is one
abbrev pub first_tree_span : Forest → Option Span
first_tree_span no_trees = None
first_tree_span (tree t f) = Some (tree_span t)

-- reads of leaves and tokens, entries of visible groups and leftover spans depend on the visible
-- trees ahead alone
pub record AheadTells (p : Place) : Type 0 where
  pub leaves : EachRead (λ read first. with_ahead (read p) ≡ first (erased_ahead p))
  pub enters : (d : Delimiter) → IsVisibleDelimiter d
      → option_map entered_ahead (enter d p) ≡ first_group d (erased_ahead p)
  pub leftovers : leftover_span p ≡ first_tree_span (erased_ahead p)

-- the visible trees ahead decide such calls at every place
abbrev pub AheadTellsAll : Type 0
AheadTellsAll = (p : Place) → AheadTells p

-- in a filled forest, a place is at the end of its scope if and only if no visible tree is ahead
abbrev pub AheadTellsEnds : Type 0
AheadTellsEnds = (b : Laid) → filled b.forest ≡ true
    → (p : Place) → Reached b p
    → is_at_end p ≡ not (has_trees (erased_ahead p))

-- at the start the whole forest is ahead
abbrev pub AllAheadAtStart : Type 0
AllAheadAtStart = (number : ℕ) (f : Forest) → erased_ahead (start number f) ≡ erase f
