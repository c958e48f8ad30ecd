-- What a cursor finds among the entries that are left of its scope, whatever they are.
use Rattle.std.specs.Prelude.{ℕ, ◌+◌, ◌-◌, ◌<◌, ◌≤◌, ◌==◌, ◌&&◌, ◌||◌, nat_lt, not, Bool, if◌then◌else◌}
use Rattle.std.specs.Prelude.{List, drop, get_or, length, Option, Some, None, option_map}
use Rattle.std.specs.List.{prefix_len, slice_get}
use Rattle.tok_lexical.specs.declared.delimiter.Delimiter.{Delimiter}
use Rattle.tok_lexical.specs.declared.delimiter.Delimiter.TheVariants as delimiter
use Rattle.tok_lexical.specs.Ascii.{apostrophe}
use Rattle.tok_entries.specs.Entries.{delimiter_code}
use Rattle.tok_entries.specs.declared.entry.Entry.{Entry}
use Rattle.tok_entries.specs.declared.cursor.Step.{Step}

-- the opening or the closing of an invisible group
abbrev pub is_invisible_edge : Entry → Bool
is_invisible_edge e = (e.kind == 3 || e.kind == 4) && e.delimiter == 3

-- the closing of an invisible group
abbrev pub is_invisible_closing : Entry → Bool
is_invisible_closing e = e.kind == 4 && e.delimiter == 3

-- the byte at which the text begins is an apostrophe
abbrev pub has_apostrophe : List ℕ → Entry → Bool
has_apostrophe bs e = get_or bs e.text_start 0 == apostrophe

-- a joint punct whose text is an apostrophe
abbrev pub is_joint_apostrophe : List ℕ → Entry → Bool
is_joint_apostrophe bs e = e.kind == 1 && (e.spacing == 1 && has_apostrophe bs e)

-- a token from one entry to another; it goes on past the invisible groups that end after it
abbrev pub step_over : List Entry → (at last : ℕ) → Step
step_over es at last =
    record {
      at = at;
      last = last;
      next = (last + 1) + prefix_len is_invisible_closing (drop (last + 1) es);
    }

-- the entries of a step are among so many
abbrev pub IsWithin : Step → ℕ → Type 0
IsWithin s count = (s.at ≤ s.last) × (s.last < s.next) × (s.next ≤ count)

-- the number of the first entry that is no edge of an invisible group
abbrev pub front : List Entry → ℕ
front es = prefix_len is_invisible_edge es

-- the front entry, if it is wanted
abbrev pub read_leaf : (Entry → Bool) → List Entry → Option Step
read_leaf wanted es =
    elim (slice_get es (front es)) [
      | Some e ↦ if wanted e then Some (step_over es (front es) (front es)) else None
      | None ↦ None
    ]

-- the front entry, if it is an identifier
abbrev pub read_ident : List Entry → Option Step
read_ident es = read_leaf (λ e. e.kind == 0) es

-- the front entry, if it is a literal
abbrev pub read_literal : List Entry → Option Step
read_literal es = read_leaf (λ e. e.kind == 2) es

-- the front entry, if it is a punct other than an apostrophe
abbrev pub read_punct : List ℕ → List Entry → Option Step
read_punct bs es = read_leaf (λ e. e.kind == 1 && not (has_apostrophe bs e)) es

-- a step that was found after the first so many entries, with its start at this entry
abbrev pub after : ℕ → ℕ → Step → Step
after at count s = record { at = at; last = count + s.last; next = count + s.next }

-- a joint apostrophe, and the identifier after it
abbrev pub read_lifetime : List ℕ → List Entry → Option Step
read_lifetime bs es =
    elim (read_leaf (is_joint_apostrophe bs) es) [
      | Some s ↦ option_map (after s.at (s.at + 1)) (read_ident (drop (s.at + 1) es))
      | None ↦ None
    ]

-- the group of an opening at this distance from its closing, if both are among the entries
abbrev pub whole : List Entry → (at distance : ℕ) → Option Step
whole es at distance =
    if nat_lt 0 distance && nat_lt distance (length es - at)
    then Some (step_over es at (at + distance)) else None

-- the group that opens at this entry, if it has this delimiter
abbrev pub read_group_at : Delimiter → List Entry → ℕ → Option Step
read_group_at d es at =
    elim (slice_get es at) [
      | Some e ↦
          if e.kind == 3 && e.delimiter == delimiter_code d then whole es at e.distance
          else None
      | None ↦ None
    ]

-- an invisible group is found at the first entry alone
abbrev pub read_group : Delimiter → List Entry → Option Step
read_group delimiter.None es = read_group_at delimiter.None es 0
read_group d es = read_group_at d es (front es)

-- the front leaf, or the group that opens at the front
abbrev pub read_tree : List Entry → Option Step
read_tree es =
    elim (slice_get es (front es)) [
      | Some e ↦
          if nat_lt e.kind 3 then Some (step_over es (front es) (front es))
          else if e.kind == 3 then whole es (front es) e.distance
          else None
      | None ↦ None
    ]

-- the step over a lifetime, or else over the front tree
abbrev pub skip : List ℕ → List Entry → Option Step
skip bs es = elim (read_lifetime bs es) [ Some s ↦ Some s | None ↦ read_tree es ]
