-- What the entry of a leaf and the edges of a group say of the texts and entries after them.
use Rattle.std.specs.Prelude.{◌≡◌, ◌+◌, ℕ, List, ◌∷◌, ◌++◌, length}
use Rattle.tok_lexical.specs.declared.delimiter.Delimiter.{Delimiter}
use Rattle.tok_leaves.specs.declared.punct.Spacing.{Spacing}
use Rattle.tok_leaves.specs.declared.span.Span.{Span}
use Rattle.tok_leaves.specs.Spans.{opening_span, closing_span}
use Rattle.tok_entries.specs.declared.entry.Entry.{Entry}
use Rattle.tok_entries.specs.declared.intake.fault.Refusal.{Refusal}
use Rattle.tok_entries.specs.declared.intake.fault.Refusal.TheVariants.{Shape, Text, Depth}
use Rattle.tok_entries.specs.declared.intake.group.GroupParts.{GroupParts}
use Rattle.tok_entries.specs.Blames.{FitsLeaf, HasNoLeaf}
use Rattle.tok_entries.specs.Entries.{edge, leaf_as, spacing_number}
use Rattle.tok_entries.specs.Texts.{IsInSource}

-- the entry of a leaf with this spacing, span and text, which is at the front of the texts
abbrev pub AreLeafParts : ℕ → Entry → List ℕ → Spacing → Span → List ℕ → List ℕ → Type 0
AreLeafParts at e bs spacing span text behind =
    (e ≡ leaf_as e.kind (spacing_number spacing) span at (at + length text))
    × (bs ≡ text ++ behind) × IsInSource span

-- why an entry is no leaf's, before these texts
abbrev pub RejectsLeaf : ℕ → Entry → List ℕ → Refusal → Type 0
RejectsLeaf at e bs Shape = FitsLeaf at e bs → ⊥
RejectsLeaf at e bs Text = FitsLeaf at e bs × HasNoLeaf at e bs
RejectsLeaf at e bs Depth = ⊥

-- the edges of a group whose texts begin at this byte, apart from how many it holds
abbrev pub AreEdges : Entry → Entry → Delimiter → Span → ℕ → Type 0
AreEdges first last delimiter span at =
    (first ≡ edge 3 delimiter (opening_span span) at first.distance)
    × (last ≡ edge 4 delimiter (closing_span span) last.text_start first.distance)

-- the edges of a group around these entries and texts
abbrev pub AreGroupParts : ℕ → Entry → List Entry → List ℕ → GroupParts → Type 0
AreGroupParts at e es bs p =
    (e ≡ edge 3 p.delimiter (opening_span p.span) at (length p.inside.now + 1))
    × (es ≡ p.inside.now
    ++ edge 4 p.delimiter (closing_span p.span) (at + length p.words.now)
    (length p.inside.now + 1) ∷ p.later.now)
    × (bs ≡ p.words.now ++ p.behind.now) × IsInSource p.span
