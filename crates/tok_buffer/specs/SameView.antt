-- Invisible groups do not matter to a single call.
use Rattle.std.specs.Prelude.{◌≡◌, true, List, IfSome, Option, option_map}
use Rattle.tok_lexical.specs.declared.delimiter.Delimiter.{Delimiter}
use Rattle.tok_leaves.specs.declared.span.Span.{Span}
use Rattle.tok_core.specs.Erase.{erase}
use Rattle.tok_core.specs.Filled.{filled}
use Rattle.tok_core.specs.Forest.{Tree, Forest}
use Rattle.tok_buffer.specs.Ahead.{leftover}
use Rattle.tok_buffer.specs.Buffer.{Laid}
use Rattle.tok_buffer.specs.EachRead.{EachRead, Read}
use Rattle.tok_buffer.specs.Entry.{enter}
use Rattle.tok_buffer.specs.Order.{same_scope}
use Rattle.tok_buffer.specs.Place.{Place, start, is_at_end}
use Rattle.tok_buffer.specs.Reached.{Reached}
use Rattle.tok_buffer.specs.Reads.{skip}
use Rattle.tok_buffer.specs.Rest.{scope_delimiter}
use Rattle.tok_buffer.specs.View.{IsVisibleDelimiter, entered_view, view, with_view}
use Rattle.tok_buffer.specs.View.{one_scope_in_view, delimiter_in_view}

-- a place in each of two filled forests, with equal views
pub record SameView (b c : Laid) (p q : Place) : Type 0 where
  pub left_filled : filled b.forest ≡ true
  pub right_filled : filled c.forest ≡ true
  pub left : Reached b p
  pub right : Reached c q
  pub same : view b.forest p ≡ view c.forest q

-- a read returns the same trees at two places, and the places after them have equal views
abbrev pub ReadsAgree : Forest → Forest → Read → Place → Place → Type 0
ReadsAgree f g read p q = with_view f (read p) ≡ with_view g (read q)

-- a skip leads from both places to equal views, or from neither
abbrev pub SkipsAgree : Forest → Forest → Place → Place → Type 0
SkipsAgree f g p q = option_map (view f) (skip p) ≡ option_map (view g) (skip q)

-- a group of this delimiter is entered at both places, with equal views, or at neither
abbrev pub EntriesAgree : Forest → Forest → Delimiter → Place → Place → Type 0
EntriesAgree f g d p q =
    option_map (entered_view f) (enter d p) ≡ option_map (entered_view g) (enter d q)

-- the span of the first visible tree that is left
abbrev pub leftover_span : Place → Option Span
leftover_span p = option_map (λ l. l.span) (leftover p)

-- reads of leaves, skips, ends, entries of visible groups and leftover spans are equal at both
-- places, and the places after them have equal views
pub record CallsAgree (f g : Forest) (p q : Place) : Type 0 where
  pub leaves : EachRead (λ read first. ReadsAgree f g read p q)
  pub skips : SkipsAgree f g p q
  pub ends : is_at_end p ≡ is_at_end q
  pub enters : (d : Delimiter) → IsVisibleDelimiter d → EntriesAgree f g d p q
  pub leftovers : leftover_span p ≡ leftover_span q

-- what such a call returns depends on the view of the place alone
abbrev pub ViewsDecide : Type 0
ViewsDecide = (b c : Laid) (p q : Place) → SameView b c p q → CallsAgree b.forest c.forest p q

-- the place after a read has a view
abbrev pub ReadLeadsOn : Laid → Read → Place → Type 0
ReadLeadsOn b read p = IfSome (read p) (λ (r : List Tree × Place). Reached b r.1)

-- the places after reads of leaves, skips and entries of visible groups have views
pub record LeadsOn (b : Laid) (p : Place) : Type 0 where
  pub leaves : EachRead (λ read first. ReadLeadsOn b read p)
  pub skips : IfSome (skip p) (Reached b)
  pub enters : (d : Delimiter) → IsVisibleDelimiter d
      → IfSome (enter d p) (λ e. Reached b e.content × Reached b e.after)

-- each call at a place that has a view leads to places that have one
abbrev pub CallsLeadOn : Type 0
CallsLeadOn = (b : Laid) (p : Place) → Reached b p → LeadsOn b p

-- two places are in one scope if and only if their views are
abbrev pub ViewsTellScopes : Type 0
ViewsTellScopes = (b : Laid) → filled b.forest ≡ true
    → (p q : Place) → Reached b p → Reached b q
    → same_scope p q ≡ one_scope_in_view (view b.forest p) (view b.forest q)

-- a view tells its scope's delimiter
abbrev pub ViewsTellDelimiters : Type 0
ViewsTellDelimiters = (f : Forest) (p : Place) → scope_delimiter p ≡ delimiter_in_view (view f p)

-- the starts of two forests with equal erasures have equal views
abbrev pub StartsAgree : Type 0
StartsAgree = (b c : Laid) → erase b.forest ≡ erase c.forest
    → view b.forest (start b.number b.forest) ≡ view c.forest (start c.number c.forest)
