-- The laws of views, as relations of what two calls return.
use Rattle.std.proofs.Common.{◌≡◌, ap, refl, true, List, Option, Some, None}
use Rattle.std.specs.Prelude.{⊤, IfSome, option_map}
use Rattle.tok_lexical.specs.declared.delimiter.Delimiter.{Delimiter}
use Rattle.tok_core.specs.Erase.{erase}
use Rattle.tok_core.specs.Filled.{filled}
use Rattle.tok_core.specs.Forest.{Tree}
use Rattle.tok_buffer.specs.Buffer.{Laid}
use Rattle.tok_buffer.specs.EachRead.{Read, First}
use Rattle.tok_buffer.specs.Entry.{Entered, enter}
use Rattle.tok_buffer.specs.Order.{same_scope}
use Rattle.tok_buffer.specs.Place.{Place, empty_place, start, is_at_end}
use Rattle.tok_buffer.specs.Reached.{Reached, begin, nowhere}
use Rattle.tok_buffer.specs.Reads.{skip}
use Rattle.tok_buffer.specs.Rest.{scope_delimiter}
use Rattle.tok_buffer.specs.SameView.{leftover_span, SameView}
use Rattle.tok_buffer.specs.View.{entered_view, IsVisibleDelimiter, view, with_view}
use Rattle.tok_buffer.proofs.View.Laws.{calls_lead_on, reached_leads_on, read-same, starts_agree}
use Rattle.tok_buffer.proofs.View.Laws.{views_decide, views_tell_delimiters, views_tell_scopes}
use Rattle.tok_buffer.proofs.View.Moves.{LeadsTo, leads}
use Rattle.tok_buffer.proofs.View.Readings.{Reading}
use Rattle.std.proofs.lemmas.Option.{some_pair_parts}

-- two places that look the same
abbrev pub Alike : Laid → Laid → Place → Place → Type 0
Alike = SameView

-- two reads, two places if any, and two entered groups that agree
abbrev pub ReadsAlike : Laid → Laid → Option (List Tree × Place) → Option (List Tree × Place)
    → Type 0
ReadsAlike f g None None = ⊤
ReadsAlike f g (Some r) (Some q) = (r.0 ≡ q.0) × Alike f g r.1 q.1
ReadsAlike f g r q = ⊥

-- two places that agree, or none
abbrev pub PlacesAlike : Laid → Laid → Option Place → Option Place → Type 0
PlacesAlike f g None None = ⊤
PlacesAlike f g (Some p) (Some q) = Alike f g p q
PlacesAlike f g p q = ⊥

-- two entered groups that agree
pub record GroupsAlike (f g : Laid) (a b : Entered) : Type 0 where
  pub delimiter : a.delimiter ≡ b.delimiter
  pub span : a.span ≡ b.span
  pub content : Alike f g a.content b.content
  pub after : Alike f g a.after b.after

-- two entered groups that agree, or none
abbrev pub EntriesAlike : Laid → Laid → Option Entered → Option Entered → Type 0
EntriesAlike f g None None = ⊤
EntriesAlike f g (Some a) (Some b) = GroupsAlike f g a b
EntriesAlike f g a b = ⊥

some_same : {A : Type 0} (a b : A) → Some a ≡ Some b → a ≡ b
some_same a b e = cc

module _ (f g : Laid) where
  -- the starts of two forests with equal erasures
  pub alike-start : filled f.forest ≡ true → filled g.forest ≡ true
      → erase f.forest ≡ erase g.forest
      → Alike f g (start f.number f.forest) (start g.number g.forest)
  alike-start h k e =
      record {
        left_filled = h;
        right_filled = k;
        left = begin;
        right = begin;
        same = starts_agree f g e;
      }

  module _ (p q : Place) (h : Alike f g p q) where
    pub alike-end : is_at_end p ≡ is_at_end q
    alike-end = (views_decide f g p q h).ends

    pub alike-leftover : leftover_span p ≡ leftover_span q
    alike-leftover = (views_decide f g p q h).leftovers

    pub alike-delimiter : scope_delimiter p ≡ scope_delimiter q
    alike-delimiter =
        cc (views_tell_delimiters f.forest p, h.same, views_tell_delimiters g.forest q)

    -- places to which both lead
    alike-next : (r t : Place) → Reached f r → Reached g t → view f.forest r ≡ view g.forest t
        → Alike f g r t
    alike-next r t i j e =
        record {
          left_filled = h.left_filled;
          right_filled = h.right_filled;
          left = i;
          right = j;
          same = e;
        }

    pub alike-empty : Alike f g empty_place empty_place
    alike-empty = alike-next empty_place empty_place nowhere nowhere refl

    -- two places are in one scope exactly where the places alike to them are
    pub alike-scope : (r t : Place) → Alike f g r t → same_scope p r ≡ same_scope q t
    alike-scope r t k =
        let left = views_tell_scopes f h.left_filled p r h.left k.left in
        let right = views_tell_scopes g h.right_filled q t h.right k.right in
        cc (h.same, k.same)

    pub alike-reading : {read : Read} {first : First} → Reading read first
        → ReadsAlike f g (read p) (read q)
    alike-reading {read} {first} r =
        go (read p) (read q) (leads _ _ (reached_leads_on f) r p h.left)
        (leads _ _ (reached_leads_on g) r q h.right) (read-same r f.forest g.forest p q h.same)
      where
        go : (x y : Option (List Tree × Place)) → LeadsTo (Reached f) x → LeadsTo (Reached g) y
            → with_view f.forest x ≡ with_view g.forest y → ReadsAlike f g x y
        go None None i j e = tt
        go None (Some y) i j e = absurd (cc)
        go (Some x) None i j e = absurd (cc)
        go (Some x) (Some y) i j e =
            let (trees, views) =
            some_pair_parts x.0 y.0 (view f.forest x.1) (view g.forest y.1) e in
            (trees, alike-next x.1 y.1 i j views)

    pub alike-skip : PlacesAlike f g (skip p) (skip q)
    alike-skip =
        go (skip p) (skip q) (calls_lead_on f p h.left).skips (calls_lead_on g q h.right).skips
        (views_decide f g p q h).skips
      where
        go : (x y : Option Place) → IfSome x (Reached f) → IfSome y (Reached g)
            → option_map (view f.forest) x ≡ option_map (view g.forest) y → PlacesAlike f g x y
        go None None i j e = tt
        go None (Some y) i j e = absurd (cc)
        go (Some x) None i j e = absurd (cc)
        go (Some x) (Some y) i j e = alike-next x y i j (cc)

    pub alike-enter : (d : Delimiter) → IsVisibleDelimiter d
        → EntriesAlike f g (enter d p) (enter d q)
    alike-enter d v =
        go (enter d p) (enter d q) ((calls_lead_on f p h.left).enters d v)
        ((calls_lead_on g q h.right).enters d v) ((views_decide f g p q h).enters d v)
      where
        go : (x y : Option Entered)
            → IfSome x (λ e. Reached f e.content × Reached f e.after)
            → IfSome y (λ e. Reached g e.content × Reached g e.after)
            → option_map (entered_view f.forest) x ≡ option_map (entered_view g.forest) y
            → EntriesAlike f g x y
        go None None i j e = tt
        go None (Some y) i j e = absurd (cc)
        go (Some x) None i j e = absurd (cc)
        go (Some x) (Some y) i j e =
            let parts = some_same (entered_view f.forest x) (entered_view g.forest y) e in
            record {
              delimiter = ap (λ z. z.delimiter) parts;
              span = ap (λ z. z.span) parts;
              content = alike-next x.content y.content i.0 j.0 (ap (λ z. z.content) parts);
              after = alike-next x.after y.after i.1 j.1 (ap (λ z. z.after) parts);
            }
