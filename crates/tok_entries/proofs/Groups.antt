-- What entries and texts that begin with a group's say of its parts.
use Rattle.std.proofs.Common.{◌≡◌, ℕ, ◌+◌, ◌<◌, List, [], ◌∷◌, ◌++◌, length, ap, sym, ◌∙◌, arith}
use Rattle.std.proofs.Common.{append_assoc}
use Rattle.std.proofs.Math.Nat.{max-le}
use Rattle.std.specs.Str.{IsUtf8}
use Rattle.tok_lexical.specs.declared.delimiter.Delimiter.{Delimiter}
use Rattle.tok_leaves.specs.declared.span.Span.{Span}
use Rattle.tok_leaves.specs.Spans.{source, opening_span, closing_span}
use Rattle.tok_core.specs.Forest.{group, Forest}
use Rattle.tok_core.specs.Weight.{weight}
use Rattle.tok_entries.specs.declared.entry.Entry.{Entry}
use Rattle.tok_entries.specs.Entries.{edge, entries, texts, tree_entries, delimiter_code}
use Rattle.tok_entries.specs.declared.intake.group.GroupParts.{GroupParts}
use Rattle.tok_entries.specs.Denotes.{DenotesFrom}
use Rattle.tok_entries.specs.Blames.{Encloses, FitsLeaf, OpensGroup, TakesTree}
use Rattle.tok_entries.specs.Private.Parts.{AreEdges, AreGroupParts}
use Rattle.tok_entries.specs.Texts.{IsForestIn, IsInSource}
use Rattle.tok_entries.proofs.Fillings.{length-entries}
use Rattle.tok_entries.proofs.Once.{head, tail, fronts, rests, opening_first, closing_last, delimiter_once}
use Rattle.tok_entries.proofs.Once.{leaf_is_small}
use Rattle.tok_entries.proofs.Steps.{utf8_texts}

-- a group's edges, with these entries and texts between them
module _ (at : ℕ) (first : Entry) (after later held : List Entry) (words : List ℕ)
    (d : Delimiter) (s : Span)
    (e : first ∷ after ≡ edge 3 d (opening_span s) at (length held + 1) ∷ (held
    ++ edge 4 d (closing_span s) (at + length words) (length held + 1) ∷ later)) where
  abbrev pub end_of : Entry
  end_of = edge 4 d (closing_span s) (at + length words) (length held + 1)

  pub opening_is : first ≡ edge 3 d (opening_span s) at (length held + 1)
  opening_is = head _ _ _ _ e

  pub after_is : after ≡ held ++ end_of ∷ later
  after_is = tail _ _ _ _ e

  pub distance_is : first.distance ≡ length held + 1
  distance_is = ap (λ x. x.distance) opening_is

  -- the entries are cut where the distance says
  module _ (inside others : List Entry) (closing : Entry) (cut : after ≡ inside ++ closing ∷ others)
      (far : first.distance ≡ length inside + 1) where
    same_size : length inside ≡ length held
    same_size = omega (arith, far, distance_is)

    whole : inside ++ closing ∷ others ≡ held ++ end_of ∷ later
    whole = sym cut ∙ after_is

    pub inside_is : inside ≡ held
    inside_is = fronts inside held (closing ∷ others) (end_of ∷ later) same_size whole

    behind_is : closing ∷ others ≡ end_of ∷ later
    behind_is = rests inside held (closing ∷ others) (end_of ∷ later) same_size whole

    pub closing_is : closing ≡ edge 4 d (closing_span s) (at + length words) (length held + 1)
    closing_is = head _ _ _ _ behind_is

    pub start_is : (a b : ℕ) → s ≡ source 0 a b → first.start ≡ a
    start_is a b h =
        cc (opening_is, opening_first a b)

    pub end_is : (a b : ℕ) → s ≡ source 0 a b → closing.end ≡ b
    end_is a b h =
        cc (closing_is, closing_last a b)

    pub span_is : IsInSource s → s ≡ source 0 first.start closing.end
    span_is (a, b, le, h) = cc (start_is a b h, end_is a b h)

    pub delimiter_is : (c : Delimiter) → delimiter_code c ≡ first.delimiter → d ≡ c
    delimiter_is c h =
        delimiter_once d c (cc opening_is)

-- no place for the closing
pub no_cut : (at k : ℕ) (first : Entry) (after : List Entry) (bs : List ℕ) → k ≡ first.distance
    → ((inside later : List Entry) (closing : Entry) → after ≡ inside ++ closing ∷ later
    → k ≡ length inside + 1 → ⊥) → OpensGroup at (first ∷ after) bs → ⊥
no_cut at k first after bs hk none (held, words, (d, s, later, behind, e, hb, hu, hs)) =
    none held later (end_of at first after later held words d s e)
    (after_is at first after later held words d s e)
    (cc (distance_is at first after later held words d s e))

-- no texts up to the closing
pub no_words : (at end : ℕ) (first closing : Entry) (after inside others : List Entry) (bs : List ℕ)
    → after ≡ inside ++ closing ∷ others → first.distance ≡ length inside + 1
    → end ≡ closing.text_start
    → ((text behind : List ℕ) → IsUtf8 text → bs ≡ text ++ behind → end ≡ at + length text → ⊥)
    → OpensGroup at (first ∷ after) bs → ⊥
no_words at end first closing after inside others bs cut far he none
    (held, words, (d, s, later, behind, e, hb, hu, hs)) =
    none words behind hu hb (he ∙ ap (λ x. x.text_start)
    (closing_is at first after later held words d s e inside others closing cut far))

-- a span that ends before it begins
pub no_span : (at : ℕ) (first closing : Entry) (after inside others : List Entry) (bs : List ℕ)
    → after ≡ inside ++ closing ∷ others → first.distance ≡ length inside + 1
    → closing.end < first.start → OpensGroup at (first ∷ after) bs → ⊥
no_span at first closing after inside others bs cut far less
    (held, words, (d, s, later, behind, e, hb, hu, (a, b, le, h))) =
    let p : first.start ≡ a =
    start_is at first after later held words d s e inside others closing cut far a b h in
    let q : closing.end ≡ b =
    end_is at first after later held words d s e inside others closing cut far a b h in
    absurd (omega (arith, p, q, le, less))

-- fields of an edge that don't fit
pub no_edges : (at : ℕ) (first closing : Entry) (after inside others : List Entry) (bs : List ℕ)
    (c : Delimiter) (r : Span) → after ≡ inside ++ closing ∷ others
    → first.distance ≡ length inside + 1 → delimiter_code c ≡ first.delimiter
    → r ≡ source 0 first.start closing.end → (AreEdges first closing c r at → ⊥)
    → OpensGroup at (first ∷ after) bs → ⊥
no_edges at first closing after inside others bs c r cut far hc hr none
    (held, words, (d, s, later, behind, e, hb, hu, hs)) =
    let dc : d ≡ c =
    delimiter_is at first after later held words d s e inside others closing cut far c hc in
    let sr : s ≡ r =
    span_is at first after later held words d s e inside others closing cut far hs ∙ sym hr in
    let o : first ≡ edge 3 d (opening_span s) at (length held + 1) =
    opening_is at first after later held words d s e in
    let z : closing ≡ edge 4 d (closing_span s) (at + length words) (length held + 1) =
    closing_is at first after later held words d s e inside others closing cut far in
    let k : length held + 1 ≡ first.distance = sym (ap (λ x. x.distance) o) in
    let t : at + length words ≡ closing.text_start = sym (ap (λ x. x.text_start) z) in
    none (
      rw (k, dc, sr) at o,
      rw (t, k, dc, sr) at z,
    )

-- an opening is no leaf's
pub no_leaf_opens : (at : ℕ) (first : Entry) (bs : List ℕ) → first.kind ≡ 3
    → FitsLeaf at first bs → ⊥
no_leaf_opens at first bs k (l, text, behind, e, hb, hu, hs) =
    absurd (omega (arith, k, ap (λ x. x.kind) e, leaf_is_small l))

-- the edges that were found are a group's
pub parts_open : (at : ℕ) (first : Entry) (after : List Entry) (bs : List ℕ) (p : GroupParts)
    → AreGroupParts at first after bs p → IsUtf8 p.words.now
    → Encloses at (first ∷ after) bs p.inside.now p.words.now
parts_open at first after bs p (po, pa, pb, ps) u = (
  p.delimiter,
  p.span,
  p.later.now,
  p.behind.now,
  rw (← po, ← pa),
  pb,
  u,
  ps,
)

-- a group's tree has edges around the entries and texts inside it
pub tree_opens : (at : ℕ) (es later : List Entry) (bs behind : List ℕ) (d : Delimiter) (f : Forest)
    (s : Span) → es ≡ tree_entries at (group d f s) ++ later → bs ≡ texts f ++ behind
    → IsForestIn f → IsInSource s → Encloses at es bs (entries at f) (texts f)
tree_opens at es later bs behind d f s e hb hf hs =
    let z = edge 4 d (closing_span s) (at + length (texts f)) (length (entries at f) + 1) in (
      d,
      s,
      later,
      behind,
      rw (append_assoc, ← length-entries at f) at e,
      hb,
      utf8_texts f hf,
      hs,
    )

-- a group is taken off the front
pub group_taken : (at levels inner : ℕ) (first : Entry) (after : List Entry) (bs : List ℕ)
    (p : GroupParts) (f : Forest) → levels ≡ inner + 1 → AreGroupParts at first after bs p
    → DenotesFrom at inner p.inside.now p.words.now f
    → TakesTree at levels (first ∷ after) bs (group p.delimiter f p.span) p.later.now p.behind.now
group_taken at levels inner first after bs p f hn (po, pa, pb, ps) (he, hb, hi, hd) =
    let d = p.delimiter in
    let s = p.span in
    let n : length p.inside.now + 1 ≡ weight f + 1 =
    omega (arith, ap length he, length-entries at f) in
    let z : Entry = edge 4 d (closing_span s) (at + length (texts f)) (weight f + 1) in (
      cc (append_assoc (entries at f) (z ∷ []) p.later.now),
      cc,
      (hi, ps),
      max-le (omega (arith, hn, hd)) (omega arith),
    )
