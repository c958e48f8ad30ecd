-- The fields of an entry fit a leaf, and no leaf has a text that was rejected.
use Rattle.std.proofs.Common.{◌≡◌, ℕ, ◌+◌, List, ◌++◌, length, ap, arith}
use Rattle.std.specs.Prelude.{true, encode_utf8}
use Rattle.std.specs.Str.{IsUtf8}
use Rattle.tok_lexical.specs.Characters.{is_punct_or_apostrophe}
use Rattle.tok_leaves.specs.Leaves.{Leaf, ident, punct, literal, leaf_span, leaf_spacing, leaf_text}
use Rattle.tok_leaves.specs.declared.punct.Spacing.{Spacing}
use Rattle.tok_leaves.specs.declared.span.Span.{Span}
use Rattle.tok_entries.specs.declared.entry.Entry.{Entry}
use Rattle.tok_entries.specs.Entries.{leaf_entry, leaf_kind}
use Rattle.tok_entries.specs.Blames.{FitsLeaf, HasNoLeaf}
use Rattle.tok_entries.specs.Private.Parts.{AreLeafParts}
use Rattle.tok_entries.specs.Texts.{IsLiteralText, IsWord}
use Rattle.tok_entries.proofs.Once.{fronts}

-- an entry with these parts, and a leaf that has it
module _ (at : ℕ) (e : Entry) (bs text after : List ℕ) (spacing : Spacing) (span : Span)
    (parts : AreLeafParts at e bs spacing span text after) where
  text_is : (l : Leaf) (behind : List ℕ) → e ≡ leaf_entry at l → bs ≡ leaf_text l ++ behind
      → text ≡ leaf_text l
  text_is l behind he hb =
      let p : e.text_end ≡ at + length text = ap (λ x. x.text_end) parts.0 in
      let q : e.text_end ≡ at + length (leaf_text l) = ap (λ x. x.text_end) he in
      let n : length text ≡ length (leaf_text l) = omega (arith, p, q) in
      fronts text (leaf_text l) after behind n (cc parts.1)

  kind_is : (l : Leaf) → e ≡ leaf_entry at l → e.kind ≡ leaf_kind l
  kind_is l he = ap (λ x. x.kind) he

  pub no_ident : e.kind ≡ 0 → (IsWord text → ⊥) → HasNoLeaf at e bs
  no_ident k none (ident t s) behind ((u, w), i) he hb =
      none (rw (text_is (ident t s) behind he hb) w)
  no_ident k none l behind hl he hb = absurd (omega (arith, k, kind_is l he))

  pub no_literal : e.kind ≡ 2 → (IsLiteralText text → ⊥) → HasNoLeaf at e bs
  no_literal k none (literal t s) behind ((u, w), i) he hb =
      none (rw (text_is (literal t s) behind he hb) w)
  no_literal k none l behind hl he hb = absurd (omega (arith, k, kind_is l he))

  pub no_punct : e.kind ≡ 1
      → ((c : ℕ) → is_punct_or_apostrophe c ≡ true → text ≡ encode_utf8 c → ⊥) → HasNoLeaf at e bs
  no_punct k none (punct c p s) behind (w, i) he hb =
      none c w (text_is (punct c p s) behind he hb)
  no_punct k none l behind hl he hb = absurd (omega (arith, k, kind_is l he))

  -- the fields are those of a leaf, whatever the text
  pub fits : (l : Leaf) → e.kind ≡ leaf_kind l → spacing ≡ leaf_spacing l → span ≡ leaf_span l
      → IsUtf8 text → FitsLeaf at e bs
  fits l k p s u = (
    l,
    text,
    after,
    rw (← k, ← p, ← s) parts.0,
    parts.1,
    u,
    rw s at parts.2,
  )
