-- The pieces of a text, one by one, and the trees that they mean.
use Rattle.std.proofs.Common.{◌≡◌, ◌+◌, ℕ, List, [], ◌∷◌, ◌++◌, refl, sym, ap, subst}
use Rattle.std.proofs.Common.{append_assoc, inl, inr, None, Some}
use Rattle.std.specs.Prelude.{true, false, ◌==◌, ◌&&◌, not, encode_utf8_all, if◌then◌else◌}
use Rattle.std.proofs.lemmas.Bool.{and_parts}
use Rattle.std.proofs.lemmas.List.{append-nil}
use Rattle.tok_lexical.specs.Characters.{is_punct, is_whitespace}
use Rattle.tok_lexical.specs.Errors.{error_kind}
use Rattle.tok_lexical.specs.Fits.{IsFirstFit, here}
use Rattle.tok_lexical.specs.Private.Starts.{start_of}
use Rattle.tok_lexical.specs.Rules.{rules_of}
use Rattle.tok_lexical.specs.Widths.{bytes, width}
use Rattle.tok_lexical.specs.Words.{IsName, is_missing_raw}
use Rattle.tok_lexical.specs.declared.delimiter.Delimiter.{Delimiter}
use Rattle.tok_lexical.specs.declared.lex_error_kind.LexErrorKind.TheVariants.{MissingRawIdentifier}
use Rattle.tok_lexical.specs.declared.rule.Mode.TheVariants.{Plain}
use Rattle.tok_lexical.specs.declared.rule.Rule.{Rule}
use Rattle.tok_lexical.specs.declared.rule.Rule.TheVariants.{Closing, Identifier, Opening, Punct}
use Rattle.tok_lexical.specs.declared.rule.Rule.TheVariants.{RawIdentifier, Whitespace}
use Rattle.tok_lexical.specs.declared.start.Start.TheVariants as start
use Rattle.tok_lexical.proofs.First.{decides_begun}
use Rattle.tok_lexical.proofs.Longest.{takes_one}
use Rattle.tok_lexical.proofs.Starts.{punct_starts}
use Rattle.tok_leaves.specs.Leaves.{ident}
use Rattle.tok_leaves.specs.Spans.{source}
use Rattle.tok_leaves.specs.declared.punct.Spacing.{Spacing}
use Rattle.tok_leaves.specs.declared.span.Span.{Span}
use Rattle.tok_core.specs.Forest.{Forest, concat, group, leaf, no_trees, tree}
use Rattle.tok_core.specs.Lexical.Items.{Flat, Item, group_first, leaf_first, no_items}
use Rattle.tok_core.specs.Lexical.Meaning.{items}
use Rattle.tok_core.specs.Lexical.Reading.{Cut, piece, stop}
use Rattle.tok_core.proofs.Lexical.Blanks.{recut}
use Rattle.tok_core.proofs.Lexical.Flat.{flat_joined}
use Rattle.example_config.specs.Grammar.{sign}
use Rattle.example_config.proofs.Ends.{ends}
use Rattle.example_config.proofs.Names.{raw_fits, word_fits}

-- from this byte on, a front of the text reads as these trees, before the rest
abbrev pub Reads : (number at : ℕ) → List ℕ → Forest → List ℕ → Type 0
Reads number at text f rest =
    (end : ℕ) × (all : List Item) × Flat number f all × Cut Plain number at text all end rest

cut_then : {number at end to : ℕ} {text rest after : List ℕ} {some others : List Item}
    → Cut Plain number at text some end rest → Cut Plain number end rest others to after
    → Cut Plain number at text (some ++ others) to after
cut_then stop d = d
cut_then (piece {more = more} e n c) d =
    recut (sym (append_assoc _ more _)) refl refl (piece e n (cut_then c d))

pub reads_then : {number at : ℕ} {text between rest : List ℕ} {f g : Forest}
    → (first : Reads number at text f between) → Reads number first.0 between g rest
    → Reads number at text (concat f g) rest
reads_then (mid, xs, a, c) (end, ys, b, d) = (end, xs ++ ys, flat_joined a b, cut_then c d)

-- a piece that one rule takes
pub piece_read : (number at : ℕ) (rule : Rule) (taken after : List ℕ) (f : Forest)
    → IsFirstFit (taken ++ after) (rules_of Plain) rule taken after
    → error_kind rule Plain at taken after ≡ None
    → Flat number f (items number rule Plain at taken after)
    → Reads number at (taken ++ after) f after
piece_read number at rule taken after f fit ok k = (
  at + width rule taken,
  items number rule Plain at taken after ++ [],
  subst (Flat number f) (sym (append-nil (items number rule Plain at taken after))) k,
  piece fit ok stop,
)

-- white space
pub space_read : (number at c : ℕ) (after : List ℕ) → start_of c ≡ start.Whitespace
    → is_whitespace c ≡ true → Reads number at (c ∷ after) no_trees after
space_read number at c after starts is =
    piece_read number at Whitespace (c ∷ []) after no_trees
    (decides_begun Plain c after start.Whitespace refl starts
    (here (takes_one is_whitespace (c ∷ after) after c refl is)))
    refl no_items

-- a punctuation character
pub sign_read : (number at c : ℕ) (after : List ℕ) → (is_punct c && not (c == 47)) ≡ true
    → (spacing : Spacing) × (span : Span)
    × Reads number at (c ∷ after) (tree (sign c spacing span) no_trees) after
sign_read number at c after is = (
  _,
  source number at (at + 1),
  piece_read number at Punct (c ∷ []) after _
      (decides_begun Plain c after start.Punct refl (punct_starts c is)
      (here (takes_one is_punct (c ∷ after) after c refl (and_parts _ _ is).0)))
      refl (leaf_first no_items),
)

-- a group, by its delimiters
pub group_read : (number at : ℕ) (d : Delimiter) (left right : ℕ) (inner after : List ℕ)
    (inside : Forest)
    → ((more : List ℕ) → IsFirstFit (left ∷ more) (rules_of Plain) (Opening d) (left ∷ []) more)
    → ((more : List ℕ) → IsFirstFit (right ∷ more) (rules_of Plain) (Closing d) (right ∷ []) more)
    → Reads number (at + width (Opening d) (left ∷ [])) (inner ++ right ∷ after) inside
    (right ∷ after)
    → (span : Span)
    × Reads number at (left ∷ (inner ++ right ∷ after)) (tree (group d inside span) no_trees) after
group_read number at d left right inner after inside opens closes (mid, xs, a, c) = (
  source number at (mid + width (Closing d) (right ∷ [])),
  (
    mid + width (Closing d) (right ∷ []),
    _,
    group_first d at (mid + width (Closing d) (right ∷ [])) a no_items,
    piece (opens (inner ++ right ∷ after)) refl (cut_then c (piece (closes after) refl stop)),
  ),
)

-- a name, before an end
pub name_read : (number at : ℕ) (word after : List ℕ) → IsName word → is_missing_raw word ≡ false
    → ends after ≡ true
    → (span : Span)
    × Reads number at (word ++ after) (tree (leaf (ident (encode_utf8_all word) span)) no_trees)
    after
name_read number at [] after (inl w) exists e = absurd w
name_read number at (c ∷ cs) after (inl w) exists e = (
  source number at (at + bytes (c ∷ cs)),
  piece_read number at Identifier (c ∷ cs) after _ (word_fits c cs after w e) refl
      (leaf_first no_items),
)
name_read number at word after (inr r) exists e = (
  source number at (at + bytes word),
  piece_read number at RawIdentifier word after _ (raw_fits word after r e)
      (ap (λ b. if b then Some MissingRawIdentifier else None) exists) (leaf_first no_items),
)
