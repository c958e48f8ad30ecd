-- What is read from a text is what a text can have.
use Rattle.std.proofs.Common.{◌≡◌, ◌∙◌, ◌≤◌, ℕ, List, [], ◌∷◌, ◌++◌, refl, sym, ap, arith}
use Rattle.std.proofs.Common.{None, Some, map}
use Rattle.std.specs.Prelude.{Bool, true, false, encode_utf8_all}
use Rattle.std.specs.Prelude.{if◌then◌else◌}
use Rattle.std.specs.Str.{IsUtf8, chars}
use Rattle.std.proofs.lemmas.Bool.{and_from, and_parts, false≢true}
use Rattle.std.proofs.lemmas.Str.{chars-encodes}
use lib.Utf8.{scalar, scalars}
use Rattle.unicode_ident.proofs.IdentLemmas.{is_xid_continue-ascii}
use Rattle.tok_lexical.specs.Errors.{error_kind}
use Rattle.tok_lexical.specs.Rules.{Spells, is_in}
use Rattle.tok_lexical.specs.Words.{IsIdentifier, IsName, is_missing_raw}
use Rattle.tok_lexical.specs.declared.lex_error_kind.LexErrorKind.{LexErrorKind}
use Rattle.tok_lexical.specs.declared.rule.Mode.TheVariants.{Plain}
use Rattle.tok_lexical.specs.declared.rule.Rule.{Rule}
use Rattle.tok_lexical.proofs.Digits.{head_passes}
use Rattle.tok_lexical.proofs.Fits.{fits_in, fits_longest}
use Rattle.tok_leaves.specs.Leaves.{Leaf, ident, literal, punct}
use Rattle.tok_core.specs.Forest.{Forest, Tree, concat, group, leaf, no_trees, tree}
use Rattle.tok_core.specs.Lexical.Items.{Flat, Item, closing, depth, group_first, leaf_first}
use Rattle.tok_core.specs.Lexical.Items.{leaf_item, no_items}
use Rattle.tok_core.specs.Lexical.Meaning.{items, punct_item}
use Rattle.tok_core.specs.Lexical.Reading.{Cut, ReadsForest, piece, stop}
use Rattle.example_config.proofs.Choices.{differs, not_first, not_second}

-- a leaf that a text can have
abbrev pub LeafOfText : Leaf → Type 0
LeafOfText (ident text span) =
    IsUtf8 text × IsName (chars text) × (is_missing_raw (chars text) ≡ false)
LeafOfText (punct c spacing span) = Unit {0}
LeafOfText (literal text span) = IsUtf8 text

abbrev ItemOfText : Item → Type 0
ItemOfText (leaf_item l) = LeafOfText l
ItemOfText item = Unit {0}

abbrev ItemsOfText : List Item → Type 0
ItemsOfText [] = Unit {0}
ItemsOfText (x ∷ xs) = ItemOfText x × ItemsOfText xs

abbrev mutual
  -- each leaf is one that a text can have
  pub ForestOfText : Forest → Type 0
  ForestOfText no_trees = Unit {0}
  ForestOfText (tree t f) = TreeOfText t × ForestOfText f

  TreeOfText : Tree → Type 0
  TreeOfText (leaf l) = LeafOfText l
  TreeOfText (group d inside span) = ForestOfText inside

-- a text in two parts
parts_are : (xs ys : List ℕ) → scalars (xs ++ ys) ≡ true → (scalars xs ≡ true) × (scalars ys ≡ true)
parts_are [] ys h = (refl, h)
parts_are (x ∷ xs) ys h =
    let both = and_parts (scalar x) (scalars (xs ++ ys)) h in
    let more = parts_are xs ys both.1 in (and_from (scalar x) (scalars xs) both.0 more.0, more.1)

joined : (xs ys : List Item) → ItemsOfText xs → ItemsOfText ys → ItemsOfText (xs ++ ys)
joined [] ys h k = k
joined (x ∷ xs) ys h k = (h.0, joined xs ys h.1 k)

split : (xs ys : List Item) → ItemsOfText (xs ++ ys) → ItemsOfText xs × ItemsOfText ys
split [] ys h = (tt, h)
split (x ∷ xs) ys h = let more = split xs ys h.1 in ((h.0, more.0), more.1)

-- the text of a piece
piece_utf8 : (taken : List ℕ) → scalars taken ≡ true → IsUtf8 (encode_utf8_all taken)
piece_utf8 taken s = (taken, (s, refl))

name_of_text : (name : List ℕ) → scalars name ≡ true → IsName name → is_missing_raw name ≡ false
    → IsUtf8 (encode_utf8_all name) × IsName (chars (encode_utf8_all name))
    × (is_missing_raw (chars (encode_utf8_all name)) ≡ false)
name_of_text name s is exists = grind (arith, chars-encodes, piece_utf8)

-- a plain identifier is no raw one
not_raw : (name : List ℕ) → IsIdentifier name → is_missing_raw name ≡ false
not_raw name w = grind (arith, not_second, not_first, differs, head_passes, is_xid_continue-ascii)

no_error : (b : Bool) (kind : LexErrorKind) → (if b then Some kind else None) ≡ None → b ≡ false
no_error b kind e = grind arith

only_if : (b : Bool) (xs : List Item) → b ≡ false → ItemsOfText (if b then xs else [])
only_if b xs e = grind (arith, false≢true)

puncts : (number at : ℕ) (joint : Bool) (taken : List ℕ)
    → ItemsOfText (map (λ c. punct_item number at c joint) taken)
puncts number at joint [] = tt
puncts number at joint (c ∷ taken) = (tt, puncts number at joint taken)

-- the items of a piece
items_are : (number : ℕ) (r : Rule) (at : ℕ) (taken after : List ℕ) → scalars taken ≡ true
    → is_in Plain r ≡ true → Spells r taken → error_kind r Plain at taken after ≡ None
    → ItemsOfText (items number r Plain at taken after)
items_are number r at taken after s h k e =
    grind (
      arith,
      only_if,
      no_error,
      piece_utf8,
      name_of_text,
      parts_are,
      false≢true,
      not_raw,
      puncts,
    )

cut_is : {number at end : ℕ} {text rest : List ℕ} {all : List Item} → scalars text ≡ true
    → Cut Plain number at text all end rest → ItemsOfText all
cut_is s stop = tt
cut_is {number} {at} s
    (piece {taken = taken} {after = after} {rule = r} {more = more} fits ok cut) =
    let t = fits_longest fits in
    let both = parts_are taken after (ap scalars (sym t.cut) ∙ s) in
    joined (items number r Plain at taken after) more
    (items_are number r at taken after both.0 (fits_in Plain r fits) t.spelled ok)
    (cut_is both.1 cut)

flat_is : {number : ℕ} {f : Forest} {all : List Item} → Flat number f all → ItemsOfText all
    → ForestOfText f
flat_is no_items h = tt
flat_is (leaf_first k) h = (h.0, flat_is k h.1)
flat_is (group_first {inner = inner} {items = items} d start end within k) h =
    let both = split inner (closing d end ∷ items) h.1 in
    (flat_is within both.0, flat_is k both.1.1)

-- the forest of a text
pub read_is : (source : ℕ) (text : List ℕ) (f : Forest) → scalars text ≡ true
    → ReadsForest Plain source text f → ForestOfText f
read_is source text f s (d, (all, k, (end, cut))) = flat_is k (cut_is s cut)

-- a part of a forest is of a text too, and no deeper
pub both_are : (f g : Forest) → ForestOfText (concat f g) → ForestOfText f × ForestOfText g
both_are no_trees g h = (tt, h)
both_are (tree t f) g h = let more = both_are f g h.1 in ((h.0, more.0), more.1)

pub first_depth : (f g : Forest) → depth f ≤ depth (concat f g)
first_depth no_trees g = omega arith
first_depth (tree (leaf l) f) g = first_depth f g
first_depth (tree (group d inside span) f) g = let h = first_depth f g in omega (arith, h)

pub second_depth : (f g : Forest) → depth g ≤ depth (concat f g)
second_depth no_trees g = omega arith
second_depth (tree (leaf l) f) g = second_depth f g
second_depth (tree (group d inside span) f) g = let h = second_depth f g in omega (arith, h)
