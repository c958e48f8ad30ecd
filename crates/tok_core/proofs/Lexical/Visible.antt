-- The trees of a text without marks are all visible: nothing in it opens an invisible group.
use Rattle.std.proofs.Common.{◌≡◌, ◌∙◌, ap, refl, sym, ℕ, Bool, true, false, List, [], ◌∷◌, map}
use Rattle.std.proofs.Common.{arith}
use Rattle.std.proofs.lemmas.Bool.{and_parts, false≢true}
use Rattle.std.specs.List.{list_all}
use Rattle.std.proofs.lemmas.List.Folds.{list_all-append}
use Rattle.tok_lexical.specs.Comments.{is_block_doc, is_line_doc}
use Rattle.tok_lexical.specs.Docs.{block_doc_text, line_doc_text}
use Rattle.tok_lexical.specs.Rules.{is_in, is_marked}
use Rattle.tok_lexical.specs.declared.delimiter.Delimiter.{Delimiter}
use Rattle.tok_lexical.specs.declared.delimiter.Delimiter.TheVariants.{None}
use Rattle.tok_lexical.specs.declared.rule.Mode.{Mode}
use Rattle.tok_lexical.specs.declared.rule.Rule.{Rule}
use Rattle.tok_lexical.specs.declared.rule.Rule.TheVariants as rule
use Rattle.tok_lexical.proofs.Fits.{fits_in}
use Rattle.tok_leaves.specs.declared.span.Span.{Span}
use Rattle.tok_core.specs.Forest.{Forest, leaf, group, tree}
use Rattle.tok_core.specs.Lexical.Items.{Flat, Item, closing, group_first, leaf_first, no_items}
use Rattle.tok_core.specs.Lexical.Items.{opening}
use Rattle.tok_core.specs.Lexical.Laws.{IsAllVisible}
use Rattle.tok_core.specs.Lexical.Meaning.{a_comment, items, is_joint, pointed_items, punct_item}
use Rattle.tok_core.specs.Lexical.Reading.{Cut, ReadsFrom, piece, stop}

-- an item does not open an invisible group
abbrev shows : Item → Bool
shows (opening None at) = false
shows item = true

puncts_show : (number at : ℕ) (joint : Bool) (cs : List ℕ) →
    list_all shows (map (λ c. punct_item number at c joint) cs) ≡ true
puncts_show number at joint [] = refl
puncts_show number at joint (c ∷ cs) = puncts_show number at joint cs

comment_shows : (number : ℕ) (is_doc : Bool) (text : List ℕ) (at : ℕ) (taken after : List ℕ) →
    list_all shows (a_comment number is_doc text at taken after) ≡ true
comment_shows number is_doc text at taken after = grind arith

pointed_shows : (number at : ℕ) (taken after : List ℕ) →
    list_all shows (pointed_items number at taken after) ≡ true
pointed_shows number at taken after = grind arith

items_show : (number : ℕ) (r : Rule) (mode : Mode) (at : ℕ) (taken after : List ℕ) →
    is_marked mode ≡ false → is_in mode r ≡ true →
    list_all shows (items number r mode at taken after) ≡ true
items_show number (rule.Opening None) mode at taken after plain h =
    absurd (false≢true (sym plain ∙ h))
items_show number rule.LineComment mode at taken after plain h =
    comment_shows number (is_line_doc taken) (line_doc_text taken) at taken after
items_show number rule.BlockComment mode at taken after plain h =
    comment_shows number (is_block_doc taken) (block_doc_text taken) at taken after
items_show number rule.PointedDecimal mode at taken after plain h =
    pointed_shows number at taken after
items_show number rule.Punct mode at taken after plain h =
    puncts_show number at (is_joint mode after) taken
items_show number r mode at taken after plain h = refl

cut_shows : {mode : Mode} {number at end : ℕ} {text rest : List ℕ} {all : List Item} →
    is_marked mode ≡ false → Cut mode number at text all end rest → list_all shows all ≡ true
cut_shows plain stop = refl
cut_shows {mode} {number} {at} plain
    (piece {taken = taken} {after} {rule = r} {more} fits none cut) =
    rw (
      list_all-append shows (items number r mode at taken after) more,
      items_show number r mode at taken after plain (fits_in mode r fits),
    ) (cut_shows plain cut)

group_shown : (d : Delimiter) (start : ℕ) (span : Span) (inside f : Forest) →
    shows (opening d start) ≡ true → IsAllVisible inside → IsAllVisible f →
    IsAllVisible (tree (group d inside span) f)
group_shown None start span inside f k i o = absurd (false≢true k)
group_shown d start span inside f k i o = (rw (i.0, o.0) refl, rw (i.1, o.1) refl)

flat_shown : {number : ℕ} {f : Forest} {all : List Item} → Flat number f all →
    list_all shows all ≡ true → IsAllVisible f
flat_shown no_items h = (refl, refl)
flat_shown (leaf_first {l} flat) h = let s = flat_shown flat h in (s.0, ap (tree (leaf l)) s.1)
flat_shown (group_first {inside} {f} {inner} {items} d start end within flat) h =
    let both = and_parts (shows (opening d start)) _ h in
    let parts = and_parts (list_all shows inner) (list_all shows items)
    (rw (list_all-append shows inner (closing d end ∷ items)) at both.1) in
    group_shown d start _ inside f both.0 (flat_shown within parts.0) (flat_shown flat parts.1)

pub all_visible : (begin : ℕ) (mode : Mode) (number : ℕ) (text : List ℕ) (f : Forest) →
    is_marked mode ≡ false → ReadsFrom begin mode number text f → IsAllVisible f
all_visible begin mode number text f plain (d, (all, flat, (end, cut))) =
    flat_shown flat (cut_shows plain cut)
