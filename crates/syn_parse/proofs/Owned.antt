-- Keywords of one's own: what a peek sees, and whether a text can be written.
use Rattle.std.proofs.Common.{◌≡◌, ◌∙◌, ap, ℕ, List, Bool, Err, arith}
use Rattle.std.proofs.Common.{◌++◌, ◌-◌, codes, drop, length, take}
use Rattle.std.proofs.Math.Seq.{take-append_seam}
use Rattle.std.proofs.lemmas.List.{length-append}
use Rattle.std.proofs.lemmas.Str.{IsCharBoundary-after_ascii, IsCharBoundary-at_seam}
use Rattle.std.proofs.lemmas.Str.{IsUtf8-from_ascii}
use Rattle.std.specs.Prelude.{Result, IfErr}
use Rattle.std.specs.Str.{IsCharBoundary, IsUtf8, chars}
use Rattle.tok_lexical.specs.Words.{IsIdentifier}
use Rattle.tok_leaves.specs.declared.ident.Ident.{Ident}
use Rattle.tok_leaves.specs.declared.ident.MakeFault.{MakeFault}
use Rattle.tok_leaves.specs.declared.ident.MakeFault.TheVariants as fault
use Rattle.tok_leaves.specs.declared.span.Span.{Span}
use Rattle.tok_core.specs.Forest.{leaf, no_trees, tree}
use Rattle.tok_leaves.specs.Leaves.{ident}
use Rattle.tok_buffer.specs.Place.{Place}
use Rattle.tok_buffer.specs.Reads.{read_keyword}
use Rattle.tok_buffer.specs.View.{erased_ahead}
use Rattle.tok_types.specs.Looks.{PeeksFor}
use Rattle.tok_types.specs.Texts.{in_backquotes}
use Rattle.tok_buffer.proofs.View.Readings.{of_keyword}
use Rattle.tok_buffer.proofs.View.Tells.{tells}
use Rattle.tok_types.proofs.Seen.{found_as}
use Rattle.syn_parse.specs.Owned.{own_first, own_word}

pub own_seen : (text : List ℕ) (p : Place) (b : Bool) → PeeksFor (read_keyword text) p b
    → b ≡ own_first text (erased_ahead p)
unfolding own_first
own_seen text p b h = h ∙ found_as _ _ _ (tells (of_keyword text) p)

module _ (text : List ℕ) (span : Span) (made : Result Ident MakeFault)
    (takes : IsIdentifier (chars text) → IfErr made (λ f. f ≡ fault.Memory))
    (refuses : (IsIdentifier (chars text) → ⊥) → made ≡ Err fault.Refused) where
  pub word_if_made : (made ≡ Err fault.Refused → ⊥)
      → own_word text span ≡ tree (leaf (ident text span)) no_trees
  word_if_made other = grind arith

  pub nothing_if_refused : made ≡ Err fault.Refused → own_word text span ≡ no_trees
  nothing_if_refused e = grind arith

-- a text in backquotes is cut to the text
module _ (quoted text : List ℕ) (is : quoted ≡ in_backquotes text) where
  pub after_quote : IsUtf8 quoted → IsCharBoundary quoted 1
  after_quote u =
      IsCharBoundary-after_ascii quoted 0 u (rw is (omega arith)) (rw is (omega arith))

  all_but_quote : length (text ++ codes "`") - 1 ≡ length text
  all_but_quote = ap (λ n. n - 1) (length-append text (codes "`")) ∙ omega arith

  module _ (rest : List ℕ) (cut : rest ≡ drop 1 quoted) where
    rest_is : rest ≡ text ++ codes "`"
    rest_is = cut ∙ ap (drop 1) is

    pub before_quote : IsCharBoundary rest (length rest - 1)
    before_quote = grind (arith, rest_is, all_but_quote, IsCharBoundary-at_seam, IsUtf8-from_ascii)

    pub text_is : take (length rest - 1) rest ≡ text
    text_is = grind (arith, rest_is, all_but_quote, take-append_seam)
