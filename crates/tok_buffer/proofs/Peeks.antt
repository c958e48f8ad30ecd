-- What is read, and what is in front.
use Rattle.std.proofs.Common.{◌≡◌, ◌∙◌, sym, ap, refl, ℕ, true, false, List, [], ◌∷◌, ◌++◌}
use Rattle.std.proofs.Common.{length, bytes_eq, encode_utf8_all, Option, Some, None, is_some}
use Rattle.std.proofs.lemmas.Bool.{false≢true}
use Rattle.std.proofs.lemmas.Str.{chars-nil, encodes-chars}
use Rattle.std.specs.Prelude.{◌==◌}
use Rattle.std.specs.Str.{chars, IsUtf8}
use Rattle.tok_leaves.specs.declared.punct.Spacing.{Spacing}
use Rattle.tok_leaves.specs.declared.punct.Spacing.TheVariants.{Alone, Joint}
use Rattle.tok_leaves.specs.declared.span.Span.{Span}
use Rattle.tok_leaves.specs.Leaves.{punct}
use Rattle.tok_core.specs.Forest.{Tree, leaf, group, no_trees, tree}
use Rattle.tok_core.proofs.Facts.{concat-none}
use Rattle.tok_buffer.specs.Entry.{Entered, enter_any}
use Rattle.tok_buffer.specs.Place.{frame, Place, empty_place, at, pass}
use Rattle.tok_buffer.specs.Descent.{descend}
use Rattle.tok_buffer.specs.Reads.{read_then, place_after, read_if, is_group, is_joint_of}
use Rattle.tok_buffer.specs.Reads.{is_next_of, is_punct_of, read_keyword, read_punctuation}
use Rattle.tok_buffer.specs.Reads.{read_word}
use Rattle.tok_buffer.specs.Rest.{rest}
use Rattle.tok_leaves.proofs.Names.{no_text}

-- a keyword is read where it has a text
pub no_keyword : (text : List ℕ) (p : Place) → (length text == 0) ≡ true →
    is_some (read_keyword text p) ≡ false
no_keyword text p e = rw (no_text text e)

pub keyword_word : (text : List ℕ) (p : Place) → (length text == 0) ≡ false → read_keyword text p
    ≡ read_word (bytes_eq text) p
keyword_word [] p e = absurd (false≢true (sym e))
keyword_word (c ∷ cs) p e = refl

-- a group that is entered is the front tree
pub group_read : (p : Place) (e : Entered) → enter_any p ≡ Some e → read_if is_group p
    ≡ Some (group e.delimiter (rest e.content) e.span ∷ [], e.after)
group_read empty_place e h = cc
group_read (at n s c (frame o p no_trees) ls) e h = cc
group_read (at n s c (frame o p (tree (leaf l) f)) ls) e h = cc
group_read (at n s c (frame o p (tree (group d inside span) f)) ls) e h =
    let place = at n s c (frame o p (tree (group d inside span) f)) ls in
    let same : enter_any place ≡ Some e = h in
    let whole : Option Entered → Option (List Tree × Place) =
    λ x. elim x [
      | None ↦ None
      | Some y ↦ Some (
        group y.delimiter (rest y.content) y.span
            ∷ [],
        y.after,
      )
    ] in
    ap (λ i. Some (group d i span ∷ [], pass place)) (sym (concat-none inside)) ∙ ap whole same

-- a punct that is not joint is alone
pub is_alone : (spacing : Spacing) → (spacing ≡ Joint → ⊥) → spacing ≡ Alone
is_alone Joint apart = absurd (apart refl)
is_alone Alone apart = refl

-- no more follow the last character, and before others an alone punct is not wanted
module _ (c : ℕ) where
  pub last_next : (text : List ℕ) (t : Tree) → (length text == 0) ≡ true →
      is_next_of c (chars text) t ≡ is_punct_of c t
  last_next text t e = rw (no_text text e, chars-nil)

  alone_before : (cs text : List ℕ) (d : ℕ) (span : Span) → encode_utf8_all cs ≡ text →
      (length text == 0) ≡ false → is_next_of c cs (leaf (punct d Alone span)) ≡ false
  alone_before [] text d span e h = cc
  alone_before (x ∷ xs) text d span e h = refl

  pub alone_next : (text : List ℕ) (d : ℕ) (span : Span) → IsUtf8 text → (length text == 0)
      ≡ false → is_next_of c (chars text) (leaf (punct d Alone span)) ≡ false
  alone_next text d span u h = alone_before (chars text) text d span (encodes-chars text u) h

-- where the first punct of a punctuation is joint, the others decide
then_is_some : (r : List Tree × Place) (g : Place → Option (List Tree × Place)) →
    is_some (read_then (Some r) g) ≡ is_some (g r.1)
then_is_some r g = go (g r.1) where
  go : (x : Option (List Tree × Place)) →
      is_some {T = List Tree × Place} (elim x [ Some y ↦ Some (r.0 ++ y.0, y.1) | None ↦ None ])
      ≡ is_some x
  go None = refl
  go (Some y) = refl

after_then : (r : Option (List Tree × Place)) (q : Place)
    (g : Place → Option (List Tree × Place)) → place_after r ≡ Some q → is_some (read_then r g)
    ≡ is_some (g q)
after_then None q g e = cc
after_then (Some r) q g e = let same : r.1 ≡ q = cc in rw (← same) (then_is_some r g)

pub joint_then : (c d : ℕ) (cs : List ℕ) (p q : Place) →
    place_after (read_if (is_joint_of c) (descend p)) ≡ Some q →
    is_some (read_punctuation (c ∷ (d ∷ cs)) p) ≡ is_some (read_punctuation (d ∷ cs) q)
joint_then c d cs p q e = after_then (read_if (is_joint_of c) (descend p)) q
    (read_punctuation (d ∷ cs)) e
