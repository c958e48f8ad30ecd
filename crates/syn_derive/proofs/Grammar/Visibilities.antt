-- Visibilities are taken exactly.
use Rattle.std.proofs.Common.{arith, ◌≡◌, ◌∙◌, sym, subst, refl, ℕ, Bool, true, List, Option, None, inl}
use Rattle.std.proofs.Common.{inr}
use Rattle.std.proofs.lemmas.Bool.{and_parts, false_from_ne_true, false≢true, or_cases, or_left}
use Rattle.tok_lexical.specs.declared.delimiter.Delimiter.TheVariants.{Brace, Bracket, Parenthesis}
use Rattle.tok_lexical.specs.declared.delimiter.Delimiter.TheVariants as delimiter
use Rattle.tok_leaves.specs.declared.span.DelimSpan.{DelimSpan}
use Rattle.tok_leaves.specs.declared.span.Span.{Span}
use Rattle.tok_leaves.specs.Leaves.{ident, literal, punct}
use Rattle.tok_core.specs.Forest.{Forest, group, leaf, no_trees, tree}
use Rattle.tok_types.specs.Sees.{keyword_first, punctuation_first}
use Rattle.tok_types.specs.declared.keyword.Keyword.{Keyword}
use Rattle.syn_parse.proofs.Shapes.{found_first}
use Rattle.syn_parse.specs.Inside.{sees_inside}
use Rattle.syn_parse.specs.Optional.{take_optional}
use Rattle.syn_parse.specs.Sequences.{take_both}
use Rattle.syn_parse.specs.Takes.{take_group}
use Rattle.syn_parse.specs.TokenNames.{Crate, In, Pub, SelfValue, Super, Token, sees, take}
use Rattle.syn_parse.specs.TreesAhead.{Ahead, only_trees}
use Rattle.syn_derive.specs.Paths.{PathForm, only_segment, take_path}
use Rattle.syn_derive.specs.Visibilities.{is_restriction, is_word_alone, take_visibility}
use Rattle.syn_derive.specs.Grammar.{IsInToken, IsPath, IsPathWord, IsPubToken, IsRestricted}
use Rattle.syn_derive.specs.Grammar.{IsRestriction, IsVisibility, IsVisibilityWord, by_in, by_word}
use Rattle.syn_derive.specs.Grammar.{crate, in_crate, in_path, in_self, in_super, is_inherited}
use Rattle.syn_derive.specs.Grammar.{is_public, is_restricted, self_value, simple_path, super}
use Rattle.syn_derive.specs.Grammar.{word_alone, word_segment}
use Rattle.syn_punctuated.specs.Parts.{InGroup, IsWord, Optional, absent, in_group, one, present}
use Rattle.syn_punctuated.specs.Parts.{word}
use Rattle.syn_punctuated.proofs.Exactly.{Exactly, Tells, Written, either, ends, exactly}
use Rattle.syn_punctuated.proofs.Exactly.{group_exactly, not_next, optional_exactly, takes}
use Rattle.syn_punctuated.proofs.Exactly.{then, unseen}
use Rattle.syn_punctuated.proofs.ExactTokens.{word_exactly, word_tells}
use Rattle.syn_derive.proofs.Grammar.Paths.{path, path_sep_tells}

pub_tells : Tells IsPubToken (sees Pub)
pub_tells = word_tells Pub _ _ refl

in_tells : Tells IsInToken (sees In)
in_tells = word_tells In _ _ refl

-- what is taken in the parentheses, whatever they hold
data IsInside : Forest → Option (Token In) × PathForm → Forest → Type 0 where
  inside : {f g h : Forest} {word : Option (Token In)} {path : PathForm}
      → Optional IsInToken IsInToken f word g → IsPath g path h → IsInside f (word, path) h

in_word : Exactly (Optional IsInToken IsInToken) (take_optional (sees In) (take In))
in_word = optional_exactly in_tells (word_exactly In _ _ refl) (record { begins = in_tells.seen })

all_inside : Exactly IsInside (take_both (take_optional (sees In) (take In)) take_path)
unfolding take_both
all_inside =
    exactly
    (then in_word (λ w. then path (λ p. ends (λ _ _ p _ w. inside w p))))
    (λ f g v i. grind (arith, takes, in_word, path))

-- one of the words is all there is
data IsAlone : Forest → Type 0 where
  alone : {text : List ℕ} {span : Span} → IsVisibilityWord text
      → IsAlone (tree (leaf (ident text span)) no_trees)

is_alone : {k : ℕ} {text word : List ℕ} {span : Span} {h : Forest} {v : Keyword k}
    → IsVisibilityWord text → IsWord {k = k} text (tree (leaf (ident word span)) no_trees) v h
    → IsAlone (tree (leaf (ident word span)) no_trees)
is_alone w word = alone w

word_is_alone : (f : Forest) → is_word_alone f ≡ true → IsAlone f
unfolding is_word_alone
word_is_alone no_trees e = absurd (false≢true e)
word_is_alone (tree (leaf (punct c x y)) f) e = absurd (false≢true e)
word_is_alone (tree (leaf (literal x y)) f) e = absurd (false≢true e)
word_is_alone (tree (group d x y) f) e = absurd (false≢true e)
word_is_alone (tree (leaf (ident text span)) (tree t f)) e = absurd (false≢true (and_parts _ _ e).1)
word_is_alone (tree (leaf (ident text span)) no_trees) e =
    let all = tree (leaf (ident text span)) no_trees in
    elim (or_cases _ _ (and_parts _ _ e).0) [
      | inl h ↦ elim (or_cases _ _ h) [
        | inl h ↦ is_alone in_crate ((word_tells Crate _ _ refl).next all h).2
        | inr h ↦ is_alone in_self ((word_tells SelfValue _ _ refl).next all h).2
      ]
      | inr h ↦ is_alone in_super ((word_tells Super _ _ refl).next all h).2
    ]

-- the path that a word alone is
of_path : {text : List ℕ} → IsVisibilityWord text → IsPathWord text
of_path in_crate = crate
of_path in_self = self_value
of_path in_super = super

word_path : {text : List ℕ} {span : Span} → IsVisibilityWord text
    → IsPath (tree (leaf (ident text span)) no_trees)
    (only_segment (record { text = text; span = span })) no_trees
unfolding punctuation_first
word_path w =
    simple_path (absent (not_next path_sep_tells refl))
    (one (word_segment (of_path w)) (not_next path_sep_tells refl))

-- what is in the parentheses of a visibility is a restriction
restriction : {f : Forest} {v : Option (Token In) × PathForm} → IsInside f v no_trees
    → is_restriction f ≡ true → IsRestriction f v no_trees
unfolding is_restriction
restriction (inside (present w) p) e = in_path w p
restriction {f} (inside (absent n) p) e = elim (or_cases _ _ e) [
  | inl h ↦ absurd (not_next in_tells (unseen in_tells n) _ _ (in_tells.next f h).2)
  | inr h ↦ only (word_is_alone f h) p
] where
  only : {f : Forest} {p : PathForm} → IsAlone f → IsPath f p no_trees
      → IsRestriction f (None, p) no_trees
  only {p} (alone {text} {span} w) i =
      subst (λ x. IsRestriction (tree (leaf (ident text span)) no_trees) (None, x) no_trees)
      (found_first (sym (takes path (word_path w)) ∙ takes path i)) (word_alone w)

is_inside : {f g : Forest} {v : Option (Token In) × PathForm} → IsRestriction f v g
    → IsInside f v g × (is_restriction f ≡ true)
unfolding is_restriction is_word_alone keyword_first
is_inside (in_path w p) = (inside (present w) p, or_left _ _ (in_tells.seen w))
is_inside (word_alone in_crate) =
    (inside (absent (not_next in_tells refl)) (word_path in_crate), refl)
is_inside (word_alone in_self) =
    (inside (absent (not_next in_tells refl)) (word_path in_self), refl)
is_inside (word_alone in_super) =
    (inside (absent (not_next in_tells refl)) (word_path in_super), refl)

-- what a peek sees of the parentheses after `pub`
abbrev sees_restriction : Ahead → Bool
sees_restriction = sees_inside Parenthesis (λ a. is_restriction a.trees)

restricted_seen : {f : Forest} → IsRestricted f → sees_restriction (only_trees f) ≡ true
unfolding is_restriction is_word_alone keyword_first
restricted_seen (by_word in_crate) = refl
restricted_seen (by_word in_self) = refl
restricted_seen (by_word in_super) = refl
restricted_seen (by_in word) = refl

restricted_next : (f : Forest) → sees_restriction (only_trees f) ≡ true → IsRestricted f
unfolding is_restriction
restricted_next no_trees e = absurd (false≢true e)
restricted_next (tree (leaf l) f) e = absurd (false≢true e)
restricted_next (tree (group Brace x y) f) e = absurd (false≢true e)
restricted_next (tree (group Bracket x y) f) e = absurd (false≢true e)
restricted_next (tree (group delimiter.None x y) f) e = absurd (false≢true e)
restricted_next (tree (group Parenthesis x y) f) e = elim (or_cases _ _ e) [
  | inl h ↦ by_in (in_tells.next x h).2
  | inr h ↦ of_alone (word_is_alone x h)
] where
  of_alone : {x : Forest} → IsAlone x → IsRestricted (tree (group Parenthesis x y) f)
  of_alone (alone w) = by_word w

abbrev Restriction : Type 0
Restriction = DelimSpan × (Option (Token In) × PathForm)

in_parentheses : {f g : Forest} {v : Restriction} → InGroup Parenthesis IsInside f v g
    → sees_restriction (only_trees f) ≡ true → InGroup Parenthesis IsRestriction f v g
in_parentheses (in_group i) e = in_group (restriction i e)

is_in_parentheses : {f g : Forest} {v : Restriction} → InGroup Parenthesis IsRestriction f v g
    → InGroup Parenthesis IsInside f v g × (sees_restriction (only_trees f) ≡ true)
is_in_parentheses (in_group i) = let x = is_inside i in (in_group x.0, x.1)

pub_word : Exactly IsPubToken (take Pub)
pub_word = word_exactly Pub _ _ refl

parentheses : Exactly (InGroup Parenthesis IsInside)
    (take_group Parenthesis (take_both (take_optional (sees In) (take In)) take_path))
parentheses = group_exactly Parenthesis all_inside

pub visibility : Exactly IsVisibility take_visibility
unfolding take_visibility
visibility =
    exactly
    (either (sees Pub) (then pub_word (λ w. either sees_restriction (then parentheses
    (λ r. ends (λ _ _ r s _ w t. is_restricted w (in_parentheses r s))))
    (ends (λ _ s _ w t. is_public w (λ r. false≢true (sym s ∙ restricted_seen r))))))
    (ends (λ _ t. is_inherited (not_next pub_tells t)))) go where
      go : Written IsVisibility take_visibility
      go _ _ _ (is_public w n) =
          simp (
            pub_tells.seen w,
            takes pub_word w,
            false_from_ne_true _ (λ e. n (restricted_next _ e)),
          ) refl
      go _ _ _ (is_restricted w r) =
          let x = is_in_parentheses r in
          simp (pub_tells.seen w, takes pub_word w, x.1, takes parentheses x.0) refl
      go _ _ _ (is_inherited n) = simp (unseen pub_tells n) refl
