-- Paths and visibilities are taken exactly.
use Rattle.std.proofs.Common.{arith, ◌≡◌, ◌∙◌, sym, refl, ℕ, true, false, List, inl, inr}
use Rattle.std.proofs.lemmas.Bool.{false≢true, or_cases, or_from}
use Rattle.tok_leaves.specs.declared.ident.Ident.{Ident}
use Rattle.tok_leaves.specs.declared.span.Span.{Span}
use Rattle.tok_leaves.specs.Leaves.{ident}
use Rattle.tok_core.specs.Forest.{Forest, leaf, tree}
use Rattle.tok_types.specs.Sees.{any_ident_first, keyword_first}
use Rattle.tok_types.specs.declared.keyword.Keyword.{Keyword}
use Rattle.tok_types.specs.Texts.{accept_as_ident}
use Rattle.syn_parse.specs.Lighter.{lowers_token}
use Rattle.syn_parse.specs.Optional.{take_optional}
use Rattle.syn_parse.specs.Takes.{where_ahead}
use Rattle.syn_parse.specs.TokenNames.{Crate, PathSep, SelfType, SelfValue, Super, Token, sees}
use Rattle.syn_parse.specs.TokenNames.{take}
use Rattle.syn_parse.specs.Tokens.{sees_any_ident, sees_literal, take_any_ident, take_ident}
use Rattle.syn_parse.specs.TreesAhead.{is_spent, only_trees}
use Rattle.syn_punctuated.specs.TakeLists.{take_separated}
use Rattle.syn_derive.specs.Paths.{lightens_any_segment, lightens_segment, sees_path_word}
use Rattle.syn_derive.specs.Paths.{take_any_segment, take_any_segments, take_nested_path}
use Rattle.syn_derive.specs.Paths.{take_nested_segments, take_path, take_segment}
use Rattle.syn_derive.specs.declared.path.PathSegment.{PathSegment}
use Rattle.syn_derive.specs.Grammar.{IsAnySegment, IsNestedPath, IsPath, IsPathSep, IsPathWord}
use Rattle.syn_derive.specs.Grammar.{IsSegment, any_word, crate, identifier_segment, path_of_words}
use Rattle.syn_derive.specs.Grammar.{self_type, self_value, simple_path, super, word_segment}
use Rattle.syn_punctuated.specs.Parts.{IsAnyIdent, IsIdentifier, IsWord, No, Optional, Part}
use Rattle.syn_punctuated.specs.Parts.{Separated}
use Rattle.syn_punctuated.specs.Parts.{and_others, any_ident, identifier, one, word}
use Rattle.syn_punctuated.proofs.Exactly.{Exactly, Tells, Written, either, ends, exactly}
use Rattle.syn_punctuated.proofs.Exactly.{optional_exactly, refused, separated_exactly, so}
use Rattle.syn_punctuated.proofs.Exactly.{takes, then, unseen}
use Rattle.syn_punctuated.proofs.ExactTokens.{any_ident_exactly, identifier_exactly, sign_exactly}
use Rattle.syn_punctuated.proofs.ExactTokens.{sign_tells, word_tells}

-- an identifier has not the text of a reserved word
pub not_reserved : {k : ℕ} {text : List ℕ} {f g : Forest} {name : Ident}
    → accept_as_ident text ≡ false → IsIdentifier f name g → No (IsWord {k = k} text) f
not_reserved {k} {text} {f} {g} {name} r i v h w = go w i r where
  go : {f g h : Forest} {v : Keyword k} {name : Ident} → IsWord text f v h → IsIdentifier f name g
      → accept_as_ident text ≡ false → ⊥
  go word (identifier a) r = false≢true (sym r ∙ a)

pub path_sep : Exactly IsPathSep (take PathSep)
path_sep = sign_exactly PathSep refl

pub path_sep_tells : Tells IsPathSep (sees PathSep)
path_sep_tells = sign_tells PathSep refl

-- the identifier of a segment
abbrev pub IsSegmentIdent : Part Ident
IsSegmentIdent f name g = IsSegment f (record { ident = name }) g

word_is : {k : ℕ} {text : List ℕ} {f g h : Forest} {v : Keyword k} {name : Ident}
    → IsPathWord text → IsWord {k = k} text f v h → IsAnyIdent f name g → IsSegmentIdent f name g
word_is w word any_ident = word_segment w

path_word : (f : Forest) (name : Ident) (g : Forest) → IsAnyIdent f name g
    → sees_path_word (only_trees f) ≡ true → IsSegmentIdent f name g
path_word f name g i e =
    elim (or_cases _ _ e) [
      | inl h ↦ elim (or_cases _ _ h) [
        | inl h ↦ elim (or_cases _ _ h) [
          | inl h ↦ word_is crate ((word_tells Crate _ _ refl).next f h).2 i
          | inr h ↦ word_is self_value ((word_tells SelfValue _ _ refl).next f h).2 i
        ]
        | inr h ↦ word_is super ((word_tells Super _ _ refl).next f h).2 i
      ]
      | inr h ↦ word_is self_type ((word_tells SelfType _ _ refl).next f h).2 i
    ]

is_path_word : (text : List ℕ) (span : Span) (f : Forest) → IsPathWord text
    → sees_path_word (only_trees (tree (leaf (ident text span)) f)) ≡ true
unfolding keyword_first
is_path_word text span f crate = refl
is_path_word text span f self_value = refl
is_path_word text span f super = refl
is_path_word text span f self_type = refl

no_path_word : {f g : Forest} {name : Ident} → IsIdentifier f name g
    → sees_path_word (only_trees f) ≡ false
no_path_word i =
    or_from _ _ (or_from _ _ (or_from _ _ (unseen (word_tells Crate _ _ refl) (not_reserved refl i))
    (unseen (word_tells SelfValue _ _ refl) (not_reserved refl i)))
    (unseen (word_tells Super _ _ refl) (not_reserved refl i)))
    (unseen (word_tells SelfType _ _ refl) (not_reserved refl i))

segment_ident : Exactly IsSegmentIdent (where_ahead sees_path_word take_any_ident take_ident)
segment_ident =
    exactly
    (either sees_path_word (so any_ident_exactly (λ f v g i t. path_word f v g i t))
    (so identifier_exactly (λ f v g i t. identifier_segment i))) go where
      go : Written IsSegmentIdent (where_ahead sees_path_word take_any_ident take_ident)
      go _ _ _ (identifier_segment i) = simp (no_path_word i, takes identifier_exactly i) refl
      go _ _ _ (word_segment {text} {span} {f} w) =
          let i = takes any_ident_exactly (any_ident {text = text} {span = span} {f = f}) in
          simp (is_path_word text span f w, i) refl

pub segment : Exactly IsSegment take_segment
unfolding take_segment
segment = grind (arith, exactly, then, segment_ident, ends, takes)

-- paths
colon : Exactly (Optional IsPathSep IsPathSep) (take_optional (sees PathSep) (take PathSep))
colon = optional_exactly path_sep_tells path_sep (record { begins = path_sep_tells.seen })

segments : Exactly (Separated IsSegment IsPathSep)
    (take_separated (sees PathSep) take_segment (take PathSep))
segments =
    separated_exactly segment path_sep (lowers_token _) path_sep_tells lightens_segment

pub path : Exactly IsPath take_path
unfolding take_path
path =
    exactly
    (then colon (λ c. then segments (λ s. ends (λ _ _ s _ c. simple_path c s))))
    (λ f g v i. grind (arith, takes, colon, segments))

-- paths of any words
any_segment : Exactly IsAnySegment take_any_segment
unfolding take_any_segment
any_segment = grind (arith, exactly, then, any_ident_exactly, ends, any_word, takes)

any_segments : Exactly (Separated IsAnySegment IsPathSep) take_any_segments
unfolding take_any_segments
any_segments =
    separated_exactly any_segment path_sep (lowers_token _) path_sep_tells
    lightens_any_segment

any_seen : {f g : Forest} {v : List PathSegment × List (Token PathSep)}
    → Separated IsAnySegment IsPathSep f v g → sees_any_ident (only_trees f) ≡ true
unfolding any_ident_first
any_seen (one (any_word any_ident) n) = refl
any_seen (and_others (any_word any_ident) p r) = refl

nested_segments : Exactly (Separated IsAnySegment IsPathSep) take_nested_segments
unfolding take_nested_segments
nested_segments =
    exactly
    (either sees_any_ident (so any_segments (λ _ _ _ s t. s))
    (either is_spent (refused _) (either sees_literal (refused _) (refused _))))
    (λ f g v s. simp (any_seen s, takes any_segments s) refl)

pub nested_path : Exactly IsNestedPath take_nested_path
unfolding take_nested_path
nested_path =
    exactly
    (then colon (λ c. then nested_segments (λ s. ends (λ _ _ s _ c. path_of_words c s))))
    (λ f g v i. grind (arith, takes, colon, nested_segments))
