-- Attributes are taken exactly.
use Rattle.std.proofs.Common.{arith, ◌≡◌, refl, true, false, inl, inr}
use Rattle.std.proofs.lemmas.Bool.{or_cases}
use Rattle.std.specs.Prelude.{codes}
use Rattle.tok_lexical.specs.declared.delimiter.Delimiter.{Delimiter}
use Rattle.tok_lexical.specs.declared.delimiter.Delimiter.TheVariants.{Brace, Bracket, Parenthesis}
use Rattle.tok_leaves.specs.declared.span.DelimSpan.{DelimSpan}
use Rattle.tok_leaves.specs.declared.ident.Ident.{Ident}
use Rattle.tok_core.specs.Forest.{Forest}
use Rattle.tok_types.specs.Sees.{group_first, keyword_first, punctuation_first}
use Rattle.syn_parse.specs.Lighter.{lowers_token}
use Rattle.syn_parse.specs.Takes.{take_group}
use Rattle.syn_parse.specs.TokenNames.{Comma, Eq, Pound, Token, Unsafe, sees, take}
use Rattle.syn_parse.specs.Tokens.{sees_group}
use Rattle.syn_parse.specs.TreesAhead.{only_trees}
use Rattle.syn_parse.specs.TreeTakes.{take_rest}
use Rattle.syn_punctuated.specs.TakeLists.{is_left}
use Rattle.syn_derive.specs.Arguments.{take_nested_list}
use Rattle.syn_derive.specs.Attributes.{AttributeForm, lowers_attribute, take_attribute}
use Rattle.syn_derive.specs.Attributes.{take_attributes}
use Rattle.syn_derive.specs.Metas.{MetaForm, MetaInput, lightens_nested_meta, sees_delimiters}
use Rattle.syn_derive.specs.Metas.{take_assigned, take_delimiters, take_meta, take_meta_after}
use Rattle.syn_derive.specs.Metas.{take_meta_input, take_meta_list, take_meta_path, take_name_value}
use Rattle.syn_derive.specs.Metas.{take_nested_meta}
use Rattle.syn_derive.specs.Paths.{PathForm, only_segment}
use Rattle.syn_derive.specs.declared.path.PathSegment.{PathSegment}
use Rattle.syn_derive.specs.Grammar.{AreAttributes, AreNestedMetas, IsAssigned, IsAttr, IsAttrInput}
use Rattle.syn_derive.specs.Grammar.{IsAttrList, IsAttrPath, IsAttrValue, IsAttribute, IsComma}
use Rattle.syn_derive.specs.Grammar.{IsDelimTokenTree, IsEq, IsNestedMeta, IsPath, IsPound}
use Rattle.syn_derive.specs.Grammar.{IsSegment, after_equals, any_word, attr, attr_list, attr_path}
use Rattle.syn_derive.specs.Grammar.{attr_value, crate, equals, identifier_segment, in_braces}
use Rattle.syn_derive.specs.Grammar.{in_brackets, in_delimiters, in_parentheses, meta_item}
use Rattle.syn_derive.specs.Grammar.{no_attr_input, outer_attribute, path_of_words, self_type}
use Rattle.syn_derive.specs.Grammar.{self_value, simple_path, super, unsafe_path, word_segment}
use Rattle.syn_punctuated.specs.Parts.{InGroup, IsAnyIdent, IsGroup, IsWord, absent, and_others}
use Rattle.syn_punctuated.specs.Parts.{any_ident, in_group, joint, one, present, sign, word}
use Rattle.syn_punctuated.proofs.Exactly.{Exactly, Tells, Written, either, ends, exactly}
use Rattle.syn_punctuated.proofs.Exactly.{group_exactly, many_exactly, not_next, refused, so, takes}
use Rattle.syn_punctuated.proofs.Exactly.{terminated_exactly, then, unseen}
use Rattle.syn_punctuated.proofs.ExactTokens.{any_ident_exactly, group_tells, rest_exactly}
use Rattle.syn_punctuated.proofs.ExactTokens.{sign_exactly, sign_tells, word_tells}
use Rattle.syn_derive.proofs.Grammar.Runs.{expression}
use Rattle.syn_derive.proofs.Grammar.Paths.{nested_path, not_reserved, path}

pub eq_sign : Exactly IsEq (take Eq)
eq_sign = sign_exactly Eq refl

pub eq_tells : Tells IsEq (sees Eq)
eq_tells = sign_tells Eq refl

all_in : (d : Delimiter) → Exactly (IsGroup d) (take_group d take_rest)
all_in d = group_exactly d rest_exactly

-- a group is no `=`
group_is : {f g : Forest} {v : MetaInput} → IsDelimTokenTree f v g
    → sees Eq (only_trees f) ≡ false
unfolding punctuation_first
group_is h = grind arith

not_parentheses : {f g : Forest} {v : DelimSpan × Forest} → IsGroup Bracket f v g
    → sees_group Parenthesis (only_trees f) ≡ false
unfolding group_first
not_parentheses (in_group i) = refl

not_others : {f g : Forest} {v : DelimSpan × Forest} → IsGroup Brace f v g
    → (sees_group Parenthesis (only_trees f) ≡ false) × (sees_group Bracket (only_trees f) ≡ false)
unfolding group_first
not_others (in_group i) = (refl, refl)

-- tokens in delimiters
delimiters : Exactly IsDelimTokenTree take_delimiters
unfolding take_delimiters
delimiters =
    exactly
    (either (sees_group Parenthesis)
    (then (all_in Parenthesis) (λ i. ends (λ _ _ i t. in_parentheses i)))
    (either (sees_group Bracket) (then (all_in Bracket) (λ i. ends (λ _ _ i t e. in_brackets i)))
    (either (sees_group Brace) (then (all_in Brace) (λ i. ends (λ _ _ i t b e. in_braces i)))
    (refused _)))) go where
      go : Written IsDelimTokenTree take_delimiters
      go _ _ _ (in_parentheses i) =
          simp ((group_tells Parenthesis).seen i, takes (all_in Parenthesis) i) refl
      go _ _ _ (in_brackets i) =
          simp (not_parentheses i, (group_tells Bracket).seen i, takes (all_in Bracket) i) refl
      go _ _ _ (in_braces i) =
          let n = not_others i in
          simp (n.0, n.1, (group_tells Brace).seen i, takes (all_in Brace) i) refl

delimited_first : {f g : Forest} {v : MetaInput} → IsDelimTokenTree f v g
    → sees_delimiters (only_trees f) ≡ true
unfolding group_first
delimited_first h = grind arith

pub delimiters_tell : Tells IsDelimTokenTree sees_delimiters
delimiters_tell = record { next = to; seen = delimited_first } where
  to : (f : Forest) → sees_delimiters (only_trees f) ≡ true
      → (v : MetaInput) × (g : Forest) × IsDelimTokenTree f v g
  to f e =
      elim (or_cases _ _ e) [
        | inl e ↦ elim (or_cases _ _ e) [
          | inl e ↦ let x = (group_tells Parenthesis).next f e in (_, x.1, in_parentheses x.2)
          | inr e ↦ let x = (group_tells Bracket).next f e in (_, x.1, in_brackets x.2)
        ]
        | inr e ↦ let x = (group_tells Brace).next f e in (_, x.1, in_braces x.2)
      ]

-- `=` and an expression
value_after : Exactly IsAssigned take_assigned
unfolding take_assigned
value_after =
    exactly (then eq_sign (λ e. then expression (λ v. ends (λ _ _ v _ e. equals e v))))
    (λ f g v i. grind (arith, takes, eq_sign, expression))

value_first : {f g : Forest} {v : MetaInput} → IsAssigned f v g → sees Eq (only_trees f) ≡ true
value_first (equals e v) = eq_tells.seen e

meta_input : Exactly IsAttrInput take_meta_input
meta_input =
    exactly
    (either (sees Eq) (so value_after (λ _ _ _ v t. after_equals v))
    (either sees_delimiters (so delimiters (λ _ _ _ d t e. in_delimiters d))
    (ends (λ _ d e. no_attr_input (not_next eq_tells e) (not_next delimiters_tell d))))) go where
      go : Written IsAttrInput take_meta_input
      go _ _ _ (after_equals v) = simp (value_first v, takes value_after v) refl
      go _ _ _ (in_delimiters d) =
          simp (group_is d, delimiters_tell.seen d, takes delimiters d) refl
      go _ _ _ (no_attr_input e d) = simp (unseen eq_tells e, unseen delimiters_tell d) refl

unsafe_tells : Tells (IsWord {k = 47} (codes "unsafe")) (sees Unsafe)
unsafe_tells = word_tells Unsafe _ _ refl

unsafe_word : {f g h : Forest} {v : Token Unsafe} {name : Ident} → IsWord (codes "unsafe") f v h
    → IsAnyIdent f name g → IsAttrPath f (only_segment name) g
unsafe_word word any_ident = unsafe_path

-- a path does not begin with `unsafe`
segment_first : {f g : Forest} {s : PathSegment} → IsSegment f s g
    → sees Unsafe (only_trees f) ≡ false
unfolding keyword_first
segment_first (identifier_segment i) = unseen unsafe_tells (not_reserved refl i)
segment_first (word_segment crate) = refl
segment_first (word_segment self_value) = refl
segment_first (word_segment super) = refl
segment_first (word_segment self_type) = refl

path_first : {f g : Forest} {p : PathForm} → IsPath f p g → sees Unsafe (only_trees f) ≡ false
unfolding keyword_first
path_first (simple_path (present (sign (joint p))) s) = refl
path_first (simple_path (absent n) (one s e)) = segment_first s
path_first (simple_path (absent n) (and_others s p r)) = segment_first s

meta_path : Exactly IsAttrPath take_meta_path
unfolding take_meta_path keyword_first
meta_path =
    exactly (either (sees Unsafe) (then any_ident_exactly
    (λ i. ends (λ _ f i t. unsafe_word (unsafe_tells.next f t).2 i)))
    (so path (λ _ _ _ p t. attr_path p))) go where
      go : Written IsAttrPath take_meta_path
      go _ _ _ (attr_path p) = simp (path_first p, takes path p) refl
      go _ _ _ (unsafe_path {span} {f}) =
          let i = any_ident {text = codes "unsafe"} {span = span} {f = f} in
          simp (takes any_ident_exactly i) refl

pub meta : Exactly IsAttr take_meta
unfolding take_meta take_meta_after
meta =
    exactly
    (then meta_path (λ p. then meta_input (λ i. ends (λ _ _ i _ p. attr p i))))
    (λ f g v i. grind (arith, takes, meta_path, meta_input))

pub meta_list : Exactly IsAttrList take_meta_list
unfolding take_meta_list
meta_list =
    exactly
    (then meta_path (λ p. then delimiters (λ i. ends (λ _ _ i _ p. attr_list p i))))
    (λ f g v i. grind (arith, takes, meta_path, delimiters))

pub name_value : Exactly IsAttrValue take_name_value
unfolding take_name_value
name_value =
    exactly
    (then meta_path (λ p. then value_after (λ i. ends (λ _ _ i _ p. attr_value p i))))
    (λ f g v i. grind (arith, takes, meta_path, value_after))

pound_sign : Exactly IsPound (take Pound)
pound_sign = sign_exactly Pound refl

pound_tells : Tells IsPound (sees Pound)
pound_tells = sign_tells Pound refl

in_brackets_exactly : Exactly (InGroup Bracket IsAttr) (take_group Bracket take_meta)
in_brackets_exactly = group_exactly Bracket meta

pub attribute : Exactly IsAttribute take_attribute
unfolding take_attribute
attribute =
    exactly
    (then pound_sign (λ p. then in_brackets_exactly
    (λ m. ends (λ _ _ m _ p. outer_attribute p m))))
    (λ f g v i. grind (arith, takes, pound_sign, in_brackets_exactly))

attribute_first : {f g : Forest} {v : AttributeForm} → IsAttribute f v g
    → sees Pound (only_trees f) ≡ true
attribute_first (outer_attribute p m) = pound_tells.seen p

pub attributes : Exactly AreAttributes take_attributes
attributes =
    many_exactly pound_tells attribute (record { begins = attribute_first }) lowers_attribute

-- the arguments of attributes
pub nested_meta : Exactly IsNestedMeta take_nested_meta
unfolding take_nested_meta take_meta_after
nested_meta =
    exactly
    (then nested_path (λ p. then meta_input (λ i. ends (λ _ _ i _ p. meta_item p i))))
    (λ f g v i. grind (arith, takes, nested_path, meta_input))

-- such a path has a first token
pub meta_left : {f g : Forest} {v : MetaForm} → IsNestedMeta f v g → is_left (only_trees f) ≡ true
meta_left (meta_item (path_of_words (present (sign (joint p))) s) i) = refl
meta_left (meta_item (path_of_words (absent n) (one (any_word any_ident) e)) i) = refl
meta_left (meta_item (path_of_words (absent n) (and_others (any_word any_ident) p r)) i) = refl

pub comma_sign : Exactly IsComma (take Comma)
comma_sign = sign_exactly Comma refl

pub nested_metas : Exactly AreNestedMetas take_nested_list
unfolding take_nested_list
nested_metas =
    terminated_exactly nested_meta comma_sign (lowers_token _) lightens_nested_meta
    (record { begins = meta_left })
