-- Paths, what attributes hold, attributes and visibilities are parsed again as they are written.
use Rattle.std.proofs.Common.{arith, refl, List, Option, None, Some}
use Rattle.tok_lexical.specs.declared.delimiter.Delimiter.TheVariants.{Brace, Bracket, Parenthesis}
use Rattle.tok_leaves.specs.Leaves.{literal_of}
use Rattle.tok_leaves.specs.declared.literal.Literal.{Literal}
use Rattle.tok_core.specs.Forest.{Forest, Tree, concat, leaf, no_trees, tree}
use Rattle.tok_types.specs.Sees.{punctuation_first}
use Rattle.syn_parse.specs.TokenNames.{Comma, Eq, In, PathSep, Pound, Pub, Token}
use Rattle.syn_punctuated.proofs.Exactly.{not_next}
use Rattle.syn_punctuated.specs.Parts.{No, Optional, Part, Separated, absent}
use Rattle.syn_punctuated.specs.Parts.{any_ident, identifier, in_group, last}
use Rattle.syn_punctuated.specs.Parts.{present, sign, word}
use Rattle.syn_derive.specs.Attributes.{AttributeForm}
use Rattle.syn_derive.specs.Grammar.{AreAttributes, IsAnySegment, IsAssigned, IsAttr, IsAttrInput}
use Rattle.syn_derive.specs.Grammar.{IsAttrList, IsAttrPath, IsAttrValue, IsAttribute, IsComma}
use Rattle.syn_derive.specs.Grammar.{IsDelimTokenTree, IsEq, IsMetaItemInner, IsNestedMeta}
use Rattle.syn_derive.specs.Grammar.{IsNestedPath, IsPath, IsPathSep, IsPubToken, IsRestricted}
use Rattle.syn_derive.specs.Grammar.{IsRestriction, IsRun, IsSegment, IsVisibility, after_equals}
use Rattle.syn_derive.specs.Grammar.{any_word, attr, attr_list, attr_path, attr_value, by_in}
use Rattle.syn_derive.specs.Grammar.{by_word, equals, identifier_segment, in_braces, in_brackets}
use Rattle.syn_derive.specs.Grammar.{in_delimiters, in_parentheses, in_path, inner_literal}
use Rattle.syn_derive.specs.Grammar.{inner_meta, is_inherited, is_public, is_restricted, meta_item}
use Rattle.syn_derive.specs.Grammar.{no_attr_input, outer_attribute, path_of_words, simple_path}
use Rattle.syn_derive.specs.Grammar.{unsafe_path, word_alone, word_segment}
use Rattle.syn_derive.specs.Metas.{MetaForm, MetaInput, assigned, delimited, no_input}
use Rattle.syn_derive.specs.NestedMetas.{NestedForm, of_literal, of_meta}
use Rattle.syn_derive.specs.Paths.{PathForm}
use Rattle.syn_derive.specs.RunGrammar.{IsExpr}
use Rattle.syn_derive.specs.Visibilities.{VisibilityForm, inherited, public}
use Rattle.syn_derive.specs.Visibilities.{restricted}
use Rattle.syn_derive.specs.declared.path.PathSegment.{PathSegment}
use Rattle.syn_derive.specs.declared.run.Last.TheVariants.{Operator}
use Rattle.syn_derive.specs.declared.run.Until.TheVariants.{Expr}
use Rattle.syn_derive.proofs.Grammar.Attributes.{delimiters_tell}
use Rattle.syn_derive.proofs.Grammar.Paths.{path_sep_tells}
use Rattle.syn_derive.proofs.Again.Alike.{Alike, alike_groups, alike_same, alike_signs, alike_words}
use Rattle.syn_derive.proofs.Again.Alike.{path_sep_alike, tokens_alike}
use Rattle.syn_derive.proofs.Again.Parts.{Again, Always, AtEnd, Decided, Onto, all_onto, decided}
use Rattle.syn_derive.proofs.Again.Parts.{decided_sign, group_again, group_onto}
use Rattle.syn_derive.proofs.Again.Parts.{ident_onto, many_again, rest_again, run_again}
use Rattle.syn_derive.proofs.Again.Parts.{separated_again, sign_again, sign_onto}
use Rattle.syn_derive.proofs.Again.Parts.{to_end, turns_onto, word_again, word_onto}

-- what may be missing
abbrev pub optional_onto : {A : Type 0} → Onto A → Onto (Option A)
optional_onto onto None h = h
optional_onto onto (Some v) h = onto v h

-- segments
abbrev pub segment_onto : Onto PathSegment
segment_onto s h = ident_onto s.ident h

segment_again : Always IsSegment segment_onto
segment_again = record { always = λ i h. go i h } where
  go : {f g : Forest} {v : PathSegment} → IsSegment f v g → (h : Forest)
      → IsSegment (segment_onto v h) v h
  go (identifier_segment (identifier a)) h = identifier_segment (identifier a)
  go (word_segment w) h = word_segment w

any_segment_again : Always IsAnySegment segment_onto
any_segment_again = grind (arith, any_word, any_ident)

-- paths
abbrev Segments : Type 0
Segments = List PathSegment × List (Token PathSep)

abbrev segments_onto : Onto Segments
segments_onto = turns_onto segment_onto sign_onto

abbrev pub path_onto : Onto PathForm
path_onto p h = optional_onto sign_onto p.0 (segments_onto p.1 h)

path_sep_again : Always IsPathSep sign_onto
path_sep_again = sign_again 28 2 refl

path_sep_decided : Decided IsPathSep
path_sep_decided = decided path_sep_tells (λ f g a. path_sep_alike a)

module _ {Is : Part PathSegment} (e : Always Is segment_onto) where
  segments_again : Again (Separated Is IsPathSep) segments_onto
  segments_again = separated_again path_sep_again path_sep_decided e

  -- segments do not begin with `::`
  colon_again : {f g k : Forest} (h : Forest) {colon : Option (Token PathSep)} {s : Segments}
      → Optional IsPathSep IsPathSep f colon g → Separated Is IsPathSep g s k
      → Optional IsPathSep IsPathSep (optional_onto sign_onto colon (segments_onto s h)) colon
      (segments_onto s h)
  unfolding punctuation_first
  colon_again h k r =
      grind (arith, present, path_sep_again.always, absent, not_next, path_sep_tells)

pub path_again : Again IsPath path_onto
path_again = record { again = λ i a. go i a } where
  go : {f g h : Forest} {v : PathForm} → IsPath f v g → Alike g h → IsPath (path_onto v h) v h
  go (simple_path c s) a =
      simple_path (colon_again segment_again _ c s) ((segments_again segment_again).again s a)

nested_path_again : Again IsNestedPath path_onto
nested_path_again = record { again = λ i a. go i a } where
  go : {f g h : Forest} {v : PathForm} → IsNestedPath f v g → Alike g h
      → IsNestedPath (path_onto v h) v h
  go (path_of_words c s) a =
      path_of_words (colon_again any_segment_again _ c s)
      ((segments_again any_segment_again).again s a)

-- what comes after the path of an attribute
pub eq_again : Always IsEq sign_onto
eq_again = sign_again 13 1 refl

pub eq_decided : Decided IsEq
eq_decided = decided_sign Eq 61 refl refl

pub eq_alike : {f g : Forest} {v : Token Eq} → IsEq f v g → (h : Forest)
    → Alike f (sign_onto v h)
eq_alike (sign last) h = alike_signs refl refl refl

pub expr_again : Again (IsRun IsExpr) (λ f h. concat f h)
expr_again = run_again (λ m f g r a. (tokens_alike 0 Expr Operator m f g r.0 a, r.1))

abbrev pub args_onto : Onto MetaInput
args_onto no_input h = h
args_onto (delimited d span f) h = group_onto d (λ f h. f) (span, f) h
args_onto (assigned eq value) h = sign_onto eq (concat value h)

delimiters_again : Always IsDelimTokenTree args_onto
delimiters_again = record { always = λ i h. go i h } where
  go : {f g : Forest} {v : MetaInput} → IsDelimTokenTree f v g → (h : Forest)
      → IsDelimTokenTree (args_onto v h) v h
  go (in_parentheses i) h = in_parentheses ((group_again Parenthesis rest_again).always i h)
  go (in_brackets i) h = in_brackets ((group_again Bracket rest_again).always i h)
  go (in_braces i) h = in_braces ((group_again Brace rest_again).always i h)

delimiters_decided : Decided IsDelimTokenTree
delimiters_decided = grind (arith, decided, delimiters_tell)

assigned_again : Again IsAssigned args_onto
assigned_again = record { again = λ i a. go i a } where
  go : {f g h : Forest} {v : MetaInput} → IsAssigned f v g → Alike g h
      → IsAssigned (args_onto v h) v h
  go (equals e v) a = equals (eq_again.always e _) (expr_again.again v a)

args_again : Again IsAttrInput args_onto
args_again = record { again = λ i a. go i a } where
  go : {f g h : Forest} {v : MetaInput} → IsAttrInput f v g → Alike g h
      → IsAttrInput (args_onto v h) v h
  go (in_delimiters d) a = in_delimiters (delimiters_again.always d _)
  go (after_equals v) a = after_equals (assigned_again.again v a)
  go (no_attr_input e d) a = no_attr_input (eq_decided.none a e) (delimiters_decided.none a d)

delimiters_alike : {f g : Forest} {v : MetaInput} → IsDelimTokenTree f v g → (h : Forest)
    → Alike f (args_onto v h)
delimiters_alike (in_parentheses (in_group i)) h = alike_groups
delimiters_alike (in_brackets (in_group i)) h = alike_groups
delimiters_alike (in_braces (in_group i)) h = alike_groups

assigned_alike : {f g : Forest} {v : MetaInput} → IsAssigned f v g → (h : Forest)
    → Alike f (args_onto v h)
assigned_alike (equals e v) h = eq_alike e _

args_alike : {f g h : Forest} {v : MetaInput} → IsAttrInput f v g → Alike g h
    → Alike f (args_onto v h)
args_alike (in_delimiters d) a = delimiters_alike d _
args_alike (after_equals v) a = assigned_alike v _
args_alike (no_attr_input e d) a = a

-- what an attribute holds, and attributes
abbrev pub meta_onto : Onto MetaForm
meta_onto m h = path_onto m.0 (args_onto m.1 h)

attr_path_again : Again IsAttrPath path_onto
attr_path_again = grind (arith, attr_path, path_again.again, unsafe_path)

pub meta_again : Again IsAttr meta_onto
meta_again = record { again = λ i a. go i a } where
  go : {f g h : Forest} {v : MetaForm} → IsAttr f v g → Alike g h → IsAttr (meta_onto v h) v h
  go (attr p i) a = attr (attr_path_again.again p (args_alike i a)) (args_again.again i a)

pub meta_list_again : Again IsAttrList meta_onto
meta_list_again = record { again = λ i a. go i a } where
  go : {f g h : Forest} {v : MetaForm} → IsAttrList f v g → Alike g h
      → IsAttrList (meta_onto v h) v h
  go (attr_list p d) a =
      attr_list (attr_path_again.again p (delimiters_alike d _)) (delimiters_again.always d _)

pub name_value_again : Again IsAttrValue meta_onto
name_value_again = record { again = λ i a. go i a } where
  go : {f g h : Forest} {v : MetaForm} → IsAttrValue f v g → Alike g h
      → IsAttrValue (meta_onto v h) v h
  go (attr_value p v) a =
      attr_value (attr_path_again.again p (assigned_alike v _)) (assigned_again.again v a)

pub nested_meta_again : Again IsNestedMeta meta_onto
nested_meta_again = record { again = λ i a. go i a } where
  go : {f g h : Forest} {v : MetaForm} → IsNestedMeta f v g → Alike g h
      → IsNestedMeta (meta_onto v h) v h
  go (meta_item p i) a =
      meta_item (nested_path_again.again p (args_alike i a)) (args_again.again i a)

abbrev pub literal_onto : Onto Literal
literal_onto l h = tree (leaf (literal_of l)) h

abbrev pub item_onto : Onto NestedForm
item_onto (of_literal l) h = literal_onto l h
item_onto (of_meta m) h = meta_onto m h

pub meta_item_again : Again IsMetaItemInner item_onto
meta_item_again = grind (arith, inner_literal, inner_meta, nested_meta_again.again)

pub comma_again : Always IsComma sign_onto
comma_again = sign_again 7 1 refl

pub comma_alike : (f g h : Forest) (v : Token Comma) → IsComma f v g → Alike f (sign_onto v h)
comma_alike _ _ h _ (sign last) = alike_signs refl refl refl

abbrev pub attribute_onto : Onto AttributeForm
attribute_onto a h = sign_onto a.0 (group_onto Bracket meta_onto (a.1, a.2) h)

pub attribute_again : Always IsAttribute attribute_onto
attribute_again = record { always = λ i h. go i h } where
  go : {f g : Forest} {v : AttributeForm} → IsAttribute f v g → (h : Forest)
      → IsAttribute (attribute_onto v h) v h
  go (outer_attribute p m) h =
      outer_attribute ((sign_again 33 1 refl).always p _)
      ((group_again Bracket (to_end meta_again)).always m h)

pub attributes_again : Again AreAttributes (all_onto attribute_onto)
attributes_again = many_again (decided_sign Pound 35 refl refl) attribute_again

-- visibilities
abbrev Restriction : Type 0
Restriction = Option (Token In) × PathForm

abbrev restriction_onto : Onto Restriction
restriction_onto r h = optional_onto word_onto r.0 (path_onto r.1 h)

restriction_again : AtEnd IsRestriction restriction_onto
restriction_again = record { at_end = λ i. go i } where
  go : {f : Forest} {v : Restriction} → IsRestriction f v no_trees
      → IsRestriction (restriction_onto v no_trees) v no_trees
  go (word_alone w) = word_alone w
  go (in_path w p) = in_path ((word_again 22 _ _ refl).always w _) (path_again.again p alike_same)

abbrev pub visibility_onto : Onto VisibilityForm
visibility_onto (public w) h = word_onto w h
visibility_onto (restricted r) h =
    word_onto r.0 (group_onto Parenthesis restriction_onto (r.1, (r.2, r.3)) h)
visibility_onto inherited h = h

-- the same trees, or others with the same first tree
pub data SameFirst : Forest → Forest → Type 0 where
  all_same : {f : Forest} → SameFirst f f
  first_same : {t : Tree} {f g : Forest} → SameFirst (tree t f) (tree t g)

restricted_first : {f g : Forest} → SameFirst f g → IsRestricted g → IsRestricted f
restricted_first h r = grind (arith, by_word, by_in)

same_word : {t : Tree} {f g h : Forest} {v : Token Pub} → IsPubToken (tree t g) v h
    → IsPubToken (tree t f) v f
same_word word = word

pub_first : {f g : Forest} → SameFirst f g → No IsPubToken f → No IsPubToken g
pub_first all_same n v h w = n v h w
pub_first (first_same {t} {f} {g}) n v h w = n v f (same_word w)

-- Parentheses after `pub` tell whether they belong to it, so a visibility needs the same first tree
-- after it.
pub visibility_again : {f g h : Forest} {v : VisibilityForm} → IsVisibility f v g → SameFirst g h
    → IsVisibility (visibility_onto v h) v h
visibility_again (is_public w n) s =
    is_public ((word_again 32 _ _ refl).always w _) (λ r. n (restricted_first s r))
visibility_again (is_restricted w i) s =
    is_restricted ((word_again 32 _ _ refl).always w _)
    ((group_again Parenthesis restriction_again).always i _)
visibility_again (is_inherited n) s = is_inherited (pub_first s n)

pub visibility_alike : {f g h : Forest} {v : VisibilityForm} → IsVisibility f v g → Alike g h
    → Alike f (visibility_onto v h)
visibility_alike (is_public word n) a = alike_words
visibility_alike (is_restricted word i) a = alike_words
visibility_alike (is_inherited n) a = a
