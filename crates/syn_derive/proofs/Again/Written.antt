-- The visible trees that a value is written as, by its form.
use Rattle.std.proofs.Common.{arith, ◌≡◌, ap, refl, ℕ, Bool, true, false, List, [], ◌∷◌}
use Rattle.std.proofs.Common.{map}
use Rattle.std.proofs.Common.{Option, None, Some}
use Rattle.std.specs.Global.{Vec}
use Rattle.std.specs.Prelude.{if◌then◌else◌, option_map}
use Rattle.tok_lexical.specs.declared.delimiter.Delimiter.TheVariants.{Brace, Bracket, Parenthesis}
use Rattle.tok_leaves.specs.declared.ident.Ident.{Ident}
use Rattle.tok_leaves.specs.Leaves.{punct}
use Rattle.tok_leaves.specs.declared.punct.Spacing.TheVariants.{Joint}
use Rattle.tok_leaves.specs.declared.span.Span.{Span}
use Rattle.tok_core.specs.Erase.{erase}
use Rattle.tok_core.specs.Filled.{has_trees}
use Rattle.tok_core.specs.Forest.{Forest, concat, forest, group, leaf, no_trees, tree}
use Rattle.tok_core.specs.Laws.{followed_by, optional_trees}
use Rattle.tok_core.proofs.Erasures.{erase_concat}
use Rattle.tok_core.proofs.Facts.{concat-none, joined_assoc}
use Rattle.tok_types.specs.Printed as printed
use Rattle.tok_types.specs.declared.keyword.Keyword.{Keyword}
use Rattle.tok_types.specs.declared.punctuation.Punctuation.{Punctuation}
use Rattle.syn_parse.specs.TokenNames.{Colon, Comma, Eq, Token}
use Rattle.syn_punctuated.specs.Lists.{separators_of, values_of}
use Rattle.syn_punctuated.specs.Printed.{by_turns}
use Rattle.syn_punctuated.specs.TakeLists.{list_form}
use Rattle.syn_punctuated.specs.declared.punctuated.Punctuated.{Punctuated}
use Rattle.syn_derive.specs.Again.{given}
use Rattle.syn_derive.specs.Attributes.{attribute_form, attribute_trees, attributes_form}
use Rattle.syn_derive.specs.Attributes.{attributes_trees}
use Rattle.syn_derive.specs.Fields.{field_form, fields_form, list_of, variant_form}
use Rattle.syn_derive.specs.Generics.{params_form, where_form}
use Rattle.syn_derive.specs.Inputs.{data_form, input_form}
use Rattle.syn_derive.specs.Metas.{delimited_by, delimited_trees, meta_form, meta_list_form}
use Rattle.syn_derive.specs.Metas.{meta_list_trees, meta_trees, name_value_form, name_value_trees}
use Rattle.syn_derive.specs.NestedMetas.{nested_form, nested_trees}
use Rattle.syn_derive.specs.Paths.{path_form, path_trees, segment_trees}
use Rattle.syn_derive.specs.Printing.{all_trees, keyword_trees, or_default_trees}
use Rattle.syn_derive.specs.Printing.{sign_trees}
use Rattle.syn_derive.specs.Visibilities.{visibility_form, visibility_trees}
use Rattle.syn_derive.specs.Written.{body_trees, clause_trees, discriminant_trees, field_trees}
use Rattle.syn_derive.specs.Written.{fields_trees, generics_trees, ident_trees, input_trees}
use Rattle.syn_derive.specs.Written.{list_trees, name_trees, params_trees, predicates_trees}
use Rattle.syn_derive.specs.Written.{struct_trees, variant_trees, word_trees}
use Rattle.syn_derive.specs.declared.attribute.Attribute.{Attribute}
use Rattle.syn_derive.specs.declared.data.Field.{Field}
use Rattle.syn_derive.specs.declared.data.Fields.{Fields}
use Rattle.syn_derive.specs.declared.data.Fields.TheVariants as fields
use Rattle.syn_derive.specs.declared.data.Variant.{Variant}
use Rattle.syn_derive.specs.declared.derive.Data.{Data}
use Rattle.syn_derive.specs.declared.derive.Data.TheVariants as kind
use Rattle.syn_derive.specs.declared.derive.DeriveInput.{DeriveInput}
use Rattle.syn_derive.specs.declared.generics.Generics.{Generics}
use Rattle.syn_derive.specs.declared.generics.WhereClause.{WhereClause}
use Rattle.syn_derive.specs.declared.meta.MacroDelimiter.{MacroDelimiter}
use Rattle.syn_derive.specs.declared.meta.Meta.{Meta}
use Rattle.syn_derive.specs.declared.meta.Meta.TheVariants as meta
use Rattle.syn_derive.specs.declared.meta.MetaList.{MetaList}
use Rattle.syn_derive.specs.declared.meta.MetaNameValue.{MetaNameValue}
use Rattle.syn_derive.specs.declared.nested.NestedMeta.{NestedMeta}
use Rattle.syn_derive.specs.declared.nested.NestedMeta.TheVariants as nested
use Rattle.syn_derive.specs.declared.path.Path.{Path}
use Rattle.syn_derive.specs.declared.path.PathSegment.{PathSegment}
use Rattle.syn_derive.specs.declared.ty.Expr.{Expr}
use Rattle.syn_derive.specs.declared.visibility.Visibility.{Visibility}
use Rattle.syn_derive.specs.declared.visibility.Visibility.TheVariants.{Inherited, Public}
use Rattle.syn_derive.specs.declared.visibility.Visibility.TheVariants.{Restricted}
use Rattle.syn_derive.proofs.Again.Fields.{field_onto, fields_onto, list_onto, named_onto}
use Rattle.syn_derive.proofs.Again.Fields.{value_onto, variant_onto, variants_onto}
use Rattle.syn_derive.proofs.Again.Items.{body_onto, clause_onto, data_onto, input_onto}
use Rattle.syn_derive.proofs.Again.Items.{params_onto, struct_onto}
use Rattle.syn_derive.proofs.Again.Metas.{args_onto, attribute_onto, item_onto, meta_onto}
use Rattle.syn_derive.proofs.Again.Metas.{optional_onto, path_onto}
use Rattle.syn_derive.proofs.Again.Metas.{segment_onto, visibility_onto}
use Rattle.syn_derive.proofs.Again.Parts.{Onto, all_onto, ident_onto, in_turn}
use Rattle.syn_derive.proofs.Again.Parts.{sign_onto, word_onto}

-- these trees, without invisible groups, before others
pub record Puts (trees : Forest) (onto : Forest → Forest) : Type 0 where
  pub puts : (h : Forest) → concat (erase trees) h ≡ onto h

joined : {a b : Forest} {x y : Forest → Forest} → Puts a x → Puts b y
    → Puts (concat a b) (λ h. x (y h))
joined {a} {b} {x} {y} p q = grind (arith, erase_concat, joined_assoc)

both : {a b : Forest} {x y : Forest → Forest} → Puts a x → Puts b y
    → Puts (followed_by a b) (λ h. x (y h))
unfolding followed_by
both p q = joined p q

none : Puts no_trees (λ h. h)
none = record { puts = λ h. refl }

-- tokens as they are
tokens : (f : Forest) → Puts f (λ h. concat (erase f) h)
tokens f = record { puts = λ h. refl }

all_leaves : (cs : List ℕ) (spans : List Span)
    → erase (forest (printed.joint_puncts cs spans)) ≡ forest (printed.joint_puncts cs spans)
all_leaves [] spans = refl
all_leaves (c ∷ []) [] = refl
all_leaves (c ∷ []) (s ∷ ss) = refl
all_leaves (c ∷ (d ∷ cs)) [] = refl
all_leaves (c ∷ (d ∷ cs)) (s ∷ ss) = ap (tree (leaf (punct c Joint s))) (all_leaves (d ∷ cs) ss)

signs : {k n : ℕ} (s : Punctuation k n) → Puts (sign_trees s) (sign_onto s)
signs {k} {n} s = grind (arith, all_leaves)

words : {k : ℕ} (w : Keyword k) → Puts (keyword_trees w) (word_onto w)
words {k} w = grind arith

idents : (i : Ident) → Puts (ident_trees i) (ident_onto i)
idents i = record { puts = λ h. refl }

or_default : {k : ℕ} (o : Option (Punctuation k 1)) → Puts (or_default_trees o)
    (sign_onto (given o))
or_default (Some s) = signs s
or_default {k} None = signs (given {k = k} None)

optional : {V : Type 0} {trees : V → Forest} {onto : Onto V} → ((v : V) → Puts (trees v) (onto v))
    → (o : Option V) → Puts (optional_trees trees o) (optional_onto onto o)
optional each o = grind (arith, none)

-- groups
inside : {f : Forest} {x : Forest → Forest} → Puts f x → erase f ≡ x no_trees
inside {f} p = grind (arith, concat-none)

in_braces : {f : Forest} {x : Forest → Forest} (s : Span) → Puts f x
    → Puts (tree (group Brace f s) no_trees) (λ h. tree (group Brace (x no_trees) s) h)
in_braces s p = grind (arith, inside)

in_brackets : {f : Forest} {x : Forest → Forest} (s : Span) → Puts f x
    → Puts (tree (group Bracket f s) no_trees) (λ h. tree (group Bracket (x no_trees) s) h)
in_brackets s p = grind (arith, inside)

in_parentheses : {f : Forest} {x : Forest → Forest} (s : Span) → Puts f x
    → Puts (tree (group Parenthesis f s) no_trees)
    (λ h. tree (group Parenthesis (x no_trees) s) h)
in_parentheses s p = grind (arith, inside)

-- lists
module _ {V A : Type 0} {trees : V → Forest} {form : V → A} (onto : Onto A)
    (each : (v : V) → Puts (trees v) (onto (form v))) where
  all : (vs : List V) → Puts (all_trees trees vs) (all_onto onto (map form vs))
  all [] = none
  all (v ∷ vs) = joined (each v) (all vs)

  turns : {k n : ℕ} (vs : List V) (ps : List (Punctuation k n))
      → Puts (by_turns trees sign_trees vs ps)
      (in_turn onto sign_onto (map form vs) (map (λ p. p) ps))
  turns [] ps = none
  turns (v ∷ vs) [] = joined (each v) (turns vs [])
  turns (v ∷ vs) (p ∷ ps) = joined (each v) (joined (signs p) (turns vs ps))

segment : (s : PathSegment) → Puts (segment_trees s) (segment_onto s)
segment s = record { puts = λ h. refl }

pub path : (p : Path) → Puts (path_trees p) (path_onto (path_form p))
path p =
    both (optional signs p.leading_colon)
    (turns {form = λ s. s} segment_onto segment (values_of p.segments)
    (separators_of p.segments))

arguments : (d : MacroDelimiter) (f : Forest)
    → Puts (delimited_trees d f) (args_onto (delimited_by d (erase f)))
arguments d f = grind arith

pub meta_lists : (l : MetaList) → Puts (meta_list_trees l) (meta_onto (meta_list_form l))
meta_lists l = both (path l.path) (arguments l.delimiter l.tokens)

pub name_values : (v : MetaNameValue) → Puts (name_value_trees v) (meta_onto (name_value_form v))
name_values v = both (path v.path) (both (signs v.eq_token) (tokens v.value.tokens))

pub metas : (m : Meta) → Puts (meta_trees m) (meta_onto (meta_form m))
metas (meta.Path p) = path p
metas (meta.List l) = meta_lists l
metas (meta.NameValue v) = name_values v

pub items : (n : NestedMeta) → Puts (nested_trees n) (item_onto (nested_form n))
items (nested.Meta m) = metas m
items (nested.Lit l) = record { puts = λ h. refl }

pub attribute : (a : Attribute) → Puts (attribute_trees a) (attribute_onto (attribute_form a))
attribute a = both (signs a.pound_token) (in_brackets _ (metas a.meta))

attributes : (a : Vec Attribute) → Puts (attributes_trees a)
    (all_onto attribute_onto (attributes_form a))
attributes a = all attribute_onto attribute a.items

pub visibility : (v : Visibility) → Puts (visibility_trees v) (visibility_onto (visibility_form v))
visibility (Public w) = words w
visibility (Restricted v) =
    both (words v.pub_token) (in_parentheses _ (both (optional words v.in_token) (path v.path)))
visibility Inherited = none

-- fields
named : (name : Option Ident) (colon : Option (Token Colon)) → Puts (name_trees name colon)
    (named_onto name colon)
named None colon = none
named (Some i) colon = both (idents i) (or_default colon)

pub field : (f : Field) → Puts (field_trees f) (field_onto (field_form f))
field f =
    both (both (attributes f.attrs) (visibility f.vis))
    (both (named f.ident f.colon_token) (tokens f.ty.tokens))

list : (l : Punctuated Field (Token Comma)) → Puts (list_trees l) (list_onto (list_of l))
list l = turns field_onto field (values_of l) (separators_of l)

pub all_fields : (f : Fields) → Puts (fields_trees f) (fields_onto (fields_form f))
all_fields (fields.Named f) = in_braces _ (list f.named)
all_fields (fields.Unnamed f) = in_parentheses _ (list f.unnamed)
all_fields fields.Unit = none

-- variants
value : (d : Option (Token Eq × Expr)) → Puts (discriminant_trees d)
    (value_onto (option_map (λ d. (d.0, erase d.1.tokens)) d))
value None = none
value (Some d) = both (signs d.0) (tokens d.1.tokens)

pub variant : (v : Variant) → Puts (variant_trees v) (variant_onto (variant_form v))
variant v =
    both (both (attributes v.attrs) (idents v.ident))
    (both (all_fields v.fields) (value v.discriminant))

variants : (l : Punctuated Variant (Token Comma))
    → Puts (by_turns variant_trees sign_trees (values_of l) (separators_of l))
    (variants_onto (list_form variant_form (λ p. p) l))
variants l = turns variant_onto variant (values_of l) (separators_of l)

-- parameters, and a `where` clause, if they are written
params : (g : Generics) → Puts (generics_trees g)
    (params_onto (has_trees g.params) (params_form g))
params g = go (has_trees g.params) where
  go : (b : Bool) → Puts (if b then params_trees g else no_trees) (params_onto b (params_form g))
  go true = both (both (or_default g.lt_token) (tokens g.params)) (or_default g.gt_token)
  go false = none

abbrev pub has_predicates : Option WhereClause → Bool
has_predicates None = false
has_predicates (Some w) = has_trees w.predicates

clause : (c : Option WhereClause) → Puts (clause_trees c)
    (clause_onto (has_predicates c) (option_map where_form c))
clause None = none
clause (Some w) = go (has_trees w.predicates) where
  go : (b : Bool) → Puts (if b then predicates_trees w else no_trees)
      (clause_onto b (Some (where_form w)))
  go true = both (words w.where_token) (tokens w.predicates)
  go false = none

-- what comes after the name
body : (g : Generics) (d : Data)
    → Puts (followed_by (generics_trees g) (body_trees g.where_clause d))
    (body_onto (has_trees g.params) (has_predicates g.where_clause) (params_form g)
    (option_map where_form g.where_clause) (data_form d))
body g (kind.Struct d) = both (params g) (go d.fields) where
  go : (f : Fields) → Puts (struct_trees g.where_clause f d.semi_token)
      (struct_onto (has_predicates g.where_clause) (option_map where_form g.where_clause)
      (fields_form f) d.semi_token)
  go (fields.Named f) = both (clause g.where_clause) (in_braces _ (list f.named))
  go (fields.Unnamed f) =
      both (in_parentheses _ (list f.unnamed))
      (both (clause g.where_clause) (or_default d.semi_token))
  go fields.Unit = both (clause g.where_clause) (or_default d.semi_token)
body g (kind.Enum d) =
    both (params g) (both (clause g.where_clause) (in_braces _ (variants d.variants)))
body g (kind.Union d) =
    both (params g) (both (clause g.where_clause) (in_braces _ (list d.fields.named)))

first_word : (d : Data) → Puts (word_trees d) (data_onto (data_form d))
first_word d = grind (arith, words)

pub input : (i : DeriveInput) → Puts (input_trees i)
    (input_onto (has_trees i.generics.params) (has_predicates i.generics.where_clause)
    (input_form i))
input i =
    both (both (attributes i.attrs) (visibility i.vis))
    (both (both (first_word i.data) (idents i.ident)) (body i.generics i.data))
