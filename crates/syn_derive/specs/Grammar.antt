-- The grammar of what a derive is given, by the productions of the Rust Reference. If syn reads
-- more than these have, the comment says so. Each constructor is a production, or an alternative
-- of one. `IsStruct f item g` says that the trees of f begin with a struct of the form `item`,
-- after which come those of g. An optional part is missing only if its first token is not next.
use Rattle.std.specs.Prelude.{ℕ, Err, List, None, Ok, Option, Result, Some, codes}
use Rattle.tok_lexical.specs.declared.delimiter.Delimiter.TheVariants.{Brace, Bracket, Parenthesis}
use Rattle.tok_leaves.specs.Leaves.{ident, literal}
use Rattle.tok_leaves.specs.declared.ident.Ident.{Ident}
use Rattle.tok_leaves.specs.declared.span.DelimSpan.{DelimSpan}
use Rattle.tok_leaves.specs.declared.span.Span.{Span}
use Rattle.tok_core.specs.Erase.{erase}
use Rattle.tok_core.specs.Forest.{Forest, concat, group, leaf, no_trees, tree}
use Rattle.syn_parse.specs.Takes.{MemoryOr}
use Rattle.syn_parse.specs.TokenNames.{Colon, Comma, Enum, Eq, Gt, In, Lt, PathSep, Pound, Pub}
use Rattle.syn_parse.specs.TokenNames.{Semi, Struct, Token, Union, Where}
use Rattle.syn_parse.specs.declared.fault.Fault.{Fault}
use Rattle.syn_punctuated.specs.Parts.{InGroup, IsAnyIdent, IsGroup, IsIdentifier, IsSign, IsWord}
use Rattle.syn_punctuated.specs.Parts.{Many, No, Optional, Part, Separated, Terminated}
use Rattle.syn_punctuated.specs.TakeLists.{list_form}
use Rattle.syn_punctuated.specs.declared.punctuated.Punctuated.{Punctuated}
use Rattle.syn_derive.specs.Attributes.{AttributeForm}
use Rattle.syn_derive.specs.Fields.{FieldForm, FieldList, FieldsForm, VariantForm, named, unit}
use Rattle.syn_derive.specs.Fields.{unnamed}
use Rattle.syn_derive.specs.Generics.{ParamsForm, WhereForm}
use Rattle.syn_derive.specs.Inputs.{InputForm, ItemForm, input_form, of_enum, of_struct, of_union}
use Rattle.syn_derive.specs.Metas.{MetaForm, MetaInput, assigned, delimited, no_input}
use Rattle.syn_derive.specs.NestedMetas.{NestedForm, nested_form, of_literal, of_meta}
use Rattle.syn_derive.specs.Paths.{PathForm, only_segment}
use Rattle.syn_derive.specs.RunGrammar.{AreParams, ArePredicates, IsExpr, IsType}
use Rattle.syn_derive.specs.Visibilities.{VisibilityForm, inherited, public, restricted}
use Rattle.syn_derive.specs.declared.derive.DeriveInput.{DeriveInput}
use Rattle.syn_derive.specs.declared.nested.NestedMeta.{NestedMeta}
use Rattle.syn_derive.specs.declared.path.PathSegment.{PathSegment}

-- the keyword `pub`
abbrev pub IsPubToken : Part (Token Pub)
IsPubToken = IsWord (codes "pub")

-- the keyword `in`
abbrev pub IsInToken : Part (Token In)
IsInToken = IsWord (codes "in")

-- the keyword `struct`
abbrev pub IsStructToken : Part (Token Struct)
IsStructToken = IsWord (codes "struct")

-- the keyword `enum`
abbrev pub IsEnumToken : Part (Token Enum)
IsEnumToken = IsWord (codes "enum")

-- the keyword `union`
abbrev pub IsUnionToken : Part (Token Union)
IsUnionToken = IsWord (codes "union")

-- the keyword `where`
abbrev pub IsWhereToken : Part (Token Where)
IsWhereToken = IsWord (codes "where")

-- the punctuation `::`
abbrev pub IsPathSep : Part (Token PathSep)
IsPathSep = IsSign (codes "::")

-- the punctuation `#`
abbrev pub IsPound : Part (Token Pound)
IsPound = IsSign (codes "#")

-- the punctuation `=`
abbrev pub IsEq : Part (Token Eq)
IsEq = IsSign (codes "=")

-- the punctuation `:`
abbrev pub IsColon : Part (Token Colon)
IsColon = IsSign (codes ":")

-- the punctuation `,`
abbrev pub IsComma : Part (Token Comma)
IsComma = IsSign (codes ",")

-- the punctuation `;`
abbrev pub IsSemi : Part (Token Semi)
IsSemi = IsSign (codes ";")

-- the punctuation `<`
abbrev pub IsLt : Part (Token Lt)
IsLt = IsSign (codes "<")

-- the punctuation `>`
abbrev pub IsGt : Part (Token Gt)
IsGt = IsSign (codes ">")

-- these trees come first, before those after them
pub data IsRun (Are : Forest → Forest → Type 0) : Forest → Forest → Forest → Type 0 where
  run : {trees rest : Forest} → Are trees rest → IsRun Are (concat trees rest) trees rest

-- reserved words that may be segments of a path; as in syn, `Self` is one
pub data IsPathWord : List ℕ → Type 0 where
  crate : IsPathWord (codes "crate")
  self_value : IsPathWord (codes "self")
  super : IsPathWord (codes "super")
  self_type : IsPathWord (codes "Self")

-- SimplePathSegment: IDENTIFIER | `super` | `self` | `crate`
pub data IsSegment : Forest → PathSegment → Forest → Type 0 where
  identifier_segment : {f g : Forest} {name : Ident} → IsIdentifier f name g
      → IsSegment f (record { ident = name }) g
  word_segment : {text : List ℕ} {span : Span} {f : Forest} → IsPathWord text
      → IsSegment (tree (leaf (ident text span)) f)
      (record { ident = record { text = text; span = span } }) f

-- SimplePath: `::`? SimplePathSegment (`::` SimplePathSegment)*
pub data IsPath : Forest → PathForm → Forest → Type 0 where
  simple_path : {f g h : Forest} {colon : Option (Token PathSep)}
      {segments : List PathSegment × List (Token PathSep)}
      → Optional IsPathSep IsPathSep f colon g → Separated IsSegment IsPathSep g segments h
      → IsPath f (colon, segments) h

-- a segment of any word
pub data IsAnySegment : Forest → PathSegment → Forest → Type 0 where
  any_word : {f g : Forest} {name : Ident} → IsAnyIdent f name g
      → IsAnySegment f (record { ident = name }) g

-- a path in the arguments of an attribute, of identifiers and reserved words
pub data IsNestedPath : Forest → PathForm → Forest → Type 0 where
  path_of_words : {f g h : Forest} {colon : Option (Token PathSep)}
      {segments : List PathSegment × List (Token PathSep)}
      → Optional IsPathSep IsPathSep f colon g → Separated IsAnySegment IsPathSep g segments h
      → IsNestedPath f (colon, segments) h

-- `crate`, `self` or `super`
pub data IsVisibilityWord : List ℕ → Type 0 where
  in_crate : IsVisibilityWord (codes "crate")
  in_self : IsVisibilityWord (codes "self")
  in_super : IsVisibilityWord (codes "super")

-- the contents of a visibility's parentheses: one of these words alone, or `in` SimplePath
pub data IsRestriction : Forest → Option (Token In) × PathForm → Forest → Type 0 where
  word_alone : {text : List ℕ} {span : Span} → IsVisibilityWord text
      → IsRestriction (tree (leaf (ident text span)) no_trees)
      (None, only_segment (record { text = text; span = span })) no_trees
  in_path : {f g h : Forest} {word : Token In} {path : PathForm} → IsInToken f word g
      → IsPath g path h → IsRestriction f (Some word, path) h

-- The parentheses that are next belong to a `pub` before them: they hold one of these words alone,
-- or begin with `in`.
pub data IsRestricted : Forest → Type 0 where
  by_word : {text : List ℕ} {span join : Span} {f : Forest} → IsVisibilityWord text
      → IsRestricted (tree (group Parenthesis (tree (leaf (ident text span)) no_trees) join) f)
  by_in : {inside rest f : Forest} {word : Token In} {join : Span} → IsInToken inside word rest
      → IsRestricted (tree (group Parenthesis inside join) f)

-- Visibility: `pub` | `pub` `(` `crate` `)` | `pub` `(` `self` `)` | `pub` `(` `super` `)`
-- | `pub` `(` `in` SimplePath `)`. Or none.
pub data IsVisibility : Forest → VisibilityForm → Forest → Type 0 where
  is_public : {f g : Forest} {word : Token Pub} → IsPubToken f word g → (IsRestricted g → ⊥)
      → IsVisibility f (public word) g
  is_restricted : {f g h : Forest} {word : Token Pub} {span : DelimSpan}
      {inside : Option (Token In) × PathForm} → IsPubToken f word g
      → InGroup Parenthesis IsRestriction g (span, inside) h
      → IsVisibility f (restricted (word, span, inside.0, inside.1)) h
  is_inherited : {f : Forest} → No IsPubToken f → IsVisibility f inherited f

-- DelimTokenTree: `(` TokenTree* `)` | `[` TokenTree* `]` | `{` TokenTree* `}`
pub data IsDelimTokenTree : Forest → MetaInput → Forest → Type 0 where
  in_parentheses : {f g : Forest} {inside : DelimSpan × Forest} → IsGroup Parenthesis f inside g
      → IsDelimTokenTree f (delimited Parenthesis inside.0 inside.1) g
  in_brackets : {f g : Forest} {inside : DelimSpan × Forest} → IsGroup Bracket f inside g
      → IsDelimTokenTree f (delimited Bracket inside.0 inside.1) g
  in_braces : {f g : Forest} {inside : DelimSpan × Forest} → IsGroup Brace f inside g
      → IsDelimTokenTree f (delimited Brace inside.0 inside.1) g

-- `=` Expression
pub data IsAssigned : Forest → MetaInput → Forest → Type 0 where
  equals : {f g h : Forest} {eq : Token Eq} {value : Forest} → IsEq f eq g
      → IsRun IsExpr g value h → IsAssigned f (assigned eq value) h

-- AttrInput: DelimTokenTree | `=` Expression. Or none.
pub data IsAttrInput : Forest → MetaInput → Forest → Type 0 where
  in_delimiters : {f g : Forest} {input : MetaInput} → IsDelimTokenTree f input g
      → IsAttrInput f input g
  after_equals : {f g : Forest} {input : MetaInput} → IsAssigned f input g → IsAttrInput f input g
  no_attr_input : {f : Forest} → No IsEq f → No IsDelimTokenTree f → IsAttrInput f no_input f

-- SimplePath | `unsafe`. In the reference `unsafe` is no path; as in syn it is read as one.
pub data IsAttrPath : Forest → PathForm → Forest → Type 0 where
  attr_path : {f g : Forest} {path : PathForm} → IsPath f path g → IsAttrPath f path g
  unsafe_path : {span : Span} {f : Forest}
      → IsAttrPath (tree (leaf (ident (codes "unsafe") span)) f)
      (only_segment (record { text = codes "unsafe"; span = span })) f

-- Attr: SimplePath AttrInput? | `unsafe` `(` SimplePath AttrInput? `)`. As in syn any input may
-- come after `unsafe`, and none; the contents of its parentheses are tokens.
pub data IsAttr : Forest → MetaForm → Forest → Type 0 where
  attr : {f g h : Forest} {path : PathForm} {input : MetaInput} → IsAttrPath f path g
      → IsAttrInput g input h → IsAttr f (path, input) h

-- an Attr with a DelimTokenTree
pub data IsAttrList : Forest → MetaForm → Forest → Type 0 where
  attr_list : {f g h : Forest} {path : PathForm} {input : MetaInput} → IsAttrPath f path g
      → IsDelimTokenTree g input h → IsAttrList f (path, input) h

-- an Attr with `=` Expression
pub data IsAttrValue : Forest → MetaForm → Forest → Type 0 where
  attr_value : {f g h : Forest} {path : PathForm} {input : MetaInput} → IsAttrPath f path g
      → IsAssigned g input h → IsAttrValue f (path, input) h

-- MetaItem: SimplePath | SimplePath `=` Expression | SimplePath `(` MetaSeq? `)`. As in syn the
-- path may have any words, and any delimiters hold tokens.
pub data IsNestedMeta : Forest → MetaForm → Forest → Type 0 where
  meta_item : {f g h : Forest} {path : PathForm} {input : MetaInput} → IsNestedPath f path g
      → IsAttrInput g input h → IsNestedMeta f (path, input) h

-- MetaSeq, of MetaItems alone: MetaItem (`,` MetaItem)* `,`?
abbrev pub AreNestedMetas : Part (List MetaForm × List (Token Comma))
AreNestedMetas = Terminated IsNestedMeta IsComma

-- MetaItemInner: MetaItem | Expression. As in syn 1 the expression is a literal.
pub data IsMetaItemInner : Forest → NestedForm → Forest → Type 0 where
  inner_literal : {text : List ℕ} {span : Span} {f : Forest}
      → IsMetaItemInner (tree (leaf (literal text span)) f)
      (of_literal (record { text = text; span = span })) f
  inner_meta : {f g : Forest} {meta : MetaForm} → IsNestedMeta f meta g
      → IsMetaItemInner f (of_meta meta) g

-- MetaSeq: MetaItemInner (`,` MetaItemInner)* `,`?
abbrev pub IsMetaSeq : Part (List NestedForm × List (Token Comma))
IsMetaSeq = Terminated IsMetaItemInner IsComma

-- OuterAttribute: `#` `[` Attr `]`
pub data IsAttribute : Forest → AttributeForm → Forest → Type 0 where
  outer_attribute : {f g h : Forest} {pound : Token Pound} {meta : DelimSpan × MetaForm}
      → IsPound f pound g → InGroup Bracket IsAttr g meta h
      → IsAttribute f (pound, meta.0, meta.1) h

-- OuterAttribute*
abbrev pub AreAttributes : Part (List AttributeForm)
AreAttributes = Many IsPound IsAttribute

-- StructField: OuterAttribute* Visibility? IDENTIFIER `:` Type
pub data IsStructField : Forest → FieldForm → Forest → Type 0 where
  struct_field : {f g h i j k : Forest} {attrs : List AttributeForm} {vis : VisibilityForm}
      {name : Ident} {colon : Token Colon} {ty : Forest} → AreAttributes f attrs g
      → IsVisibility g vis h → IsIdentifier h name i → IsColon i colon j → IsRun IsType j ty k
      → IsStructField f (attrs, vis, Some name, Some colon, ty) k

-- TupleField: OuterAttribute* Visibility? Type
pub data IsTupleField : Forest → FieldForm → Forest → Type 0 where
  tuple_field : {f g h i : Forest} {attrs : List AttributeForm} {vis : VisibilityForm}
      {ty : Forest} → AreAttributes f attrs g → IsVisibility g vis h → IsRun IsType h ty i
      → IsTupleField f (attrs, vis, None, None, ty) i

-- StructFields: StructField (`,` StructField)* `,`?
abbrev pub AreStructFields : Part FieldList
AreStructFields = Terminated IsStructField IsComma

-- TupleFields: TupleField (`,` TupleField)* `,`?
abbrev pub AreTupleFields : Part FieldList
AreTupleFields = Terminated IsTupleField IsComma

-- EnumVariantTuple: `(` TupleFields? `)`. EnumVariantStruct: `{` StructFields? `}`. Or neither.
pub data AreVariantFields : Forest → FieldsForm → Forest → Type 0 where
  enum_variant_tuple : {f g : Forest} {fields : DelimSpan × FieldList}
      → InGroup Parenthesis AreTupleFields f fields g → AreVariantFields f (unnamed fields) g
  enum_variant_struct : {f g : Forest} {fields : DelimSpan × FieldList}
      → InGroup Brace AreStructFields f fields g → AreVariantFields f (named fields) g
  no_variant_fields : {f : Forest} → No (IsGroup Parenthesis) f → No (IsGroup Brace) f
      → AreVariantFields f unit f

-- EnumVariantDiscriminant: `=` Expression
pub data IsDiscriminant : Forest → Token Eq × Forest → Forest → Type 0 where
  discriminant : {f g h : Forest} {eq : Token Eq} {value : Forest} → IsEq f eq g
      → IsRun IsExpr g value h → IsDiscriminant f (eq, value) h

-- EnumVariant: OuterAttribute* Visibility? IDENTIFIER (EnumVariantTuple | EnumVariantStruct)?
-- EnumVariantDiscriminant?
pub data IsEnumVariant : Forest → VariantForm → Forest → Type 0 where
  enum_variant : {f g h i j k : Forest} {attrs : List AttributeForm} {vis : VisibilityForm}
      {name : Ident} {fields : FieldsForm} {value : Option (Token Eq × Forest)}
      → AreAttributes f attrs g → IsVisibility g vis h → IsIdentifier h name i
      → AreVariantFields i fields j → Optional IsEq IsDiscriminant j value k
      → IsEnumVariant f (attrs, name, fields, value) k

-- EnumVariants: EnumVariant (`,` EnumVariant)* `,`?
abbrev pub AreEnumVariants : Part (List VariantForm × List (Token Comma))
AreEnumVariants = Terminated IsEnumVariant IsComma

-- GenericParams: `<` (GenericParam (`,` GenericParam)* `,`?)? `>`, with parameters as tokens. Or
-- none.
pub data AreGenericParams : Forest → ParamsForm → Forest → Type 0 where
  generic_params : {f g h i : Forest} {lt : Token Lt} {params : Forest}
      {gt : Token Gt} → IsLt f lt g → IsRun AreParams g params h → IsGt h gt i
      → AreGenericParams f (Some lt, params, Some gt) i
  no_params : {f : Forest} → No IsLt f → AreGenericParams f (None, no_trees, None) f

-- WhereClause: `where` (WhereClauseItem `,`)* WhereClauseItem?, with its items as tokens
pub data IsWhereClause : Forest → WhereForm → Forest → Type 0 where
  where_clause : {f g h : Forest} {word : Token Where} {predicates : Forest} → IsWhereToken f word g
      → IsRun ArePredicates g predicates h → IsWhereClause f (word, predicates) h

-- WhereClause?
abbrev pub IsClause : Part (Option WhereForm)
IsClause = Optional IsWhereToken IsWhereClause

-- StructStruct: `struct` IDENTIFIER GenericParams? WhereClause? (`{` StructFields? `}` | `;`)
-- TupleStruct: `struct` IDENTIFIER GenericParams? `(` TupleFields? `)` WhereClause? `;`
pub data IsStruct : Forest → ItemForm → Forest → Type 0 where
  struct_struct : {f g h i j k : Forest} {word : Token Struct} {name : Ident} {params : ParamsForm}
      {clause : Option WhereForm} {fields : DelimSpan × FieldList} → IsStructToken f word g
      → IsIdentifier g name h → AreGenericParams h params i → IsClause i clause j
      → InGroup Brace AreStructFields j fields k
      → IsStruct f (name, params, clause, of_struct word (named fields) None) k
  unit_struct : {f g h i j k : Forest} {word : Token Struct} {name : Ident} {params : ParamsForm}
      {clause : Option WhereForm} {semi : Token Semi} → IsStructToken f word g
      → IsIdentifier g name h → AreGenericParams h params i → IsClause i clause j → IsSemi j semi k
      → IsStruct f (name, params, clause, of_struct word unit (Some semi)) k
  tuple_struct : {f g h i j k l : Forest} {word : Token Struct} {name : Ident} {params : ParamsForm}
      {fields : DelimSpan × FieldList} {clause : Option WhereForm} {semi : Token Semi}
      → IsStructToken f word g → IsIdentifier g name h → AreGenericParams h params i
      → InGroup Parenthesis AreTupleFields i fields j → IsClause j clause k → IsSemi k semi l
      → IsStruct f (name, params, clause, of_struct word (unnamed fields) (Some semi)) l

-- Enumeration: `enum` IDENTIFIER GenericParams? WhereClause? `{` EnumVariants? `}`
pub data IsEnumeration : Forest → ItemForm → Forest → Type 0 where
  enumeration : {f g h i j k : Forest} {word : Token Enum} {name : Ident} {params : ParamsForm}
      {clause : Option WhereForm} {span : DelimSpan}
      {variants : List VariantForm × List (Token Comma)} → IsEnumToken f word g
      → IsIdentifier g name h → AreGenericParams h params i → IsClause i clause j
      → InGroup Brace AreEnumVariants j (span, variants) k
      → IsEnumeration f (name, params, clause, of_enum word span variants) k

-- Union: `union` IDENTIFIER GenericParams? WhereClause? `{` StructFields? `}`
pub data IsUnion : Forest → ItemForm → Forest → Type 0 where
  a_union : {f g h i j k : Forest} {word : Token Union} {name : Ident} {params : ParamsForm}
      {clause : Option WhereForm} {fields : DelimSpan × FieldList} → IsUnionToken f word g
      → IsIdentifier g name h → AreGenericParams h params i → IsClause i clause j
      → InGroup Brace AreStructFields j fields k
      → IsUnion f (name, params, clause, of_union word fields) k

-- Struct | Enumeration | Union
pub data IsItem : Forest → ItemForm → Forest → Type 0 where
  struct_item : {f g : Forest} {item : ItemForm} → IsStruct f item g → IsItem f item g
  enum_item : {f g : Forest} {item : ItemForm} → IsEnumeration f item g → IsItem f item g
  union_item : {f g : Forest} {item : ItemForm} → IsUnion f item g → IsItem f item g

-- OuterAttribute* Visibility? (Struct | Enumeration | Union)
pub data IsDeriveInput : Forest → InputForm → Forest → Type 0 where
  derive_input : {f g h i : Forest} {attrs : List AttributeForm} {vis : VisibilityForm}
      {item : ItemForm} → AreAttributes f attrs g → IsVisibility g vis h → IsItem h item i
      → IsDeriveInput f (attrs, vis, item) i

-- A whole stream is parsed as the literals, metas and commas of its visible trees. An error means
-- that the grammar has none, or that an allocation failed.
abbrev pub ParsesMetaSeq : Forest → Result (Punctuated NestedMeta (Token Comma)) Fault → Type 0
ParsesMetaSeq tokens (Ok list) =
    IsMetaSeq (erase tokens) (list_form nested_form (λ p. p) list) no_trees
ParsesMetaSeq tokens (Err f) =
    MemoryOr f ((form : List NestedForm × List (Token Comma))
    → IsMetaSeq (erase tokens) form no_trees → ⊥)

-- A whole stream is parsed as the derive input that the grammar has for its visible trees, and an
-- error means that it has none; or an allocation failed.
abbrev pub ParsesInput : Forest → Result DeriveInput Fault → Type 0
ParsesInput tokens (Ok input) = IsDeriveInput (erase tokens) (input_form input) no_trees
ParsesInput tokens (Err f) =
    MemoryOr f ((form : InputForm) → IsDeriveInput (erase tokens) form no_trees → ⊥)
