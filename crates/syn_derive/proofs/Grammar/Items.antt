-- Structs, enums, unions and derive inputs are taken exactly.
use Rattle.std.proofs.Common.{arith, ◌≡◌, refl, true, false, Option, Ok, Err}
use Rattle.std.specs.Prelude.{Result}
use Rattle.tok_lexical.specs.declared.delimiter.Delimiter.TheVariants.{Brace, Parenthesis}
use Rattle.tok_leaves.specs.declared.ident.Ident.{Ident}
use Rattle.tok_leaves.specs.declared.span.Span.{Span}
use Rattle.tok_core.specs.Forest.{Forest, no_trees}
use Rattle.tok_core.specs.Erase.{erase}
use Rattle.tok_types.specs.Sees.{group_first, keyword_first}
use Rattle.syn_parse.specs.Takes.{TakesAll, take_group}
use Rattle.syn_parse.specs.TokenNames.{Comma, Enum, Gt, Lt, Semi, Struct, Token, Union, Where, sees}
use Rattle.syn_parse.specs.TokenNames.{take}
use Rattle.syn_parse.specs.Tokens.{sees_group}
use Rattle.syn_parse.specs.TreesAhead.{only_trees}
use Rattle.syn_parse.specs.declared.fault.Fault.{Fault}
use Rattle.syn_parse.specs.declared.fault.Fault.TheVariants.{Memory, Refused}
use Rattle.syn_punctuated.specs.TakeLists.{take_terminated}
use Rattle.syn_punctuated.proofs.Exactly.{Exactly, Sound, Tells, after, either, ends}
use Rattle.syn_punctuated.proofs.Exactly.{exactly, group_exactly, has_grammar, not_next}
use Rattle.syn_punctuated.proofs.Exactly.{optional_exactly, refused, so, takes, then, unseen}
use Rattle.syn_punctuated.specs.Parts.{InGroup, IsIdentifier, Part, absent, last, present, sign}
use Rattle.syn_punctuated.specs.Parts.{word}
use Rattle.syn_punctuated.proofs.ExactTokens.{identifier_exactly, sign_exactly, sign_tells}
use Rattle.syn_punctuated.proofs.ExactTokens.{word_exactly, word_tells}
use Rattle.syn_derive.specs.declared.derive.DeriveInput.{DeriveInput}
use Rattle.syn_derive.specs.Inputs.{BodyForm, ItemForm, input_form, of_struct, take_body}
use Rattle.syn_derive.specs.Inputs.{take_clause, take_enum_item, take_input, take_item}
use Rattle.syn_derive.specs.Inputs.{take_other_body, take_struct_item, take_tuple_body}
use Rattle.syn_derive.specs.Inputs.{take_union_item}
use Rattle.syn_derive.specs.Grammar.{AreEnumVariants, AreGenericParams, IsClause, IsDeriveInput}
use Rattle.syn_derive.specs.Grammar.{IsEnumToken, IsEnumeration, IsGt, IsItem, IsLt, IsSemi}
use Rattle.syn_derive.specs.Grammar.{IsStruct, IsStructToken, IsUnion, IsUnionToken, IsWhereClause}
use Rattle.syn_derive.specs.Grammar.{IsWhereToken, ParsesInput, a_union, derive_input, enum_item}
use Rattle.syn_derive.specs.Grammar.{enumeration, generic_params, no_params, struct_item}
use Rattle.syn_derive.specs.Grammar.{struct_struct, tuple_struct, union_item, unit_struct}
use Rattle.syn_derive.specs.Grammar.{where_clause}
use Rattle.syn_derive.specs.Fields.{take_variant}
use Rattle.syn_derive.specs.Generics.{ParamsForm, WhereForm, take_params, take_where_clause}
use Rattle.syn_derive.proofs.Grammar.Attributes.{attributes}
use Rattle.syn_derive.proofs.Grammar.Fields.{braces_seen, named_fields, parentheses_seen}
use Rattle.syn_derive.proofs.Grammar.Fields.{unnamed_fields, variants}
use Rattle.syn_derive.proofs.Grammar.Runs.{plain_params, predicates}
use Rattle.syn_derive.proofs.Grammar.Visibilities.{visibility}

lt_sign : Exactly IsLt (take Lt)
lt_sign = sign_exactly Lt refl

pub lt_tells : Tells IsLt (sees Lt)
lt_tells = sign_tells Lt refl

gt_sign : Exactly IsGt (take Gt)
gt_sign = sign_exactly Gt refl

semi : Exactly IsSemi (take Semi)
semi = sign_exactly Semi refl

pub params : Exactly AreGenericParams take_params
unfolding take_params
params =
    exactly (either (sees Lt) (then lt_sign (λ l. then plain_params (λ p. then gt_sign
    (λ g. ends (λ _ _ g _ p _ l t. generic_params l p g)))))
    (ends (λ _ t. no_params (not_next lt_tells t))))
    (λ f g v i.
    grind (arith, takes, lt_sign, plain_params, gt_sign, lt_tells.seen, unseen, lt_tells))

pub where_tells : Tells IsWhereToken (sees Where)
where_tells = word_tells Where _ _ refl

where_word : Exactly IsWhereToken (take Where)
where_word = word_exactly Where _ _ refl

pub clause_of : Exactly IsWhereClause take_where_clause
unfolding take_where_clause
clause_of =
    exactly
    (then where_word (λ w. then predicates (λ p. ends (λ _ _ p _ w. where_clause w p))))
    (λ f g v i. grind (arith, takes, where_word, predicates))

where_first : {f g : Forest} {v : WhereForm} → IsWhereClause f v g
    → sees Where (only_trees f) ≡ true
where_first (where_clause w p) = where_tells.seen w

clause : Exactly IsClause take_clause
clause = optional_exactly where_tells clause_of (record { begins = where_first })

-- parentheses are not next before a clause, if they are not after it
before_clause : {f g : Forest} {v : Option WhereForm} → IsClause f v g
    → sees_group Parenthesis (only_trees g) ≡ false → sees_group Parenthesis (only_trees f) ≡ false
unfolding group_first
before_clause (absent n) e = e
before_clause (present (where_clause word p)) e = refl

semi_seen : {f g : Forest} {v : Token Semi} → IsSemi f v g
    → (sees_group Parenthesis (only_trees f) ≡ false) × (sees_group Brace (only_trees f) ≡ false)
unfolding group_first
semi_seen (sign last) = (refl, refl)

struct_word : Exactly IsStructToken (take Struct)
struct_word = word_exactly Struct _ _ refl

enum_word : Exactly IsEnumToken (take Enum)
enum_word = word_exactly Enum _ _ refl

union_word : Exactly IsUnionToken (take Union)
union_word = word_exactly Union _ _ refl

in_braces : Exactly (InGroup Brace AreEnumVariants)
    (take_group Brace (take_terminated take_variant (take Comma)))
in_braces = group_exactly Brace variants

-- a body completes a struct
abbrev CompletesStruct : Part BodyForm
CompletesStruct i b k =
    (f g h : Forest) (word : Token Struct) (name : Ident) (params : ParamsForm)
    → IsStructToken f word g → IsIdentifier g name h → AreGenericParams h params i
    → IsStruct f (name, params, b.0, of_struct word b.1 b.2) k

body : Sound take_body CompletesStruct
unfolding take_body take_tuple_body take_other_body
body =
    either (sees_group Parenthesis) (then unnamed_fields (λ u. then clause (λ c. then semi
    (λ s. ends (λ _ _ s _ c _ u t f g h word name ps w n p. tuple_struct w n p u c s)))))
    (then clause (λ c. either (sees_group Brace)
    (then named_fields
    (λ i. ends (λ _ _ i b _ c t f g h word name ps w n p. struct_struct w n p c i)))
    (then semi (λ s. ends (λ _ _ s b _ c t f g h word name ps w n p. unit_struct w n p c s)))))

-- what an item has after its word
ruleset parts = (identifier_exactly, params, clause)

-- the parts of a struct
ruleset struct_parts = (
  struct_word,
  before_clause,
  braces_seen,
  named_fields,
  semi_seen,
  semi,
  parentheses_seen,
  unnamed_fields,
)

a_struct : Exactly IsStruct take_struct_item
unfolding take_struct_item take_body take_tuple_body take_other_body
a_struct =
    exactly
    (then struct_word (λ w. then identifier_exactly (λ n. then params (λ p. after body
    (λ b. ends (λ _ i c h p g n f w. c f g h _ _ _ w n p))))))
    (λ f g v i. grind (arith, takes, parts, struct_parts))

a_enum : Exactly IsEnumeration take_enum_item
unfolding take_enum_item
a_enum =
    exactly
    (then enum_word (λ w. then identifier_exactly (λ n. then params (λ p. then clause
    (λ c. then in_braces (λ v. ends (λ _ _ v _ c _ p _ n _ w. enumeration w n p c v)))))))
    (λ f g v i. grind (arith, takes, enum_word, parts, in_braces))

the_union : Exactly IsUnion take_union_item
unfolding take_union_item
the_union =
    exactly
    (then union_word (λ w. then identifier_exactly (λ n. then params (λ p. then clause
    (λ c. then named_fields (λ i. ends (λ _ _ i _ c _ p _ n _ w. a_union w n p c i)))))))
    (λ f g v i. grind (arith, takes, union_word, parts, named_fields))

-- what each begins with
struct_seen : {f g : Forest} {v : ItemForm} → IsStruct f v g → sees Struct (only_trees f) ≡ true
unfolding keyword_first
struct_seen (struct_struct word n p c i) = refl
struct_seen (unit_struct word n p c s) = refl
struct_seen (tuple_struct word n p i c s) = refl

enum_seen : {f g : Forest} {v : ItemForm} → IsEnumeration f v g
    → (sees Struct (only_trees f) ≡ false) × (sees Enum (only_trees f) ≡ true)
unfolding keyword_first
enum_seen (enumeration word n p c v) = (refl, refl)

union_seen : {f g : Forest} {v : ItemForm} → IsUnion f v g
    → (sees Struct (only_trees f) ≡ false) × (sees Enum (only_trees f) ≡ false)
    × (sees Union (only_trees f) ≡ true)
unfolding keyword_first
union_seen (a_union word n p c i) = (refl, refl, refl)

item : Exactly IsItem take_item
unfolding take_item
item =
    exactly (either (sees Struct) (so a_struct (λ _ _ _ i t. struct_item i))
    (either (sees Enum) (so a_enum (λ _ _ _ i t s. enum_item i))
    (either (sees Union) (so the_union (λ _ _ _ i t e s. union_item i)) (refused _))))
    (λ f g v i.
    grind (arith, takes, struct_seen, enum_seen, union_seen, a_struct, a_enum, the_union))

pub derive_input_exactly : Exactly IsDeriveInput take_input
derive_input_exactly =
    exactly (then attributes (λ a. then visibility (λ v. then item
    (λ i. ends (λ _ _ i _ v _ a. derive_input a v i)))))
    (λ f g v i. grind (arith, takes, attributes, visibility, item))

pub parses_input : (f : Forest) (scope : Span) (r : Result DeriveInput Fault)
    → TakesAll input_form take_input f scope r → ParsesInput f r
parses_input f scope (Ok input) h =
    (has_grammar derive_input_exactly (erase f) no_trees (input_form input)).0 h
parses_input f scope (Err (Refused e)) h =
    (λ form i. h.0.0 form (takes derive_input_exactly i), h.0.1)
parses_input f scope (Err (Memory e)) h = tt
