-- Structs, enums, unions and derive inputs are parsed again as they are written, but for parameters
-- and `where` clauses that have nothing in them.
use Rattle.std.proofs.Common.{arith, refl, Bool, true, false, Option, None, Some}
use Rattle.std.specs.Prelude.{if◌then◌else◌}
use Rattle.tok_lexical.specs.declared.delimiter.Delimiter.{Delimiter}
use Rattle.tok_lexical.specs.declared.delimiter.Delimiter.TheVariants.{Brace, Parenthesis}
use Rattle.tok_leaves.specs.declared.span.DelimSpan.{DelimSpan}
use Rattle.tok_core.specs.Forest.{Forest, concat, no_trees}
use Rattle.tok_types.specs.Sees.{keyword_first, punctuation_first}
use Rattle.syn_parse.specs.TokenNames.{Gt, Semi, Token}
use Rattle.syn_punctuated.proofs.Exactly.{not_next}
use Rattle.syn_punctuated.specs.Parts.{InGroup, No, Part, absent}
use Rattle.syn_punctuated.specs.Parts.{last, present, sign, word}
use Rattle.syn_derive.specs.Again.{given}
use Rattle.syn_derive.specs.Fields.{FieldsForm, named, unit, unnamed}
use Rattle.syn_derive.specs.Generics.{ParamsForm, WhereForm}
use Rattle.syn_derive.specs.Grammar.{AreGenericParams, IsClause, IsDeriveInput, IsEnumeration, IsGt}
use Rattle.syn_derive.specs.Grammar.{IsItem, IsLt, IsRun, IsSemi, IsStruct, IsUnion}
use Rattle.syn_derive.specs.Grammar.{IsWhereToken, a_union, derive_input, enum_item, enumeration}
use Rattle.syn_derive.specs.Grammar.{generic_params, no_params, run, struct_item, struct_struct}
use Rattle.syn_derive.specs.Grammar.{tuple_struct, union_item, unit_struct, where_clause}
use Rattle.syn_derive.specs.Inputs.{DataForm, InputForm, ItemForm, of_enum, of_struct, of_union}
use Rattle.syn_derive.specs.RunGrammar.{AreParams, ArePredicates, nothing, of_run}
use Rattle.syn_derive.specs.declared.run.Last.TheVariants.{Operator}
use Rattle.syn_derive.specs.declared.run.Until.TheVariants.{Params, Predicates}
use Rattle.syn_derive.proofs.Grammar.Items.{lt_tells, where_tells}
use Rattle.syn_derive.proofs.Again.Alike.{Alike, alike_signs, alike_words, tokens_alike}
use Rattle.syn_derive.proofs.Again.Fields.{group_alike, list_onto, struct_fields_again}
use Rattle.syn_derive.proofs.Again.Fields.{tuple_fields_again, variants_again, variants_onto}
use Rattle.syn_derive.proofs.Again.Metas.{SameFirst, attribute_onto, attributes_again, first_same}
use Rattle.syn_derive.proofs.Again.Metas.{visibility_again, visibility_alike, visibility_onto}
use Rattle.syn_derive.proofs.Again.Parts.{Again, Onto, all_onto, group_onto, ident_again}
use Rattle.syn_derive.proofs.Again.Parts.{ident_onto, run_again, sign_again, sign_onto, word_again}
use Rattle.syn_derive.proofs.Again.Parts.{word_onto}

-- parameters that are written, or not
abbrev pub params_onto : Bool → Onto ParamsForm
params_onto true p h = sign_onto (given p.0) (concat p.1 (sign_onto (given p.2) h))
params_onto false p h = h

abbrev pub params_of : Bool → ParamsForm → ParamsForm
params_of written p =
    if written then (Some (given p.0), p.1, Some (given p.2)) else (None, no_trees, None)

plain_params_again : Again (IsRun AreParams) (λ f h. concat f h)
plain_params_again = run_again (λ m f g r a. tokens_alike 0 Params Operator m f g r a)

gt_alike : {f g : Forest} {v : Token Gt} → IsGt f v g → (h : Forest)
    → Alike f (sign_onto v h)
gt_alike (sign last) h = alike_signs refl refl refl

params_again : {f g h : Forest} {p : ParamsForm} (written : Bool) → AreGenericParams f p g
    → No IsLt h → AreGenericParams (params_onto written p h) (params_of written p) h
unfolding punctuation_first
params_again false i n = no_params n
params_again true (generic_params l r g) n =
    generic_params ((sign_again 20 1 refl).always l _) (plain_params_again.again r (gt_alike g _))
    ((sign_again 17 1 refl).always g _)
params_again true (no_params m) n =
    generic_params (sign last) (run (nothing 0 Params Operator _ (of_run _ refl))) (sign last)

-- a `where` clause that is written, or not
abbrev pub clause_onto : Bool → Onto (Option WhereForm)
clause_onto written None h = h
clause_onto true (Some w) h = word_onto w.0 (concat w.1 h)
clause_onto false (Some w) h = h

abbrev pub clause_of : Bool → Option WhereForm → Option WhereForm
clause_of written None = None
clause_of written (Some w) = if written then Some w else None

predicates_again : Again (IsRun ArePredicates) (λ f h. concat f h)
predicates_again = run_again (λ m f g r a. tokens_alike 0 Predicates Operator m f g r a)

clause_again : {f g h : Forest} {c : Option WhereForm} (written : Bool) → IsClause f c g
    → Alike g h → No IsWhereToken h → IsClause (clause_onto written c h) (clause_of written c) h
clause_again written (absent m) a n = absent n
clause_again true (present (where_clause w p)) a n =
    present (where_clause ((word_again 51 _ _ refl).always w _) (predicates_again.again p a))
clause_again false (present (where_clause w p)) a n = absent n

-- neither begins with `<`
clause_not_lt : {h : Forest} (written : Bool) (c : Option WhereForm) → No IsLt h
    → No IsLt (clause_onto written c h)
unfolding punctuation_first
clause_not_lt written c n = grind (arith, not_next, lt_tells)

-- Braces, parentheses and `;` are after parameters and a clause.
record Closes (f h : Forest) : Type 0 where
  same : Alike f h
  not_lt : No IsLt h
  not_where : No IsWhereToken h

group_closes : {A : Type 0} {Is : Part A} {d : Delimiter} {f g h : Forest} {x : DelimSpan × A}
    (onto : Onto A) → InGroup d Is f x g → Closes f (group_onto d onto x h)
unfolding punctuation_first keyword_first
group_closes onto i = search (group_alike, not_next, lt_tells, where_tells)

semi_closes : {f g : Forest} {v : Token Semi} → IsSemi f v g → (h : Forest)
    → Closes f (sign_onto v h)
unfolding punctuation_first keyword_first
semi_closes (sign last) h = search (alike_signs, not_next, lt_tells, where_tells)

-- what comes after the parameters of a struct, and after the name of an item
abbrev pub struct_onto : (clause : Bool) → Option WhereForm → FieldsForm → Option (Token Semi)
    → Forest → Forest
struct_onto cs c (named x) semi h = clause_onto cs c (group_onto Brace list_onto x h)
struct_onto cs c (unnamed x) semi h =
    group_onto Parenthesis list_onto x (clause_onto cs c (sign_onto (given semi) h))
struct_onto cs c unit semi h = clause_onto cs c (sign_onto (given semi) h)

abbrev pub body_onto : (params clause : Bool) → ParamsForm → Option WhereForm → Onto DataForm
body_onto ps cs p c (of_struct w x semi) h = params_onto ps p (struct_onto cs c x semi h)
body_onto ps cs p c (of_enum w span x) h =
    params_onto ps p (clause_onto cs c (group_onto Brace variants_onto (span, x) h))
body_onto ps cs p c (of_union w x) h =
    params_onto ps p (clause_onto cs c (group_onto Brace list_onto x h))

-- the word that it begins with
abbrev pub data_onto : Onto DataForm
data_onto (of_struct w x semi) h = word_onto w h
data_onto (of_enum w span x) h = word_onto w h
data_onto (of_union w x) h = word_onto w h

abbrev pub item_onto : (params clause : Bool) → Onto ItemForm
item_onto ps cs i h = data_onto i.3 (ident_onto i.0 (body_onto ps cs i.1 i.2 i.3 h))

abbrev pub item_of : (params clause : Bool) → ItemForm → ItemForm
item_of ps cs i = (i.0, params_of ps i.1, clause_of cs i.2, i.3)

module _ (ps cs : Bool) where
  -- parameters, a clause and what closes them
  closed_params : {f g j h : Forest} {p : ParamsForm} (c : Option WhereForm)
      → AreGenericParams f p g → Closes j h
      → AreGenericParams (params_onto ps p (clause_onto cs c h)) (params_of ps p)
      (clause_onto cs c h)
  closed_params c p k = params_again ps p (clause_not_lt cs c k.not_lt)

  closed_clause : {f g h : Forest} {c : Option WhereForm} → IsClause f c g → Closes g h
      → IsClause (clause_onto cs c h) (clause_of cs c) h
  closed_clause c k = clause_again cs c k.same k.not_where

  struct_again : {f g : Forest} {v : ItemForm} → IsStruct f v g → (h : Forest)
      → IsStruct (item_onto ps cs v h) (item_of ps cs v) h
  struct_again (struct_struct w n p c i) h =
      struct_struct ((word_again 40 _ _ refl).always w _) (ident_again.always n _)
      (closed_params _ p (group_closes list_onto i)) (closed_clause c (group_closes list_onto i))
      (struct_fields_again.always i h)
  struct_again (unit_struct w n p c s) h =
      unit_struct ((word_again 40 _ _ refl).always w _) (ident_again.always n _)
      (closed_params _ p (semi_closes s h)) (closed_clause c (semi_closes s h))
      ((sign_again 36 1 refl).always s h)
  struct_again (tuple_struct w n p i c s) h =
      let k = group_closes list_onto i in
      tuple_struct ((word_again 40 _ _ refl).always w _) (ident_again.always n _)
      (params_again ps p k.not_lt) (tuple_fields_again.always i _)
      (closed_clause c (semi_closes s h)) ((sign_again 36 1 refl).always s h)

  enum_again : {f g : Forest} {v : ItemForm} → IsEnumeration f v g → (h : Forest)
      → IsEnumeration (item_onto ps cs v h) (item_of ps cs v) h
  enum_again (enumeration w n p c i) h =
      enumeration ((word_again 15 _ _ refl).always w _) (ident_again.always n _)
      (closed_params _ p (group_closes variants_onto i))
      (closed_clause c (group_closes variants_onto i)) (variants_again.always i h)

  union_again : {f g : Forest} {v : ItemForm} → IsUnion f v g → (h : Forest)
      → IsUnion (item_onto ps cs v h) (item_of ps cs v) h
  union_again (a_union w n p c i) h =
      a_union ((word_again 46 _ _ refl).always w _) (ident_again.always n _)
      (closed_params _ p (group_closes list_onto i)) (closed_clause c (group_closes list_onto i))
      (struct_fields_again.always i h)

  item_again : {f g : Forest} {v : ItemForm} → IsItem f v g → (h : Forest)
      → IsItem (item_onto ps cs v h) (item_of ps cs v) h
  item_again k h =
      grind (arith, struct_item, struct_again, enum_item, enum_again, union_item, union_again)

  -- an item begins with the same word
  item_first : {f g : Forest} {v : ItemForm} → IsItem f v g → (h : Forest)
      → SameFirst f (item_onto ps cs v h) × Alike f (item_onto ps cs v h)
  item_first (struct_item (struct_struct word n p c i)) h = (first_same, alike_words)
  item_first (struct_item (unit_struct word n p c s)) h = (first_same, alike_words)
  item_first (struct_item (tuple_struct word n p i c s)) h = (first_same, alike_words)
  item_first (enum_item (enumeration word n p c i)) h = (first_same, alike_words)
  item_first (union_item (a_union word n p c i)) h = (first_same, alike_words)

-- derive inputs
abbrev pub input_onto : (params clause : Bool) → Onto InputForm
input_onto ps cs v h =
    all_onto attribute_onto v.0 (visibility_onto v.1 (item_onto ps cs v.2 h))

abbrev pub input_of : (params clause : Bool) → InputForm → InputForm
input_of ps cs v = (v.0, v.1, item_of ps cs v.2)

pub input_again : (ps cs : Bool) {f g : Forest} {v : InputForm} → IsDeriveInput f v g
    → (h : Forest) → IsDeriveInput (input_onto ps cs v h) (input_of ps cs v) h
input_again ps cs (derive_input a v i) h =
    let first = item_first ps cs i h in
    derive_input (attributes_again.again a (visibility_alike v first.1))
    (visibility_again v first.0) (item_again ps cs i h)
