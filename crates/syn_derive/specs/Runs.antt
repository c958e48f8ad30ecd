-- Runs of tokens, by the visible trees ahead: where types, expressions, parameters and predicates
-- end.
use Rattle.std.specs.Prelude.{◌≡◌, ℕ, Bool, ◌&&◌, ◌||◌, ◌==◌, ◌+◌, ◌-◌, false, true, not}
use Rattle.std.specs.Prelude.{Option, None, Some, Ok, Err, if◌then◌else◌, codes, is_some}
use Rattle.tok_lexical.specs.declared.delimiter.Delimiter.TheVariants.{Brace}
use Rattle.tok_buffer.specs.Between.{between}
use Rattle.tok_buffer.specs.Place.{Place}
use Rattle.tok_buffer.specs.Reads.{place_after}
use Rattle.tok_buffer.specs.Trees.{read_visible}
use Rattle.tok_core.specs.Filled.{has_trees}
use Rattle.tok_core.specs.Forest.{Forest}
use Rattle.tok_types.specs.Sees.{any_ident_first, group_first, ident_first, punct_first}
use Rattle.syn_parse.specs.Reads.{Call}
use Rattle.syn_parse.specs.Runs.{PassesVisible, lightens_run_with_state, take_run_with_state}
use Rattle.syn_parse.specs.Takes.{Taking, ◌>>=◌, gives, refuses, where_ahead}
use Rattle.syn_parse.specs.Takings.{Lightens}
use Rattle.syn_parse.specs.Weighing.{weighing}
use Rattle.syn_derive.specs.First.{await_first, colon_first, comma_first, crate_first, eq_first}
use Rattle.syn_derive.specs.First.{gt_first, lt_first, path_sep_first, question_first}
use Rattle.syn_derive.specs.First.{r_arrow_first, self_type_first, self_value_first, semi_first}
use Rattle.syn_derive.specs.First.{shl_first, super_first}
use Rattle.syn_derive.specs.declared.run.Last.{Last}
use Rattle.syn_derive.specs.declared.run.Last.TheVariants.{Half, Operator, Operand}
use Rattle.syn_derive.specs.declared.run.Passed.{Passed}
use Rattle.syn_derive.specs.declared.run.Until.{Until}
use Rattle.syn_derive.specs.declared.run.Until.TheVariants.{Ty, Expr, Params, Predicates}

-- the token before ends a value
abbrev pub is_operand : Last → Bool
is_operand Operand = true
is_operand last = false

-- braces are the body of an item, if they come after a value
abbrev pub body_first : Last → Forest → Bool
body_first last f = is_operand last && group_first Brace f

-- a run ends before these trees; within `<..>` it goes on after `>`
abbrev pub ends : Until → Last → Forest → Bool
ends Ty last f =
    comma_first f || semi_first f || eq_first f || gt_first f || colon_first f
    || body_first last f
ends Expr last f = comma_first f || semi_first f
ends Params last f = gt_first f || semi_first f || body_first last f
ends Predicates last f = semi_first f || group_first Brace f

-- a `<` opens, unless it is an operator: after a value in an expression
abbrev pub opens : Until → Last → Bool
opens Expr Operand = false
opens u last = true

-- two characters of one token come first that hold a bracket or an end: `->`, `::`, or the operator
-- `<<`
abbrev pub starts_pair : Until → Last → Forest → Bool
starts_pair u last f =
    r_arrow_first f || path_sep_first f || (not (opens u last) && shl_first f)

-- a reserved word that ends no value, as `if`, `return` or `as`: not `self`, `Self`, `super`,
-- `crate` or `await`
abbrev pub is_operator_word : Forest → Bool
is_operator_word f =
    any_ident_first f && not (ident_first f) && not (self_value_first f)
    && not (self_type_first f) && not (super_first f) && not (crate_first f)
    && not (await_first f)

-- after an operator a value is expected; `?` ends one
abbrev pub last_after : Forest → Last
last_after f =
    if (punct_first f && not (question_first f)) || is_operator_word f then Operator else Operand

-- the state of a run before its first token
abbrev pub start : Until → Passed
start u = record { until = u; depth = 0; last = Operator }

-- the kind of run at the next token: within `<..>`, one of parameters
abbrev pub within : Passed → Until
within p = if p.depth == 0 then p.until else Params

-- the first character of a token of two was passed
abbrev pub is_half : Last → Bool
is_half Half = true
is_half last = false

-- what comes first of the trees ahead: a pair, a `<` that opens, the end of a run, or another token
pub data Next : Type 0 where
  pair opening ending other : Next

-- the first of these trees, by its part in a run of this kind
abbrev pub next_of : Until → Last → Forest → Next
next_of u last f =
    if starts_pair u last f then pair
    else if opens u last && lt_first f then opening
    else if ends u last f then ending
    else other

-- as many `<` can be open as a `usize` counts
abbrev pub most_open : ℕ
most_open = 18446744073709551615

-- another `<` is open; `None` if one more can't be counted
abbrev pub opened : Passed → Option Passed
opened p =
    if p.depth == most_open
    then None
    else Some (record p { depth = p.depth + 1; last = Operator })

-- a `>` closes the last `<` that is open
abbrev pub closed : Passed → Forest → Option Passed
closed p f =
    if not (p.depth == 0) && gt_first f
    then Some (record p { depth = p.depth - 1; last = Operand })
    else None

-- the state after the next token, by its part in the run; `None` if the run ends before it
abbrev pub past : Passed → Forest → Next → Option Passed
past p f pair = Some (record p { last = Half })
past p f opening = opened p
past p f ending = closed p f
past p f other = Some (record p { last = last_after f })

-- the state after the first of these trees; `None` if the run ends before it
abbrev pub goes_past : Passed → Forest → Option Passed
goes_past p f =
    if is_half p.last
    then Some (record p { last = Operator })
    else past p f (next_of (within p) p.last f)

-- the tokens of a run up to its end, at which each `<` is closed
unfoldable pub take_until : Until → Taking Forest
take_until u = do
  r ← take_run_with_state goes_past (start u)
  where_ahead (λ a. r.1.depth == 0) (gives r.0) (refuses (codes "expected `>`"))

-- a run adds nothing to what is ahead
pub lightens_until : (u : Until) → Lightens (take_until u)
unfolding take_until
lightens_until u = search (weighing, lightens_run_with_state) depth 40

-- The tokens of a value are the trees from the stream's place before it to the one after it, kept
-- groups included. Visible trees lead from the one to the other.
abbrev pub PassesTokens : {T : Type 0} → (T → Forest) → Call T
PassesTokens tokens s (Ok v) t =
    PassesVisible s.place t.place × (tokens v ≡ between s.place t.place)
PassesTokens tokens s (Err f) t = Unit {0}

-- a place right after a visible tree
abbrev pub IsAfterTree : Place → Type 0
IsAfterTree p = (q : Place) × (place_after (read_visible q) ≡ Some p)

-- The tokens of a value are the trees from right after a visible tree to the place after the value,
-- kept groups included. Visible trees lead from the one to the other.
abbrev pub FollowsTree : {T : Type 0} → (T → Forest) → Call T
FollowsTree tokens s (Ok v) t =
    (p : Place) × IsAfterTree p × PassesVisible p t.place × (tokens v ≡ between p t.place)
FollowsTree tokens s (Err f) t = Unit {0}

-- The tokens of a value are the trees from some place to the one after it. Visible trees lead from
-- the one to the other.
abbrev pub EndsWithTokens : {T : Type 0} → (T → Forest) → Call T
EndsWithTokens tokens s (Ok v) t =
    (p : Place) × PassesVisible p t.place × (tokens v ≡ between p t.place)
EndsWithTokens tokens s (Err f) t = Unit {0}

-- a run has a first token
abbrev pub begins : Until → Forest → Bool
begins u f = has_trees f && is_some (goes_past (start u) f)

-- the tokens of a type, at least one
unfoldable pub take_type : Taking Forest
take_type =
    where_ahead (λ a. begins Ty a.trees) (take_until Ty) (refuses (codes "expected type"))

-- the tokens of an expression, at least one
unfoldable pub take_expr : Taking Forest
take_expr =
    where_ahead (λ a. begins Expr a.trees) (take_until Expr)
    (refuses (codes "expected an expression"))

-- a type adds nothing to what is ahead
pub lightens_type : Lightens take_type
unfolding take_type
lightens_type = search (weighing, lightens_until) depth 20

-- an expression adds nothing to what is ahead
pub lightens_expr : Lightens take_expr
unfolding take_expr
lightens_expr = search (weighing, lightens_until) depth 20
