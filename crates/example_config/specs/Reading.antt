-- How settings are read.
use Rattle.std.specs.Prelude.{◌≡◌, ◌⊎◌, ◌^◌, ℕ, Bool, true, false, List, [], ◌∷◌, codes, nat_lt}
use Rattle.std.specs.Prelude.{Option, None, Some, MatchResult, Result, if◌then◌else◌}
use Rattle.std.specs.Str.{chars}
use Rattle.tok_lexical.specs.declared.rule.Mode.TheVariants.{Plain}
use Rattle.tok_lexical.specs.declared.delimiter.Delimiter.TheVariants.{Brace, Bracket}
use Rattle.tok_leaves.specs.declared.ident.Ident.{Ident}
use Rattle.tok_leaves.specs.declared.literal.Literal.{Literal}
use Rattle.tok_leaves.specs.declared.span.Span.{Span}
use Rattle.tok_values.specs.Values.{integer_value, string_value}
use Rattle.tok_core.specs.Forest.{Forest}
use Rattle.tok_core.specs.Lexical.Reading as grammar
use Rattle.tok_core.specs.declared.lexer.error.LexError.{LexError}
use Rattle.syn_parse.specs.Nested.{take_nested}
use Rattle.syn_parse.specs.Owned.{sees_own, take_own}
use Rattle.syn_parse.specs.Parsers.{FailsExplained, OnMemory}
use Rattle.syn_parse.specs.Sources.{end_of_tokens}
use Rattle.syn_parse.specs.Takes.{IsMissing, MemoryOr, Outcome, SaysFound, Taking, TakesAll}
use Rattle.syn_parse.specs.Takes.{◌>>=◌, found, gives, refuses, refuses_at, take_group, where_ahead}
use Rattle.syn_parse.specs.Takings.{Takings, taken_filled}
use Rattle.syn_parse.specs.TokenNames.{Colon, Comma, Token, take}
use Rattle.syn_parse.specs.Tokens.{sees_any_ident, sees_group, sees_literal, take_ident}
use Rattle.syn_parse.specs.Tokens.{take_literal}
use Rattle.syn_parse.specs.TreesAhead.{Ahead}
use Rattle.syn_parse.specs.declared.fault.Fault.{Fault}
use Rattle.syn_punctuated.specs.TakeLists.{list_form, take_terminated}
use Rattle.syn_punctuated.specs.declared.punctuated.Punctuated.{Punctuated}
use Rattle.example_config.specs.Forms.{Form, SettingForm, listed, mapped, number}
use Rattle.example_config.specs.Forms.{setting_form, text}
use Rattle.example_config.specs.Forms.{truth, value_form}
use Rattle.example_config.specs.Grammar.{Parses}
use Rattle.example_config.specs.declared.value.Setting.{Setting}
use Rattle.example_config.specs.declared.value.Value.{Value}

-- an integer without a suffix
abbrev pub in_number : Span → (n : ℕ) → (suffix : List ℕ) → Taking Form
in_number span n [] = gives (number span n)
in_number span n (c ∷ cs) = refuses_at span (codes "expected no suffix")

-- the value of an integer literal, below 2^64
abbrev pub in_integer : Span → Option (ℕ × List ℕ) → Taking Form
in_integer span None =
    refuses_at span (codes "expected a string without a suffix, or an integer")
in_integer span (Some i) =
    if nat_lt i.0 (2 ^ 64)
    then in_number span i.0 i.1
    else refuses_at span (codes "expected an integer below 2^64")

-- the value of a string literal, or else of an integer literal
abbrev pub in_text : Literal → Option (List ℕ) → Taking Form
in_text literal (Some t) = gives (text literal.span t)
in_text literal None = in_integer literal.span (integer_value (chars literal.text))

-- the meaning of a literal
unfoldable pub meaning : Literal → Taking Form
meaning literal = in_text literal (string_value (chars literal.text))

-- an error has one message, which says what is missing, whatever the scope is
abbrev pub SaysOnce : {A : Type 0} → Outcome A → Fault → Type 0
SaysOnce o f =
    MemoryOr f (IsMissing o)
    × ((trees : Forest) (scope : Span) → SaysFound trees scope o f)

-- a value that is meant, or an error that says what is missing, at its span
abbrev pub Means : Taking Form → Result Value Fault → Type 0
Means m result =
    (a : Ahead) → MatchResult result (λ v. m a ≡ found (value_form v) a) (λ f. SaysOnce (m a) f)

-- a literal, and what it means
abbrev pub take_meaning : Taking Form
take_meaning = do
  literal ← take_literal
  meaning literal

-- a literal and its meaning, if a literal is next
unfoldable pub take_literal_value : Taking Form
take_literal_value =
    where_ahead sees_literal take_meaning
    (refuses (codes "expected a string, an integer, `true`, `false`, `[` or `{`"))

-- a keyword that is a truth value
abbrev pub take_truth : (word : List ℕ) → Bool → Taking Form
take_truth word b = do
  span ← take_own word
  gives (truth span b)

-- a value that holds no others
unfoldable pub take_plain : Taking Form
take_plain =
    where_ahead (sees_own (codes "true")) (take_truth (codes "true") true)
    (where_ahead (sees_own (codes "false")) (take_truth (codes "false") false) take_literal_value)

-- a key, if a word is next; of a reserved word the error says which it is
unfoldable pub take_key : Taking Ident
take_key = where_ahead sees_any_ident take_ident (refuses (codes "expected a key, such as `name`"))

-- a key that is not `include`, a colon and a value, by how values are taken
unfoldable pub setting_step : Taking Form → Taking SettingForm
setting_step value =
    where_ahead (sees_own (codes "include")) (refuses (codes "this language has no `include`")) (do
      key ← take_key
      colon ← take Colon
      form ← value
      gives (key, colon, form))

-- values in brackets
unfoldable pub take_list_value : Taking Form → Taking Form
take_list_value value = do
  values ← take_group Bracket (take_terminated value (take Comma))
  gives (listed values.0.join values.1)

-- settings in braces
unfoldable pub take_map_value : Taking Form → Taking Form
take_map_value value = do
  settings ← take_group Brace (take_terminated (setting_step value) (take Comma))
  gives (mapped settings.0.join settings.1)

-- one value, by how those within it are taken
abbrev pub value_step : Taking Form → Taking Form
value_step value =
    where_ahead (sees_group Bracket) (take_list_value value)
    (where_ahead (sees_group Brace) (take_map_value value) take_plain)

-- a value, with values within it
abbrev pub take_value : Taking Form
take_value = take_nested value_step

-- a setting, with values within it
abbrev pub take_setting : Taking SettingForm
take_setting = setting_step take_value

-- settings with commas between them; there may be one after the last
abbrev pub take_settings : Taking (List SettingForm × List (Token Comma))
take_settings = take_terminated take_setting (take Comma)

-- the parse of values and their commas, if no invisible group is empty
abbrev pub values : Takings (Punctuated Value (Token Comma))
values = taken_filled (list_form value_form (λ p. p)) (take_terminated take_value (take Comma))

-- the parse of settings and their commas, if no invisible group is empty
abbrev pub settings : Takings (Punctuated Setting (Token Comma))
settings = taken_filled (list_form setting_form (λ p. p)) take_settings

-- The text of a source is tokens. They are the settings that are returned; or they are none, and
-- the error says what is missing first, at its position. Or the grammar of tokens rejects it.
abbrev pub ReadsText : (source : ℕ) → List ℕ → Result (Punctuated Setting (Token Comma)) Fault
    → Type 0
ReadsText source cs r =
    ((f : Forest) × grammar.ReadsForest Plain source cs f
    × TakesAll (list_form setting_form (λ p. p)) take_settings f (end_of_tokens source f) r
    × Parses f r)
    ⊎ (((e : LexError) × grammar.IsRejected Plain source cs e × FailsExplained cs e r)
    ⊎ OnMemory r)
