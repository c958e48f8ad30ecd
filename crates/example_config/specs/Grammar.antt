-- Which visible trees are settings, and which settings they are.
use Rattle.std.specs.Prelude.{◌≡◌, ◌<◌, ◌^◌, ◌⊎◌, ℕ, true, false, List, [], ◌∷◌, Some, codes}
use Rattle.std.specs.Prelude.{Err, Ok, Result}
use Rattle.std.specs.Str.{chars}
use Rattle.tok_lexical.specs.declared.delimiter.Delimiter.TheVariants.{Brace, Bracket}
use Rattle.tok_leaves.specs.Leaves.{ident, ident_of, literal_of, punct}
use Rattle.tok_leaves.specs.declared.ident.Ident.{Ident}
use Rattle.tok_leaves.specs.declared.literal.Literal.{Literal}
use Rattle.tok_leaves.specs.declared.punct.Spacing.{Spacing}
use Rattle.tok_leaves.specs.declared.span.Span.{Span}
use Rattle.tok_values.specs.Values.{integer_value, string_value}
use Rattle.tok_core.specs.Forest.{Tree, leaf, group, Forest, no_trees, tree, forest, concat}
use Rattle.tok_types.specs.Texts.{accept_as_ident}
use Rattle.tok_types.specs.declared.punctuation.Punctuation.{Punctuation}
use Rattle.syn_parse.specs.Faults.{IsMemory}
use Rattle.syn_parse.specs.TokenNames.{Comma, Token}
use Rattle.syn_parse.specs.declared.fault.Fault.{Fault}
use Rattle.syn_punctuated.specs.TakeLists.{list_form}
use Rattle.syn_punctuated.specs.declared.punctuated.Punctuated.{Punctuated}
use Rattle.example_config.specs.Forms.{Form, SettingForm, forms, list, map, number, setting_forms}
use Rattle.example_config.specs.Forms.{setting_form, text, truth}
use Rattle.example_config.specs.declared.value.Setting.{Setting}

-- the punct of this character, joint or alone
abbrev pub sign : ℕ → Spacing → Span → Tree
sign c spacing span = leaf (punct c spacing span)

-- the token of one character, at this span
abbrev pub sign_at : {k : ℕ} → Span → Punctuation k 1
sign_at span = record { spans = span ∷ [] }

-- the character `:`
abbrev pub colon : ℕ
colon = 58

-- the character `,`
abbrev pub comma : ℕ
comma = 44

-- a key is an identifier that is no reserved word, and not `include`
abbrev pub IsKey : Ident → Type 0
IsKey key = (accept_as_ident key.text ≡ true) × (key.text ≡ codes "include" → ⊥)

-- a string literal without a suffix, and its value
abbrev pub IsText : Literal → List ℕ → Type 0
IsText literal t = string_value (chars literal.text) ≡ Some t

-- an integer literal without a suffix, and its value, which is below 2^64
abbrev pub IsNumber : Literal → ℕ → Type 0
IsNumber literal n = (integer_value (chars literal.text) ≡ Some (n, [])) × (n < 2 ^ 64)

mutual
  -- A value: a string; an integer; `true`; `false`; values in brackets; or settings in braces.
  pub data IsValue : Form → List Tree → Type 0 where
    is_text : (literal : Literal) (t : List ℕ) → IsText literal t
        → IsValue (text literal.span t) (leaf (literal_of literal) ∷ [])
    is_number : (literal : Literal) (n : ℕ) → IsNumber literal n
        → IsValue (number literal.span n) (leaf (literal_of literal) ∷ [])
    is_true : (span : Span) → IsValue (truth span true) (leaf (ident (codes "true") span) ∷ [])
    is_false : (span : Span) → IsValue (truth span false) (leaf (ident (codes "false") span) ∷ [])
    is_list : (inside : Forest) (span : Span) (values : List Form) (commas : List (Token Comma))
        → AreValues inside values commas
        → IsValue (list span (forms values) commas) (group Bracket inside span ∷ [])
    is_map : (inside : Forest) (span : Span) (settings : List SettingForm)
        (commas : List (Token Comma)) → AreSettings inside settings commas
        → IsValue (map span (setting_forms settings) commas) (group Brace inside span ∷ [])

  -- A setting: a key, a colon and a value.
  pub data IsSetting : SettingForm → List Tree → Type 0 where
    is_setting : (key : Ident) (spacing : Spacing) (span : Span) (value : Form)
        (trees : List Tree) → IsKey key → IsValue value trees
        → IsSetting (key, sign_at span, value)
        (leaf (ident_of key) ∷ sign colon spacing span ∷ trees)

  -- Values and the commas between them: nothing; or one value; or one, a comma and values.
  pub data AreValues : Forest → List Form → List (Token Comma) → Type 0 where
    no_value : AreValues no_trees [] []
    last_value : (trees : List Tree) (value : Form) → IsValue value trees
        → AreValues (forest trees) (value ∷ []) []
    and_values : (trees : List Tree) (value : Form) (spacing : Spacing) (span : Span)
        (rest : Forest) (others : List Form) (commas : List (Token Comma)) → IsValue value trees
        → AreValues rest others commas
        → AreValues (concat (forest trees) (tree (sign comma spacing span) rest))
        (value ∷ others) (sign_at span ∷ commas)

  -- Settings and the commas between them: nothing; or one setting; or one, a comma and settings.
  pub data AreSettings : Forest → List SettingForm → List (Token Comma) → Type 0 where
    no_setting : AreSettings no_trees [] []
    last_setting : (trees : List Tree) (setting : SettingForm) → IsSetting setting trees
        → AreSettings (forest trees) (setting ∷ []) []
    and_settings : (trees : List Tree) (setting : SettingForm) (spacing : Spacing) (span : Span)
        (rest : Forest) (others : List SettingForm) (commas : List (Token Comma))
        → IsSetting setting trees → AreSettings rest others commas
        → AreSettings (concat (forest trees) (tree (sign comma spacing span) rest))
        (setting ∷ others) (sign_at span ∷ commas)

-- settings and their commas
abbrev pub ListForm : Type 0
ListForm = List SettingForm × List (Token Comma)

-- these trees are settings of this form
abbrev pub AreForms : Forest → ListForm → Type 0
AreForms trees form = AreSettings trees form.0 form.1

-- these trees are these settings
abbrev pub AreConfig : Forest → Punctuated Setting (Token Comma) → Type 0
AreConfig trees config = AreForms trees (list_form setting_form (λ p. p) config)

-- the settings that these trees are, or an error if they are none; or an allocation failure
abbrev pub Parses : Forest → Result (Punctuated Setting (Token Comma)) Fault → Type 0
Parses trees (Ok config) = AreConfig trees config
Parses trees (Err f) = IsMemory f ⊎ ((form : ListForm) → AreForms trees form → ⊥)
