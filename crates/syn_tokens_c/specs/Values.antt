-- What comes of the text of a literal.
use Rattle.std.specs.Prelude.{◌≡◌, ◌⊎◌, ◌≤◌, ◌^◌, ℕ, List, [], Some, None, MatchOption, length}
use Rattle.std.specs.Str.{IsUtf8, chars}
use Rattle.tok_values.specs.Floats.{float_value}
use Rattle.tok_values.specs.Integers.{IsInteger}
use Rattle.tok_values.specs.Strings.{IsByteValue, IsBytesValue, IsCharValue, IsStringValue}
use Rattle.tok_values.specs.Values.{integer_value}
use Rattle.entry_outcomes.specs.Answers.{Fronts}
use Rattle.syn_tokens_c.specs.declared.value.Found.{Found}
use Rattle.syn_tokens_c.specs.declared.value.LiteralValue.{LiteralValue}

-- the literal of these characters is an integer of this value, with a suffix of so many bytes
abbrev pub IsIntegerOf : List ℕ → (number size : ℕ) → Type 0
IsIntegerOf text number size =
    (suffix : List ℕ) × IsInteger text number (chars suffix) × (size ≡ length suffix)

-- the literal of this text is no integer below 2^64
abbrev pub HasNoSmall : List ℕ → Type 0
HasNoSmall text = MatchOption (integer_value (chars text)) (Unit {0}) (λ i. 2 ^ 64 ≤ i.0)

-- the literal of this text has no value; if it is an integer, no `u64` is it
pub record HasNone (text : List ℕ) : Type 0 where
  pub string : (value : List ℕ) → IsStringValue (chars text) value → ⊥
  pub bytes : (value : List ℕ) → IsBytesValue (chars text) value → ⊥
  pub character : (c : ℕ) → IsCharValue (chars text) c → ⊥
  pub byte : (b : ℕ) → IsByteValue (chars text) b → ⊥
  pub integer : HasNoSmall text
  pub float : float_value text ≡ None

-- a value of bytes alone
abbrev pub HasBytesAlone : Found → Type 0
HasBytesAlone v = (v.number ≡ 0) × (v.suffix ≡ 0)

-- a value of a number alone
abbrev pub HasNumberAlone : Found → Type 0
HasNumberAlone v = (v.suffix ≡ 0) × (v.bytes.items ≡ [])

-- neither a number nor bytes
abbrev pub HasNeither : Found → Type 0
HasNeither v = (v.number ≡ 0) × (v.suffix ≡ 0) × (v.bytes.items ≡ [])

-- the value of the literal of this text; a field that its kind doesn't have is 0 or empty
abbrev pub IsValue : List ℕ → Found → Type 0
IsValue text v =
    ((v.kind ≡ 1) × IsStringValue (chars text) v.bytes.items × HasBytesAlone v)
    ⊎ (((v.kind ≡ 2) × IsBytesValue (chars text) v.bytes.items × HasBytesAlone v)
    ⊎ (((v.kind ≡ 3) × IsCharValue (chars text) v.number × HasNumberAlone v)
    ⊎ (((v.kind ≡ 4) × IsByteValue (chars text) v.number × HasNumberAlone v)
    ⊎ (((v.kind ≡ 5) × IsIntegerOf (chars text) v.number v.suffix × (v.bytes.items ≡ []))
    ⊎ (((v.kind ≡ 6) × (float_value text ≡ Some v.float) × HasNoSmall text × HasNeither v)
    ⊎ ((v.kind ≡ 0) × HasNone text × HasNeither v))))))

-- the fields of a value
pub record HasFields (found : Found) (v : LiteralValue) : Type 0 where
  pub status : v.status ≡ 0
  pub kind : v.kind ≡ found.kind
  pub number : v.number ≡ found.number
  pub float : v.float ≡ found.float
  pub suffix : v.suffix ≡ found.suffix

-- no field of a value is there
abbrev pub HasNoFields : LiteralValue → Type 0
HasNoFields v = (v.kind ≡ 0) × (v.number ≡ 0) × (v.suffix ≡ 0)

-- A value is returned, and its bytes are written over the front of what the caller lends, if there
-- is room for them; if not, nothing is written, and the status says so.
pub record Gives (found : Found) (v : LiteralValue) (old new : List ℕ) : Type 0 where
  pub size : v.bytes ≡ length found.bytes.items
  pub room : length found.bytes.items ≤ length old →
      HasFields found v × Fronts found.bytes.items old new
  pub no_room : (length found.bytes.items ≤ length old → ⊥) →
      (v.status ≡ 4) × HasNoFields v × (new ≡ old)

-- nothing came of the text
abbrev pub IsBare : ℕ → LiteralValue → Type 0
IsBare status v = (v.status ≡ status) × HasNoFields v × (v.bytes ≡ 0)

-- the value of the literal of a text; or it is not UTF-8, or an allocation failed
abbrev pub IsValued : List ℕ → LiteralValue → (old new : List ℕ) → Type 0
IsValued text v old new =
    (IsUtf8 text × ((found : Found) × IsValue text found × Gives found v old new))
    ⊎ ((¬ (IsUtf8 text) × IsBare 2 v × (new ≡ old)) ⊎ (IsBare 3 v × (new ≡ old)))
