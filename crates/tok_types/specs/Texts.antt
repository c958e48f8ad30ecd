-- The texts of tokens.
use Rattle.std.specs.Prelude.{ℕ, Bool, false, ◌+◌, ◌||◌, ◌==◌, not, if◌then◌else◌, List, [], ◌∷◌}
use Rattle.std.specs.Prelude.{◌++◌, length, map, get_or, bytes_eq, codes, Option}
use Rattle.std.specs.Borrow.{Bor}
use Rattle.std.specs.List.{filter, position}

-- the keywords of the Rust Reference (Keywords), strict, reserved and weak, and those that only a
-- parser of tokens names
abbrev pub keywords : List (List ℕ)
keywords =
    codes "abstract" ∷ codes "as" ∷ codes "async" ∷ codes "auto" ∷ codes "await" ∷ codes "become" ∷
    codes "box" ∷ codes "break" ∷ codes "const" ∷
    codes "continue" ∷ codes "crate" ∷ codes "default" ∷ codes "do" ∷ codes "dyn" ∷ codes "else" ∷
    codes "enum" ∷ codes "extern" ∷ codes "final" ∷
    codes "fn" ∷ codes "for" ∷ codes "if" ∷ codes "impl" ∷ codes "in" ∷ codes "let" ∷ codes "loop" ∷
    codes "macro" ∷ codes "match" ∷ codes "mod" ∷
    codes "move" ∷ codes "mut" ∷ codes "override" ∷ codes "priv" ∷ codes "pub" ∷ codes "raw" ∷ codes
    "ref" ∷ codes "return" ∷ codes "safe" ∷
    codes "Self" ∷ codes "self" ∷ codes "static" ∷ codes "struct" ∷ codes "super" ∷ codes "trait" ∷
    codes "try" ∷ codes "type" ∷ codes "typeof" ∷
    codes "union" ∷ codes "unsafe" ∷ codes "unsized" ∷ codes "use" ∷ codes "virtual" ∷ codes "where"
    ∷ codes "while" ∷ codes "yield" ∷ []

-- the punctuations of the Rust Reference (Tokens, Punctuation), and `<-`
abbrev pub punctuations : List (List ℕ)
punctuations =
    codes "&" ∷ codes "&&" ∷ codes "&=" ∷ codes "@" ∷ codes "^" ∷ codes "^=" ∷ codes ":" ∷ codes ","
    ∷ codes "$" ∷ codes "." ∷ codes ".." ∷
    codes "..." ∷ codes "..=" ∷ codes "=" ∷ codes "==" ∷ codes "=>" ∷ codes ">=" ∷ codes ">" ∷ codes
    "<-" ∷ codes "<=" ∷ codes "<" ∷ codes "-" ∷
    codes "-=" ∷ codes "!=" ∷ codes "!" ∷ codes "|" ∷ codes "|=" ∷ codes "||" ∷ codes "::" ∷ codes
    "%" ∷ codes "%=" ∷ codes "+" ∷ codes "+=" ∷
    codes "#" ∷ codes "?" ∷ codes "->" ∷ codes ";" ∷ codes "<<" ∷ codes "<<=" ∷ codes ">>" ∷ codes
    ">>=" ∷ codes "/" ∷ codes "/=" ∷ codes "*" ∷
    codes "*=" ∷ codes "~" ∷ []

-- the texts that no identifier has where one is parsed: `_`, `true`, `false`, and the keywords,
-- strict or reserved
abbrev pub reserved : List (List ℕ)
reserved =
    codes "Self" ∷ codes "_" ∷ codes "abstract" ∷ codes "as" ∷ codes "async" ∷ codes "await" ∷ codes
    "become" ∷ codes "box" ∷ codes "break" ∷
    codes "const" ∷ codes "continue" ∷ codes "crate" ∷ codes "do" ∷ codes "dyn" ∷ codes "else" ∷
    codes "enum" ∷ codes "extern" ∷ codes "false" ∷
    codes "final" ∷ codes "fn" ∷ codes "for" ∷ codes "if" ∷ codes "impl" ∷ codes "in" ∷ codes "let"
    ∷ codes "loop" ∷ codes "macro" ∷ codes "match" ∷
    codes "mod" ∷ codes "move" ∷ codes "mut" ∷ codes "override" ∷ codes "priv" ∷ codes "pub" ∷ codes
    "ref" ∷ codes "return" ∷ codes "self" ∷
    codes "static" ∷ codes "struct" ∷ codes "super" ∷ codes "trait" ∷ codes "true" ∷ codes "try" ∷
    codes "type" ∷ codes "typeof" ∷ codes "unsafe" ∷
    codes "unsized" ∷ codes "use" ∷ codes "virtual" ∷ codes "where" ∷ codes "while" ∷ codes "yield"
    ∷ []

-- the text of keyword `k`, and the empty text past the table
abbrev pub keyword_text : ℕ → List ℕ
keyword_text k = get_or keywords k []

-- the text of punctuation `k`, and the empty text past the table
abbrev pub punctuation_text : ℕ → List ℕ
punctuation_text k = get_or punctuations k []

-- the text of a punctuation of n characters, or the empty text if its own has another length
abbrev pub punctuation_word : (k n : ℕ) → List ℕ
punctuation_word k n = if length (punctuation_text k) == n then punctuation_text k else []

-- one of the texts is this one
abbrev pub is_among : List (List ℕ) → List ℕ → Bool
is_among [] s = false
is_among (t ∷ ts) s = bytes_eq t s || is_among ts s

-- the texts that a table holds
abbrev pub texts_of : List (Bor (List ℕ)) → List (List ℕ)
texts_of = map (λ (t : Bor (List ℕ)). t.now)

-- the text in a row of a table
abbrev pub text_in : Bor (List ℕ) × Bor (List ℕ) → List ℕ
text_in row = row.0.now

-- the text in a row of a table, in backquotes
abbrev pub display_in : Bor (List ℕ) × Bor (List ℕ) → List ℕ
display_in row = row.1.now

-- the text begins with this byte; the empty text begins with none
abbrev pub begins_with : ℕ → List ℕ → Bool
begins_with b [] = false
begins_with b (c ∷ s) = c == b

-- the texts that begin with this byte, in order
abbrev pub beginning : ℕ → List (List ℕ) → List (List ℕ)
beginning b = filter (begins_with b)

-- the numbers of the texts that begin with this byte, if the first text has number `k`
abbrev pub numbers_beginning : (b k : ℕ) → List (List ℕ) → List ℕ
numbers_beginning b k [] = []
numbers_beginning b k (text ∷ texts) =
    if begins_with b text then k ∷ numbers_beginning b (k + 1) texts
    else numbers_beginning b (k + 1) texts

-- the number of a text in a table: that of the first row with it
abbrev pub number_in : List (List ℕ) → List ℕ → Option ℕ
number_in texts word = position (λ text. bytes_eq text word) texts

-- a text that isn't reserved
abbrev pub accept_as_ident : List ℕ → Bool
accept_as_ident s = not (is_among reserved s)

-- a text in backquotes
abbrev pub in_backquotes : List ℕ → List ℕ
in_backquotes s = codes "`" ++ s ++ codes "`"

-- a token of this text as `Debug` writes it
abbrev pub in_token : List ℕ → List ℕ
in_token s = codes "Token![" ++ s ++ codes "]"
