-- The characters that the grammar names, in ascending order.
use Rattle.std.specs.Prelude.{ℕ}

-- the code point U+0009
abbrev pub tab : ℕ
tab = 9

-- the code point U+000A
abbrev pub line_feed : ℕ
line_feed = 10

-- the code point U+000D
abbrev pub carriage_return : ℕ
carriage_return = 13

-- the code point U+0020
abbrev pub space : ℕ
space = 32

-- the code point of `!`
abbrev pub exclamation_mark : ℕ
exclamation_mark = 33

-- the code point of `"`
abbrev pub quote : ℕ
quote = 34

-- the code point of `#`
abbrev pub number_sign : ℕ
number_sign = 35

-- the code point of `'`
abbrev pub apostrophe : ℕ
apostrophe = 39

-- the code point of `(`
abbrev pub open_parenthesis : ℕ
open_parenthesis = 40

-- the code point of `)`
abbrev pub close_parenthesis : ℕ
close_parenthesis = 41

-- the code point of `*`
abbrev pub star : ℕ
star = 42

-- the code point of `+`
abbrev pub plus : ℕ
plus = 43

-- the code point of `-`
abbrev pub minus : ℕ
minus = 45

-- the code point of `.`
abbrev pub dot : ℕ
dot = 46

-- the code point of `/`
abbrev pub slash : ℕ
slash = 47

-- the code point of `0`
abbrev pub digit_zero : ℕ
digit_zero = 48

-- the code point of `E`
abbrev pub upper_e : ℕ
upper_e = 69

-- the code point of `[`
abbrev pub open_bracket : ℕ
open_bracket = 91

-- the code point of `\`
abbrev pub backslash : ℕ
backslash = 92

-- the code point of `]`
abbrev pub close_bracket : ℕ
close_bracket = 93

-- the code point of `_`
abbrev pub underscore : ℕ
underscore = 95

-- the code point of `b`
abbrev pub lower_b : ℕ
lower_b = 98

-- the code point of `c`
abbrev pub lower_c : ℕ
lower_c = 99

-- the code point of `e`
abbrev pub lower_e : ℕ
lower_e = 101

-- the code point of `n`
abbrev pub lower_n : ℕ
lower_n = 110

-- the code point of `o`
abbrev pub lower_o : ℕ
lower_o = 111

-- the code point of `r`
abbrev pub lower_r : ℕ
lower_r = 114

-- the code point of `t`
abbrev pub lower_t : ℕ
lower_t = 116

-- the code point of `u`
abbrev pub lower_u : ℕ
lower_u = 117

-- the code point of `x`
abbrev pub lower_x : ℕ
lower_x = 120

-- the code point of `{`
abbrev pub open_brace : ℕ
open_brace = 123

-- the code point of `}`
abbrev pub close_brace : ℕ
close_brace = 125

-- the code point of «, which begins an invisible group in marked text
abbrev pub open_mark : ℕ
open_mark = 171

-- the code point of », which ends it
abbrev pub close_mark : ℕ
close_mark = 187

-- U+FEFF, which a text may have at its byte 0 alone
abbrev pub byte_order_mark : ℕ
byte_order_mark = 0xFEFF
