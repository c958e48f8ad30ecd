-- The texts of the tables are ASCII, and those of keywords are identifiers.
use Rattle.std.proofs.Common.{◌≡◌, ◌∙◌, ◌<◌, sym, ap, refl, ℕ, zero, suc, Bool, true}
use Rattle.std.proofs.Common.{false, ◌&&◌, ◌||◌, List, [], ◌∷◌, get_or, length}
use Rattle.std.proofs.Common.{inl, inr, arith, encode_utf8_all}
use Rattle.std.specs.Prelude.{codes, nat_lt, ◌==◌, Result, OnErr}
use Rattle.std.specs.List.{list_all}
use Rattle.std.specs.Char.{is_ascii_alphabetic, is_ascii_alphanumeric}
use Rattle.std.specs.Str.{chars, IsUtf8}
use Rattle.std.proofs.lemmas.Bool.{eqb-false, false≢true, ltb-true, and_parts, and_from, cases_lt, cond_both}
use Rattle.std.proofs.lemmas.List.{get_or_past}
use Rattle.std.proofs.lemmas.Str.{chars-IsAscii, chars-nil, encodes-chars}
use Rattle.unicode_ident.specs.Ident.{is_xid_continue}
use Rattle.unicode_ident.proofs.IdentLemmas.{is_xid_start-ascii, is_xid_continue-ascii}
use Rattle.tok_lexical.specs.Words.{IsIdentifier, IsSuffix}
use Rattle.tok_leaves.specs.declared.span.Span.{Span}
use Rattle.tok_core.specs.Forest.{AppendsFront, Forest, leaf, no_trees}
use Rattle.tok_leaves.specs.Leaves.{ident}
use Rattle.tok_core.proofs.Fronts.{none_appended}
use Rattle.tok_types.specs.Printed.{word}
use Rattle.tok_types.specs.Texts.{keywords, keyword_text, punctuations, punctuation_text}
use Rattle.tok_types.specs.Texts.{punctuation_word}
use Rattle.tok_lexical.proofs.Identifiers.{ascii_at}

-- what holds of each text of a table and of the empty text holds of the text of any number
of_each : (holds : List ℕ → Bool) (ts : List (List ℕ)) (k : ℕ) → holds [] ≡ true →
    list_all holds ts ≡ true → holds (get_or ts k []) ≡ true
of_each holds [] k e h = e
of_each holds (t ∷ ts) zero e h = (and_parts (holds t) (list_all holds ts) h).0
of_each holds (t ∷ ts) (suc k) e h = of_each holds ts k e
    (and_parts (holds t) (list_all holds ts) h).1

of_each_in : (holds : List ℕ → Bool) (ts : List (List ℕ)) (k : ℕ) → k < length ts →
    list_all holds ts ≡ true → holds (get_or ts k []) ≡ true
of_each_in holds [] k low h = absurd (omega arith)
of_each_in holds (t ∷ ts) zero low h = (and_parts (holds t) (list_all holds ts) h).0
of_each_in holds (t ∷ ts) (suc k) low h = of_each_in holds ts k (omega arith)
    (and_parts (holds t) (list_all holds ts) h).1

abbrev is_ascii : List ℕ → Bool
is_ascii t = list_all (λ c. nat_lt c 128) t

ascii_chars : (t : List ℕ) → is_ascii t ≡ true → chars t ≡ t
ascii_chars t h = chars-IsAscii t (λ i. ascii_at t i h)

-- a plain identifier of ASCII
abbrev is_ascii_continue : ℕ → Bool
is_ascii_continue c = is_ascii_alphanumeric c || (c == 95)

abbrev is_word : List ℕ → Bool
is_word [] = false
is_word (c ∷ cs) = (is_ascii_alphabetic c || (c == 95)) && list_all is_ascii_continue cs

continues : (cs : List ℕ) → is_ascii cs ≡ true → list_all is_ascii_continue cs ≡ true →
    list_all is_xid_continue cs ≡ true
continues [] a h = refl
continues (c ∷ cs) a h =
    let ascii = and_parts (nat_lt c 128) (is_ascii cs) a in
    let parts = and_parts (is_ascii_continue c) (list_all is_ascii_continue cs) h in
    and_from (is_xid_continue c) (list_all is_xid_continue cs)
    (is_xid_continue-ascii c (ltb-true c 128 ascii.0) ∙ parts.0)
    (continues cs ascii.1 parts.1)

word_is_identifier : (t : List ℕ) → is_ascii t ≡ true → is_word t ≡ true → IsIdentifier t
word_is_identifier t a h =
    grind (arith, false≢true, and_parts, is_xid_start-ascii, ltb-true, continues)

pub word-chars : (t : List ℕ) → is_ascii t ≡ true → is_word t ≡ true → IsIdentifier (chars t)
word-chars t a h = rw (ascii_chars t a) (word_is_identifier t a h)

-- the text of a keyword of the table
pub keyword-identifier : (k : ℕ) → k < length keywords → IsIdentifier (chars (keyword_text k))
keyword-identifier k h = word-chars (keyword_text k) (of_each is_ascii keywords k refl refl)
    (of_each_in is_word keywords k h refl)

-- and the text of any number
pub keyword-suffix : (k : ℕ) → IsSuffix (chars (keyword_text k))
keyword-suffix k =
    elim (cases_lt k (length keywords)) [
      | inl h ↦ inr (keyword-identifier k h)
      | inr h ↦ inl (ap chars (get_or_past keywords k [] h) ∙ chars-nil)
    ]

-- a text that isn't empty spells some character
pub suffix-identifier : (t : List ℕ) → IsUtf8 t → (length t == 0) ≡ false → IsSuffix (chars t) →
    IsIdentifier (chars t)
suffix-identifier t u h (inl none) =
    let empty : t ≡ [] = sym (encodes-chars t u) ∙ ap encode_utf8_all none in
    absurd (grind arith)
suffix-identifier t u h (inr word) = word

pub word-empty : (t : List ℕ) (span : Span) → (length t == 0) ≡ true → word t span ≡ no_trees
word-empty t span h = grind arith

-- where a word that is written is refused, nothing of it went out
pub word-refused : {T E : Type 0} (r : Result T E) (t : List ℕ) (span : Span)
    (old new : Forest) → (length t == 0) ≡ false → OnErr r (new ≡ old) →
    OnErr r (AppendsFront old (word t span) new)
word-refused r [] span old new h e = absurd (eqb-false 0 0 h refl)
word-refused r (c ∷ cs) span old new h e = none_appended r old (leaf (ident (c ∷ cs) span))
    no_trees new e

pub underscore-identifier : IsIdentifier (chars (codes "_"))
underscore-identifier = word-chars (codes "_") refl refl

pub punctuation-chars : (k n : ℕ) → chars (punctuation_word k n) ≡ punctuation_word k n
punctuation-chars k n = ascii_chars (punctuation_word k n)
    (cond_both (length (punctuation_text k) == n) (punctuation_text k) []
    (λ t. is_ascii t ≡ true) (λ _. of_each is_ascii punctuations k refl refl) (λ _. refl))
