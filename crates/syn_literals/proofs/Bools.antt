-- A truth value, where an identifier is read.
use Rattle.std.proofs.Common.{◌≡◌, ◌∙◌, sym, refl, arith, ℕ, Bool, true, false, cond}
use Rattle.std.proofs.Common.{List, Some, None, Err, is_some}
use Rattle.std.proofs.lemmas.Bool.{false≢true}
use Rattle.std.proofs.lemmas.Slice.Eq.{bytes_eq-Decides}
use Rattle.std.specs.Prelude.{OnErr, Result, bytes_eq, codes}
use Rattle.std.specs.Str.{chars}
use Rattle.tok_lexical.specs.Words.{IsIdentifier}
use Rattle.tok_core.specs.Forest.{Forest}
use Rattle.tok_buffer.specs.Descent.{descend}
use Rattle.tok_buffer.specs.Place.{Place}
use Rattle.tok_buffer.specs.Reads.{is_ident_of, read_if, read_keyword, read_word}
use Rattle.tok_core.specs.Kinds.{is_ident}
use Rattle.tok_buffer.specs.declared.error.Message.{Message}
use Rattle.tok_values.specs.Strings.{bool_of}
use Rattle.syn_parse.specs.Parses.{IsSpanOf, WordParses}
use Rattle.syn_parse.specs.Reads.{TreesRead, ReadsAtOnce}
use Rattle.syn_parse.specs.State.{State}
use Rattle.syn_parse.specs.declared.fault.Fault.{Fault}
use Rattle.syn_literals.specs.Kinds.{bool_text, is_bool, read_bool, value_in}
use Rattle.tok_types.proofs.Words.{word-chars}

-- the text of a value
module _ (text : List ℕ) where
  by-tests : (a b v : Bool) → bytes_eq text (codes "true") ≡ a → bytes_eq text (codes "false") ≡ b
      → cond a (Some true) (cond b (Some false) None) ≡ Some v → text ≡ bool_text v
  by-tests a b v e f h = grind (arith, bytes_eq-Decides)

  pub text_of_value : (v : Bool) → bool_of text ≡ Some v → text ≡ bool_text v
  text_of_value v h = grind (arith, by-tests)

-- the keyword of a value's text
keyword_of : (v : Bool) (p : Place)
    → read_keyword (bool_text v) p ≡ read_word (bytes_eq (bool_text v)) p
keyword_of v p = grind arith

same_text : (v : Bool) → bytes_eq (bool_text v) (bool_text v) ≡ true
same_text v = grind arith

-- what is read where a value is
word_read : (q : Place) (v : Bool) → value_in (read_if is_ident q) ≡ Some v
    → (read_if (is_ident_of is_bool) q ≡ read_if (is_ident_of (bytes_eq (bool_text v))) q)
    × (is_some (read_if (is_ident_of is_bool) q) ≡ true)
word_read q v h = grind (arith, text_of_value, same_text)

no_word : (q : Place) → value_in (read_if is_ident q) ≡ None
    → read_if (is_ident_of is_bool) q ≡ None
no_word q h = grind arith

pub no_bool : (p : Place) → read_bool p ≡ None → read_word is_bool p ≡ None
no_bool p h = no_word (descend p) h

-- a peek of the value is one of the word
pub bool_peeked : (p : Place) → is_some (read_bool p) ≡ is_some (read_word is_bool p)
bool_peeked p = grind (arith, no_bool, word_read)

module _ (s t : State) (v : Bool) (is : read_bool s.place ≡ Some v) where
  word-is : read_word is_bool s.place ≡ read_keyword (bool_text v) s.place
  word-is = (word_read (descend s.place) v is).0 ∙ sym (keyword_of v s.place)

  some : is_some (read_word is_bool s.place) ≡ true
  some = (word_read (descend s.place) v is).1

  never : (f : Fault) (m : Message) (x : TreesRead) → is_some x ≡ true
      → ReadsAtOnce (IsSpanOf (bool_text v)) x m s (Err f) t → ⊥
  never f m x e h = grind (arith, false≢true)

  -- the word is there, so its parse is no error
  pub bool_never_fails : (f : Fault) → WordParses (λ span. span) (bool_text v) s (Err f) t → ⊥
  bool_never_fails f h = grind (arith, never, some, word-is)

-- the texts are identifiers
pub bool_identifier : (v : Bool) → IsIdentifier (chars (bool_text v))
bool_identifier true = word-chars (bool_text true) refl refl
bool_identifier false = word-chars (bool_text false) refl refl

-- what an error leaves as it was
pub still : {T E : Type 0} (r : Result T E) (f : Forest) → OnErr r (f ≡ f)
still r f = grind arith
