-- Peeks see what is first of the visible trees ahead.
use Rattle.std.proofs.Common.{◌≡◌, ◌∙◌, ℕ, Option, arith}
use Rattle.std.proofs.Common.{Bool}
use Rattle.std.specs.Prelude.{codes, is_some, option_map}
use Rattle.tok_lexical.specs.declared.delimiter.Delimiter.{Delimiter}
use Rattle.tok_buffer.specs.Entry.{enter}
use Rattle.tok_buffer.specs.InFront.{entered_ahead}
use Rattle.tok_buffer.specs.Place.{Place}
use Rattle.tok_buffer.specs.Reads.{read_ident, read_keyword, read_literal}
use Rattle.tok_buffer.specs.Reads.{any_text, read_lifetime, read_punct, read_punctuation, read_word}
use Rattle.tok_buffer.specs.View.{IsVisibleDelimiter, erased_ahead}
use Rattle.tok_buffer.proofs.View.InFront.{ahead_tells}
use Rattle.tok_types.specs.Delimiters.{delimiter_at}
use Rattle.tok_types.specs.Looks.{PeeksFor}
use Rattle.tok_types.specs.Sees.{any_ident_first, group_first}
use Rattle.tok_types.specs.Sees.{ident_first, keyword_first}
use Rattle.tok_types.specs.Sees.{lifetime_first, literal_first}
use Rattle.tok_types.specs.Sees.{punct_first, punctuation_first, underscore_first}
use Rattle.tok_types.specs.Texts.{accept_as_ident, keyword_text, punctuation_word}

pub is_visible : (n : ℕ) → IsVisibleDelimiter (delimiter_at n)
is_visible n = grind arith

pub found_as : {A B : Type 0} (h : A → B) (r : Option A) (q : Option B) → option_map h r ≡ q
    → is_some r ≡ is_some q
found_as h r q e = grind arith

pub ident_seen : (p : Place) (b : Bool) → PeeksFor (read_word accept_as_ident) p b
    → b ≡ ident_first (erased_ahead p)
unfolding ident_first
ident_seen p b h = h ∙ found_as _ _ _ ((ahead_tells p).leaves.words accept_as_ident)

pub any_ident_seen : (p : Place) (b : Bool) → PeeksFor read_ident p b →
    b ≡ any_ident_first (erased_ahead p)
unfolding any_ident_first
any_ident_seen p b h = h ∙ found_as _ _ _ (ahead_tells p).leaves.idents

pub lifetime_seen : (p : Place) (b : Bool) → PeeksFor (read_lifetime any_text) p b
    → b ≡ lifetime_first (erased_ahead p)
unfolding lifetime_first
lifetime_seen p b h = h ∙ found_as _ _ _ ((ahead_tells p).leaves.lifetimes any_text)

pub literal_seen : (p : Place) (b : Bool) → PeeksFor read_literal p b →
    b ≡ literal_first (erased_ahead p)
unfolding literal_first
literal_seen p b h = h ∙ found_as _ _ _ (ahead_tells p).leaves.literals

pub punct_seen : (p : Place) (b : Bool) → PeeksFor read_punct p b → b ≡ punct_first (erased_ahead p)
unfolding punct_first
punct_seen p b h = h ∙ found_as _ _ _ (ahead_tells p).leaves.puncts

pub underscore_seen : (p : Place) (b : Bool) → PeeksFor (read_keyword (codes "_")) p b
    → b ≡ underscore_first (erased_ahead p)
unfolding underscore_first
underscore_seen p b h = h ∙ found_as _ _ _ ((ahead_tells p).leaves.keywords (codes "_"))

pub keyword_seen : (k : ℕ) (p : Place) (b : Bool) → PeeksFor (read_keyword (keyword_text k)) p b
    → b ≡ keyword_first k (erased_ahead p)
unfolding keyword_first
keyword_seen k p b h = h ∙ found_as _ _ _ ((ahead_tells p).leaves.keywords (keyword_text k))

pub punctuation_seen : (k n : ℕ) (p : Place) (b : Bool)
    → PeeksFor (read_punctuation (punctuation_word k n)) p b →
    b ≡ punctuation_first k n (erased_ahead p)
unfolding punctuation_first
punctuation_seen k n p b h = h
    ∙ found_as _ _ _ ((ahead_tells p).leaves.punctuations (punctuation_word k n))

pub group_seen : (d : Delimiter) → IsVisibleDelimiter d → (p : Place) (b : Bool)
    → PeeksFor (enter d) p b → b ≡ group_first d (erased_ahead p)
unfolding group_first
group_seen d v p b h = h ∙ found_as entered_ahead _ _ ((ahead_tells p).enters d v)
