-- Reads of leaves: each descends and takes a wanted leaf, and after some another read follows.
use Rattle.std.proofs.Common.{◌≡◌, refl, ℕ, Bool, false, List, [], ◌∷◌, None}
use Rattle.std.specs.Prelude.{bytes_eq}
use Rattle.tok_lexical.specs.declared.delimiter.Delimiter.{Delimiter}
use Rattle.tok_core.specs.Clear.{is_joint_apostrophe}
use Rattle.tok_core.specs.Forest.{Tree, group, Forest}
use Rattle.tok_buffer.specs.Descent.{descend}
use Rattle.tok_buffer.specs.EachRead.{EachRead, First, Read, and_first, first_if, first_keyword}
use Rattle.tok_buffer.specs.EachRead.{first_lifetime, first_puncts}
use Rattle.tok_buffer.specs.Reads.{read_if, read_then, is_ident_of}
use Rattle.tok_core.specs.Kinds.{is_ident, is_literal, is_punct}
use Rattle.tok_buffer.specs.Reads.{is_punct_of, is_joint_of, read_ident, read_word, read_keyword}
use Rattle.tok_buffer.specs.Reads.{read_lifetime, read_literal, read_punct, read_punctuation}

-- A test that is true of leaves alone.
abbrev pub IsOfLeaves : (Tree → Bool) → Type 0
IsOfLeaves wanted =
    (d : Delimiter) (inside : Forest) (span : _) → wanted (group d inside span) ≡ false

-- a read, with what it takes of the erased trees ahead
pub data Reading : Read → First → Type 0 where
  never : Reading (λ p. None) (λ f. None)
  one : (wanted : Tree → Bool) → IsOfLeaves wanted
      → Reading (λ p. read_if wanted (descend p)) (λ f. first_if wanted f)
  more : (wanted : Tree → Bool) → IsOfLeaves wanted → (g : Read) (h : First) → Reading g h
      → Reading (λ p. read_then (read_if wanted (descend p)) g)
      (λ f. and_first (first_if wanted f) h)

pub of_ident : Reading read_ident (first_if is_ident)
of_ident = one is_ident (λ d inside span. refl)

pub of_word : (wanted : List ℕ → Bool) → Reading (read_word wanted) (first_if (is_ident_of wanted))
of_word wanted = one (is_ident_of wanted) (λ d inside span. refl)

pub of_keyword : (text : List ℕ) → Reading (read_keyword text) (first_keyword text)
of_keyword [] = never
of_keyword (c ∷ cs) = of_word (bytes_eq (c ∷ cs))

pub of_lifetime : (wanted : List ℕ → Bool) → Reading (read_lifetime wanted) (first_lifetime wanted)
of_lifetime wanted =
    more is_joint_apostrophe (λ d inside span. refl) (read_word wanted)
    (first_if (is_ident_of wanted)) (of_word wanted)

pub of_literal : Reading read_literal (first_if is_literal)
of_literal = one is_literal (λ d inside span. refl)

pub of_punct : Reading read_punct (first_if is_punct)
of_punct = one is_punct (λ d inside span. refl)

pub of_punctuation : (text : List ℕ) → Reading (read_punctuation text) (first_puncts text)
of_punctuation [] = never
of_punctuation (c ∷ []) = one (is_punct_of c) (λ d inside span. refl)
of_punctuation (c ∷ (d ∷ cs)) =
    more (is_joint_of c) (λ d inside span. refl) (read_punctuation (d ∷ cs))
    (first_puncts (d ∷ cs)) (of_punctuation (d ∷ cs))

-- what holds of each such read holds of the reads of the cursor
pub each_read : (P : Read → First → Type 0)
    → ((read : Read) (first : First) → Reading read first → P read first) → EachRead P
each_read P holds = record {
  idents = holds _ _ of_ident;
  words = λ wanted. holds _ _ (of_word wanted);
  keywords = λ text. holds _ _ (of_keyword text);
  lifetimes = λ wanted. holds _ _ (of_lifetime wanted);
  literals = holds _ _ of_literal;
  puncts = holds _ _ of_punct;
  punctuations = λ text. holds _ _ (of_punctuation text);
}
