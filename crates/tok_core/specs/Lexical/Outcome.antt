-- What reading a text returns: what the grammar says of the text, and nothing else.
use Rattle.std.specs.Prelude.{◌≡◌, ℕ, List, ◌++◌, Result, MatchResult, IfOk, IfErr}
use Rattle.tok_core.specs.Forest.{Forest}
use Rattle.tok_core.specs.Lexical.Errors.{OnRefused}
use Rattle.tok_core.specs.Lexical.Reading.{ReadsFrom, IsRefusedFrom}
use Rattle.tok_lexical.specs.Sources.{BeginsAt}
use Rattle.tok_lexical.specs.Widths.{bytes}
use Rattle.tok_lexical.specs.declared.edition.Edition.{Edition}
use Rattle.tok_lexical.specs.declared.rule.Mode.{Mode}
use Rattle.tok_lexical.specs.declared.rule.Mode.TheVariants.{Source}
use Rattle.tok_core.specs.declared.lexer.error.LexError.{LexError}
use Rattle.tok_core.specs.declared.lexer.error.LexFault.{LexFault}
use Rattle.tok_core.specs.declared.lexer.error.LexFault.TheVariants.{Memory}

-- from the byte `begin` on
pub record FollowsFrom (begin : ℕ) (mode : Mode) (number : ℕ) (text : List ℕ)
    (result : Result Forest LexFault) : Type 0 where
  -- What is returned is what the grammar reads.
  pub reads : IfOk result (ReadsFrom begin mode number text)
  -- What the grammar reads is returned, unless an allocation fails.
  pub only_read : (forest : Forest) → ReadsFrom begin mode number text forest →
      MatchResult result (λ read. read ≡ forest) (λ fault. fault ≡ Memory)
  -- An error is the grammar's.
  pub refuses : IfErr result (λ fault. OnRefused fault (IsRefusedFrom begin mode number text))
  -- A text that the grammar rejects is rejected with its error, unless an allocation fails.
  pub only_refused : (error : LexError) → IsRefusedFrom begin mode number text error →
      MatchResult result (λ _. ⊥) (λ fault. OnRefused fault (λ other. other ≡ error))

-- the whole text
abbrev pub FollowsGrammar : Mode → ℕ → List ℕ → Result Forest LexFault → Type 0
FollowsGrammar mode number text result = FollowsFrom 0 mode number text result

-- what follows the byte order mark and the shebang line of a source of an edition
abbrev pub FollowsSource : Edition → ℕ → List ℕ → Result Forest LexFault → Type 0
FollowsSource edition number text result =
    (front : List ℕ) × (rest : List ℕ) × (text ≡ front ++ rest) × BeginsAt text rest
    × FollowsFrom (bytes front) (Source edition) number rest result
