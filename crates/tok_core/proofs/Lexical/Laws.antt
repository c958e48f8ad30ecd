-- The laws of reading: what is read so and refused so follows the grammar.
use Rattle.std.proofs.Common.{◌≡◌, ◌∙◌, ◌++◌, ◌-◌, ◌≤◌, ℕ, List, sym, Ok, Err, Result, refl}
use Rattle.std.proofs.Common.{arith, length}
use Rattle.std.specs.Result.{IfOk, IfErr}
use Rattle.std.specs.Str.{chars, IsUtf8}
use Rattle.tok_lexical.specs.Sources.{BeginsAt}
use Rattle.tok_lexical.specs.Widths.{bytes}
use Rattle.tok_core.specs.Forest.{Forest}
use Rattle.tok_core.specs.Lexical.Errors.{OnRefused}
use Rattle.tok_core.specs.Lexical.Outcome.{FollowsFrom, FollowsSource}
use Rattle.tok_core.specs.Lexical.Reading.{ReadsFrom, IsRefusedFrom}
use Rattle.tok_core.specs.declared.lexer.error.LexError.{LexError}
use Rattle.tok_core.specs.declared.lexer.error.LexFault.{LexFault}
use Rattle.tok_core.specs.declared.lexer.error.LexFault.TheVariants.{Refused, Memory}
use Rattle.tok_lexical.specs.declared.edition.Edition.{Edition}
use Rattle.tok_lexical.specs.declared.rule.Mode.{Mode}
use Rattle.tok_lexical.specs.declared.rule.Mode.TheVariants.{Source}
use Rattle.tok_lexical.proofs.Texts.{cut_length}
use Rattle.tok_core.proofs.Lexical.Flat.{one_forest}
use Rattle.tok_core.proofs.Lexical.Only.{one_cut, one_way, not_both}

same_error : (one other : LexError) → one.kind ≡ other.kind → one.source ≡ other.source →
    one.at ≡ other.at → one ≡ other
same_error one other r s a = λ i. record { kind = r i; source = s i; at = a i }

module _ (begin : ℕ) (mode : Mode) (number : ℕ) (text : List ℕ) where
  pub forest_once : (one other : Forest) → ReadsFrom begin mode number text one →
      ReadsFrom begin mode number text other → one ≡ other
  forest_once one other (d, (all, k, (end, c))) (d', (all', k', (end', c'))) =
      one_forest k (rw (one_cut c c') k')

  pub refused_once : (one other : LexError) → IsRefusedFrom begin mode number text one →
      IsRefusedFrom begin mode number text other → one ≡ other
  refused_once one other (e, r) (e', r') =
      let w = one_way begin mode number text one.kind other.kind one.at other.at r r' in
      same_error one other w.0 (e ∙ sym e') w.1

  pub never_both : (forest : Forest) (error : LexError) → ReadsFrom begin mode number text
      forest → IsRefusedFrom begin mode number text error → ⊥
  never_both forest error (d, (all, k, (end, c))) (e, r) = not_both (forest, d, k) c r

  pub follows : (answer : Result Forest LexFault) → IfOk answer (ReadsFrom begin mode number text) →
      IfErr answer (λ fault. OnRefused fault (IsRefusedFrom begin mode number text)) →
      FollowsFrom begin mode number text answer
  follows (Ok stream) read refused = record {
    reads = read;
    only_read = λ forest h. forest_once stream forest read h;
    refuses = refused;
    only_refused = λ error h. never_both stream error read h;
  }
  follows (Err (Refused error)) read refused = record {
    reads = read;
    only_read = λ forest h. absurd (never_both forest error h refused);
    refuses = refused;
    only_refused = λ other h. refused_once error other refused h;
  }
  follows (Err Memory) read refused = record {
    reads = read;
    only_read = λ forest h. refl;
    refuses = refused;
    only_refused = λ error h. tt;
  }

-- A source without its front, as `past_start` cuts it. Each call that reads a source cites these
-- lemmas: `lex_source`, and `from_source` of `tok_entries` and of `tok_buffer`.
module _ (text rest : List ℕ) (cut : (front : List ℕ) × (chars text ≡ front ++ chars rest))
    (u : IsUtf8 text) (v : IsUtf8 rest) where
  pub no_longer : length rest ≤ length text
  no_longer = let whole = cut_length text rest cut.0 u v cut.1 in omega arith

  pub follows_source : (edition : Edition) (number : ℕ) → BeginsAt (chars text) (chars rest) →
      (answer : Result Forest LexFault) →
      FollowsFrom (length text - length rest) (Source edition) number (chars rest) answer →
      FollowsSource edition number (chars text) answer
  follows_source edition number begins answer reads =
      let whole = cut_length text rest cut.0 u v cut.1 in
      let skipped : length text - length rest ≡ bytes cut.0 = omega arith in
      (cut.0, chars rest, cut.1, begins, rw skipped at reads)
