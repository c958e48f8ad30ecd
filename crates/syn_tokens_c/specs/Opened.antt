-- What a text that is opened leaves in the caller's hands.
use Rattle.std.specs.Prelude.{◌≡◌, ◌⊎◌, ℕ, List, [], ◌∷◌, ◌++◌, length}
use Rattle.std.specs.Prelude.{Some, None, MatchOption, Result, Ok, Err}
use Rattle.std.specs.Str.{IsUtf8, chars}
use Rattle.std.specs.Vec.{vec_ptr}
use Rattle.std.specs.declared.alloc.AllocError.{AllocError}
use denote.RawPtr.{null_ptr}
use Rattle.tok_core.specs.Forest.{Forest}
use Rattle.tok_core.specs.Lexical.Outcome.{FollowsGrammar, FollowsSource}
use Rattle.tok_core.specs.declared.lexer.error.LexFault.{LexFault}
use Rattle.tok_core.specs.declared.lexer.error.LexFault.TheVariants.{Refused, Memory}
use Rattle.tok_lexical.specs.declared.rule.Mode.TheVariants as mode
use Rattle.syn_tokens_c.specs.Outcomes.{Answer, answered, bare, forest_answer, refused}
use Rattle.syn_tokens_c.specs.Rules.{rules_of}
use Rattle.syn_tokens_c.specs.declared.handle.Handle.{Handle}
use Rattle.syn_tokens_c.specs.declared.kept.Kept.{Kept}
use Rattle.syn_tokens_c.specs.declared.open.Opened as declared
use Rattle.syn_tokens_c.specs.declared.read.Answer.{Answer as Made}
use Rattle.syn_tokens_c.specs.declared.read.Reading.{Reading}
use Rattle.syn_tokens_c.specs.declared.rules.Rules as rules
use Rattle.syn_tokens_c.specs.declared.rules.Rules.TheVariants.{Plain, Marked, Source}

-- what is returned of an answer
abbrev pub reading_of : Answer → Reading
reading_of a =
    record {
      status = a.status;
      rule = a.rule;
      at = a.at;
      entries = length a.entries;
      bytes = length a.bytes;
    }

-- The answer is returned, and the handle owns its entries and its bytes, which a zero follows. The
-- pointers lead to them.
abbrev pub Hands : Answer → declared.Opened → Handle → Type 0
Hands a o h =
    (o.reading ≡ reading_of a) × ((kept : Kept) × (h.value ≡ Some kept)
    × (kept.entries.items ≡ a.entries) × (kept.bytes.items ≡ a.bytes ++ 0 ∷ [])
    × (o.entries ≡ vec_ptr kept.entries) × (o.bytes ≡ vec_ptr kept.bytes))

-- nothing is read: the handle owns nothing, and the pointers are null
abbrev pub HandsNothing : ℕ → declared.Opened → Handle → Type 0
HandsNothing status o h =
    (o.reading ≡ reading_of (bare status)) × (h.value ≡ None)
    × (o.entries ≡ null_ptr) × (o.bytes ≡ null_ptr)

-- the answer that the library has made is handed out, unless an allocation failed
abbrev pub HandsAnswer : Result Made AllocError → declared.Opened → Handle → Type 0
HandsAnswer (Ok made) o h = Hands (answered made) o h ⊎ HandsNothing 3 o h
HandsAnswer (Err e) o h = HandsNothing 3 o h

-- what was read is handed out as this answer, and an error as its words, or an allocation failed
abbrev pub HandsOver : {A : Type 0} → (A → Answer) → Result A LexFault → declared.Opened → Handle →
    Type 0
HandsOver answer (Ok read) o h = Hands (answer read) o h ⊎ HandsNothing 3 o h
HandsOver answer (Err (Refused e)) o h = Hands (refused (Refused e)) o h ⊎ HandsNothing 3 o h
HandsOver answer (Err Memory) o h = HandsNothing 3 o h

-- what came of a text follows these rules
abbrev pub follows : rules.Rules → List ℕ → Result Forest LexFault → Type 0
follows Plain text outcome = FollowsGrammar mode.Plain 0 text outcome
follows Marked text outcome = FollowsGrammar mode.Marked 0 text outcome
follows (Source edition) text outcome = FollowsSource edition 0 text outcome

-- what came of a text that is UTF-8 follows the rules of this number, if there are any
abbrev pub Opens : ℕ → List ℕ → declared.Opened → Handle → Type 0
Opens number text o h =
    MatchOption (rules_of number) (HandsNothing 5 o h) (λ r.
    (IsUtf8 text × ((outcome : Result Forest LexFault) × follows r (chars text) outcome
    × HandsOver forest_answer outcome o h))
    ⊎ (¬ (IsUtf8 text) × HandsNothing 2 o h))
