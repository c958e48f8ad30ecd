-- What is handed out of an answer.
use Rattle.std.proofs.Common.{◌≡◌, ◌⊎◌, Ok, Err, inr}
use Rattle.std.specs.Prelude.{Result, IfOk}
use Rattle.std.specs.declared.alloc.AllocError.{AllocError}
use Rattle.tok_core.specs.declared.lexer.error.LexFault.{LexFault}
use Rattle.tok_core.specs.declared.lexer.error.LexFault.TheVariants.{Refused}
use Rattle.tok_core.specs.declared.lexer.error.LexError.{LexError}
use Rattle.tok_entries.specs.declared.lexing.LexedEntries.{LexedEntries}
use Rattle.syn_tokens_c.specs.Opened.{Hands, HandsAnswer, HandsNothing, HandsOver}
use Rattle.syn_tokens_c.specs.Outcomes.{Answer, answered, lexed_answer, refused}
use Rattle.syn_tokens_c.specs.declared.handle.Handle.{Handle}
use Rattle.syn_tokens_c.specs.declared.open.Opened.{Opened}
use Rattle.syn_tokens_c.specs.declared.read.Answer.{Answer as Made}

-- an answer that the library has made is the one that was asked for
handed : (result : Result Made AllocError) (a : Answer) (o : Opened) (h : Handle)
    → IfOk result (λ made. answered made ≡ a) → HandsAnswer result o h
    → Hands a o h ⊎ HandsNothing 3 o h
handed (Ok made) a o h e is = rw (← e) is
handed (Err _) a o h e is = inr is

-- the answer of entries and texts
pub handed_lexed : (lexed : Result LexedEntries LexFault) (w : LexedEntries)
    (result : Result Made AllocError) (o : Opened) (h : Handle) → lexed ≡ Ok w
    → IfOk result (λ made. answered made ≡ lexed_answer w) → HandsAnswer result o h
    → HandsOver lexed_answer lexed o h
handed_lexed lexed w result o h e made is = rw e (handed result (lexed_answer w) o h made is)

-- the answer of an error
pub handed_error : (lexed : Result LexedEntries LexFault) (e : LexError)
    (result : Result Made AllocError) (o : Opened) (h : Handle) → lexed ≡ Err (Refused e)
    → IfOk result (λ made. answered made ≡ refused (Refused e)) → HandsAnswer result o h
    → HandsOver lexed_answer lexed o h
handed_error lexed e result o h is made hands =
    rw is (handed result (refused (Refused e)) o h made hands)
