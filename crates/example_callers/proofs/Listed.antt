-- One item, after the call that read it.
use Rattle.std.proofs.Common.{◌≡◌, refl, Bool, true, false, Option, Some, None, Ok}
use Rattle.std.proofs.Common.{Err, arith}
use Rattle.std.specs.Borrow.{MutBor}
use Rattle.std.specs.Fn.{FnOnceReturnsAtMut, Once}
use Rattle.std.specs.Prelude.{Result, IfOk, is_some}
use Rattle.tok_lexical.specs.declared.delimiter.Delimiter.TheVariants.{Parenthesis}
use Rattle.tok_leaves.specs.declared.span.DelimSpan.{DelimSpan}
use Rattle.tok_buffer.specs.Entry.{Entered, enter}
use Rattle.tok_buffer.specs.Place.{is_at_end}
use Rattle.tok_types.specs.declared.delimiter.Visible.{Visible}
use Rattle.syn_parse.specs.declared.fault.Fault.{Fault}
use Rattle.syn_parse.specs.Groups.{RunsWithin, SpanWith}
use Rattle.syn_parse.specs.Reads.{Call}
use Rattle.syn_parse.specs.State.{State, after_group, closed}
use Rattle.syn_parse.specs.ErrorWords.{delimiter_words, refused_at}
use Rattle.example_callers.specs.declared.lists.Item.TheVariants as item
use Rattle.example_callers.specs.declared.lists.Items.{Items}
use Rattle.example_callers.specs.Lists.{IsItem, list}

-- what is found nowhere is not there
pub is_absent : {A : Type 0} (o : Option A) (b : Bool) → b ≡ is_some o → b ≡ false → o ≡ None
is_absent o b e f = grind arith

abbrev Mut : Type 0
Mut = MutBor State × Unit {0}

abbrev IsRead : Result Items Fault → State → Type 0
IsRead r t = IfOk r (λ _. is_at_end t.place ≡ true)

-- after a call of `within`, whose function reads to the end
module _
    {F : Type 0} (call : Once F Mut (Result Items Fault × Mut)) (f : F)
    (are : (a : MutBor State) (r : Result Items Fault) (b : MutBor State) →
    call.post f (a, tt) (r, (b, tt)) → IsRead r b.now) where
  abbrev calls : Call Items
  calls = FnOnceReturnsAtMut call f

  call_reads : (a : State) (r : Result Items Fault) (b : State) → calls a r b → IsRead r b
  call_reads a r b c = grind arith

  pub one_list :
      (s t : State) (span : DelimSpan) (items : Items) (paren : Visible 0) → paren.span ≡ span →
      RunsWithin calls (enter Parenthesis s.place)
      (refused_at s (delimiter_words Parenthesis)) s (Ok (span, items)) t →
      IsItem s (item.List paren items) t
  one_list s t span items paren at ran = by (enter Parenthesis s.place) refl ran
    where
      inside :
          (e : Entered) → enter Parenthesis s.place ≡ Some e → (a : Result Items Fault)
          (end : State) → IsRead a end → SpanWith e.span a (Ok (span, items)) →
          t ≡ closed end (after_group e s) → IsItem s (item.List paren items) t
      inside e i (Err g) end c same is = absurd same
      inside e i (Ok v) end c same is =
          rw is (list s end e paren items i (rw at same.0) c)

      by :
          (x : Option Entered) → enter Parenthesis s.place ≡ x →
          RunsWithin calls x (refused_at s (delimiter_words Parenthesis)) s (Ok (span, items)) t →
          IsItem s (item.List paren items) t
      by None i r = absurd r.0
      by (Some e) i r = inside e i r.0 r.1 (call_reads _ _ _ r.2) r.3 r.4
