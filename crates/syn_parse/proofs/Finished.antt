-- Whole streams, by what is taken of them.
use Rattle.std.proofs.Common.{arith, ◌≡◌, ◌∙◌, sym, ap, true, Option, Some, None, Ok}
use Rattle.std.proofs.Common.{Err, List}
use Rattle.std.specs.Prelude.{IfSome, MatchOption, Result, is_some, option_map}
use Rattle.std.specs.Option.{option_or}
use Rattle.std.proofs.lemmas.Option.{same_Some}
use Rattle.tok_core.specs.Erase.{erase}
use Rattle.tok_core.specs.Filled.{filled, has_trees}
use Rattle.tok_buffer.specs.InFront.{first_tree_span}
use Rattle.tok_buffer.specs.Messages.{spans_of}
use Rattle.tok_buffer.specs.Reached.{begin}
use Rattle.tok_core.specs.Forest.{Forest}
use Rattle.tok_leaves.specs.declared.span.Span.{Span}
use Rattle.tok_buffer.specs.Ahead.{Leftover, leftover}
use Rattle.tok_buffer.specs.declared.error.Message.{Message}
use Rattle.tok_buffer.specs.View.{erased_ahead}
use Rattle.tok_buffer.proofs.View.InFront.{ahead_tells, all_ahead_at_start}
use Rattle.syn_parse.specs.Faults.{FailsWith, Refuses, RefusesAt}
use Rattle.syn_parse.specs.Parsers.{Finishes, OnMemory, whole_stream}
use Rattle.syn_parse.specs.ErrorWords.{leftover_message}
use Rattle.syn_parse.specs.State.{State, handed}
use Rattle.syn_parse.specs.declared.fault.Fault.{Fault}
use Rattle.syn_parse.specs.declared.fault.Fault.TheVariants.{Refused, Memory}
use Rattle.syn_parse.specs.TreesAhead.{Ahead, IsFilled, ahead, all_taken, only_trees, whole}
use Rattle.syn_parse.specs.Takes.{Agree, ErrorsAgree, MemoryOr, Outcome}
use Rattle.syn_parse.specs.Takes.{SaysAll, TakesAll, TakesAs, Taking, found, missing}
use Rattle.syn_parse.proofs.GroupTakes.{leftover-trees}
use Rattle.syn_parse.proofs.Shapes.{found_first, found_second}

-- nothing is handed up exactly where all is taken
spent-in : (n l : Option Leftover) (f : Forest) → is_some l ≡ has_trees f → option_or n l ≡ None
    → record { trees = f; unread = option_map (λ x. x.span) n } ≡ all_taken
spent-in n l f e h = grind arith

handed-in : (n l : Option Leftover) (f : Forest) → is_some l ≡ has_trees f
    → record { trees = f; unread = option_map (λ x. x.span) n } ≡ all_taken → option_or n l ≡ None
handed-in n l f e h = grind arith

left-at : (n q : Option Leftover) (t : Option Span) (l : Leftover) (e : Fault)
    → option_or n q ≡ Some l → option_map (λ x. x.span) q ≡ t → Refuses (leftover_message l) e
    → IfSome (option_or (option_map (λ x. x.span) n) t) (λ span. RefusesAt span e)
left-at n q t l e h s r = grind (arith, same_Some)

module _ {T A : Type 0} (form : T → A) (take : Taking A) (f : Forest) (scope : Span) where
  start-ahead : ahead (whole_stream f scope) ≡ whole f
  start-ahead = ap only_trees (all_ahead_at_start 0 f)

  pub start-filled : filled f ≡ true → IsFilled (whole_stream f scope).place
  start-filled i = record {
    buffer = record { number = 0; forest = f };
    filled_buffer = i;
    reached = begin;
  }

  left-refuses : (e : Fault) (x : A) (y : Ahead) (l : Message) → Refuses l e
      → take (whole f) ≡ found x y → (y ≡ all_taken → ⊥)
      → IfSome (option_or y.unread (first_tree_span y.trees)) (λ span. RefusesAt span e)
      → TakesAll form take f scope (Err e)
  left-refuses e x y l r h k m = grind (arith, found_second)

  value_takes_all : (v : T) (left : State) (result : Result T Fault) (o : Option Leftover)
      → handed left ≡ o → take (whole f) ≡ found (form v) (ahead left)
      → MatchOption o (result ≡ Ok v) (λ l. FailsWith (leftover_message l) result)
      → TakesAll form take f scope result
  value_takes_all v left result None h k m =
      rw m (k ∙ ap (found (form v)) (spent-in left.noted (leftover left.place)
      (erased_ahead left.place) (leftover-trees left.place) h))
  value_takes_all v left (Ok w) (Some l) h k m = absurd m
  value_takes_all v left (Err e) (Some l) h k m =
      left-refuses e (form v) (ahead left) (leftover_message l) m k (λ a.
      let other : Some l ≡ None = sym h ∙ handed-in left.noted (leftover left.place)
      (erased_ahead left.place) (leftover-trees left.place) a in
      absurd (cc))
      (left-at left.noted (leftover left.place) (first_tree_span (erased_ahead left.place)) l e h
      (ahead_tells left.place).leftovers m)

  pub finish_takes_all : (returned : Result T Fault) (left : State) (result : Result T Fault)
      → TakesAs form take (whole_stream f scope) returned left → Finishes returned left result
      → TakesAll form take f scope result
  finish_takes_all returned left result h k =
      grind (arith, value_takes_all, start-ahead, start-filled)

  pub memory-fails : (result : Result T Fault) → OnMemory result → TakesAll form take f scope result
  memory-fails result m = grind arith

-- two results of the same trees
module _ {T A : Type 0} (form : T → A) (take : Taking A) (f : Forest) (scope : Span) where
  pub results_agree : (g : Forest) (other : Span) → erase f ≡ erase g → (x y : Result T Fault)
      → TakesAll form take f scope x → TakesAll form take g other y → Agree form x y
  results_agree g other e x y h k = grind (arith, found_first)

  -- two errors of one leftover
  left-both : (d e : List Message) (trees : Forest) (unread : Option Span)
      → (record { trees = trees; unread = unread } ≡ all_taken → ⊥)
      → IfSome (option_or unread (first_tree_span trees)) (λ span. RefusesAt span (Refused d))
      → IfSome (option_or unread (first_tree_span trees)) (λ span. RefusesAt span (Refused e))
      → spans_of d ≡ spans_of e
  left-both d e trees unread m h k = grind arith

  says-both : (g : Forest) (other : Span) (o : Outcome A) (x y : Fault)
      → MemoryOr x ((z : A) → o ≡ found z all_taken → ⊥) → SaysAll f scope o x
      → SaysAll g other o y → ErrorsAgree {T = T} o (Err x) (Err y)
  says-both g other (found v a) (Refused d) (Refused e) none h k =
      left-both d e a.trees a.unread (λ q. none.0 v (ap (found v) q)) h k
  says-both g other (found v a) (Refused d) (Memory e) none h k = tt
  says-both g other (found v a) (Memory d) y none h k = tt
  says-both g other (missing m) (Refused d) (Refused e) none h k = grind arith
  says-both g other (missing m) (Refused d) (Memory e) none h k = tt
  says-both g other (missing m) (Memory d) y none h k = tt

  pub words_agree : (g : Forest) (other : Span) → erase f ≡ erase g → filled f ≡ true
      → filled g ≡ true
      → (x y : Result T Fault) → TakesAll form take f scope x → TakesAll form take g other y
      → ErrorsAgree (take (whole f)) x y
  words_agree g other e i j x y h k = grind (arith, says-both)
