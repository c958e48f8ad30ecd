-- Nested lists of names, entry by entry.
use Rattle.std.proofs.Common.{◌≡◌, ◌∙◌, ◌+◌, ℕ, ap, subst, refl, inl, inr, arith, true, false}
use Rattle.std.proofs.Common.{Option, Some, None, Ok, Err}
use Rattle.std.specs.Borrow.{MutBor}
use Rattle.std.specs.Fn.{FnOnceReturnsAtMut, Once}
use Rattle.std.specs.Prelude.{Result}
use Rattle.tok_lexical.specs.declared.delimiter.Delimiter.TheVariants.{Parenthesis}
use Rattle.tok_leaves.specs.declared.ident.Ident.{Ident}
use Rattle.tok_leaves.specs.declared.span.DelimSpan.{DelimSpan}
use Rattle.tok_buffer.specs.Entry.{Entered, enter}
use Rattle.tok_buffer.specs.Place.{is_at_end}
use Rattle.tok_buffer.specs.declared.error.Message.{Message}
use Rattle.syn_parse.specs.declared.fault.Fault.{Fault}
use Rattle.syn_parse.specs.Groups.{RunsWithin, SpanWith}
use Rattle.syn_parse.specs.Parses.{IdentParses, IsIdent}
use Rattle.syn_parse.specs.Reads.{Call}
use Rattle.syn_parse.specs.State.{State, after_group, closed, content_of}
use Rattle.syn_parse.specs.ErrorWords.{delimiter_words, refused_at}
use Rattle.example_callers.specs.Fields.{name_message, read_name}
use Rattle.example_callers.specs.Nested.{AreEntries, CountsEntries, CountsEntry, EntriesRefused}
use Rattle.example_callers.specs.Nested.{capped, here, later, list, name, neither, none, one_more, within}
use Rattle.example_callers.proofs.Parts.{was_read}

-- what is read at `there` goes on from this many names, which were read from `start` to there
pub record GoesOn (start there : State) (n : ℕ) : Type 0 where
  pub more : (m : ℕ) (end : State) → AreEntries there m end → AreEntries start (n + m) end
  pub refused : (words : Message) → EntriesRefused there words → EntriesRefused start words

-- the same of a count that a `u64` holds
abbrev pub CountsOn : (start there : State) → ℕ → Type 0
CountsOn start there count = (n : ℕ) × (count ≡ capped n) × GoesOn start there n

module _ (start there : State) (count : ℕ) (g : CountsOn start there count) where
  pub entries_end : is_at_end there.place ≡ true → CountsEntries start (Ok count) there
  entries_end h = (
    g.0 + 0,
    g.2.more 0 there (none there h),
    g.1 ∙ ap capped (omega arith),
  )

  module _ (more : is_at_end there.place ≡ false) where
    pub entry_refused :
        (f : Fault) (t : State) → CountsEntry there (Err f) t → CountsEntries start (Err f) t
    entry_refused f t h = grind (arith, here)

    pub entry_on :
        (k : ℕ) (t : State) → CountsEntry there (Ok k) t → CountsOn start t (capped (count + k))
    entry_on k t h = (
      g.0 + h.0,
      omega (arith, g.1, h.2),
      record {
        more = λ m end rest. subst (λ z. AreEntries start z end) (omega arith)
            (g.2.more (h.0 + m) end (one_more there t end h.0 m more h.1 rest));
        refused = λ words rest. g.2.refused words (later there t h.0 words more h.1 rest);
      },
    )

pub one_name :
    (s t : State) (i : Ident) → IdentParses s (Ok i) t → CountsEntry s (Ok 1) t
one_name s t i h =
    let r = was_read IsIdent (name_message s) s t (read_name s.place) i h in
    (1, rw r.3 (name s r.0.1 r.0.0 r.1), refl)

abbrev Mut : Type 0
Mut = MutBor State × Unit {0}

-- after a call of `within`, whose function counts entries
module _
    {F : Type 0} (call : Once F Mut (Result ℕ Fault × Mut)) (f : F)
    (are : (a : MutBor State) (r : Result ℕ Fault) (b : MutBor State) →
    call.post f (a, tt) (r, (b, tt)) → CountsEntries a.now r b.now) where
  abbrev calls : Call ℕ
  calls = FnOnceReturnsAtMut call f

  call_counts : (a : State) (r : Result ℕ Fault) (b : State) → calls a r b → CountsEntries a r b
  call_counts a r b c = grind arith

  module _ (s t : State) (no_name : read_name s.place ≡ None) where
    abbrev message : Message
    message = refused_at s (delimiter_words Parenthesis)

    abbrev Ran : Option Entered → Result (DelimSpan × ℕ) Fault → Type 0
    Ran x result = RunsWithin calls x message s result t

    pub one_list :
        (span : DelimSpan) (count : ℕ) → Ran (enter Parenthesis s.place) (Ok (span, count)) →
        CountsEntry s (Ok count) t
    one_list span count ran = by (enter Parenthesis s.place) refl ran
      where
        inside :
            (e : Entered) → enter Parenthesis s.place ≡ Some e → (a : Result ℕ Fault)
            (end : State) → CountsEntries (content_of e) a end →
            SpanWith e.span a (Ok (span, count)) → t ≡ closed end (after_group e s) →
            CountsEntry s (Ok count) t
        inside e i (Err g) end c same is = absurd same
        inside e i (Ok k) end c same is = (
          c.0,
          rw is (list s end e c.0 no_name i c.1),
          same.1 ∙ c.2,
        )

        by :
            (x : Option Entered) → enter Parenthesis s.place ≡ x → Ran x (Ok (span, count)) →
            CountsEntry s (Ok count) t
        by None i r = absurd r.0
        by (Some e) i r = inside e i r.0 r.1 (call_counts _ _ _ r.2) r.3 r.4

    pub no_list :
        (g : Fault) → Ran (enter Parenthesis s.place) (Err g) → CountsEntry s (Err g) t
    no_list g ran = by (enter Parenthesis s.place) refl ran
      where
        inside :
            (e : Entered) → enter Parenthesis s.place ≡ Some e → (a : Result ℕ Fault)
            (end : State) → CountsEntries (content_of e) a end →
            SpanWith {R = ℕ} e.span a (Err g) → CountsEntry s (Err g) t
        inside e i (Ok k) end c same = absurd same
        inside e i (Err h) end c same =
            elim (rw (← same) at c) [
              | inl m ↦ inl m
              | inr m ↦ inr (m.0, within s e m.0 no_name i m.1, m.2)
            ]

        by :
            (x : Option Entered) → enter Parenthesis s.place ≡ x → Ran x (Err g) →
            CountsEntry s (Err g) t
        by None i r = inr (message, neither s no_name i, r.0)
        by (Some e) i r = inside e i r.0 r.1 (call_counts _ _ _ r.2) r.3
