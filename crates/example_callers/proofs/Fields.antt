-- Fields, part by part.
use Rattle.std.proofs.Common.{◌≡◌, ◌∙◌, ap, sym, subst, inl, inr, ℕ, arith}
use Rattle.std.proofs.Common.{true, List, [], ◌∷◌, ◌++◌, Some, None, Ok, Err}
use Rattle.std.specs.Prelude.{codes}
use Rattle.tok_leaves.specs.declared.ident.Ident.{Ident}
use Rattle.tok_core.specs.Forest.{Tree, leaf}
use Rattle.tok_leaves.specs.Leaves.{ident_of}
use Rattle.tok_buffer.specs.declared.error.Error.{Error}
use Rattle.tok_buffer.specs.Descent.{descend}
use Rattle.tok_buffer.specs.Order.{same_scope}
use Rattle.tok_buffer.specs.Place.{Place}
use Rattle.tok_buffer.specs.Progress.{ReadsKeepScope}
use Rattle.tok_buffer.specs.Reads.{read_then, is_punct_of}
use Rattle.tok_buffer.specs.declared.error.Message.{Message}
use Rattle.tok_types.specs.declared.punctuation.Punctuation.{Punctuation}
use Rattle.tok_types.specs.Texts.{accept_as_ident}
use Rattle.syn_parse.specs.declared.fault.Fault.{Fault}
use Rattle.syn_parse.specs.declared.fault.Fault.TheVariants.{Refused}
use Rattle.syn_parse.specs.Faults.{IsMemory, Refuses}
use Rattle.syn_parse.specs.Parses.{AreSpans, IdentParses, IsIdent}
use Rattle.syn_parse.specs.Progress.{PunctuationTypeParses}
use Rattle.syn_parse.specs.Reads.{TreesRead}
use Rattle.syn_parse.specs.State.{State, moved}
use Rattle.syn_parse.specs.ErrorWords.{punctuation_message}
use Rattle.syn_parse.proofs.Reading.{reads-value, reads-memory}
use Rattle.syn_parse.specs.TokenNames.{Colon, Token}
use Rattle.example_callers.specs.declared.streams.Field.{Field}
use Rattle.example_callers.specs.Fields.{FieldParses, IsField}
use Rattle.example_callers.specs.Fields.{field_message, name_message, read_colon}
use Rattle.example_callers.specs.Fields.{read_field, read_name}
use Rattle.example_callers.proofs.Parts.{HasRead, Leads, not_at_once, one_taken, then_leads, then_none}
use Rattle.example_callers.proofs.Parts.{then_read, was_at_once, was_read, was_refused}

abbrev AreSpansOf : (k : ℕ) → Punctuation k 1 → List Tree → Type 0
AreSpansOf k p = AreSpans p.spans

-- the name and the colon of a field
abbrev read_start : Place → TreesRead
read_start p = read_then (read_name p) read_colon

-- where a field leads, from where its name and its colon do
field_leads :
    (R : Place → Place → Type 0) → ((p q r : Place) → R p q → R q r → R p r) →
    ((p : Place) → Leads R p (read_name p)) → ((p : Place) → Leads R p (read_colon p)) →
    (s t : State) (x : Field) → FieldParses s (Ok x) t → R s.place t.place
field_leads R trans names colons s t x h =
    let p = s.place in
    let w = was_read IsField (field_message s) s t (read_field p) x h in
    let start = then_leads R trans p (read_name p) read_colon (names p) colons in
    let field = then_leads R trans p (read_start p) read_name start names in
    rw w.3 (field w.0.0 w.0.1 w.1)

pub field_keeps_scope :
    ReadsKeepScope → (s t : State) (x : Field) → FieldParses s (Ok x) t →
    same_scope s.place t.place ≡ true
field_keeps_scope on =
    field_leads (λ p q. same_scope p q ≡ true) on.along (on.calls.leaves.words accept_as_ident)
    (on.calls.leaves.punctuations (codes ":"))

module _ (s : State) where
  -- the error of a field, by what is read of its name, and then of its colon
  abbrev colon_message : State → TreesRead → Message
  colon_message t x =
      elim x [
        | None ↦ punctuation_message (codes ":") t
        | Some colon ↦ name_message (moved colon.1 s)
      ]

  abbrev message_by : TreesRead → Message
  message_by x =
      elim x [
        | None ↦ name_message s
        | Some name ↦ colon_message (moved name.1 s) (read_colon name.1)
      ]

  is_refused :
      (words : Message) (f : Fault) (t : State) → read_field s.place ≡ None →
      field_message s ≡ words → Refuses words f → FieldParses s (Err f) t
  is_refused words f t missing e r = grind arith

  is_memory : (f : Fault) (t : State) → IsMemory f → FieldParses s (Err f) t
  is_memory f t m = reads-memory IsField (field_message s) s (read_field s.place) f m

  pub without_name :
      (f : Fault) (t : State) → IdentParses s (Err f) t → FieldParses s (Err f) t
  without_name f t h =
      elim (was_refused IsIdent (name_message s) s t (read_name s.place) f h) [
        | inl m ↦ is_memory f t m
        | inr r ↦
            is_refused (name_message s) f t
            (ap (λ x. read_then (read_then x read_colon) read_name) r.0) (ap message_by r.0) r.1
      ]

  pub without_colon :
      (t u : State) (name : Ident) (f : Fault) → IdentParses s (Ok name) t →
      PunctuationTypeParses 6 1 t (Err f) u → FieldParses s (Err f) u
  without_colon t u name f h k = grind (arith, was_read, not_at_once, is_refused, then_none)

  pub not_next :
      (e : Error) (t : State) → FieldParses s (Err (Refused e)) t → read_field s.place ≡ None
  not_next e t h = grind (arith, was_refused)

  -- a field of which the name and the colon were read
  module _
      (t u : State) (name : Ident) (colon : Token Colon)
      (h : IdentParses s (Ok name) t) (j : PunctuationTypeParses 6 1 t (Ok colon) u) where
    first : HasRead IsIdent (name_message s) s t (read_name s.place) name
    first = grind (arith, was_read)

    abbrev missing_colon : Message
    missing_colon = punctuation_message (codes ":") t

    second : HasRead (AreSpansOf 6) missing_colon t u (read_colon t.place) colon
    second = grind (arith, was_at_once)

    colon_read : read_colon first.0.1 ≡ Some second.0
    colon_read = grind (arith, first, second)

    abbrev start : List Tree × Place
    start = (first.0.0 ++ second.0.0, second.0.1)

    start_read : read_start s.place ≡ Some start
    start_read = grind (arith, then_read, first, second, colon_read)

    stream : u ≡ moved second.0.1 s
    stream = grind (arith, first, second)

    kind_read : (x : TreesRead) → read_name u.place ≡ x → read_name start.1 ≡ x
    kind_read x e = grind (arith, stream)

    pub without_kind :
        (f : Fault) (w : State) → IdentParses u (Err f) w → FieldParses s (Err f) w
    without_kind f w k =
        grind (
          arith,
          was_refused,
          is_memory,
          is_refused,
          then_none,
          start_read,
          kind_read,
          first,
          colon_read,
          stream,
        )

    pub field_read :
        (w : State) (kind : Ident) → IdentParses u (Ok kind) w →
        FieldParses s (Ok (record { name = name; kind = kind })) w
    field_read w kind k =
        let n = leaf (ident_of name) in
        let third = was_read IsIdent (name_message u) u w (read_name u.place) kind k in
        let read =
        then_read (read_start s.place) read_name start start_read third.0
        (kind_read (Some third.0) third.1) in
        let one = one_taken (is_punct_of 58) (descend first.0.1) second.0.1 second.0.0 colon_read in
        let trees : start.0 ++ third.0.0 ≡ n ∷ one.0 ∷ leaf (ident_of kind) ∷ [] =
        ap (λ ts. (ts ++ second.0.0) ++ third.0.0) first.2
        ∙ ap (λ ts. ((n ∷ []) ++ ts) ++ third.0.0) one.1
        ∙ ap (λ ts. n ∷ one.0 ∷ ts) third.2 in
        subst (FieldParses s (Ok (record { name = name; kind = kind })))
        (sym (third.3 ∙ ap (moved third.0.1) stream))
        (reads-value IsField (field_message s) s (read_field s.place) _ _ third.0.1 read
        (one.0, trees))
