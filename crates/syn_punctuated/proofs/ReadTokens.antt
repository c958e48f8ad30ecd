-- Identifiers and punctuations are read back.
use Rattle.std.proofs.Common.{◌≡◌, ◌∙◌, sym, ap, refl, ℕ, zero, suc, ◌+◌, ◌<◌, arith, List, [], ◌∷◌}
use Rattle.std.proofs.Common.{map, length, get_or, Bool, true, false, ◌&&◌}
use Rattle.std.proofs.Common.{Option, Some, None, Ok, Err, subst}
use Rattle.std.proofs.lemmas.Bool.{and_parts, cond-true, cond_both}
use Rattle.std.specs.Prelude.{Result, MatchOption, not, ◌==◌}
use Rattle.std.specs.List.{All, list_all}
use Rattle.tok_leaves.specs.declared.ident.Ident.{Ident}
use Rattle.tok_leaves.specs.declared.punct.Spacing.TheVariants.{Joint}
use Rattle.tok_leaves.specs.declared.span.Span.{Span}
use Rattle.tok_leaves.specs.Leaves.{punct, ident_of}
use Rattle.tok_core.specs.Forest.{Tree, leaf, Forest, no_trees, tree, forest, concat, tree_span}
use Rattle.tok_lexical.specs.Ascii.{apostrophe}
use Rattle.tok_lexical.specs.Characters.{is_punct_or_apostrophe}
use Rattle.tok_leaves.specs.Spans.{call_site}
use Rattle.tok_buffer.specs.Ahead.{Leftover}
use Rattle.tok_core.specs.Weight.{weight}
use Rattle.tok_buffer.specs.Place.{Enclosing, whole, is_at_end}
use Rattle.tok_buffer.specs.Reads.{read_then, read_punctuation, read_ident}
use Rattle.tok_buffer.specs.declared.error.Message.{Message}
use Rattle.tok_types.specs.Printed.{joint_puncts, puncts}
use Rattle.tok_types.specs.Texts.{punctuations, punctuation_text, punctuation_word}
use Rattle.tok_types.specs.declared.punctuation.Punctuation.{Punctuation}
use Rattle.syn_parse.specs.Parses.{IsIdent, AreSpans, IdentParses, PunctuationParses}
use Rattle.syn_parse.specs.Reads.{Reads, ReadsAtOnce}
use Rattle.syn_parse.specs.Faults.{IsMemory}
use Rattle.syn_parse.specs.Parsers.{whole_stream}
use Rattle.syn_parse.specs.State.{State, handed}
use Rattle.syn_parse.specs.ErrorWords.{refused_at, ident_words, punctuation_message}
use Rattle.syn_parse.specs.declared.fault.Fault.{Fault}
use Rattle.syn_punctuated.specs.Lists.{values_of, separators_of}
use Rattle.syn_punctuated.specs.Printed.{by_turns}
use Rattle.syn_punctuated.specs.ReadBack.{flat, ReadsAs, IsReadBack, ReadsList, IsAccepted}
use Rattle.syn_punctuated.specs.ReadBack.{IsInTable}
use Rattle.syn_punctuated.specs.Turns.{terminated, IsPlainRun}
use Rattle.syn_punctuated.specs.declared.punctuated.Punctuated.{Punctuated}
use Rattle.syn_punctuated.proofs.ReadBack.{list_by_turns, lists_are_read_back}

abbrev ident_printed : Ident → Forest
ident_printed i = tree (leaf (ident_of i)) no_trees

first_ident : Ident → List Tree → Ident
first_ident i h = grind arith

abbrev no_ident : State → Message
no_ident from = refused_at from (ident_words (read_ident from.place))

ident_reads : (i : Ident) (o : Enclosing) (n s c : ℕ) (p f : Forest) (from to : State)
    (r : Result Ident Fault)
    → Reads IsIdent (Some (
      leaf (ident_of i) ∷ [],
      flat o n s (c + 1) (tree (leaf (ident_of i)) p)
          f,
    )) (no_ident from) from r to
    → ReadsAs IdentParses ident_printed i o n s c f from r to
unfolding first_ident
ident_reads i o n s c p f from to r h = grind (arith, first_ident)

pub ident_read_back : (i : Ident) → IsAccepted i → IsReadBack IdentParses ident_printed i
ident_read_back i accepted = grind (arith, ident_reads, cond-true)

-- a character that is written as a punct, and read as one
abbrev is_plain : ℕ → Bool
is_plain c = is_punct_or_apostrophe c && not (c == apostrophe)

plain_at : (texts : List (List ℕ)) (k : ℕ) → list_all (list_all is_plain) texts ≡ true
    → list_all is_plain (get_or texts k []) ≡ true
plain_at [] k h = refl
plain_at (text ∷ texts) zero h = (and_parts (list_all is_plain text) _ h).0
plain_at (text ∷ texts) (suc k) h = plain_at texts k (and_parts (list_all is_plain text) _ h).1

plain_word : (k n : ℕ) → list_all is_plain (punctuation_word k n) ≡ true
plain_word k n = cond_both (length (punctuation_text k) == n) (punctuation_text k) []
    (λ text. list_all is_plain text ≡ true) (λ _. plain_at punctuations k refl) (λ _. refl)

long_word : (k n : ℕ) → 0 < length (punctuation_word k n) → length (punctuation_word k n) ≡ n
long_word k n = grind (arith, cond_both)

puncts_all : (text : List ℕ) → list_all is_plain text ≡ true
    → list_all is_punct_or_apostrophe text ≡ true
puncts_all [] h = refl
puncts_all (c ∷ cs) h = let p = and_parts (is_plain c) _ h in rw (
  (and_parts
      (is_punct_or_apostrophe c) _ p.0).0,
  puncts_all cs p.1,
) refl

-- written as one punct each
puncts_are_joint : (text : List ℕ) (spans : List Span) → length text ≡ length spans
    → list_all is_plain text ≡ true → puncts text spans ≡ forest (joint_puncts text spans)
puncts_are_joint text spans l h = grind (arith, puncts_all)

spans_of_puncts : (text : List ℕ) (spans : List Span) → length text ≡ length spans
    → map tree_span (joint_puncts text spans) ≡ spans
spans_of_puncts [] [] l = refl
spans_of_puncts [] (s ∷ ss) l = absurd (omega (arith, l))
spans_of_puncts (c ∷ []) [] l = absurd (omega (arith, l))
spans_of_puncts (c ∷ []) (s ∷ []) l = refl
spans_of_puncts (c ∷ []) (s ∷ (t ∷ ss)) l = absurd (omega (arith, l))
spans_of_puncts (c ∷ (d ∷ cs)) [] l = absurd (omega (arith, l))
spans_of_puncts (c ∷ (d ∷ cs)) (s ∷ ss) l =
    ap (λ xs. s ∷ xs) (spans_of_puncts (d ∷ cs) ss (omega (arith, l)))

some_puncts : (text : List ℕ) (spans : List Span) (o : Enclosing) (n s c : ℕ) (p f : Forest)
    → 0 < length text → length text ≡ length spans
    → is_at_end (flat o n s c p (concat (forest (joint_puncts text spans)) f)) ≡ false
some_puncts [] spans o n s c p f some l = absurd (omega (arith, some))
some_puncts (x ∷ []) [] o n s c p f some l = absurd (omega (arith, l))
some_puncts (x ∷ []) (t ∷ ts) o n s c p f some l = refl
some_puncts (x ∷ (y ∷ xs)) [] o n s c p f some l = absurd (omega (arith, l))
some_puncts (x ∷ (y ∷ xs)) (t ∷ ts) o n s c p f some l = refl

is_itself : (x : ℕ) → is_plain x ≡ true → (x == x && not (x == apostrophe)) ≡ true
is_itself x h = grind (arith, and_parts)

-- the puncts of a text that stand in front are read
read_puncts : (text : List ℕ) (spans : List Span) (o : Enclosing) (n s c : ℕ) (p f : Forest)
    → 0 < length text → length text ≡ length spans → list_all is_plain text ≡ true
    → (d : ℕ) × (q : Forest) × (c < d) × (read_punctuation text
    (flat o n s c p (concat (forest (joint_puncts text spans)) f)) ≡ Some
    (joint_puncts text spans, flat o n s d q f))
read_puncts [] spans o n s c p f some l h = absurd (omega (arith, some))
read_puncts (x ∷ []) [] o n s c p f some l h = absurd (omega (arith, l))
read_puncts (x ∷ []) (t ∷ []) o n s c p f some l h =
    (c + 1, _, omega arith, cond-true _ _ None (is_itself x (and_parts (is_plain x) true h).0))
read_puncts (x ∷ []) (t ∷ (u ∷ ts)) o n s c p f some l h = absurd (omega (arith, l))
read_puncts (x ∷ (y ∷ xs)) [] o n s c p f some l h = absurd (omega (arith, l))
read_puncts (x ∷ (y ∷ xs)) (t ∷ ts) o n s c p f some l h =
    let both = and_parts (is_plain x) (list_all is_plain (y ∷ xs)) h in
    let here : Tree = leaf (punct x Joint t) in
    let more = read_puncts (y ∷ xs) ts o n s (c + 1) (tree here p) f (omega arith)
    (omega (arith, l)) both.1 in (
      more.0,
      more.1,
      omega (arith, more.2),
      ap (λ found. read_then found (read_punctuation (y ∷ xs)))
          (cond-true _ (Some (
            here ∷ [],
            flat o n s (c + 1) (tree here p)
                (concat (forest (joint_puncts (y ∷ xs) ts)) f),
          )) None (is_itself x both.0))
          ∙ ap (λ found. elim found [ Some q ↦ Some (here ∷ q.0, q.1) | None ↦ None ]) more.3,
    )

abbrev punctuation_printed : (k n : ℕ) → Punctuation k n → Forest
punctuation_printed k n p = puncts (punctuation_word k n) p.spans

abbrev spans_in : (k n : ℕ) → Punctuation k n → List Span
spans_in k n p = p.spans

module _ (k n : ℕ) (y : Punctuation k n) (some : IsInTable k n) (l : length y.spans ≡ n) where
  abbrev text : List ℕ
  text = punctuation_word k n

  abbrev Means : Punctuation k n → List Tree → Type 0
  Means v = AreSpans v.spans

  long : length text ≡ length y.spans
  long = long_word k n some ∙ sym l

  as_puncts : punctuation_printed k n y ≡ forest (joint_puncts text y.spans)
  as_puncts = puncts_are_joint text y.spans long (plain_word k n)

  punctuation_reads : (o : Enclosing) (m s c d : ℕ) (f q : Forest) (from to : State)
      (r : Result (Punctuation k n) Fault) → c < d
      → ReadsAtOnce Means (Some (joint_puncts text y.spans, flat o m s d q f))
      (punctuation_message text from) from r to
      → ReadsAs (PunctuationParses (spans_in k n) text text) (punctuation_printed k n) y o m s c f
      from r to
  punctuation_reads o m s c d f q from to r e h = grind (arith, spans_of_puncts, long)

  pub punctuation_read_back : IsReadBack
      (PunctuationParses (spans_in k n) (punctuation_word k n) (punctuation_word k n))
      (punctuation_printed k n) y
  punctuation_read_back = record {
    some = λ o m s c p f. ap (λ g. is_at_end (flat o m s c p (concat g f))) as_puncts
        ∙ some_puncts text y.spans o m s c p f some long;
    reads = λ o m s c p f from to r e h.
        let w = read_puncts text y.spans o m s c p f some long (plain_word k n) in
        let place : from.place ≡ flat o m s c p (concat (forest (joint_puncts text y.spans)) f) = e
        ∙ ap (λ g. flat o m s c p (concat g f)) as_puncts in
        punctuation_reads o m s c w.0 f w.1 from to r w.2
        (subst (λ x. ReadsAtOnce Means x (punctuation_message text from) from r to)
        (ap (read_punctuation text) place ∙ w.3) h);
  }

-- a list that was written is read again, and nothing is left
module _ (k n : ℕ) (list : Punctuated Ident (Punctuation k n))
    (accepted : All IsAccepted (values_of list)) (some : IsInTable k n)
    (long : All (λ (y : Punctuation k n). length y.spans ≡ n) (separators_of list)) where
  abbrev written_list : Forest
  written_list = by_turns ident_printed (punctuation_printed k n) (values_of list)
      (separators_of list)

  abbrev Again : Result (Punctuated Ident (Punctuation k n)) Fault → State → Type 0
  Again (Ok new) to = (values_of new ≡ values_of list) × (separators_of new ≡ separators_of list)
      × (handed to ≡ None)
  Again (Err e) to = IsMemory e

  again_by : (from to : State) (r : Result (Punctuated Ident (Punctuation k n)) Fault)
      → from ≡ whole_stream written_list call_site
      → ReadsList IdentParses ident_printed
      (PunctuationParses (spans_in k n) (punctuation_word k n) (punctuation_word k n))
      (punctuation_printed k n) (values_of list) (separators_of list) whole 0 (weight written_list)
      from r to → Again r to
  again_by from to r e h = grind arith

  pub read_again : (from to : State) (r : Result (Punctuated Ident (Punctuation k n)) Fault)
      → from ≡ whole_stream written_list call_site
      → IsPlainRun terminated IdentParses
      (PunctuationParses (spans_in k n) (punctuation_word k n) (punctuation_word k n)) from r to
      → Again r to
  read_again from to r e run =
      again_by from to r e (lists_are_read_back IdentParses ident_printed
      (PunctuationParses (spans_in k n) (punctuation_word k n) (punctuation_word k n))
      (punctuation_printed k n) (values_of list) (separators_of list) (list_by_turns list)
      (λ i d l. ident_read_back _ (accepted i d l))
      (λ i d l. punctuation_read_back k n _ some (long i d l))
      whole 0 (weight written_list) 0 no_trees from to r (ap (λ (state : State). state.place) e)
      run)

-- a stream with nothing to hand up is not refused when it is finished
pub not_refused : (x : Option Leftover) (f : Fault) (Refused : Leftover → Type 0) → x ≡ None
    → MatchOption x (Err f ≡ Ok (tt {0})) Refused → ⊥
not_refused x f Refused e h = grind arith
