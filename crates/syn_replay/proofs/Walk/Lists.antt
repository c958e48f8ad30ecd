-- A run of a list parser over tokens of one kind is what the walk says of it.
use Rattle.std.proofs.Common.{◌≡◌, ◌∙◌, sym, ap, refl, subst, ℕ, suc, ◌≤◌, Bool, true, false, ◌&&◌}
use Rattle.std.proofs.Common.{List, [], ◌∷◌, ◌++◌, map, Option, Some, None, Ok, Err, arith}
use Rattle.std.proofs.lemmas.Bool.{false≢true}
use Rattle.std.specs.Prelude.{Result, cond, nat_lt, is_some}
use Rattle.std.specs.Global.{Vec}
use Rattle.std.specs.List.{flat_map}
use Rattle.std.specs.Ordering.{is_lt, is_some_and, nat_cmp}
use Rattle.std.specs.declared.cmp.Ordering.{Ordering}
use Rattle.std.proofs.Math.Bool.{or-false}
use Rattle.tok_leaves.specs.declared.span.Span.{Span}
use Rattle.tok_core.specs.Forest.{Tree}
use Rattle.tok_buffer.specs.Messages as messages
use Rattle.tok_buffer.specs.Place.{Place}
use Rattle.tok_buffer.specs.Reads.{read_punctuation}
use Rattle.tok_buffer.specs.declared.error.Message.{Message}
use Rattle.tok_types.specs.Looks.{PeeksFor}
use Rattle.tok_types.specs.Texts.{punctuation_word}
use Rattle.tok_types.specs.declared.punctuation.Punctuation.{Punctuation}
use Rattle.syn_parse.specs.Faults.{IsMemory, Refuses}
use Rattle.syn_parse.specs.Parses.{AreSpans, PunctuationParses}
use Rattle.syn_parse.specs.Reads.{Call, ReadsAtOnce}
use Rattle.syn_parse.specs.State.{State, fresh, moved}
use Rattle.syn_parse.specs.ErrorWords.{punctuation_message}
use Rattle.syn_parse.specs.declared.fault.Fault.{Fault}
use Rattle.syn_parse.specs.declared.fault.Fault.TheVariants.{Refused, Memory}
use Rattle.syn_punctuated.specs.Lists.{values_of, separators_of}
use Rattle.syn_punctuated.specs.Paired.{paired}
use Rattle.syn_punctuated.specs.Progress.{progresses}
use Rattle.syn_punctuated.specs.Turns.{ValueCall, Turn, turn_value, turn_separator, Chain, IsTurn}
use Rattle.syn_punctuated.specs.Turns.{IsRun, Ending, at_end, bare, value_refused}
use Rattle.syn_punctuated.specs.Turns.{separator_refused, value_lost, turn_lost, stuck}
use Rattle.syn_punctuated.specs.Turns as runs
use Rattle.syn_punctuated.specs.declared.punctuated.Punctuated.{Punctuated}
use Rattle.syn_replay.specs.Commands as commands
use Rattle.syn_replay.specs.Commands.{listed_to}
use Rattle.syn_replay.specs.Reports as reports
use Rattle.syn_replay.specs.Kinds.{Kind, read, kind_missing}
use Rattle.syn_replay.specs.Session.Reading.{IsRead, ReadsPieces, GivesAnswer, LeavesAt, pair_parts}
use Rattle.syn_replay.specs.Session.Reading.{punct_pieces}
use Rattle.tok_buffer.specs.Messages.{first_message}
use Rattle.syn_replay.specs.Meanings.{pieces_in}
use Rattle.syn_replay.specs.Turns.{ListOutcome, read_all, refused_at, with_parts, is_later}
use Rattle.syn_replay.specs.Turns.{no_progress_at, pieces_of, separator_message, ListRule}
use Rattle.syn_replay.specs.Turns.{terminated, separated, is_over, turns, turns_left}
use Rattle.syn_replay.specs.declared.report.Answer.{Answer}
use Rattle.syn_replay.specs.declared.report.Answer.TheVariants as answer
use Rattle.syn_replay.specs.declared.report.Piece.{Piece}
use Rattle.syn_replay.proofs.Walk.Pieces.{punctuation-pieces}
use Rattle.syn_replay.proofs.Messages.{message_there, separator_there}
use Rattle.syn_replay.proofs.Views.EnoughTurns.{more_turns_change_nothing}
use Rattle.std.proofs.Common.{rules}

-- progress is to begin later
less_is : (c d : ℕ) → is_lt (nat_cmp c d) ≡ nat_lt c d
less_is c d = grind arith

in_one : (b a : Bool) (o : Ordering) (later : Bool) → is_lt o ≡ later
    → ((b && a) && is_some_and is_lt (cond b (Some o) None)) ≡ ((b && a) && later)
in_one a0 a1 a2 a3 a4 = grind arith

progress_is : (p q : Place) → progresses p q ≡ is_later p q
progress_is a0 a1 = grind (arith, or-false, in_one, less_is)

-- the same stream at another place
there : (s t : State) (p : Place) → t ≡ moved p s → t ≡ moved t.place s
there s t p e = rw e refl

along : (s m t : State) → m ≡ moved m.place s → t ≡ moved t.place m → t ≡ moved t.place s
along s m t e h = h ∙ ap (moved t.place) e

in_scope : (s t : State) → t ≡ moved t.place s → t.scope_span ≡ s.scope_span
in_scope s t e = ap (λ (u : State). u.scope_span) e

-- Calls of the value parser read tokens of this kind, as long as the parser is one that does.
module _ {F : Type 0} (k n : ℕ) (kind : Kind) (reads : ValueCall F (Vec Piece)) (Fits : F → Type 0)
    (tells : (f g : F) (s t : State) (r : Result (Vec Piece) Fault) → Fits f → reads f s r g t
    → ReadsPieces (read kind s.place) (kind_missing kind s) s r t × Fits g) where
  abbrev word : List ℕ
  word = punctuation_word k n

  abbrev separates : Call (Punctuation k n)
  separates = PunctuationParses (λ (p : Punctuation k n). p.spans) word word

  abbrev peeks : Place → Bool → Type 0
  peeks = PeeksFor (read_punctuation word)

  -- a separator that is read
  record IsSeparator (m t : State) (p : Punctuation k n) : Type 0 where
    trees : List Tree
    is : read_punctuation word m.place ≡ Some (trees, t.place)
    pieces : pieces_of trees ≡ punct_pieces word p.spans
    then : t ≡ moved t.place m

  separator : (m t : State) (p : Punctuation k n) → separates m (Ok p) t → IsSeparator m t p
  separator m t p h = go (read_punctuation word m.place) refl h where
    go : (x : Option (List Tree × Place)) → read_punctuation word m.place ≡ x
        → ReadsAtOnce (λ (v : Punctuation k n). AreSpans v.spans) x (punctuation_message word m) m
        (Ok p) t → IsSeparator m t p
    go None e h = absurd h
    go (Some r) e (spans, left) =
        let at : r.1 ≡ t.place = sym (ap (λ (u : State). u.place) left) in
        record {
          trees = r.0;
          is = rw (← at) e;
          pieces = punctuation-pieces word m.place r e ∙ ap (punct_pieces word) (sym spans);
          then = there m t r.1 left;
        }

  -- a separator that is refused
  record NoSeparator (m t : State) (e : Fault) : Type 0 where
    none : read_punctuation word m.place ≡ None
    refuses : Refuses (punctuation_message word m) e
    then : t ≡ m

  no_separator : (m t : State) (f : Fault) → separates m (Err f) t → NoSeparator m t f
  no_separator m t f h = go (read_punctuation word m.place) refl h where
    go : (x : Option (List Tree × Place)) → read_punctuation word m.place ≡ x
        → ReadsAtOnce (λ (v : Punctuation k n). AreSpans v.spans) x (punctuation_message word m) m
        (Err f) t → NoSeparator m t f
    go None e h = record { none = e; refuses = h.0; then = h.1 }
    go (Some r) e h = absurd h

  -- a value that is read
  record IsValue (s t : State) (v : Vec Piece) : Type 0 where
    trees : List Tree
    is : read kind s.place ≡ Some (trees, t.place)
    pieces : pieces_of trees ≡ pieces_in v
    then : t ≡ moved t.place s

  value : (f g : F) (s t : State) (v : Vec Piece) → Fits f → reads f s (Ok v) g t → IsValue s t v
  value f g s t v fit h = search (rules, there)

  abbrev T : Type 0
  T = Turn (Vec Piece) (Punctuation k n) F

  -- what the turns read
  abbrev parts_of : List T → List (List reports.Piece)
  parts_of [] = []
  parts_of (turn ∷ turns) = pieces_in turn.value ∷ (punct_pieces word
      turn.separator.spans ∷ parts_of turns)

  -- a number of turns that is enough for these and m more
  abbrev fuel : List T → ℕ → ℕ
  fuel [] m = m
  fuel (turn ∷ turns) m = suc (fuel turns m)

  enough : (turns : List T) (m : ℕ) → m ≤ fuel turns m
  enough [] m = omega arith
  enough (turn ∷ turns) m = omega (arith, enough turns m)

  paired_more : (more : List (Vec Piece))
      → flat_map (pair_parts {k = k} {n = n} word) (paired more []) ≡ map pieces_in more
  paired_more [] = refl
  paired_more (v ∷ more) = ap (λ z. pieces_in v ∷ z) (paired_more more)

  paired_parts : (turns : List T) (more : List (Vec Piece))
      → flat_map (pair_parts word) (paired (map turn_value turns ++ more)
      (map turn_separator turns)) ≡ parts_of turns ++ map pieces_in more
  paired_parts [] more = paired_more more
  paired_parts (turn ∷ turns) more = ap (λ z. pieces_in turn.value
      ∷ (punct_pieces word turn.separator.spans ∷ z)) (paired_parts turns more)

  two_more : (a b : List reports.Piece) (xs : List (List reports.Piece)) (o : ListOutcome)
      → with_parts (a ∷ (b ∷ [])) (with_parts xs o) ≡ with_parts (a ∷ (b ∷ xs)) o
  two_more a b xs o = grind arith

  no_parts : (o : ListOutcome) → o ≡ with_parts [] o
  no_parts o = grind arith

  -- what an error says of the outcome from where the run begins
  abbrev pub Fails : State → ListOutcome → Fault → State → Type 0
  Fails s o (Refused e) t = (w : Message) × (o ≡ refused_at w t.place)
      × (e ≡ messages.one_message w) × (t ≡ moved t.place s)
  Fails s o (Memory e) t = Unit {0}

  fails_with : (s : State) (o : ListOutcome) (f : Fault) (t : State) (w : Message) → Refuses w f
      → o ≡ refused_at w t.place → t ≡ moved t.place s → Fails s o f t
  fails_with s o (Refused e) t w h i j = (w, i, h, j)
  fails_with s o (Memory e) t w h i j = tt

  fails_lost : (s : State) (o : ListOutcome) (f : Fault) (t : State) → IsMemory f → Fails s o f t
  fails_lost s o (Refused e) t h = absurd h
  fails_lost s o (Memory e) t h = tt

  -- a value that is refused
  fails_at_value : (s : State) (o : ListOutcome) (f : Fault) (t : State) (w : Message)
      → ReadsPieces (read kind s.place) (kind_missing kind s) s (Err f) t
      → kind_missing kind s ≡ w → (read kind s.place ≡ None → o ≡ refused_at w s.place)
      → Fails s o f t
  fails_at_value s o (Refused e) t w (none, one, back) same i =
      rw back (w, i none, one ∙ ap messages.one_message same, refl)
  fails_at_value s o (Memory e) t w h same i = tt

  -- what an ending says of the outcome from where it begins
  abbrev Concludes : State → ListOutcome → List T
      → Result (Punctuated (Vec Piece) (Punctuation k n)) Fault → State → Type 0
  Concludes s o turns (Ok list) t =
      (more : List (Vec Piece)) × (values_of list ≡ map turn_value turns ++ more)
      × (separators_of list ≡ map turn_separator turns)
      × (o ≡ read_all (map pieces_in more) t.place) × (t ≡ moved t.place s)
  Concludes s o turns (Err f) t = Fails s o f t

  -- what a run says of the outcome from where it begins
  abbrev pub Told : State → ListOutcome → Result (Punctuated (Vec Piece) (Punctuation k n)) Fault
      → State → Type 0
  Told s o (Ok list) t = (o ≡ read_all (flat_map (pair_parts word)
      (paired (values_of list) (separators_of list))) t.place) × (t ≡ moved t.place s)
  Told s o (Err f) t = Fails s o f t

  run_told : (s m t : State) (whole rest : ListOutcome) (turns : List T)
      (r : Result (Punctuated (Vec Piece) (Punctuation k n)) Fault)
      → whole ≡ with_parts (parts_of turns) rest → m ≡ moved m.place s → Concludes m rest turns r t
      → Told s whole r t
  run_told s m t whole rest turns (Ok list) e h (more, values, separators, is, to) =
      let pairs = paired_parts turns more in (cc, along s m t h to)
  run_told s m t whole rest turns (Err (Refused f)) e h (w, is, one, to) =
      (w, e ∙ ap (with_parts (parts_of turns)) is, one, along s m t h to)
  run_told s m t whole rest turns (Err (Memory f)) e h c = tt

  -- the rule of the run that reads a list of this rule
  abbrev run_rule : ListRule → runs.Rule
  run_rule terminated = runs.terminated
  run_rule separated = runs.separated peeks

  nothing_there : {A : Type 0} (x : Option A) → false ≡ is_some x → x ≡ None
  nothing_there None e = refl
  nothing_there (Some a) e = absurd (false≢true e)

  begins : (rule : ListRule) (p : Place) → (run_rule rule).begins p → is_over rule p ≡ false
  begins terminated p h = h
  begins separated p h = refl

  ends : (rule : ListRule) (p : Place) → (run_rule rule).ends p → is_over rule p ≡ true
  ends terminated p h = h
  ends separated p h = absurd h

  goes_on : (rule : ListRule) (p : Place) → (run_rule rule).goes_on p → is_over rule p ≡ false
  goes_on terminated p h = h
  goes_on separated p h = refl

  module _ (scope : Span) where
    abbrev rounds : ListRule → ℕ → Place → ListOutcome
    rounds rule m p = turns kind word scope rule m p

    -- the list ends with a value
    last : (rule : ListRule) (m : ℕ) (p q : Place) (ts : List Tree) → is_over rule p ≡ false
        → read kind p ≡ Some (ts, q) → (run_rule rule).stops q
        → rounds rule (suc m) p ≡ read_all (pieces_of ts ∷ []) q
    last terminated m p q ts a b c = rw (a, b, c) refl
    last separated m p q ts a b c =
        let none = nothing_there (read_punctuation word q) c in rw (b, none) refl

    -- the separator of a value is refused
    without : (rule : ListRule) (m : ℕ) (p q : Place) (ts : List Tree) → is_over rule p ≡ false
        → read kind p ≡ Some (ts, q) → (run_rule rule).goes_on q → read_punctuation word q ≡ None
        → rounds rule (suc m) p ≡ refused_at (separator_message kind word scope q) q
    without terminated m p q ts a b c d = rw (a, b, c, d) refl
    without separated m p q ts a b c d = absurd (false≢true (ap is_some (sym d) ∙ sym c))

  module _ (rule : ListRule) (scope : Span) where
    -- a full turn, and the outcomes where none is full
    full : (m : ℕ) (p q r : Place) (ts us : List Tree) → is_over rule p ≡ false
        → read kind p ≡ Some (ts, q) → is_over rule q ≡ false
        → read_punctuation word q ≡ Some (us, r) → is_later p r ≡ true
        → rounds scope rule (suc m) p
        ≡ with_parts (pieces_of ts ∷ (pieces_of us ∷ [])) (rounds scope rule m r)
    full m p q r ts us a b c d e = rw (a, b, c, d, e) refl

    stuck_refuses : (m : ℕ) (p q r : Place) (ts us : List Tree) → is_over rule p ≡ false
        → read kind p ≡ Some (ts, q) → is_over rule q ≡ false
        → read_punctuation word q ≡ Some (us, r) → is_later p r ≡ false
        → rounds scope rule (suc m) p ≡ refused_at (no_progress_at r scope) r
    stuck_refuses m p q r ts us a b c d e = rw (a, b, c, d, e) refl

    none : (m : ℕ) (p : Place) → is_over rule p ≡ false → read kind p ≡ None
        → rounds scope rule (suc m) p ≡ refused_at (kind_missing kind (fresh p scope)) p
    none m p a b = rw (a, b) refl

    at_the_end : (m : ℕ) (p : Place) → is_over rule p ≡ true
        → rounds scope rule (suc m) p ≡ read_all [] p
    at_the_end m p a = rw a refl

    one_turn : (m : ℕ) (f : F) (s : State) (turn : T) → Fits f
        → IsTurn (run_rule rule) reads separates f s turn → is_later s.place turn.after.place ≡ true
        → (rounds scope rule (suc m) s.place ≡ with_parts
        (pieces_in turn.value ∷ (punct_pieces word turn.separator.spans ∷ []))
        (rounds scope rule m turn.after.place)) × (turn.after ≡ moved turn.after.place s)
    one_turn m f s turn fit i e = grind (arith, value, separator, full, begins, goes_on, along)

    chain_rounds : (m : ℕ) (turns : List T) (f g : F) (s t : State) → Fits f
        → Chain (run_rule rule) reads separates f s turns g t
        → (rounds scope rule (fuel turns m) s.place
        ≡ with_parts (parts_of turns) (rounds scope rule m t.place))
        × (t ≡ moved t.place s) × Fits g
    chain_rounds m [] f g s t fit c =
        rw (← c.0, ← c.1) (no_parts (rounds scope rule m s.place), refl, fit)
    chain_rounds m (turn ∷ turns) f g s t fit c =
        let next = (tells f turn.parser s turn.between (Ok turn.value) fit c.0.opens.1).1 in
        let one = one_turn (fuel turns m) f s turn fit c.0
        (sym (progress_is s.place turn.after.place) ∙ c.1) in
        let more = chain_rounds m turns turn.parser g turn.after t next c.2 in
        let joined =
        two_more (pieces_in turn.value) (punct_pieces word turn.separator.spans) (parts_of turns)
        (rounds scope rule m t.place) in
        (cc, along s turn.after t one.1 more.1, more.2)

    ending_concludes : (m : ℕ) (turns : List T) (f : F) (s t : State)
        (r : Result (Punctuated (Vec Piece) (Punctuation k n)) Fault) → Fits f
        → s.scope_span ≡ scope
        → Ending (run_rule rule) reads separates f s turns r t
        → Concludes s (rounds scope rule (suc m) s.place) turns r t
    ending_concludes m turns f s t (Ok list) fit e (at_end i q h) =
        rw q ([], h.0, h.1, at_the_end m s.place (ends rule s.place i), refl)
    ending_concludes m turns f s t (Err x) fit e (at_end i q h) = absurd h
    ending_concludes m turns f s t (Ok list) fit e (bare v g b i h) =
        let w = value f g s t v fit b.1 in
        let is = last scope rule m s.place t.place w.trees (begins rule s.place b.0) w.is i in
        (v ∷ [], h.0, h.1, cc, w.then)
    ending_concludes m turns f s t (Err x) fit e (bare v g b i h) = absurd h
    ending_concludes m turns f s t r fit e (value_refused x g b q) =
        rw q (fails_at_value s _ x t (kind_missing kind (fresh s.place scope))
        (tells f g s t (Err x) fit b.1).0
        (message_there kind s ∙ ap (λ z. kind_missing kind (fresh s.place z)) e)
        (none m s.place (begins rule s.place b.0)))
    ending_concludes m turns f s t r fit e (separator_refused v g u x b i h q) =
        let w = value f g s u v fit b.1 in
        let p = no_separator u t x h in
        let is =
        without scope rule m s.place u.place w.trees (begins rule s.place b.0) w.is i p.none in
        let same = in_scope s u w.then in
        let there = separator_there word u in
        rw (q, p.then)
        (fails_with s _ x u (punctuation_message word u) p.refuses (cc) w.then)
    ending_concludes m turns f s t r fit e (value_lost v g x b i h q) = rw q (fails_lost s _ x t h)
    ending_concludes m turns f s t r fit e (turn_lost turn x i q h j) = rw j (fails_lost s _ x t h)
    ending_concludes m turns f s t r fit e (stuck turn x i q u h j) =
        let v = value f turn.parser s turn.between turn.value fit i.opens.1 in
        let p = separator turn.between turn.after turn.separator i.closes in
        let to : t ≡ moved t.place s = rw q (along s turn.between turn.after v.then p.then) in
        let place : t.place ≡ turn.after.place = ap (λ (z : State). z.place) q in
        let same = in_scope s t to in
        let late : is_later s.place turn.after.place ≡ false =
        sym (progress_is s.place turn.after.place) ∙ ap (progresses s.place) (sym place) ∙ u.0 in
        let is =
        stuck_refuses m s.place turn.between.place turn.after.place v.trees p.trees
        (begins rule s.place i.opens.0) v.is (goes_on rule turn.between.place i.goes_on) p.is late
        in
        rw j (fails_with s _ x t (runs.no_progress t) h (cc) to)

  list-told : (rule : ListRule) (f : F) (s t : State)
      (r : Result (Punctuated (Vec Piece) (Punctuation k n)) Fault) → Fits f
      → IsRun (run_rule rule) reads separates f s r t
      → Told s (turns kind word s.scope_span rule (turns_left s.place) s.place) r t
  list-told rule f s t r fit run =
      let m = turns_left s.place in
      let c =
      chain_rounds rule s.scope_span (suc m) run.turns f run.parser s run.last fit run.chain in
      let large : m ≤ fuel run.turns (suc m) = omega (arith, enough run.turns (suc m)) in
      run_told s run.last t _ _ run.turns r (sym (more_turns_change_nothing kind word s.scope_span
      rule (fuel run.turns (suc m)) s.place large) ∙ c.0) c.1
      (ending_concludes rule s.scope_span m run.turns run.parser run.last t r c.2
      (in_scope s run.last c.1) run.ending)

  -- what a run says of the command that reads a list
  told-answer : (s t : State) (o : ListOutcome) (list : Punctuated (Vec Piece) (Punctuation k n))
      (ps : Vec (Vec Piece)) → Told s o (Ok list) t
      → map pieces_in ps.items ≡ flat_map (pair_parts word)
      (paired (values_of list) (separators_of list))
      → GivesAnswer (listed_to o).0 (Ok (answer.List ps))
      × LeavesAt (Ok (answer.List ps)) t (moved (listed_to o).1 s)
  told-answer s t o list ps (is, to) e = rw is ((ap reports.list e, tt), to)

  told-error : (s t : State) (o : ListOutcome) (f : Fault) → Told s o (Err f) t
      → GivesAnswer (listed_to o).0 (Err f) × LeavesAt (Err f) t (moved (listed_to o).1 s)
  told-error s t o (Refused e) (w, is, one, to) =
      let same : first_message e ≡ w = ap first_message one in
      rw is ((ap reports.refused same, one ∙ ap messages.one_message (sym same)), to)
  told-error s t o (Memory e) h = (tt, tt)

  module _ (rule : ListRule) (text : List ℕ) (is : text ≡ word) where
    pub list-read : (f : F) (s t : State) (list : Punctuated (Vec Piece) (Punctuation k n))
        (ps : Vec (Vec Piece)) → Fits f → IsRun (run_rule rule) reads separates f s (Ok list) t
        → map pieces_in ps.items ≡ flat_map (pair_parts text)
        (paired (values_of list) (separators_of list))
        → IsRead (commands.list rule kind text) s (Ok (answer.List ps)) t
    list-read f s t list ps fit run =
        rw is (told-answer s t _ list ps (list-told rule f s t (Ok list) fit run))

    pub list-refused : (f : F) (s t : State) (e : Fault) (r : Result Answer Fault) → Fits f
        → IsRun (run_rule rule) reads separates f s (Err e) t → r ≡ Err e
        → IsRead (commands.list rule kind text) s r t
    list-refused f s t e r fit run q =
        rw q (subst (λ z. IsRead (commands.list rule kind z) s (Err e) t) (sym is)
        (told-error s t _ e (list-told rule f s t (Err e) fit run)))
