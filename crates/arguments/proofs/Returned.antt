-- What is returned has been taken, whatever invisible groups there are.
use Rattle.std.proofs.Common.{◌≡◌, sym, subst, arith, ℕ, ◌<◌, true, false, not}
use Rattle.std.proofs.Common.{List, [], ◌∷◌, ◌++◌, map, Ok, Err, inl, inr, append-nil}
use Rattle.std.proofs.lemmas.List.{map-append}
use Rattle.std.specs.Prelude.{IfOk, Result}
use Rattle.tok_buffer.specs.Place.{is_at_end}
use Rattle.tok_buffer.specs.View.{erased_ahead}
use Rattle.tok_core.specs.Filled.{has_trees}
use Rattle.tok_core.specs.Forest.{Forest, no_trees}
use Rattle.tok_core.specs.Weight.{weight}
use Rattle.tok_leaves.specs.declared.span.Span.{Span}
use Rattle.syn_parse.proofs.Failing.{stays_along, stays_here}
use Rattle.syn_parse.proofs.Finished.{finish_takes_all}
use Rattle.syn_parse.specs.Lighter.{lowers_token}
use Rattle.syn_parse.specs.Parsers.{ParsesWhole, whole_stream}
use Rattle.syn_parse.specs.Progress.{PunctuationTypeParses}
use Rattle.syn_parse.specs.Reads.{Call}
use Rattle.syn_parse.specs.State.{State}
use Rattle.syn_parse.specs.Takes.{IsAll, Stays, TakesAs, Taking, found}
use Rattle.syn_parse.specs.Takings.{Lowers}
use Rattle.syn_parse.specs.TokenNames.{Comma, take}
use Rattle.syn_parse.specs.TreesAhead.{Ahead, ahead}
use Rattle.syn_parse.specs.declared.fault.Fault.{Fault}
use Rattle.syn_punctuated.proofs.ListShapes.{Turns, bare as last, done, takes_list, turn as one}
use Rattle.syn_punctuated.specs.Lists.{separators_of, values_of}
use Rattle.syn_punctuated.proofs.ListTakes.{signs}
use Rattle.syn_punctuated.specs.TakeLists as lists
use Rattle.syn_punctuated.specs.TakeLists.{Separates, is_left, take_terminated}
use Rattle.syn_punctuated.specs.Turns.{Chain, Ending, IsRun, Turn, ValueCall, at_end, bare, stuck}
use Rattle.syn_punctuated.specs.Turns.{separator_refused, terminated, turn_lost, turn_separator}
use Rattle.syn_punctuated.specs.Turns.{turn_value, value_lost, value_refused}
use Rattle.syn_punctuated.specs.declared.punctuated.Punctuated.{Punctuated}
use Rattle.arguments.specs.Forms.{argument_form, list_form}
use Rattle.arguments.specs.Reading.{TakesIfOk, lowers_argument, take_argument, take_arguments}
use Rattle.arguments.specs.Values.{Arguments}
use Rattle.arguments.specs.declared.argument.Argument.{Argument}

-- something is left where less can follow
pub left_before : (n : ℕ) (f : Forest) → n < weight f → not (not (has_trees f)) ≡ true
left_before n f l = grind arith

none_left : (f : Forest) → f ≡ no_trees → not (not (has_trees f)) ≡ false
none_left f e = grind arith

-- A list that is returned, up to the end. Its values each take something.
module _ {T P F A S : Type 0} (reads : ValueCall F T) (separates : Call P) (form : T → A)
    (value : Taking A) (low : Lowers value) (shape : P → S) (sign : Taking S)
    (lower : Lowers sign)
    (each : (f g : F) (s t : State) (r : Result T Fault) → reads f s r g t
    → TakesIfOk form value s r t)
    (signs : (s t : State) (r : Result P Fault) → separates s r t → TakesAs shape sign s r t)
  where
    begun : (a b : Ahead) (v : A) → value a ≡ found v b → is_left a ≡ true
    begun a b v e = left_before _ a.trees (low.less a b v e)

    abbrev Are : Ahead → List A → List S → Ahead → Type 0
    Are = Turns is_left is_left value sign

    abbrev values : List (Turn T P F) → List A
    values turns = map form (map turn_value turns)

    abbrev separators : List (Turn T P F) → List S
    separators turns = map shape (map turn_separator turns)

    chain_taken : (turns : List (Turn T P F)) (f g : F) (s t : State) (vs : List A) (ps : List S)
        (d : Ahead) → Chain terminated reads separates f s turns g t → Are (ahead t) vs ps d
        → Are (ahead s) (values turns ++ vs) (separators turns ++ ps) d × Stays s t
    chain_taken [] f g s t vs ps d c h = (
      subst (λ (u : State). Are (ahead u) vs ps d) (sym c.1) h,
      subst (Stays s) c.1 (stays_here s),
    )
    chain_taken (x ∷ turns) f g s t vs ps d c h =
        let v = each f x.parser s x.between (Ok x.value) c.0.opens.1 in
        let p = signs x.between x.after (Ok x.separator) c.0.closes in
        let more = chain_taken turns x.parser g x.after t vs ps d c.2 h in
        let less = lower.less (ahead x.between) (ahead x.after) (shape x.separator) p.0 in (
          one (ahead s) (ahead x.between) (ahead x.after) d (form x.value) (shape x.separator)
              (values turns ++ vs) (separators turns ++ ps)
              (begun (ahead s) (ahead x.between) (form x.value) v.0) v.0
              (left_before _ (ahead x.between).trees less) p.0 more.0,
          stays_along s x.between t v.1 (stays_along x.between x.after t p.1 more.1),
        )

    as_list : (turns : List (Turn T P F)) (more : List T) (list : Punctuated T P)
        → values_of list ≡ map turn_value turns ++ more
        → separators_of list ≡ map turn_separator turns
        → lists.list_form form shape list ≡ (values turns ++ map form more, separators turns ++ [])
    as_list turns more list h k = grind (arith, map-append, append-nil)

    module _ (f : F) (s t : State) (list : Punctuated T P)
        (ends : is_at_end t.place ≡ true → erased_ahead t.place ≡ no_trees) where
      as_taken : (turns : List (Turn T P F)) (more : List T) → Are (ahead s) (values turns
          ++ map form more) (separators turns ++ []) (ahead t)
          → values_of list ≡ map turn_value turns ++ more
          → separators_of list ≡ map turn_separator turns
          → take_terminated value sign (ahead s) ≡ found (lists.list_form form shape list) (ahead t)
      as_taken turns more h i j = grind (arith, takes_list, as_list)

      ending_taken : (turns : List (Turn T P F)) (g : F) (u : State)
          → Chain terminated reads separates f s turns g u
          → Ending terminated reads separates g u turns (Ok list) t
          → TakesAs (lists.list_form form shape) (take_terminated value sign) s (Ok list) t
      ending_taken turns g u c (at_end q e h) =
          let here = done (ahead t) (none_left (ahead t).trees
          (ends (subst (λ (x : State). is_at_end x.place ≡ true) (sym e) q))) in
          let all = chain_taken turns f g s t [] [] (ahead t)
          (subst (Chain terminated reads separates f s turns g) (sym e) c) here in
          (as_taken turns [] all.0 h.0 h.1, all.1)
      ending_taken turns g u c (bare v k b q h) =
          let w = each g k u t (Ok v) b.1 in
          let end = last (ahead u) (ahead t) (form v) (begun (ahead u) (ahead t) (form v) w.0) w.0
          (none_left (ahead t).trees (ends q)) in
          let all = chain_taken turns f g s u (form v ∷ []) [] (ahead t) c end in
          (as_taken turns (v ∷ []) all.0 h.0 h.1, stays_along s u t all.1 w.1)
      ending_taken turns g u c (value_refused e k b q) = absurd (cc)
      ending_taken turns g u c (separator_refused v k m e b q p h) = absurd (cc)
      ending_taken turns g u c (value_lost v k e b q p h) = absurd (cc)
      ending_taken turns g u c (turn_lost x e i q p h) = absurd (cc)
      ending_taken turns g u c (stuck x e i q n w h) = absurd (cc)

    pub list_returned : (f : F) (s t : State) (r : Result (Punctuated T P) Fault)
        → (is_at_end t.place ≡ true → erased_ahead t.place ≡ no_trees)
        → IsRun terminated reads separates f s r t
        → TakesIfOk (lists.list_form form shape) (take_terminated value sign) s r t
    list_returned f s t (Ok list) ends run =
        ending_taken f s t list ends run.turns run.parser run.last run.chain run.ending
    list_returned f s t (Err e) ends run = tt

-- a whole stream: all is taken
pub whole_returned : {T A : Type 0} (form : T → A) (take : Taking A) (f : Forest) (scope : Span)
    (calls : Call T)
    → ((s t : State) (r : Result T Fault) → calls s r t → TakesIfOk form take s r t)
    → (result : Result T Fault) → ParsesWhole calls (whole_stream f scope) result
    → IfOk result (λ v. IsAll take f (form v))
whole_returned form take f scope calls each (Ok v) (inl (Ok w, left, run, ends)) =
    finish_takes_all form take f scope (Ok w) left (Ok v) (each _ left (Ok w) run) ends
whole_returned form take f scope calls each (Ok v) (inl (Err e, left, run, ends)) = absurd (cc)
whole_returned form take f scope calls each (Ok v) (inr m) = absurd m
whole_returned form take f scope calls each (Err e) h = tt

pub arguments_returned : {F : Type 0} {reads : ValueCall F Argument} {f : F} {s t : State}
    {r : Result Arguments Fault}
    → ((f g : F) (s t : State) (r : Result Argument Fault) → reads f s r g t
    → TakesIfOk argument_form take_argument s r t)
    → (is_at_end t.place ≡ true → erased_ahead t.place ≡ no_trees)
    → IsRun terminated reads (Separates (PunctuationTypeParses 7 1) (signs 7 1)) f s r t
    → TakesIfOk list_form take_arguments s r t
arguments_returned {reads = reads} {f = f} {s = s} {t = t} {r = r} each ends run =
    list_returned reads (Separates (PunctuationTypeParses 7 1) (signs 7 1)) argument_form
    take_argument lowers_argument (λ p. p) (take Comma) (lowers_token _) each
    (λ s t r k. k.1) f s t r ends run
