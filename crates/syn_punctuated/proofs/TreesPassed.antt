-- The trees that a run of a list parser passes.
use Rattle.std.proofs.Common.{arith}
use Rattle.std.proofs.Common.{◌≡◌, ◌∙◌, inl, sym, ap, refl, ℕ, Bool, true}
use Rattle.std.proofs.Common.{List, [], ◌∷◌, ◌++◌, map, append_assoc, Option, Some, None, Ok, Err}
use Rattle.std.specs.Prelude.{IfSome}
use Rattle.std.proofs.lemmas.Bool.{and_parts}
use Rattle.tok_leaves.specs.declared.ident.Ident.{Ident}
use Rattle.tok_leaves.specs.declared.punct.Spacing.{Spacing}
use Rattle.tok_core.specs.Forest.{tree_span, Tree, leaf, group}
use Rattle.tok_leaves.specs.declared.punct.Spacing.TheVariants.{Joint}
use Rattle.tok_leaves.specs.Leaves.{ident, punct, literal}
use Rattle.tok_buffer.specs.Descent.{descend}
use Rattle.tok_buffer.specs.Place.{Place, is_at_end}
use Rattle.tok_buffer.specs.Reads.{read_then, is_joint_of, is_punct_of, read_punctuation, read_word}
use Rattle.tok_buffer.specs.Reads as reads
use Rattle.tok_buffer.specs.declared.error.Message.{Message}
use Rattle.tok_types.specs.Texts.{accept_as_ident, punctuation_word}
use Rattle.tok_types.specs.declared.punctuation.Punctuation.{Punctuation}
use Rattle.syn_parse.specs.Parses.{AreSpans, IdentParses, IsIdent, PunctuationParses}
use Rattle.syn_parse.specs.Reads.{Call, Reads, ReadsAtOnce}
use Rattle.syn_parse.specs.State.{State}
use Rattle.syn_parse.specs.ErrorWords.{punctuation_message}
use Rattle.syn_punctuated.specs.Lists.{values_of, separators_of}
use Rattle.syn_punctuated.specs.Trees.{AreTreesOf, IsOneOf, ListsHaveTheirTrees, Passes, PassesList}
use Rattle.syn_punctuated.specs.Trees.{StatesTrees, ident_sources, punctuation_sources}
use Rattle.syn_punctuated.specs.Trees.{puncts_ending, trees_ahead}
use Rattle.syn_punctuated.specs.Turns.{Rule, ValueCall, Turn, turn_value, turn_separator, separated}
use Rattle.syn_punctuated.specs.Turns.{terminated, Chain, Ending, at_end, bare}
use Rattle.syn_punctuated.specs.Turns.{value_refused, separator_refused, value_lost, turn_lost}
use Rattle.syn_punctuated.specs.Turns.{stuck}
use Rattle.syn_punctuated.specs.declared.punctuated.Punctuated.{Punctuated}
use Rattle.tok_buffer.proofs.View.Readings.{of_word, of_punctuation}
use Rattle.syn_punctuated.proofs.Taken.{reading_takes}

ok_is_no_err : {A B : Type 0} (v : A) (e : B) → Ok v ≡ Err e → ⊥
ok_is_no_err {A} {B} v e q = grind arith

module _ {T P : Type 0} (sources : T → List (List Tree)) (between : P → List (List Tree))
    (values : Call T) (separators : Call P) where
  abbrev value_reads : ValueCall (Unit {0}) T
  value_reads f s r g t = values s r t

  abbrev TheTurn : Type 0
  TheTurn = Turn T P (Unit {0})

  module _ (rule : Rule) (told : StatesTrees values sources)
      (parts : StatesTrees separators between) where
    along : (a b c d : List Tree) (us vs more : List Tree) → a ≡ us ++ b → b ≡ vs ++ c
        → c ≡ more ++ d → a ≡ (us ++ (vs ++ more)) ++ d
    along a b c d us vs more h k i =
        h ∙ (ap (λ z. us ++ z) (k ∙ (ap (λ z. vs ++ z) i ∙ sym (append_assoc vs more d)))
        ∙ sym (append_assoc us (vs ++ more) d))

    follow : (turns : List TheTurn) (f g : Unit {0}) (s m t : State) (more : List T)
        (us : List Tree) → Chain rule value_reads separators f s turns g m
        → AreTreesOf sources between more [] us → Passes us m t
        → (ts : List Tree) × AreTreesOf sources between (map turn_value turns ++ more)
        (map turn_separator turns) ts × Passes ts s t
    follow [] f g s m t more us c h k = (us, h, ap (λ (z : State). trees_ahead z.place) c.1 ∙ k)
    follow (turn ∷ turns) f g s m t more us c h k =
        let v = told s turn.between turn.value c.0.opens.1 in
        let p = parts turn.between turn.after turn.separator c.0.closes in
        let rest = follow turns turn.parser g turn.after m t more us c.2 h k in (
          v.0 ++ (p.0 ++ rest.0),
          (v.0, p.0, rest.0, refl, v.1, p.1, rest.1),
          along (trees_ahead s.place) (trees_ahead turn.between.place)
              (trees_ahead turn.after.place) (trees_ahead t.place) v.0 p.0 rest.0 v.2 p.2 rest.2,
        )

    list_passes : (turns : List TheTurn) (more : List T) (list : Punctuated T P) (s t : State)
        → values_of list ≡ map turn_value turns ++ more
        → separators_of list ≡ map turn_separator turns
        → (ts : List Tree) × AreTreesOf sources between (map turn_value turns ++ more)
        (map turn_separator turns) ts × Passes ts s t → PassesList sources between list s t
    list_passes turns more list s t v w h = (h.0, rw (v, w) h.1, h.2)

    run_passes : (turns : List TheTurn) (f g : Unit {0}) (s m t : State) (list : Punctuated T P)
        → Chain rule value_reads separators f s turns g m
        → Ending rule value_reads separators g m turns (Ok list) t
        → PassesList sources between list s t
    run_passes turns f g s m t list c (at_end i q h) =
        list_passes turns [] list s t h.0 h.1 (follow turns f g s m t [] [] c (refl, refl)
        (ap (λ (z : State). trees_ahead z.place) (sym q)))
    run_passes turns f g s m t list c (bare v k b i h) = let w =
        told m t v b.1 in list_passes turns (v ∷ []) list s t h.0 h.1
        (follow turns f g s m t (v ∷ []) w.0 c (refl, w.1) w.2)
    run_passes turns f g s m t list c (value_refused e k b q) = absurd (ok_is_no_err list e q)
    run_passes turns f g s m t list c (separator_refused v k u e b i h q) =
        absurd (ok_is_no_err list e q)
    run_passes turns f g s m t list c (value_lost v k e b i h q) = absurd (ok_is_no_err list e q)
    run_passes turns f g s m t list c (turn_lost turn e i q h j) = absurd (ok_is_no_err list e j)
    run_passes turns f g s m t list c (stuck turn e i q u h j) = absurd (ok_is_no_err list e j)

  ends_at_end : (turns : List TheTurn) (g : Unit {0}) (m t : State) (list : Punctuated T P)
      → Ending terminated value_reads separators g m turns (Ok list) t → is_at_end t.place ≡ true
  ends_at_end turns g m t list h = grind (arith, ok_is_no_err)

  pub lists_have_their_trees : (peeks : Place → Bool → Type 0)
      → ListsHaveTheirTrees sources between values separators peeks
  lists_have_their_trees peeks told parts s t list = (
    λ run. (
      run_passes terminated told parts run.turns tt run.parser s run.last t list run.chain
          run.ending,
      ends_at_end run.turns run.parser run.last t list run.ending,
    ),
    λ run. run_passes (separated peeks) told parts run.turns tt run.parser s run.last t list
        run.chain run.ending,
  )

-- identifiers
ident_read : (words : Message) (s t : State) (i : Ident) (x : Option (List Tree × Place))
    → IfSome x (λ r. trees_ahead s.place ≡ r.0 ++ trees_ahead r.1)
    → Reads IsIdent x words s (Ok i) t → (ts : List Tree) × IsOneOf (ident_sources i) ts
    × Passes ts s t
ident_read words s t i None h k = absurd k
ident_read words s t i (Some r) h k =
    (r.0, inl k.0, h ∙ ap (λ (z : State). r.0 ++ trees_ahead z.place) (sym k.1))

pub idents_state_trees : StatesTrees IdentParses ident_sources
idents_state_trees s t i h = ident_read _ s t i (read_word accept_as_ident s.place)
    (reading_takes (of_word accept_as_ident) s.place) h

-- punctuations
-- the one tree that is taken
abbrev IsTaken : (Tree → Type 0) → Option (List Tree × Place) → Type 0
IsTaken Wanted r = IfSome r (λ x. (t : Tree) × Wanted t × (x.0 ≡ t ∷ []))

wanted_is_taken : (wanted : Tree → Bool) (Wanted : Tree → Type 0)
    → ((t : Tree) → wanted t ≡ true → Wanted t)
    → (p : Place) → IsTaken Wanted (reads.read_if wanted p)
wanted_is_taken wanted Wanted is p = grind arith

-- a punct of a character, alone or joint
abbrev IsPunctOf : ℕ → Tree → Type 0
IsPunctOf c t = (last : Spacing) × (t ≡ leaf (punct c last (tree_span t)))

abbrev IsJointOf : ℕ → Tree → Type 0
IsJointOf c t = t ≡ leaf (punct c Joint (tree_span t))

of_single : (c : ℕ) (t : Tree) → is_punct_of c t ≡ true → IsPunctOf c t
of_single c (leaf (punct k spacing span)) h = grind (arith, and_parts)
of_single c (leaf (ident text span)) h = cc
of_single c (leaf (literal text span)) h = cc
of_single c (group d inside span) h = cc

of_joint : (c : ℕ) (t : Tree) → is_joint_of c t ≡ true → IsJointOf c t
of_joint c t h = grind (arith, and_parts)

-- the puncts of a text
abbrev Ends : List ℕ → List Tree → Type 0
Ends text ts = (last : Spacing) × (ts ≡ puncts_ending last text (map tree_span ts))

abbrev Spells : List ℕ → Option (List Tree × Place) → Type 0
Spells text r = IfSome r (λ x. Ends text x.0)

one_spelled : (c : ℕ) (r : Option (List Tree × Place)) → IsTaken (IsPunctOf c) r → Spells (c ∷ []) r
one_spelled c r h = grind arith

more_spelled : (c d : ℕ) (cs : List ℕ) (t : Tree) (ts us whole : List Tree) → IsJointOf c t
    → ts ≡ t ∷ [] → Ends (d ∷ cs) us → whole ≡ ts ++ us → Ends (c ∷ (d ∷ cs)) whole
more_spelled c d cs t ts us whole j e h w = grind arith

then_spelled : (c d : ℕ) (cs : List ℕ) (x : Option (List Tree × Place))
    (g : Place → Option (List Tree × Place)) → IsTaken (IsJointOf c) x
    → ((q : Place) → Spells (d ∷ cs) (g q)) → Spells (c ∷ (d ∷ cs)) (read_then x g)
then_spelled c d cs x g h k = grind (arith, more_spelled)

text_spelled : (text : List ℕ) (p : Place) → Spells text (read_punctuation text p)
text_spelled [] p = tt
text_spelled (c ∷ []) p = grind (arith, one_spelled, wanted_is_taken, of_single)
text_spelled (c ∷ (d ∷ cs)) p = then_spelled c d cs (reads.read_if (is_joint_of c) (descend p))
    (read_punctuation (d ∷ cs))
    (wanted_is_taken (is_joint_of c) (IsJointOf c) (of_joint c) (descend p))
    (text_spelled (d ∷ cs))

module _ (k n : ℕ) where
  is_source : (p : Punctuation k n) (ts : List Tree) → AreSpans p.spans ts
      → Ends (punctuation_word k n) ts → IsOneOf (punctuation_sources p) ts
  is_source p ts a e = grind arith

  punctuation_read : (s t : State) (p : Punctuation k n) (x : Option (List Tree × Place))
      → IfSome x (λ r. trees_ahead s.place ≡ r.0 ++ trees_ahead r.1)
      → Spells (punctuation_word k n) x
      → ReadsAtOnce (λ (v : Punctuation k n). AreSpans v.spans) x
      (punctuation_message (punctuation_word k n) s) s (Ok p) t → (ts : List Tree)
      × IsOneOf (punctuation_sources p) ts × Passes ts s t
  punctuation_read s t p None h w r = absurd r
  punctuation_read s t p (Some x) h w r =
      (x.0, is_source p x.0 r.0 w, h ∙ ap (λ (z : State). x.0 ++ trees_ahead z.place) (sym r.1))

  pub punctuations_state_trees : StatesTrees
      (PunctuationParses (λ (p : Punctuation k n). p.spans) (punctuation_word k n)
      (punctuation_word k n)) punctuation_sources
  punctuations_state_trees s t p h = punctuation_read s t p (read_punctuation (punctuation_word k n)
      s.place) (reading_takes (of_punctuation (punctuation_word k n)) s.place)
      (text_spelled (punctuation_word k n) s.place) h
