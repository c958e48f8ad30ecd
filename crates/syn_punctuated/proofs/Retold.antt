-- A run is one too where less is said of its rule, its values and its separators, and where the
-- state of the value parser is seen otherwise.
use Rattle.std.proofs.Common.{arith}
use Rattle.std.proofs.Common.{◌≡◌, ap, refl, List, [], ◌∷◌, map, Ok, Err}
use Rattle.std.specs.Prelude.{Bool, Option, Result}
use Rattle.tok_core.specs.Forest.{Forest}
use Rattle.tok_buffer.specs.Place.{Place}
use Rattle.tok_types.specs.Sees.{Sees}
use Rattle.syn_parse.specs.Reads.{Call}
use Rattle.syn_parse.specs.State.{State}
use Rattle.syn_parse.specs.declared.fault.Fault.{Fault}
use Rattle.syn_punctuated.specs.Turns.{Rule, ValueCall, Turn, turn_value, turn_separator, Chain}
use Rattle.syn_punctuated.specs.Turns.{Holds, IsTurn, IsRun, Ending, at_end, bare, value_refused}
use Rattle.syn_punctuated.specs.Turns.{separated, separator_refused, value_lost, turn_lost, stuck}
use Rattle.syn_punctuated.specs.declared.punctuated.Punctuated.{Punctuated}

-- a rule that says less
pub record Says (rule less : Rule) : Type 0 where
  pub begins : (p : Place) → rule.begins p → less.begins p
  pub ends : (p : Place) → rule.ends p → less.ends p
  pub goes_on : (p : Place) → rule.goes_on p → less.goes_on p
  pub stops : (p : Place) → rule.stops p → less.stops p

pub same_rule : (rule : Rule) → Says rule rule
same_rule rule = grind arith

-- what a peek sees is left out
pub only_peeks : (peeks : Place → Bool → Type 0) (sees : Option (Forest → Bool))
    → Says (separated (λ p found. peeks p found × Sees sees p found)) (separated peeks)
only_peeks peeks sees = grind arith

module _ {T P F G : Type 0} (rule less : Rule) (says : Says rule less) (reads : ValueCall F T)
    (tells : ValueCall G T) (separates signs : Call P) (seen : F → G)
    (retold : (f g : F) (s t : State) (r : Result T Fault) → reads f s r g t
    → tells (seen f) s r (seen g) t)
    (signed : (s t : State) (r : Result P Fault) → separates s r t → signs s r t) where
  abbrev turn_seen : Turn T P F → Turn T P G
  turn_seen turn = record {
    value = turn.value;
    between = turn.between;
    parser = seen turn.parser;
    separator = turn.separator;
    after = turn.after;
  }

  values_seen : (turns : List (Turn T P F))
      → map turn_value turns ≡ map turn_value (map turn_seen turns)
  values_seen [] = refl
  values_seen (turn ∷ turns) = ap (λ xs. turn.value ∷ xs) (values_seen turns)

  separators_seen : (turns : List (Turn T P F))
      → map turn_separator turns ≡ map turn_separator (map turn_seen turns)
  separators_seen [] = refl
  separators_seen (turn ∷ turns) = ap (λ xs. turn.separator ∷ xs) (separators_seen turns)

  is_turn_seen : (f : F) (s : State) (turn : Turn T P F) → IsTurn rule reads separates f s turn
      → IsTurn less tells signs (seen f) s (turn_seen turn)
  is_turn_seen f s turn i = grind arith

  chain_seen : (turns : List (Turn T P F)) (f g : F) (s t : State)
      → Chain rule reads separates f s turns g t
      → Chain less tells signs (seen f) s (map turn_seen turns) (seen g) t
  chain_seen [] f g s t c = (ap seen c.0, c.1)
  chain_seen (turn ∷ turns) f g s t c =
      (is_turn_seen f s turn c.0, c.1, chain_seen turns turn.parser g turn.after t c.2)

  holds_seen : (turns : List (Turn T P F)) (more : List T) (r : Result (Punctuated T P) Fault)
      → Holds turns more r → Holds (map turn_seen turns) more r
  holds_seen turns more r h = grind (arith, values_seen, separators_seen)

  ending_seen : (turns : List (Turn T P F)) (f : F) (s t : State)
      (r : Result (Punctuated T P) Fault) → Ending rule reads separates f s turns r t
      → Ending less tells signs (seen f) s (map turn_seen turns) r t
  ending_seen turns f s t r (at_end i q h) =
      at_end (says.ends s.place i) q (holds_seen turns [] r h)
  ending_seen turns f s t r (bare v g i q h) =
      bare v (seen g) (says.begins s.place i.0, retold f g s t (Ok v) i.1) (says.stops t.place q)
      (holds_seen turns (v ∷ []) r h)
  ending_seen turns f s t r (value_refused e g i q) =
      value_refused e (seen g) (says.begins s.place i.0, retold f g s t (Err e) i.1) q
  ending_seen turns f s t r (separator_refused v g m e i q p h) =
      separator_refused v (seen g) m e (says.begins s.place i.0, retold f g s m (Ok v) i.1)
      (says.goes_on m.place q) (signed m t (Err e) p) h
  ending_seen turns f s t r (value_lost v g e i q p h) =
      value_lost v (seen g) e (says.begins s.place i.0, retold f g s t (Ok v) i.1)
      (says.stops t.place q) p h
  ending_seen turns f s t r (turn_lost turn e i q p h) =
      turn_lost (turn_seen turn) e (is_turn_seen f s turn i) q p h
  ending_seen turns f s t r (stuck turn e i q p n h) =
      stuck (turn_seen turn) e (is_turn_seen f s turn i) q p n h

  pub run_seen : (f : F) (s t : State) (r : Result (Punctuated T P) Fault)
      → IsRun rule reads separates f s r t → IsRun less tells signs (seen f) s r t
  run_seen f s t r i = record {
    turns = map turn_seen i.turns;
    parser = seen i.parser;
    last = i.last;
    chain = chain_seen i.turns f i.parser s i.last i.chain;
    ending = ending_seen i.turns i.parser i.last t r i.ending;
  }
