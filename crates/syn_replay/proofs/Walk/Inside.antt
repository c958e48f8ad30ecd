-- Which streams are inside another.
use Rattle.std.proofs.Common.{◌≡◌, ◌∙◌, sym, ap, ℕ, ◌+◌, ◌-◌, ◌<◌, Bool, false}
use Rattle.std.proofs.Common.{List, get_or, length, Option, Some, None, arith}
use Rattle.std.proofs.lemmas.Bool.{ne_eqb}
use Rattle.std.specs.Prelude.{◌==◌, ◌||◌}
use Rattle.syn_replay.specs.Session.State.{AllStreams, content_of, kind_at, is_entered_within}
use Rattle.syn_replay.specs.Session.State.{is_inside}
use Rattle.syn_replay.specs.Session.Links.{AreListed}
use Rattle.syn_replay.specs.Session.Stream.{stream_kind, state_of_list}
use Rattle.syn_replay.specs.declared.session.stream.Stream.{Stream}
use Rattle.syn_replay.proofs.Walk.Links.{parent_below}
use Rattle.syn_replay.proofs.Walk.Streams.{stream_there, length-state}

-- one parent up
pub within_parent : (depth : ℕ) (st : AllStreams) (outer p : ℕ) → 0 < depth
    → is_entered_within depth st outer (content_of p)
    ≡ ((p == outer) || is_entered_within (depth - 1) st outer (kind_at st p))
within_parent a0 a1 a2 a3 a4 = grind arith

-- a fork is inside none, nor is the outermost stream
any_fork : (depth : ℕ) (st : AllStreams) (outer : ℕ) (f : Bool) (o : Option ℕ)
    → is_entered_within depth st outer (stream_kind f o)
    ≡ is_entered_within depth st outer (stream_kind false o)
any_fork depth st outer f o = grind arith

-- the parents that are left decide
pub record LeftToLook (xs : List Stream) (outer : ℕ) (next : Option ℕ) (all : Bool) : Type 0 where
  pub depth : ℕ
  pub enough : (p : ℕ) → next ≡ Some p → p < depth
  pub within : (p : ℕ) → next ≡ Some p → p < length xs
  pub rest : is_entered_within depth (state_of_list xs) outer (stream_kind false next) ≡ all

module _ (xs : List Stream) (outer : ℕ) (linked : AreListed xs) where
  kind_there : (i : ℕ) (x : Stream) → x ≡ get_or xs i x → i < length xs → (depth : ℕ)
      → is_entered_within depth (state_of_list xs) outer (stream_kind false x.parent)
      ≡ is_entered_within depth (state_of_list xs) outer (kind_at (state_of_list xs) i)
  kind_there i x e h depth = grind (arith, any_fork, stream_there)

  pub look_first : (i : ℕ) (x : Stream) → x ≡ get_or xs i x → i < length xs
      → LeftToLook xs outer x.parent (is_inside (state_of_list xs) outer i)
  look_first i x e h =
      let below : (p : ℕ) → x.parent ≡ Some p → p < length xs =
      λ p q. let b = parent_below xs i p x linked e h q in omega (arith, b, h) in
      record {
        depth = length (state_of_list xs);
        enough = λ p q. let b = below p q in omega (arith, b, length-state xs);
        within = below;
        rest = kind_there i x e h (length (state_of_list xs));
      }

  module _ (next : Option ℕ) (all : Bool) (left : LeftToLook xs outer next all) where
    pub look_on : (p : ℕ) (x : Stream) → next ≡ Some p → (p ≡ outer → ⊥) → x ≡ get_or xs p x
        → LeftToLook xs outer x.parent all
    look_on p x is other e =
        let st = state_of_list xs in
        let h = left.within p is in
        let b = left.enough p is in
        let below : (q : ℕ) → x.parent ≡ Some q → q < p =
        λ q f. parent_below xs p q x linked e h f in
        record {
          depth = left.depth - 1;
          enough = λ q f. let a = below q f in omega (arith, a, b);
          within = λ q f. let a = below q f in omega (arith, a, h);
          rest = kind_there p x e h (left.depth - 1)
              ∙ ap (λ z. z || is_entered_within (left.depth - 1) st outer (kind_at st p))
              (sym (ne_eqb p outer other))
              ∙ sym (within_parent left.depth st outer p (omega (arith, b)))
              ∙ ap (λ z. is_entered_within left.depth st outer (stream_kind false z)) (sym is)
              ∙ left.rest;
        }

-- how many numbers are not above a parent's
abbrev pub above : Option ℕ → ℕ
above None = 0
above (Some p) = p + 1

fall : (i : ℕ) (o : Option ℕ) → ((p : ℕ) → o ≡ Some p → p < i) → above o < i + 1
fall i o h = grind arith

pub falls : (xs : List Stream) (i : ℕ) (x : Stream) → AreListed xs → x ≡ get_or xs i x
    → i < length xs → (o : Option ℕ) → o ≡ Some i → above x.parent < above o
falls xs i x linked e h o is = grind (arith, fall, parent_below)
