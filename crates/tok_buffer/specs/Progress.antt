-- What moves of a cursor keep, and a measure that they lower.
use Rattle.std.specs.Prelude.{◌≡◌, ◌⊎◌, ℕ, ◌+◌, ◌<◌, ◌≤◌, true, false, Bool, List, [], ◌∷◌}
use Rattle.std.specs.Prelude.{Option, Some, ⊤}
use Rattle.std.specs.Ordering.{partial_le}
use Rattle.std.specs.declared.cmp.Ordering.TheVariants.{Less}
use Rattle.tok_lexical.specs.declared.delimiter.Delimiter.{Delimiter}
use Rattle.tok_core.specs.Forest.{Tree}
use Rattle.tok_core.specs.Weight.{weight}
use Rattle.tok_buffer.specs.Descent.{descend}
use Rattle.tok_buffer.specs.EachRead.{EachRead, Read}
use Rattle.tok_buffer.specs.Entry.{Entered, enter, enter_any}
use Rattle.tok_buffer.specs.Order.{equal, order, same_scope}
use Rattle.tok_buffer.specs.Place.{Frame, frame, Place, empty_place, at, pass}
use Rattle.tok_buffer.specs.Reads.{read_if, read_tree, skip}

-- in the same buffer and scope and no earlier, or the empty place
abbrev pub StaysIn : (from to : Place) → Type 0
StaysIn from to =
    ((same_scope from to ≡ true) × (partial_le order from to ≡ true)) ⊎ (to ≡ empty_place)

-- what is left around the innermost frame: of each frame its end and what is ahead in it
abbrev pub remaining_around : List Frame → ℕ
remaining_around [] = 0
remaining_around (frame o p f ∷ ls) = 1 + weight f + remaining_around ls

-- how many openings, leaves and closings are left up to the scope's end, and one more; none at the
-- empty place
abbrev pub remaining : Place → ℕ
remaining empty_place = 0
remaining (at number scope count (frame o p f) ls) = weight f + remaining_around ls + 1

-- the count before a place and what remains there are the count at the scope's end
abbrev pub ReachesScope : Place → Type 0
ReachesScope empty_place = ⊤
ReachesScope (at number scope count l ls) =
    count + remaining (at number scope count l ls) ≡ scope + 1

-- a read stays in the scope and lowers `remaining`
pub record ReadsOn (read : Read) : Type 0 where
  pub stays : (p : Place) (ts : List Tree) (q : Place) → read p ≡ Some (ts, q) → StaysIn p q
  pub lowers : (p : Place) (ts : List Tree) (q : Place) → read p ≡ Some (ts, q) →
      remaining q < remaining p

-- each read of leaves makes such progress, and each of any tree, or of a wanted one
pub record ReadsGoOn : Type 0 where
  pub leaves : EachRead (λ read first. ReadsOn read)
  pub trees : ReadsOn read_tree
  pub taken : (wanted : Tree → Bool) → ReadsOn (read_if wanted)

-- a skip stays in the scope and lowers `remaining`
pub record SkipsGoOn : Type 0 where
  pub stays : (p q : Place) → skip p ≡ Some q → StaysIn p q
  pub lowers : (p q : Place) → skip p ≡ Some q → remaining q < remaining p

-- the place after an entered group stays in the scope and lowers `remaining`; less is in it too
pub record EntersOn (entry : Place → Option Entered) : Type 0 where
  pub stays : (p : Place) (e : Entered) → entry p ≡ Some e → StaysIn p e.after
  pub lowers : (p : Place) (e : Entered) → entry p ≡ Some e → remaining e.after < remaining p
  pub inwards : (p : Place) (e : Entered) → entry p ≡ Some e → remaining e.content < remaining p

-- entering a group makes such progress, whether its delimiter is given or not
pub record EntriesGoOn : Type 0 where
  pub groups : (d : Delimiter) → EntersOn (enter d)
  pub any_groups : EntersOn enter_any

-- a property of each place and the place to which a read leads
abbrev pub ReadLeads : (Place → Place → Type 0) → Read → Type 0
ReadLeads P read = (p : Place) (ts : List Tree) (q : Place) → read p ≡ Some (ts, q) → P p q

-- a property of each place and the place after a read, a skip or a group that is entered
pub record CallsLead (P : Place → Place → Type 0) : Type 0 where
  pub leaves : EachRead (λ read first. ReadLeads P read)
  pub trees : ReadLeads P read_tree
  pub taken : (wanted : Tree → Bool) → ReadLeads P (read_if wanted)
  pub skips : (p q : Place) → skip p ≡ Some q → P p q
  pub groups : (d : Delimiter) (p : Place) (e : Entered) → enter d p ≡ Some e → P p e.after
  pub any_groups : (p : Place) (e : Entered) → enter_any p ≡ Some e → P p e.after

-- the place after each call is later
abbrev pub ReadsGoLater : Type 0
ReadsGoLater = CallsLead (λ p q. order p q ≡ Some Less)

-- the place after each call is in the same scope, so it is not the empty place; and so is the place
-- after several calls in turn
pub record ReadsKeepScope : Type 0 where
  pub calls : CallsLead (λ p q. same_scope p q ≡ true)
  pub along :
      (p q r : Place) → same_scope p q ≡ true → same_scope q r ≡ true → same_scope p r ≡ true

-- a move that stays in the scope, and adds nothing
pub record MovesOn (move : Place → Place) : Type 0 where
  pub stays : (p : Place) → StaysIn p (move p)
  pub adds_nothing : (p : Place) → remaining (move p) ≤ remaining p

-- descending and passing a tree stay in the scope, and add nothing
pub record MovesStay : Type 0 where
  pub descents : MovesOn descend
  pub passes : MovesOn pass

-- staying in the scope is reflexive and transitive
pub record StaysAlong : Type 0 where
  pub here : (p : Place) → StaysIn p p
  pub along : (p q r : Place) → StaysIn p q → StaysIn q r → StaysIn p r

-- nothing is added by staying in the scope, and something is taken away by going anywhere else in
-- it
abbrev pub LosesNone : (from to : Place) → Type 0
LosesNone from to =
    StaysIn from to → (remaining to ≤ remaining from)
    × (equal from to ≡ false → remaining to < remaining from)
