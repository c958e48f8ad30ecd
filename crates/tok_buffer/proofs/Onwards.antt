-- Moves stay in their scope, and less is left after each.
use Rattle.std.proofs.Common.{◌≡◌, ap, refl, arith, inl, inr, ℕ, ◌+◌, ◌≤◌, ◌<◌, Bool}
use Rattle.std.proofs.Common.{true, List, ◌∷◌, Option, Some, None, eqb, eqb-true}
use Rattle.std.proofs.lemmas.Bool.{and_parts, false≢true}
use Rattle.std.specs.Prelude.{◌==◌, cond, IfSome}
use Rattle.std.specs.Ordering.{is_le, is_lt, is_some_and, nat_cmp}
use Rattle.std.specs.declared.cmp.Ordering.TheVariants.{Less}
use Rattle.tok_lexical.specs.declared.delimiter.Delimiter.{Delimiter}
use Rattle.tok_core.specs.Forest.{leaf, group, Tree, Forest, no_trees, tree}
use Rattle.tok_core.specs.Weight.{weight}
use Rattle.tok_buffer.specs.Descent.{descend}
use Rattle.tok_buffer.specs.EachRead.{Read, First}
use Rattle.tok_buffer.specs.Entry.{Entered, enter, enter_any}
use Rattle.tok_buffer.specs.Order.{order, same_scope}
use Rattle.tok_buffer.specs.Place.{Enclosing, whole, in_group, Frame, frame, Place, empty_place, at}
use Rattle.tok_buffer.specs.Place.{leave_group, front, pass, leave_finished}
use Rattle.tok_buffer.specs.Progress.{ReadsGoLater, ReadsKeepScope, StaysIn, remaining}
use Rattle.tok_buffer.specs.Progress.{remaining_around, ReadsOn, ReadsGoOn, SkipsGoOn, EntersOn}
use Rattle.tok_buffer.specs.Progress.{EntriesGoOn, MovesStay, StaysAlong, CallsLead, ReadLeads}
use Rattle.tok_buffer.specs.Reads.{read_if, read_tree, skip}
use Rattle.tok_core.specs.Kinds.{any_tree}
use Rattle.tok_buffer.proofs.View.Keeps.{IsKept, of-entered, kept-leave_finished, kept-descend}
use Rattle.tok_buffer.proofs.View.Moves.{some_weight, Leads, LeadsTo, IsEmpty, IsNone, leads, leads-take}
use Rattle.tok_buffer.proofs.View.Moves.{leads-skip, leads-nowhere}
use Rattle.tok_buffer.proofs.View.Readings.{Reading, each_read}
use Rattle.std.proofs.lemmas.Option.{IfSome_then}

-- a place of this buffer and scope, at this count or a later one, where at most so much is left
abbrev Since : (number scope count most : ℕ) → Place → Type 0
Since n s c m empty_place = ⊥
Since n s c m (at i t d l ls) = (i ≡ n) × (t ≡ s) × (c ≤ d) × (remaining (at i t d l ls) ≤ m)

leave_group_adds_nothing : (o : Enclosing) (p : Forest) (n s c d : ℕ) (u : Frame) (us : List Frame)
    →
    remaining (at n s c (leave_group o p u) us) ≤ remaining (at n s d (frame o p no_trees) (u ∷ us))
leave_group_adds_nothing whole p n s c d (frame a b f) us = omega arith
leave_group_adds_nothing (in_group x t) p n s c d (frame a b f) us = omega arith

-- each move keeps this, and passing a tree takes something away
module _ (n s c m : ℕ) where
  kept_since : IsKept (Since n s c m)
  kept_since = record {
    into = λ i t d o p inside span f ls h.
        (h.0, h.1, omega (arith, h.2), omega (arith, h.3));
    out = λ i t d o p l ls h. (
      h.0,
      h.1,
      omega (arith, h.2),
      omega (arith, h.3, leave_group_adds_nothing o p i t (d + 1) d l ls),
    );
  }

module _ (n s c m : ℕ) where
  past_since : (p : Place) (t : Tree) → front p ≡ Some t → Since n s c (m + 1) p
      → Since n s (c + 1) m (pass p)
  past_since empty_place t e h = absurd h
  past_since (at i u d (frame o p no_trees) ls) t e h = absurd (cc)
  past_since (at i u d (frame o p (tree x f)) ls) t e h =
      let some = some_weight x in
      kept-leave_finished (Since n s (c + 1) m) (kept_since n s (c + 1) m) _ _ _ _ ls
      (h.0, h.1, omega (arith, h.2, some), omega (arith, h.3, some))

  weaker_since : (p : Place) → Since n s (c + 1) m p → Since n s c (m + 1) p
  weaker_since empty_place h = absurd h
  weaker_since (at i t d l ls) h = (h.0, h.1, omega (arith, h.2), omega (arith, h.3))

  leads_on : Leads (Since n s c (m + 1)) (Since n s (c + 1) m)
  leads_on = record {
    down = kept-descend (Since n s c (m + 1)) (kept_since n s c (m + 1));
    past = past_since;
    weaker = weaker_since;
  }

-- what such a place is to a reader
in_scope : (n s c d : ℕ) (l m : Frame) (ls ms : List Frame) → c ≤ d →
    StaysIn (at n s c l ls) (at n s d m ms)
in_scope n s c d l m ls ms h = grind arith

stays_since : (n s c e m : ℕ) (l : Frame) (ls : List Frame) (q : Place) → c ≤ e → Since n s e m q
    → StaysIn (at n s c l ls) q × (remaining q ≤ m)
stays_since n s c e m l ls empty_place h k = absurd k
stays_since n s c e m l ls (at i t d x xs) h k =
    (rw (k.0, k.1) (in_scope n s c d l x ls xs (omega (arith, h, k.2))), k.3)

in_order_later : (n s c d : ℕ) (l m : Frame) (ls ms : List Frame) → c < d →
    order (at n s c l ls) (at n s d m ms) ≡ Some Less
in_order_later n s c d l m ls ms h = grind arith

later_since : (n s c m : ℕ) (l : Frame) (ls : List Frame) (q : Place) → Since n s (c + 1) m q
    → order (at n s c l ls) q ≡ Some Less
later_since n s c m l ls empty_place h = absurd h
later_since n s c m l ls (at i t d x xs) h =
    rw h.0 (in_order_later n s c d l x ls xs (omega (arith, h.2)))

-- a move that takes something away
abbrev pub GoesOn : Place → Place → Type 0
GoesOn from to = StaysIn from to × (remaining to < remaining from) × (order from to ≡ Some Less)

goes_on : (n s c : ℕ) (o : Enclosing) (p f : Forest) (ls : List Frame) (q : Place)
    → Since n s (c + 1) (weight f + remaining_around ls) q → GoesOn (at n s c (frame o p f) ls) q
goes_on n s c o p f ls q h =
    let m = weight f + remaining_around ls in
    let k = stays_since n s c (c + 1) m (frame o p f) ls q (omega arith) h in
    (k.0, omega (arith, k.1), later_since n s c m (frame o p f) ls q h)

-- so does each call that leads where its moves lead
module _ {A : Type 0} (end : A → Place) (move : Place → Option A) where
  goes : ((P Q : Place → Type 0) → Leads P Q → (p : Place) → P p → IfSome (move p) (λ x. Q (end x)))
      → (p : Place) → IfSome (move p) (λ x. GoesOn p (end x))
  goes on empty_place =
      IfSome_then (move empty_place) (on IsEmpty IsNone leads-nowhere empty_place tt)
      (λ x h. absurd h)
  goes on (at n s c (frame o p f) ls) =
      let m = weight f + remaining_around ls in
      IfSome_then (move (at n s c (frame o p f) ls))
      (on _ _ (leads_on n s c m) (at n s c (frame o p f) ls) (refl, refl, omega arith, omega arith))
      (λ x h. goes_on n s c o p f ls (end x) h)

-- the place after a read
abbrev after_read : List Tree × Place → Place
after_read r = r.1

-- a read that goes on from each place
abbrev AllGoOn : Read → Type 0
AllGoOn read = (p : Place) → LeadsTo (GoesOn p) (read p)

pub reading_goes : {read : Read} {first : First} → Reading read first → AllGoOn read
reading_goes {read} r = goes after_read read (λ P Q m. leads P Q m r)

take_goes : (wanted : Tree → Bool) → AllGoOn (read_if wanted)
take_goes wanted = goes after_read (read_if wanted) (λ P Q m. leads-take P Q m wanted)

pub visible_goes : (p : Place) → LeadsTo (GoesOn p) (read_tree (descend p))
visible_goes =
    goes after_read (λ p. read_tree (descend p))
    (λ P Q m p h. leads-take P Q m any_tree (descend p) (m.down p h))

skips_on : (p q : Place) → skip p ≡ Some q → GoesOn p q
skips_on p q e = rw e at (goes (λ (q : Place). q) skip (λ P Q m. leads-skip P Q m) p)

module _ (read : Read) (on : AllGoOn read) where
  read_on : (p : Place) (ts : List Tree) (q : Place) → read p ≡ Some (ts, q) → GoesOn p q
  read_on p ts q e = rw e at (on p)

  reads_on : ReadsOn read
  reads_on = record {
    stays = λ p ts q e. (read_on p ts q e).0;
    lowers = λ p ts q e. (read_on p ts q e).1;
  }

pub reads_go_on : ReadsGoOn
reads_go_on = record {
  leaves = each_read _ (λ read first r. reads_on read (reading_goes r));
  trees = reads_on _ (take_goes any_tree);
  taken = λ wanted. reads_on _ (take_goes wanted);
}

pub skips_go_on : SkipsGoOn
skips_go_on = record { stays = λ p q e. (skips_on p q e).0; lowers = λ p q e. (skips_on p q e).1 }

-- the moves themselves
stays_here : (p : Place) → StaysIn p p
stays_here empty_place = inr refl
stays_here (at n s c l ls) = in_scope n s c c l l ls ls (omega arith)

in_order : (n m c d : ℕ) → is_some_and is_le (cond (n == m) (Some (nat_cmp c d)) None) ≡ true →
    c ≤ d
in_order n m c d h = grind arith

-- two places of one buffer and scope, the second no earlier
pub record Along (n s c m t d : ℕ) : Type 0 where
  pub numbers : n ≡ m
  pub scopes : s ≡ t
  pub counts : c ≤ d

pub along : (n s c m t d : ℕ) (l k : Frame) (ls ks : List Frame) →
    StaysIn (at n s c l ls) (at m t d k ks) → Along n s c m t d
along n s c m t d l k ls ks (inl h) =
    let p = and_parts (eqb n m) (eqb s t) h.0 in
    record {
      numbers = eqb-true n m p.0;
      scopes = eqb-true s t p.1;
      counts = in_order n m c d h.1;
    }
along n s c m t d l k ls ks (inr h) = cc

never_out : {A : Type 0} (m t d : ℕ) (k : Frame) (ks : List Frame) →
    StaysIn empty_place (at m t d k ks) → A
never_out m t d k ks (inl h) = absurd (false≢true h.0)
never_out m t d k ks (inr h) = cc

chains : (p q r : Place) → StaysIn p q → StaysIn q r → StaysIn p r
chains p q empty_place h k = inr refl
chains empty_place empty_place (at i u e m ms) h k = k
chains empty_place (at j t d l ls) (at i u e m ms) h k = never_out j t d l ls h
chains (at n s c l ls) empty_place (at i u e m ms) h k = never_out i u e m ms k
chains (at n s c x xs) (at j t d l ls) (at i u e m ms) h k =
    let a = along n s c j t d x l xs ls h in
    let b = along j t d i u e l m ls ms k in
    rw (← b.scopes, ← a.scopes, ← b.numbers, ← a.numbers)
    (in_scope n s c e x m xs ms (omega (arith, a.counts, b.counts)))

none_not_less : {A : Type 0} → None ≡ Some Less → A
none_not_less h = cc

less_than : (n m c d : ℕ) → cond (n == m) (Some (nat_cmp c d)) None ≡ Some Less → (n ≡ m) × (c < d)
less_than n m c d h = grind arith

strictly : (p q r : Place) → StaysIn p q → order q r ≡ Some Less → order p r ≡ Some Less
strictly p empty_place empty_place h k = absurd (false≢true (ap (λ x. is_some_and is_lt x) k))
strictly p (at j t d l ls) empty_place h k = none_not_less k
strictly p empty_place (at i u e m ms) h k = none_not_less k
strictly empty_place (at j t d l ls) (at i u e m ms) h k = never_out j t d l ls h
strictly (at n s c x xs) (at j t d l ls) (at i u e m ms) h k =
    let a = along n s c j t d x l xs ls h in
    let b = less_than j i d e k in
    rw (← b.0, ← a.numbers) (in_order_later n s c e x m xs ms (omega (arith, a.counts, b.1)))

goes_along : (p q r : Place) → GoesOn p q → GoesOn q r → GoesOn p r
goes_along p q r g h = (chains p q r g.0 h.0, omega (arith, g.1, h.1), strictly p q r g.0 h.2)

pub then_goes : {read : Read} {first : First} → Reading read first → (p q : Place) → GoesOn p q
    → LeadsTo (GoesOn p) (read q)
then_goes {read} r p q g = IfSome_then (read q) (reading_goes r q) (λ x h. goes_along p q x.1 g h)

pub lies_nowhere : (q : Place) → GoesOn empty_place q → ⊥
lies_nowhere empty_place g = false≢true (ap (λ x. is_some_and is_lt x) g.2)
lies_nowhere (at i u e m ms) g = none_not_less g.2

pub later_count : (n s c m t d : ℕ) (l k : Frame) (ls ks : List Frame)
    → GoesOn (at n s c l ls) (at m t d k ks) → c < d
later_count n s c m t d l k ls ks g = (less_than n m c d g.2).1

-- a move that adds nothing
abbrev Stays : Place → Place → Type 0
Stays from to = StaysIn from to × (remaining to ≤ remaining from)

descents : (p : Place) → Stays p (descend p)
descents empty_place = (inr refl, omega arith)
descents (at n s c l ls) =
    let m = remaining (at n s c l ls) in
    stays_since n s c c m l ls _ (omega arith)
    (kept-descend (Since n s c m) (kept_since n s c m) (at n s c l ls)
    (refl, refl, omega arith, omega arith))

pass_goes_on : (n s c : ℕ) (o : Enclosing) (p : Forest) (t : Tree) (f : Forest) (ls : List Frame)
    → GoesOn (at n s c (frame o p (tree t f)) ls) (pass (at n s c (frame o p (tree t f)) ls))
pass_goes_on n s c o p t f ls =
    goes_on n s c o p (tree t f) ls _
    (past_since n s c _ (at n s c (frame o p (tree t f)) ls) t refl
    (refl, refl, omega arith, omega arith))

passes : (p : Place) → Stays p (pass p)
passes empty_place = (inr refl, omega arith)
passes (at n s c (frame o p no_trees) ls) =
    (stays_here (at n s c (frame o p no_trees) ls), omega arith)
passes (at n s c (frame o p (tree t f)) ls) =
    let h = pass_goes_on n s c o p t f ls in (h.0, omega (arith, h.1))

pub moves_stay : MovesStay
moves_stay = record {
  descents = record { stays = λ p. (descents p).0; adds_nothing = λ p. (descents p).1 };
  passes = record { stays = λ p. (passes p).0; adds_nothing = λ p. (passes p).1 };
}

pub stays_along : StaysAlong
stays_along = record { here = stays_here; along = chains }

-- groups that are entered
abbrev GoesIn : Place → Entered → Type 0
GoesIn p e = GoesOn p e.after × (remaining e.content < remaining p)

any_goes_in : (p : Place) → IfSome (enter_any p) (GoesIn p)
any_goes_in empty_place = tt
any_goes_in (at n s c (frame o p no_trees) ls) = tt
any_goes_in (at n s c (frame o p (tree (leaf l) f)) ls) = tt
any_goes_in (at n s c (frame o p (tree (group d inside span) f)) ls) =
    (pass_goes_on n s c o p (group d inside span) f ls, omega arith)

from_descent : (p : Place) (e : Entered) → GoesIn (descend p) e → GoesIn p e
from_descent p e g =
    let d = descents p in (
      (
        chains p (descend p) e.after d.0 g.0.0,
        omega (arith, d.1, g.0.1),
        strictly p (descend p) e.after d.0 g.0.2,
      ),
      omega (arith, d.1, g.1),
    )

any_goes : (p : Place) (e : Entered) → enter_any p ≡ Some e → GoesIn p e
any_goes p e h = rw h at (any_goes_in p)

goes_in : (d : Delimiter) (p : Place) (e : Entered) → enter d p ≡ Some e → GoesIn p e
goes_in d p e h =
    rw h at (of-entered (GoesIn p) d p (any_goes_in p)
    (IfSome_then (enter_any (descend p)) (any_goes_in (descend p)) (from_descent p)))

enters_on : (entry : Place → Option Entered) →
    ((p : Place) (e : Entered) → entry p ≡ Some e → GoesIn p e) → EntersOn entry
enters_on entry on = record {
  stays = λ p e h. (on p e h).0.0;
  lowers = λ p e h. (on p e h).0.1;
  inwards = λ p e h. (on p e h).1;
}

pub entries_go_on : EntriesGoOn
entries_go_on = record {
  groups = λ d. enters_on (enter d) (goes_in d);
  any_groups = enters_on enter_any any_goes;
}

pub leave_finished_remaining : (n s c : ℕ) (l : Frame) (ls : List Frame) →
    remaining (leave_finished n s c l ls) ≤ remaining (at n s c l ls)
leave_finished_remaining n s c l ls =
    let m = remaining (at n s c l ls) in
    (stays_since n s c c m l ls _ (omega arith) (kept-leave_finished (Since n s c m)
    (kept_since n s c m) n s c l ls (refl, refl, omega arith, omega arith))).1

-- what holds of each move that goes on holds of each call
calls_lead : (P : Place → Place → Type 0) → ((p q : Place) → GoesOn p q → P p q) → CallsLead P
calls_lead P holds = record {
  leaves = each_read _ (λ read first r. read_leads read (reading_goes r));
  trees = read_leads _ (take_goes any_tree);
  taken = λ wanted. read_leads _ (take_goes wanted);
  skips = λ p q e. holds p q (skips_on p q e);
  groups = λ d p e h. holds p e.after (goes_in d p e h).0;
  any_groups = λ p e h. holds p e.after (any_goes p e h).0;
}
  where
    read_leads : (read : Read) → AllGoOn read → ReadLeads P read
    read_leads read on p ts q e = holds p q (read_on read on p ts q e)

pub reads_go_later : ReadsGoLater
reads_go_later = calls_lead _ (λ p q g. g.2)

-- what stays in the scope and is later is not the empty place
stays_in_scope : (p q : Place) → StaysIn p q → order p q ≡ Some Less → same_scope p q ≡ true
stays_in_scope p q (inl h) k = h.0
stays_in_scope empty_place empty_place (inr h) k = refl
stays_in_scope (at n s c l ls) empty_place (inr h) k = none_not_less k
stays_in_scope empty_place (at m t d x xs) (inr h) k = none_not_less k
stays_in_scope (at n s c l ls) (at m t d x xs) (inr h) k = cc

pub keeps_scope : (p q : Place) → GoesOn p q → same_scope p q ≡ true
keeps_scope p q g = stays_in_scope p q g.0 g.2

kept_along : (p q r : Place) → same_scope p q ≡ true → same_scope q r ≡ true → same_scope p r ≡ true
kept_along empty_place empty_place r h k = k
kept_along empty_place (at j t d l ls) r h k = absurd (false≢true h)
kept_along (at n s c x xs) empty_place r h k = absurd (false≢true h)
kept_along p (at j t d l ls) empty_place h k = absurd (false≢true k)
kept_along (at n s c x xs) (at j t d l ls) (at i u e m ms) h k =
    let a = and_parts (n == j) (s == t) h in
    rw (eqb-true n j a.0) (rw (eqb-true s t a.1) k)

pub reads_keep_scope : ReadsKeepScope
reads_keep_scope = record { calls = calls_lead _ keeps_scope; along = kept_along }
