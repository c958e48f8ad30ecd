-- Invisible groups do not matter to a single call: the proofs.
use Rattle.std.proofs.Common.{◌≡◌, sym, refl, Option, Some, None, ℕ}
use Rattle.std.specs.Prelude.{IfSome}
use Rattle.tok_lexical.specs.declared.delimiter.Delimiter.{Delimiter}
use Rattle.tok_lexical.specs.declared.delimiter.Delimiter.TheVariants as delimiter
use Rattle.tok_core.specs.Erase.{erase}
use Rattle.tok_core.specs.Forest.{leaf, group, Forest, no_trees, tree}
use Rattle.tok_core.proofs.Facts.{concat-none}
use Rattle.tok_buffer.specs.Buffer.{Laid}
use Rattle.tok_buffer.specs.Descent.{descend}
use Rattle.tok_buffer.specs.EachRead.{Read, First}
use Rattle.tok_buffer.specs.Entry.{Entered, enter, enter_any}
use Rattle.tok_buffer.specs.Place.{frame, Place, empty_place, at, pass, start}
use Rattle.tok_buffer.specs.Reached.{Reached, down, past, into}
use Rattle.tok_buffer.specs.SameView.{ViewsDecide, CallsLeadOn, ViewsTellScopes}
use Rattle.tok_buffer.specs.SameView.{ViewsTellDelimiters, StartsAgree, ReadsAgree}
use Rattle.tok_buffer.specs.View.{IsVisibleDelimiter, seen, view}
use Rattle.tok_buffer.proofs.View.Entries.{view-enter}
use Rattle.tok_buffer.proofs.View.InFront.{ahead_tells_ends}
use Rattle.tok_buffer.proofs.View.Keeps.{of-front}
use Rattle.tok_buffer.proofs.View.Marks.{after-start}
use Rattle.tok_buffer.proofs.View.Moves.{Leads, leads, leads-skip}
use Rattle.tok_buffer.proofs.View.Places.{reached_stands}
use Rattle.tok_buffer.proofs.View.Readings.{Reading, each_read}
use Rattle.tok_buffer.proofs.View.ReadViews.{view-reading, view-skip}
use Rattle.tok_buffer.proofs.View.Spans.{leftover_tells}
use Rattle.tok_buffer.proofs.View.Standing.{scope-view}
use Rattle.tok_buffer.proofs.View.Tells.{same_trees}

pub read-same : {read : Read} {first : First} → Reading read first → (f g : Forest) (p q : Place)
    → view f p ≡ view g q → ReadsAgree f g read p q
read-same {read} {first} r f g p q e = cc (view-reading f r p, view-reading g r q)

pub views_decide : ViewsDecide
views_decide b c p q s =
    let f = b.forest in
    let g = c.forest in
    let trees = same_trees f g p q s.same in
    record {
      leaves = each_read _ (λ read first r. read-same r f g p q s.same);
      skips = cc (view-skip f p, view-skip g q, s.same);
      ends =
          rw (ahead_tells_ends b s.left_filled p s.left, trees)
          (sym (ahead_tells_ends c s.right_filled q s.right));
      enters = λ d v.
          let left = view-enter f d p v (reached_stands b s.left_filled p s.left).holds.inside in
          let right = view-enter g d q v (reached_stands c s.right_filled q s.right).holds.inside in
          cc (s.same);
      leftovers = cc (leftover_tells p, leftover_tells q);
    }

pub views_tell_scopes : ViewsTellScopes
views_tell_scopes b i p q r s =
    scope-view b.number b.forest p q (reached_stands b i p r) (reached_stands b i q s)

pub views_tell_delimiters : ViewsTellDelimiters
views_tell_delimiters f empty_place = refl
views_tell_delimiters f (at n s c l ls) = refl

view-start : (n : ℕ) (f : Forest) → view f (start n f) ≡ seen 0 delimiter.None (erase f)
view-start n f = rw (after-start f, concat-none (erase f))

pub starts_agree : StartsAgree
starts_agree b c e = cc (view-start b.number b.forest, view-start c.number c.forest)

-- The places after each call are reached.
module _ (b : Laid) where
  pub reached_leads_on : Leads (Reached b) (Reached b)
  reached_leads_on = record { down = down; past = λ p t e h. past p h; weaker = λ p h. h }

  -- the place after a group is the place after the tree in front
  entry_after : (p : Place) → IfSome (enter_any p) (λ e. e.after ≡ pass p)
  entry_after empty_place = tt
  entry_after (at n s c (frame o p no_trees) ls) = tt
  entry_after (at n s c (frame o p (tree (leaf l) f)) ls) = tt
  entry_after (at n s c (frame o p (tree (group d inside span) f)) ls) = refl

  -- a group's content and the place after it are reached
  abbrev BothReached : Entered → Type 0
  BothReached e = Reached b e.content × Reached b e.after

  entries : (d : Delimiter) (p : Place) → IsVisibleDelimiter d → Reached b p
      → IfSome (enter d p) BothReached
  entries d p v h =
      go (enter d p) refl
      (of-front (λ e. e.after ≡ pass (descend p)) d p v (entry_after (descend p)))
    where
      go : (r : Option Entered) → enter d p ≡ r → IfSome r (λ e. e.after ≡ pass (descend p))
          → IfSome r BothReached
      go None e k = tt
      go (Some x) e k = (into d p x v e h, rw k (past (descend p) (down p h)))

pub calls_lead_on : CallsLeadOn
calls_lead_on b p h =
    let m = reached_leads_on b in
    let R = Reached b in
    record {
      leaves = each_read _ (λ read first r. leads R R m r p h);
      skips = leads-skip R R m p h;
      enters = λ d v. entries b d p v h;
    }
