use Rattle.std.proofs.Common.{rules, ◌≡◌, ◌+◌, ◌-◌, ◌∷◌, ℕ, List, length, refl}
use Rattle.tok_core.specs.Building.{Levels, add_forest}
use Rattle.tok_core.specs.Forest.{Tree, group, leaf, no_trees}
use Rattle.tok_core.specs.Forest.{tree as one_tree}
use Rattle.tok_pruned.specs.Pruned.{pruned}
use Rattle.tok_entries.specs.Blames.{BlamesFrom, TakesTree, first_entry}
use Rattle.tok_entries.specs.Private.Parts.{RejectsLeaf}
use Rattle.tok_entries.specs.Private.Steps.{GoesOn}
use Rattle.tok_entries.specs.Refusals.{OnRejected}
use Rattle.tok_entries.specs.declared.entry.Entry.{Entry}
use Rattle.tok_entries.specs.declared.intake.fault.EntryFault.{EntryFault}
use Rattle.tok_entries.specs.declared.intake.fault.Refusal.TheVariants.{Shape, Depth}
use Rattle.tok_entries.proofs.Blamed.{blamed_end, blamed_inside, blamed_leaf, blamed_on, not_opened}
use Rattle.tok_entries.proofs.Groups.{group_taken, no_leaf_opens, parts_open}
use Rattle.tok_entries.proofs.Steps.{goes_on, leaf_taken, goes_first}
use Rattle.tok_entries.proofs.intake.+read.Given.{Over}
use Rattle.tok_entries.proofs.intake.+read.Goals as goal
use Rattle.tok_entries.proofs.intake.+read.Goals.{read_level-In-Some}

pub read_group-returns-in_default-clause-blames : goal.read_group-returns-in_default-clause-blames
read_group-returns-in_default-clause-blames g t c =
    first_entry c.args.here c.args.begin c.args.levels (c.args.opening.now ∷ c.args.after.now)
    c.args.rest.now Shape (
      no_leaf_opens c.args.begin c.args.opening.now c.args.rest.now (search rules),
      c.in_default.ensures.parts,
    )

pub read_group-returns-in_default-checked_sub-clause-blames :
    goal.read_group-returns-in_default-checked_sub-clause-blames
read_group-returns-in_default-checked_sub-clause-blames g t c =
    let p = c.in-Some.parts in
    first_entry c.args.here c.args.begin c.args.levels (c.args.opening.now ∷ c.args.after.now)
    c.args.rest.now Depth (
      (
        p.inside.now,
        p.words.now,
        parts_open c.args.begin c.args.opening.now c.args.after.now c.args.rest.now p
            c.in-Some.ensures.parts c.in-Some.ensures.utf8.0,
      ),
      search rules,
    )

pub read_group-returns-in_err-read_level-clause-blames :
    goal.read_group-returns-in_err-read_level-clause-blames
read_group-returns-in_err-read_level-clause-blames g t c =
    let p = c.in-Some.parts in
    let inner = c.in-Some-checked_sub.inner in
    let es = c.args.opening.now ∷ c.args.after.now in
    let lifted : (fault : EntryFault)
    → OnRejected fault (BlamesFrom (c.args.here + 1) c.args.begin inner p.inside.now p.words.now)
    → OnRejected fault (BlamesFrom c.args.here c.args.begin c.args.levels es c.args.rest.now) =
    λ fault.
    blamed_inside fault c.args.here (c.args.here + 1) c.args.begin c.args.levels inner es
    c.args.rest.now p.inside.now p.words.now (search rules) refl
    (parts_open c.args.begin c.args.opening.now c.args.after.now c.args.rest.now p
    c.in-Some.ensures.parts c.in-Some.ensures.utf8.0) in
    search (rules, lifted)

pub read_group-returns-clause-reads : goal.read_group-returns-clause-reads
read_group-returns-clause-reads g t c =
    let (f, d, e) = c.in_ok-read_level.ensures.reads in (
      group c.in-Some.parts.delimiter f c.in-Some.parts.span,
      group_taken c.args.begin c.args.levels c.in-Some-checked_sub.inner c.args.opening.now
          c.args.after.now c.args.rest.now c.in-Some.parts f (search rules) (search rules) d,
      search (rules, c.in_ok-close_group.ensures),
    )

pub read_level-loop-first-init : goal.read_level-loop-first-init
read_level-loop-first-init g t c = (
  search rules,
  goes_first c.args.at c.args.levels c.args.entries.now c.args.texts.now
      (g.B.Build.levels c.args.builder.now),
)

-- a tree that is taken where the loop stands goes to the trees of the level
goes_past : (g : Over) (t : ℕ) (c : read_level-In-Some g t) (tree : Tree) (later : List Entry)
    (behind : List ℕ) (new : Levels)
    → TakesTree (c.args.at + (length c.args.texts.now - length c.loop-first.rest.now)) c.args.levels
    (c.in-Some.first.now ∷ c.in-Some.after.now) c.loop-first.rest.now tree later behind
    → new ≡ add_forest (pruned (one_tree tree no_trees)) (g.B.Build.levels c.loop-first.builder)
    → GoesOn c.args.at c.args.levels c.args.entries.now c.args.texts.now later behind
    (g.B.Build.levels c.args.builder.now) new
goes_past g t c tree later behind new takes adds =
    let front : c.loop-first.left.now ≡ c.in-Some.first.now ∷ c.in-Some.after.now = search rules in
    goes_on c.args.at c.args.levels _ c.args.entries.now (c.in-Some.first.now ∷ c.in-Some.after.now)
    later c.args.texts.now c.loop-first.rest.now behind _ _ new tree
    (rw front at c.loop-first.invariant.1) refl takes adds

-- what rejects the entries where the loop stands rejects those of the level
level_blamed : (g : Over) (t : ℕ) (c : read_level-In-Some g t) (fault : EntryFault)
    → OnRejected fault (BlamesFrom
    (c.args.number + (length c.args.entries.now - length c.loop-first.left.now))
    (c.args.at + (length c.args.texts.now - length c.loop-first.rest.now)) c.args.levels
    (c.in-Some.first.now ∷ c.in-Some.after.now) c.loop-first.rest.now)
    → OnRejected fault (BlamesFrom c.args.number c.args.at c.args.levels c.args.entries.now
    c.args.texts.now)
level_blamed g t c fault blamed =
    let front : c.loop-first.left.now ≡ c.in-Some.first.now ∷ c.in-Some.after.now = search rules in
    blamed_on fault c.args.number c.args.at c.args.levels _ _ c.args.entries.now
    (c.in-Some.first.now ∷ c.in-Some.after.now) c.args.texts.now c.loop-first.rest.now _ _
    (rw front at c.loop-first.invariant.1) (rw front refl) refl blamed

pub read_level-loop-first-preserved-then-first-eq-OPENING :
    goal.read_level-loop-first-preserved-then-first-eq-OPENING
read_level-loop-first-preserved-then-first-eq-OPENING g t c =
    let (tree, takes, adds) = c.in_ok-later.ensures.reads in (
      c.in_ok-later.ensures.utf8,
      goes_past g t
          (goal.at.read_level-loop-first-preserved-then-first-eq-OPENING g t c).In-Some tree
          _ _ _ takes adds,
    )

pub read_level-returns-in_err-later-clause-blames :
    goal.read_level-returns-in_err-later-clause-blames
read_level-returns-in_err-later-clause-blames g t c =
    let lifted =
    level_blamed g t
    (goal.at.read_level-returns-in_err-later-clause-blames g t c).In-Some in
    search (rules, lifted)

pub read_level-returns-in_err-behind-clause-blames :
    goal.read_level-returns-in_err-behind-clause-blames
read_level-returns-in_err-behind-clause-blames g t c =
    let here : ℕ = c.args.number + (length c.args.entries.now - length c.loop-first.left.now) in
    let begin : ℕ = c.args.at + (length c.args.texts.now - length c.loop-first.rest.now) in
    let rest = c.loop-first.rest.now in
    let first = c.in-Some.first.now in
    let after = c.in-Some.after.now in
    let other : first.kind ≡ 3 → ⊥ = search rules in
    let lifted : (fault : EntryFault)
    → OnRejected fault (λ why named. (named ≡ here) × RejectsLeaf begin first rest why)
    → OnRejected fault (BlamesFrom c.args.number c.args.at c.args.levels c.args.entries.now
    c.args.texts.now) =
    λ fault blamed.
    level_blamed g t
    (goal.at.read_level-returns-in_err-behind-clause-blames g t c).In-Some fault
    (blamed_leaf fault here begin c.args.levels first after rest
    (not_opened begin first after rest other) blamed) in
    search (rules, lifted)

pub read_level-returns-else-is_empty-clause-blames :
    goal.read_level-returns-else-is_empty-clause-blames
read_level-returns-else-is_empty-clause-blames g t c =
    let (u, goes) = c.loop-first.invariant in
    blamed_end c.args.number c.args.at c.args.levels
    (c.args.at + (length c.args.texts.now - length c.loop-first.rest.now)) c.args.entries.now
    c.loop-first.left.now c.args.texts.now c.loop-first.rest.now
    (g.B.Build.levels c.args.builder.now) (g.B.Build.levels c.loop-first.builder) goes refl
    (search rules) (search rules)

pub read_level-loop-first-preserved : goal.read_level-loop-first-preserved
read_level-loop-first-preserved g t c =
    let (l, hl, he, hb, adds) = c.in_ok-behind.ensures.reads in (
      c.in_ok-behind.ensures.utf8,
      goes_past g t (goal.at.read_level-loop-first-preserved g t c).In-Some (leaf l)
          _ _ _ (leaf_taken _ _ _ _ _ _ l hl he hb) adds,
    )
