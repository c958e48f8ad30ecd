-- What a rejected entry says: no forest is denoted, and the entries before it change no reason.
use Rattle.std.proofs.Common.{◌≡◌, ℕ, ◌+◌, ◌-◌, ◌<◌, ◌≤◌, List, [], ◌∷◌, ◌++◌, length, refl, ap, sym, ◌∙◌, arith}
use Rattle.std.proofs.Common.{append_assoc, length-append}
use Rattle.std.proofs.Math.Nat.{le-max_left}
use Rattle.std.specs.Prelude.{suc}
use Rattle.tok_leaves.specs.Leaves.{Leaf, leaf_text}
use Rattle.tok_leaves.specs.Spans.{opening_span, closing_span}
use Rattle.tok_core.specs.Building.{Levels}
use Rattle.tok_core.specs.Forest.{Tree, leaf, group, Forest, no_trees, tree}
use Rattle.tok_core.specs.Lexical.Items.{depth}
use Rattle.tok_entries.specs.declared.entry.Entry.{Entry}
use Rattle.tok_entries.specs.declared.intake.fault.EntryFault.{EntryFault}
use Rattle.tok_entries.specs.declared.intake.fault.EntryFault.TheVariants.{Refused, Memory}
use Rattle.tok_entries.specs.declared.intake.fault.Refusal.{Refusal}
use Rattle.tok_entries.specs.declared.intake.fault.Refusal.TheVariants.{Shape, Text, Depth}
use Rattle.tok_entries.specs.Blames.{Blames, BlamesFrom, first_entry, entry_inside, entry_after}
use Rattle.tok_entries.specs.Blames.{Encloses, OpensGroup, Rejects, TakesTree}
use Rattle.tok_entries.specs.Denotes.{DenotesFrom, DenotesNone}
use Rattle.tok_entries.specs.Entries.{edge, entries, leaf_entry, leaf_kind, texts, tree_entries, tree_texts}
use Rattle.tok_entries.specs.Private.Parts.{RejectsLeaf}
use Rattle.tok_entries.specs.Private.Steps.{GoesOn}
use Rattle.tok_entries.specs.Refusals.{OnDenied, OnRejected}
use Rattle.tok_entries.specs.Texts.{IsForestIn}
use Rattle.tok_entries.proofs.Groups.{closing_is, inside_is, no_leaf_opens, tree_opens}
use Rattle.tok_entries.proofs.Once.{fronts, head, leaf_is_small}
use Rattle.tok_entries.proofs.Steps.{behind_tree, first_depth, later_depth, starts, utf8_tree}

pub no_nil : (e : Entry) (es : List Entry) → e ∷ es ≡ [] → ⊥
no_nil e es same =
    let k : length (e ∷ es) ≡ 0 = ap length same in
    absurd (omega (arith, k))

-- what follows from a reason holds of each
pub on_rejected : (fault : EntryFault) (P Q : Refusal → ℕ → Type 0)
    → ((why : Refusal) (named : ℕ) → P why named → Q why named) → OnRejected fault P
    → OnRejected fault Q
on_rejected (Refused why named) P Q step p = step why named p
on_rejected Memory P Q step p = tt

-- blamed from equal numbers, in equal entries and texts
moved : (number at levels here begin : ℕ) (es left : List Entry) (bs rest : List ℕ) (why : Refusal)
    (named : ℕ) → here ≡ number → begin ≡ at → es ≡ left → bs ≡ rest
    → BlamesFrom here begin levels left rest why named → BlamesFrom number at levels es bs why named
moved number at levels here begin es left bs rest why named hn ha he hb blamed =
    rw (← hn, ← ha, he, hb) blamed

-- an entry after a forest
pub blamed_after : (f : Forest) (number at levels here begin : ℕ) (es left : List Entry)
    (bs rest : List ℕ) (why : Refusal) (named : ℕ) → here ≡ number + length (entries at f)
    → begin ≡ at + length (texts f) → es ≡ entries at f ++ left → bs ≡ texts f ++ rest
    → IsForestIn f → depth f ≤ levels → BlamesFrom here begin levels left rest why named
    → BlamesFrom number at levels es bs why named
blamed_after no_trees number at levels here begin es left bs rest why named hn ha he hb hf hd
    blamed =
    moved number at levels here begin es left bs rest why named (omega (arith, hn))
    (omega (arith, ha)) he hb blamed
blamed_after (tree t f) number at levels here begin es left bs rest why named hn ha he hb (ht, hf)
    hd blamed =
    let next = at + length (tree_texts t) in
    entry_after number at levels es bs t (entries next f ++ left) (texts f ++ rest) why named (
      cc (append_assoc (tree_entries at t) (entries next f) left),
      cc (append_assoc (tree_texts t) (texts f) rest),
      ht,
      first_depth t f levels hd,
    )
    (blamed_after f (number + length (tree_entries at t)) next levels here begin
    (entries next f ++ left) left (texts f ++ rest) rest why named
    (omega (arith, hn, length-append (tree_entries at t) (entries next f)))
    (omega (arith, ha, length-append (tree_texts t) (texts f))) refl refl hf
    (later_depth t f levels hd) blamed)

-- an entry of what a loop has left
pub blamed_on : (fault : EntryFault) (number at levels here begin : ℕ) (es left : List Entry)
    (bs rest : List ℕ) (old mid : Levels) → GoesOn at levels es bs left rest old mid
    → here ≡ number + (length es - length left) → begin ≡ at + (length bs - length rest)
    → OnRejected fault (BlamesFrom here begin levels left rest)
    → OnRejected fault (BlamesFrom number at levels es bs)
blamed_on fault number at levels here begin es left bs rest old mid (f, he, hb, hf, hd, hl) hn ha =
    on_rejected fault (BlamesFrom here begin levels left rest) (BlamesFrom number at levels es bs)
    (λ why named. blamed_after f number at levels here begin es left bs rest why named
    (omega (arith, hn, ap length he, length-append (entries at f) left))
    (omega (arith, ha, ap length hb, length-append (texts f) rest)) he hb hf hd)

all_read : (es : List Entry) → length es ≡ 0 → es ≡ []
all_read [] none = refl
all_read (e ∷ es) none = absurd (omega (arith, none))

-- texts are left over after all entries
pub blamed_end : (number at levels begin : ℕ) (es left : List Entry) (bs rest : List ℕ)
    (old mid : Levels) → GoesOn at levels es bs left rest old mid
    → begin ≡ at + (length bs - length rest) → length left ≡ 0 → 0 < length rest
    → BlamesFrom number at levels es bs Shape (number + length es)
blamed_end number at levels begin es left bs rest old mid goes ha none some =
    let here = number + length es in
    let over : rest ≡ [] → ⊥ = λ empty. absurd (omega (arith, some, ap length empty)) in
    blamed_on (Refused Shape here) number at levels here begin es left bs rest old mid goes
    (omega (arith, none)) ha
    (rw (all_read left none) (first_entry here begin levels [] rest Shape (refl, over)))

-- the entry of a leaf comes first
pub blamed_leaf : (fault : EntryFault) (here begin levels : ℕ) (first : Entry)
    (after : List Entry) (rest : List ℕ) → (OpensGroup begin (first ∷ after) rest → ⊥)
    → OnRejected fault (λ why named. (named ≡ here) × RejectsLeaf begin first rest why)
    → OnRejected fault (BlamesFrom here begin levels (first ∷ after) rest)
blamed_leaf fault here begin levels first after rest closed =
    on_rejected fault (λ why named. (named ≡ here) × RejectsLeaf begin first rest why)
    (BlamesFrom here begin levels (first ∷ after) rest)
    (λ why named h. rw h.0
    (first_entry here begin levels (first ∷ after) rest why (reason why h.1)))
  where
    reason : (why : Refusal) → RejectsLeaf begin first rest why
        → Rejects begin levels (first ∷ after) rest why
    reason Shape h = (h, closed)
    reason Text h = h
    reason Depth h = absurd h

-- an opening is of kind 3
pub not_opened : (begin : ℕ) (first : Entry) (after : List Entry) (rest : List ℕ)
    → (first.kind ≡ 3 → ⊥) → OpensGroup begin (first ∷ after) rest → ⊥
not_opened begin first after rest other (inside, words, (d, s, later, behind, e, hb, hu, hs)) =
    other (ap (λ x. x.kind) (head _ _ _ _ e))

-- a leaf's entry is no opening
leaf_closed : (at : ℕ) (e : Entry) (l : Leaf) → e ≡ leaf_entry at l → e.kind ≡ 3 → ⊥
leaf_closed at e l he k =
    omega (arith, k, ap (λ x. x.kind) he, leaf_is_small l)

-- an entry inside a group
pub blamed_inside : (fault : EntryFault) (here next begin levels inner : ℕ) (es : List Entry)
    (rest : List ℕ) (inside : List Entry) (words : List ℕ) → levels ≡ inner + 1 → next ≡ here + 1
    → Encloses begin es rest inside words
    → OnRejected fault (BlamesFrom next begin inner inside words)
    → OnRejected fault (BlamesFrom here begin levels es rest)
blamed_inside fault here next begin levels inner es rest inside words hl hn around =
    on_rejected fault (BlamesFrom next begin inner inside words)
    (BlamesFrom here begin levels es rest)
    (λ why named blamed. rw hl
    (entry_inside here begin inner es rest inside words why named around (rw hn at blamed)))

-- no tree is where an entry is rejected
pub no_tree : (at levels : ℕ) (es : List Entry) (bs : List ℕ) (why : Refusal) (t : Tree)
    (later : List Entry) (behind : List ℕ) → Rejects at levels es bs why
    → TakesTree at levels es bs t later behind → ⊥
no_tree at levels [] bs why t later behind (same, over) (he, hb, ht, hd) =
    starts at t later (sym he)
no_tree at levels (e ∷ es) bs Shape (leaf l) later behind (fits, opens) (he, hb, ht, hd) =
    fits (l, leaf_text l, behind, head _ _ _ _ he, hb, utf8_tree (leaf l) ht, ht.1)
no_tree at levels (e ∷ es) bs Shape (group d f s) later behind (fits, opens) (he, hb, ht, hd) =
    opens (entries at f, texts f, tree_opens at (e ∷ es) later bs behind d f s he hb ht.0 ht.1)
no_tree at levels (e ∷ es) bs Text (leaf l) later behind (fits, never) (he, hb, ht, hd) =
    never l behind ht (head _ _ _ _ he) hb
no_tree at levels (e ∷ es) bs Text (group d f s) later behind (fits, never) (he, hb, ht, hd) =
    no_leaf_opens at e bs (ap (λ x. x.kind) (head _ _ _ _ he)) fits
no_tree at levels (e ∷ es) bs Depth (leaf l) later behind (opens, low) (he, hb, ht, hd) =
    not_opened at e es bs (leaf_closed at e l (head _ _ _ _ he)) opens
no_tree at levels (e ∷ es) bs Depth (group d f s) later behind (opens, low) (he, hb, ht, hd) =
    absurd (omega (arith, low, hd, le-max_left (suc (depth f)) 0))

-- edges are around one list of entries, and one text
pub enclosed_once : (at : ℕ) (es : List Entry) (bs : List ℕ) (is js : List Entry) (ws vs : List ℕ)
    → Encloses at es bs is ws → Encloses at es bs js vs → (is ≡ js) × (ws ≡ vs)
enclosed_once at es bs is js ws vs (c, r, more, rest, oe, ob, ou, os)
    (d, s, later, behind, e, hb, hu, hs) =
    let o : Entry = edge 3 c (opening_span r) at (length is + 1) in
    let z : Entry = edge 4 c (closing_span r) (at + length ws) (length is + 1) in
    let same : o ∷ (is ++ z ∷ more) ≡ edge 3 d (opening_span s) at (length js + 1)
    ∷ (js ++ edge 4 d (closing_span s) (at + length vs) (length js + 1) ∷ later) =
    cc in
    let k : z ≡ edge 4 d (closing_span s) (at + length vs) (length js + 1) =
    closing_is at o (is ++ z ∷ more) later js vs d s same is more z refl refl in
    let t : at + length ws ≡ at + length vs = ap (λ x. x.text_start) k in (
      inside_is at o (is ++ z ∷ more) later js vs d s same is more z refl refl,
      fronts ws vs rest behind (omega (arith, t)) (cc),
    )

-- what is inside a group's tree denotes a forest
pub enclosed_tree : (at levels : ℕ) (es : List Entry) (bs : List ℕ) (inside : List Entry)
    (words : List ℕ) (t : Tree) (later : List Entry) (behind : List ℕ)
    → Encloses at es bs inside words → TakesTree at (levels + 1) es bs t later behind
    → (f : Forest) × DenotesFrom at levels inside words f
enclosed_tree at levels es bs inside words (leaf l) later behind (d, s, more, rest, oe, ob, ou, os)
    (he, hb, ht, hd) =
    let k : 3 ≡ leaf_kind l = ap (λ x. x.kind) (head _ _ _ _ (sym oe ∙ he)) in
    absurd (omega (arith, k, leaf_is_small l))
enclosed_tree at levels es bs inside words (group d f s) later behind around (he, hb, ht, hd) =
    let (same, text) = enclosed_once at es bs inside (entries at f) words (texts f) around
    (tree_opens at es later bs behind d f s he hb ht.0 ht.1) in
    (f, (same, text, ht.0, omega (arith, hd, le-max_left (suc (depth f)) 0)))

-- a forest that is denoted begins with a tree
first_denoted : (at levels : ℕ) (es : List Entry) (bs : List ℕ) (t : Tree) (f : Forest)
    → DenotesFrom at levels es bs (tree t f)
    → TakesTree at levels es bs t (entries (at + length (tree_texts t)) f) (texts f)
first_denoted at levels es bs t f (he, hb, (ht, hf), hd) = (he, hb, ht, first_depth t f levels hd)

no_end : (at levels : ℕ) (es : List Entry) (bs : List ℕ) (why : Refusal)
    → Rejects at levels es bs why → es ≡ [] → bs ≡ [] → ⊥
no_end at levels [] bs why (same, over) he hb = over hb
no_end at levels (e ∷ es) bs why r he hb = no_nil e es he

rejects_none : (at levels : ℕ) (es : List Entry) (bs : List ℕ) (why : Refusal)
    → Rejects at levels es bs why → (f : Forest) → DenotesFrom at levels es bs f → ⊥
rejects_none at levels es bs why r no_trees (he, hb, hf, hd) = no_end at levels es bs why r he hb
rejects_none at levels es bs why r (tree t f) d =
    no_tree at levels es bs why t (entries (at + length (tree_texts t)) f) (texts f) r
    (first_denoted at levels es bs t f d)

inside_denoted : (at levels : ℕ) (es : List Entry) (bs : List ℕ) (inside : List Entry)
    (words : List ℕ) → Encloses at es bs inside words → (f : Forest)
    → DenotesFrom at (levels + 1) es bs f → (g : Forest) × DenotesFrom at levels inside words g
inside_denoted at levels es bs inside words (d, s, more, rest, oe, ob, ou, os) no_trees
    (he, hb, hf, hd) =
    absurd (no_nil _ _ (sym oe ∙ he))
inside_denoted at levels es bs inside words around (tree t f) d =
    enclosed_tree at levels es bs inside words t (entries (at + length (tree_texts t)) f) (texts f)
    around (first_denoted at (levels + 1) es bs t f d)

-- what is blamed denotes no forest
pub none_denoted : {number at levels : ℕ} {es : List Entry} {bs : List ℕ} {why : Refusal}
    {named : ℕ} → BlamesFrom number at levels es bs why named → (f : Forest)
    → DenotesFrom at levels es bs f → ⊥
none_denoted (first_entry number at levels es bs why r) f d = rejects_none at levels es bs why r f d
none_denoted (entry_inside number at levels es bs inside words why named around blamed) f d =
    let (g, dg) = inside_denoted at levels es bs inside words around f d in
    none_denoted blamed g dg
none_denoted (entry_after number at levels es bs t later behind why named takes blamed) f d =
    let (g, dg) = behind_tree at levels es later bs behind t f takes d in
    none_denoted blamed g dg

pub denied : (fault : EntryFault) (es : List Entry) (bs : List ℕ) → OnRejected fault (Blames es bs)
    → OnDenied fault (DenotesNone es bs)
denied (Refused why named) es bs blamed = λ f d. none_denoted blamed f d
denied Memory es bs blamed = tt
