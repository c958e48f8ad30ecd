-- Any visible tree, and all that is left, by the visible trees ahead.
use Rattle.std.proofs.Common.{arith, ◌≡◌, ◌∙◌, sym, ap, List, [], ◌∷◌, map, Ok}
use Rattle.std.specs.Prelude.{Result, codes, option_map}
use Rattle.tok_core.specs.Erase.{erase}
use Rattle.tok_core.specs.Forest.{Tree, Forest}
use Rattle.tok_core.specs.Seen.{tree_of}
use Rattle.tok_core.specs.declared.stream.TokenTree.{TokenTree}
use Rattle.tok_buffer.specs.Descent.{descend}
use Rattle.tok_buffer.specs.EachRead.{first_if}
use Rattle.tok_buffer.specs.InFront.{with_ahead}
use Rattle.tok_buffer.specs.Place.{Place}
use Rattle.tok_buffer.specs.Reached.{Reached, down}
use Rattle.tok_core.specs.Kinds.{any_tree}
use Rattle.tok_buffer.specs.Rest.{rest}
use Rattle.tok_buffer.specs.Trees.{EndsScope, erased_read, erased_tree, read_visible}
use Rattle.tok_buffer.specs.declared.error.Message.{Message}
use Rattle.tok_buffer.proofs.Onwards.{visible_goes}
use Rattle.tok_buffer.proofs.ScopeEnds.{passes-keep, rest_erased, visible_tells}
use Rattle.tok_buffer.proofs.View.Laws.{reached_leads_on}
use Rattle.tok_buffer.proofs.View.Moves.{LeadsTo, leads-take}
use Rattle.syn_parse.specs.Parses.{IsTree}
use Rattle.syn_parse.specs.Reads.{TreesRead, Reads}
use Rattle.syn_parse.specs.ErrorWords.{refused_at}
use Rattle.syn_parse.specs.State.{State, moved}
use Rattle.syn_parse.specs.Takes.{TakesAs, missing_next}
use Rattle.syn_parse.specs.TreeTakes.{VisibleTreeParses, take_rest, take_tree, tree_in}
use Rattle.syn_parse.specs.declared.fault.Fault.{Fault}
use Rattle.syn_parse.proofs.Positions.{passes_kept, visible_kept}
use Rattle.syn_parse.proofs.Scopes.{in_one_scope, one_scope}
use Rattle.syn_parse.proofs.Told.{here_told, told-by}

-- a read, with the trees that are read without invisible groups
abbrev erased : TreesRead → TreesRead
erased x = option_map (λ q. (map erased_tree q.0, q.1)) x

erased-ahead : (x : TreesRead) → with_ahead (erased x) ≡ erased_read x
erased-ahead x = grind arith

abbrev IsErased : TokenTree → List Tree → Type 0
IsErased v ts = ts ≡ erased_tree (tree_of v) ∷ []

reads-erased : (x : TreesRead) (words : Message) (s : State) (r : Result TokenTree Fault)
    (t : State)
    → Reads IsTree x words s r t → Reads IsErased (erased x) words s r t
reads-erased x words s r t h = grind arith

leads-erased : (P : Place → Type 0) (x : TreesRead) → LeadsTo P x → LeadsTo P (erased x)
leads-erased P x h = grind arith

pub tree_told : (s : State) (r : Result TokenTree Fault) (t : State) → VisibleTreeParses s r t
    → TakesAs (λ v. erased_tree (tree_of v)) take_tree s r t
unfolding take_tree
tree_told s r t h =
    let words = codes "expected token tree" in
    told-by (λ v. erased_tree (tree_of v)) IsErased tree_in (λ v ts m. sym (ap tree_in m))
    (first_if any_tree) (missing_next words) (refused_at s words) s t (here_told words s)
    (erased (read_visible s.place)) r
    (erased-ahead (read_visible s.place) ∙ visible_tells s.place)
    (λ b i. leads-erased (Reached b) (read_visible s.place)
    (leads-take (Reached b) (Reached b) (reached_leads_on b) any_tree (descend s.place)
    (down s.place i)))
    (leads-erased _ (read_visible s.place) (visible_goes s.place))
    (leads-erased _ (read_visible s.place) (visible_kept s.place))
    (reads-erased (read_visible s.place) (refused_at s words) s r t h)

pub rest_told : (s : State) (f : Forest) (q : Place) (t : State) → f ≡ rest s.place
    → EndsScope s.place q → t ≡ moved q s → TakesAs erase take_rest s (Ok f) t
rest_told s f q t e h m =
    grind (arith, passes-keep, in_one_scope, rest_erased, one_scope, passes_kept)
