-- What is stated of a pruned forest holds of the visible trees of the forest.
use Rattle.std.proofs.Common.{arith, ◌≡◌, ap}
use Rattle.std.specs.Prelude.{Result}
use Rattle.tok_core.specs.Erase.{erase}
use Rattle.tok_core.specs.Forest.{Forest}
use Rattle.tok_leaves.specs.Spans.{call_site}
use Rattle.tok_pruned.specs.Pruned.{pruned}
use Rattle.tok_pruned.proofs.Pruning.{erase_pruned, filled_pruned}
use Rattle.syn_parse.proofs.Finished.{results_agree, words_agree}
use Rattle.syn_parse.proofs.Premises.{given, premise}
use Rattle.syn_parse.specs.Takes.{Agree, ErrorsAgree, Taking, TakesAll}
use Rattle.syn_parse.specs.Takings.{KeepsWhole, Takings, stated, untold}
use Rattle.syn_parse.specs.TreesAhead.{only_trees, whole}
use Rattle.syn_parse.specs.declared.fault.Fault.{Fault}
use Rattle.visible_parse.specs.Visible.{AgreeAs, KeepsVisible, SaySame, TakesVisible}

same_whole : (f : Forest) → whole (pruned f) ≡ whole f
same_whole f = ap only_trees (erase_pruned f)

module _ {T A : Type 0} (form : T → A) (take : Taking A) where
  takes_visible : (f : Forest) (r : Result T Fault) → TakesAll form take (pruned f) call_site r
      → TakesVisible form take f r
  takes_visible f r h = grind (arith, same_whole, filled_pruned)

  takes_pruned : (f : Forest) (r : Result T Fault) → TakesVisible form take f r
      → TakesAll form take (pruned f) call_site r
  takes_pruned f r h = grind (arith, same_whole)

  module _ (f g : Forest) (e : erase f ≡ erase g) (x y : Result T Fault) where
    same_pruned : erase (pruned f) ≡ erase (pruned g)
    same_pruned = rw (erase_pruned, erase_pruned) e

    agree_visibly : TakesVisible form take f x → TakesVisible form take g y → Agree form x y
    agree_visibly h k =
        results_agree form take (pruned f) call_site (pruned g) call_site same_pruned x y
        (takes_pruned f x h)
        (takes_pruned g y k)

    say_same : TakesVisible form take f x → TakesVisible form take g y
        → ErrorsAgree (take (whole f)) x y
    say_same h k =
        rw (← (same_whole f))
        (words_agree form take (pruned f) call_site (pruned g) call_site same_pruned
        (filled_pruned f)
        (filled_pruned g) x y (takes_pruned f x h) (takes_pruned g y k))

module _ {T : Type 0} where
  pub keeps_visible : (takes : Takings T) (f : Forest) (r : Result T Fault)
      → KeepsWhole takes (pruned f) call_site r → KeepsVisible takes f r
  keeps_visible untold f r h = tt
  keeps_visible (stated alone form take w) f r h =
      takes_visible form take f r (given alone _ _ h (premise alone _ (filled_pruned f)))

  pub both_agree : (takes : Takings T) (f g : Forest) (x y : Result T Fault)
      → KeepsVisible takes f x → KeepsVisible takes g y → erase f ≡ erase g → AgreeAs takes x y
  both_agree untold f g x y h k e = tt
  both_agree (stated alone form take w) f g x y h k e = agree_visibly form take f g e x y h k

  pub both_say : (takes : Takings T) (f g : Forest) (x y : Result T Fault)
      → KeepsVisible takes f x → KeepsVisible takes g y → erase f ≡ erase g
      → SaySame takes f x y
  both_say untold f g x y h k e = tt
  both_say (stated alone form take w) f g x y h k e = say_same form take f g e x y h k
