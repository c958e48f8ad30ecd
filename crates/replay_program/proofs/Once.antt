-- For each input there is one thing that is printed.
use Rattle.std.proofs.Common.{◌≡◌, ℕ, Bool, true, false, List, Option, Some, None, IfSome, ap, ap₂}
use Rattle.std.proofs.Common.{sym, subst}
use Rattle.std.proofs.Common.{◌∙◌, refl, inl, inr}
use Rattle.std.specs.Prelude.{◌↔◌}
use Rattle.std.specs.Str.{chars}
use Rattle.tok_core.specs.Forest.{Forest}
use Rattle.tok_core.specs.Lexical.Reading.{IsRejected}
use Rattle.tok_lexical.specs.declared.rule.Mode.TheVariants.{Marked}
use Rattle.tok_core.specs.declared.lexer.error.LexError.{LexError}
use Rattle.tok_core.proofs.Lexical.Laws.{forest_once, refused_once, never_both}
use Rattle.replay_program.specs.CommandText.{unreadable_line, commands_in}
use Rattle.syn_replay.specs.Commands.{Command}
use Rattle.replay_program.specs.Comparison.{AreFacts, Facts, Comparison, Compares, Reports}
use Rattle.replay_program.specs.Comparison.{reported}
use Rattle.replay_program.specs.Comparison.{compared}
use Rattle.replay_program.specs.Failures.{Reading, Writing, all_read}
use Rattle.replay_program.specs.Output.{GoesOut}
use Rattle.replay_program.specs.Program.{HasParts, HasForests, IsForest, IsOther, IsUnreadable}
use Rattle.replay_program.specs.Program.{AreReports}
use Rattle.replay_program.specs.Program.{Fails, HasReports, Prints, PrintsOnly, Serves, ServesOnly}
use Rattle.replay_program.specs.Input.{parts_of}
use Rattle.replay_program.specs.declared.fault.Unreadable.{Unreadable}
use Rattle.replay_program.specs.declared.fault.Unreadable.TheVariants as why

forest_is : (text other : List ℕ) (forest : Forest) → text ≡ other → IsForest text forest
    → IsForest other forest
forest_is text other forest e h = rw e at h

refused_is : (text other : List ℕ) (error : LexError) → text ≡ other
    → IsRejected Marked 0 (chars text) error → IsRejected Marked 0 (chars other) error
refused_is text other error e h = rw e at h

-- a text reads as one forest, is refused with one error, and never both
one_forest : (text : List ℕ) (forest other : Forest) → IsForest text forest → IsForest text other
    → forest ≡ other
one_forest text forest other h k = forest_once 0 Marked 0 (chars text) forest other h k

one_error : (text : List ℕ) (error other : LexError) → IsRejected Marked 0 (chars text) error
    → IsRejected Marked 0 (chars text) other → error ≡ other
one_error text error other h k = refused_once 0 Marked 0 (chars text) error other h k

not_read : (text : List ℕ) (forest : Forest) (error : LexError) → IsForest text forest
    → IsRejected Marked 0 (chars text) error → ⊥
not_read text forest error h k = never_both 0 Marked 0 (chars text) forest error h k

module _ (bytes : List ℕ) where
  record SameParts (text text' : List ℕ) (other other' : Option (List ℕ))
      (lines lines' : List (List ℕ)) : Type 0 where
    texts : text ≡ text'
    others : other ≡ other'
    commands : lines ≡ lines'

  parts_once : (text text' : List ℕ) (other other' : Option (List ℕ)) (lines lines' : List (List ℕ))
      → HasParts bytes text other lines → HasParts bytes text' other' lines'
      → SameParts text text' other other' lines lines'
  parts_once text text' other other' lines lines' h k =
      let e : ◌≡◌ {A = List ℕ × Option (List ℕ) × List (List ℕ)} (text, other, lines)
      (text', other', lines') = cc (h.1, k.1) in
      record { texts = ap (λ p. p.0) e; others = ap (λ p. p.1) e; commands = ap (λ p. p.2) e }

  no_parts : (text : List ℕ) (other : Option (List ℕ)) (lines : List (List ℕ))
      → parts_of bytes ≡ None
      → HasParts bytes text other lines → ⊥
  no_parts text other lines e h = cc h.1

  others_once : (text text' : Option (List ℕ)) (forest forest' : Option Forest) → text ≡ text'
      → IsOther text forest → IsOther text' forest' → forest ≡ forest'
  others_once None None None None e h k = refl
  others_once None None None (Some g) e h k = absurd k
  others_once None None (Some f) g e h k = absurd h
  others_once None (Some u) f g e h k = absurd (cc)
  others_once (Some t) None f g e h k = absurd (cc)
  others_once (Some t) (Some u) None g e h k = absurd h
  others_once (Some t) (Some u) (Some f) None e h k = absurd k
  others_once (Some t) (Some u) (Some f) (Some g) e h k =
      let same : t ≡ u = cc in cc (one_forest u f g (forest_is t u f same h) k)

  record SameForests (forest forest' : Forest) (more more' : Option Forest)
      (lines lines' : List (List ℕ)) : Type 0 where
    forests : forest ≡ forest'
    others : more ≡ more'
    commands : lines ≡ lines'

  forests_once : (forest forest' : Forest) (more more' : Option Forest)
      (lines lines' : List (List ℕ))
      → HasForests bytes forest more lines → HasForests bytes forest' more' lines'
      → SameForests forest forest' more more' lines lines'
  forests_once forest forest' more more' lines lines' (text, other, h, reads, also)
      (text', other', h', reads', also') =
      let same = parts_once text text' other other' lines lines' h h' in
      record {
        forests =
            one_forest text' forest forest' (forest_is text text' forest same.texts reads) reads';
        others = others_once other other' more more' same.others also also';
        commands = same.commands;
      }

  lines_once : (forest forest' : Forest) (more more' : Option Forest) (lines lines' : List (List ℕ))
      (o p : Option ℕ)
      → HasForests bytes forest more lines → HasForests bytes forest' more' lines'
      → unreadable_line lines ≡ o → unreadable_line lines' ≡ p → o ≡ p
  lines_once forest forest' more more' lines lines' o p h k e f =
      cc (forests_once forest forest' more more' lines lines' h k).commands

  -- what can't be read is no forest
  no_text : (text : List ℕ) (other : Option (List ℕ)) (lines lines' : List (List ℕ))
      (error : LexError) (forest : Forest) (more : Option Forest)
      → HasParts bytes text other lines → IsRejected Marked 0 (chars text) error
      → HasForests bytes forest more lines' → ⊥
  no_text text other lines lines' error forest more h e (text', other', k, reads, also) =
      let same = parts_once text text' other other' lines lines' h k in
      not_read text' forest error reads (refused_is text text' error same.texts e)

  not_other : (text : List ℕ) (other : Option (List ℕ)) (more : Option Forest) (error : LexError)
      → Some text ≡ other
      → IsRejected Marked 0 (chars text) error → IsOther other more → ⊥
  not_other text None more error e h k = absurd (cc)
  not_other text (Some other) None error e h k = k
  not_other text (Some other) (Some forest) error e h k =
      let same : text ≡ other = cc in
      not_read other forest error k (refused_is text other error same h)

  no_right : (text other : List ℕ) (lines lines' : List (List ℕ)) (error : LexError)
      (forest : Forest) (more : Option Forest)
      → HasParts bytes text (Some other) lines → IsRejected Marked 0 (chars other) error
      → HasForests bytes forest more lines' → ⊥
  no_right text other lines lines' error forest more h e (text', other', k, reads, also) =
      let same = parts_once text text' (Some other) other' lines lines' h k in
      not_other other other' more error same.others e also

  why_once : (w v : Unreadable) → IsUnreadable bytes w → IsUnreadable bytes v → w ≡ v
  why_once why.Utf8 why.Utf8 h k = refl
  why_once why.Utf8 why.Parts h k = absurd (h k.0)
  why_once why.Utf8 (why.Text f) h (t, o, ls, p, r) = absurd (h p.0)
  why_once why.Utf8 (why.Right f) h (t, o, ls, g, p, r, e) = absurd (h p.0)
  why_once why.Utf8 (why.Command m) h (g, o, ls, (t, u, p, r, a), e) = absurd (h p.0)
  why_once why.Parts why.Utf8 h k = absurd (k h.0)
  why_once why.Parts why.Parts h k = refl
  why_once why.Parts (why.Text f) h (t, o, ls, p, r) = absurd (no_parts t o ls h.1 p)
  why_once why.Parts (why.Right f) h (t, o, ls, g, p, r, e) = absurd (no_parts t (Some o) ls h.1 p)
  why_once why.Parts (why.Command m) h (g, o, ls, (t, u, p, r, a), e) =
      absurd (no_parts t u ls h.1 p)
  why_once (why.Text e) why.Utf8 (t, o, ls, p, r) k = absurd (k p.0)
  why_once (why.Text e) why.Parts (t, o, ls, p, r) k = absurd (no_parts t o ls k.1 p)
  why_once (why.Text e) (why.Text f) (t, o, ls, p, r) (u, q, ms, k, s) =
      cc (one_error u e f (refused_is t u e (parts_once t u o q ls ms p k).texts r) s)
  why_once (why.Text e) (why.Right f) (t, o, ls, p, r) (u, q, ms, g, k, s, d) =
      absurd (not_read u g e s (refused_is t u e (parts_once t u o (Some q) ls ms p k).texts r))
  why_once (why.Text e) (why.Command m) (t, o, ls, p, r) (g, q, ms, k, s) =
      absurd (no_text t o ls ms e g q p r k)
  why_once (why.Right e) why.Utf8 (t, o, ls, g, p, r, d) k = absurd (k p.0)
  why_once (why.Right e) why.Parts (t, o, ls, g, p, r, d) k = absurd (no_parts t (Some o) ls k.1 p)
  why_once (why.Right e) (why.Text f) (t, o, ls, g, p, r, d) (u, q, ms, k, s) =
      absurd (not_read u g f (forest_is t u g (parts_once t u (Some o) q ls ms p k).texts r) s)
  why_once (why.Right e) (why.Right f) (t, o, ls, g, p, r, d) (u, q, ms, h, k, s, b) =
      let same : o ≡ q = cc (parts_once t u (Some o) (Some q) ls ms p k).others in
      cc (one_error q e f (refused_is o q e same d) b)
  why_once (why.Right e) (why.Command m) (t, o, ls, g, p, r, d) (h, q, ms, k, s) =
      absurd (no_right t o ls ms e h q p d k)
  why_once (why.Command n) why.Utf8 (g, o, ls, (t, u, p, r, a), e) k = absurd (k p.0)
  why_once (why.Command n) why.Parts (g, o, ls, (t, u, p, r, a), e) k =
      absurd (no_parts t u ls k.1 p)
  why_once (why.Command n) (why.Text w) (g, q, ms, k, s) (t, o, ls, p, r) =
      absurd (no_text t o ls ms w g q p r k)
  why_once (why.Command n) (why.Right w) (h, q, ms, k, s) (t, o, ls, g, p, r, d) =
      absurd (no_right t o ls ms w h q p d k)
  why_once (why.Command n) (why.Command m) (f, o, ls, h, e) (g, q, ms, k, d) =
      let same : Some n ≡ Some m = lines_once f g o q ls ms (Some n) (Some m) h k e d in
      cc

-- of two forests and commands there is one comparison
same_truth : (a b : Bool) {P : Type 0} → (a ≡ true) ↔ P → (b ≡ true) ↔ P → a ≡ b
same_truth true true h k = refl
same_truth true false h k = sym (k.1 (h.0 refl))
same_truth false true h k = h.1 (k.0 refl)
same_truth false false h k = refl

module _ (f g : Forest) (cs : List Command) where
  facts_once : (a b : Facts) → AreFacts f g cs a → AreFacts f g cs b → a ≡ b
  facts_once a b h k =
      let visible = same_truth a.visible b.visible h.visible k.visible in
      let filled : a.filled ≡ b.filled = h.filled ∙ sym k.filled in
      let clear : a.clear ≡ b.clear = h.clear ∙ sym k.clear in
      let transparent : a.transparent ≡ b.transparent = h.transparent ∙ sym k.transparent in
      let agree = same_truth a.agree b.agree h.agree k.agree in
      ap
      (λ v.
      record {
        visible = v;
        filled = a.filled;
        clear = a.clear;
        transparent = a.transparent;
        agree = a.agree;
      }) visible
      ∙ ap₂
      (λ v w.
      record {
        visible = b.visible;
        filled = v;
        clear = w;
        transparent = a.transparent;
        agree = a.agree;
      }) filled clear
      ∙ ap₂
      (λ v w.
      record {
        visible = b.visible;
        filled = b.filled;
        clear = b.clear;
        transparent = v;
        agree = w;
      }) transparent agree

  comparison_once : (a b : Comparison) → Compares f g cs a → Compares f g cs b → a ≡ b
  comparison_once a b h k =
      let facts = facts_once a.facts b.facts h.facts k.facts in
      let left : a.left ≡ b.left = h.left ∙ sym k.left in
      let right : a.right ≡ b.right = h.right ∙ sym k.right in
      ap₂ (λ v w. record { left = v; right = w; facts = a.facts }) left right
      ∙ ap (λ v. record { left = b.left; right = b.right; facts = v }) facts

same_reports : (forest : Forest) (more : Option Forest) (cs : List Command) (o p : Reports)
    → AreReports forest more cs o → AreReports forest more cs p → o ≡ p
same_reports forest None cs (reported r) (reported s) h k = cc
same_reports forest None cs (reported r) (compared c) h k = absurd k
same_reports forest None cs (compared c) p h k = absurd h
same_reports forest (Some g) cs (reported r) p h k = absurd h
same_reports forest (Some g) cs (compared c) (reported r) h k = absurd k
same_reports forest (Some g) cs (compared c) (compared d) h k =
    cc (comparison_once forest g cs c d h k)

reports_once : (bytes : List ℕ) (o p : Reports) → HasReports bytes o → HasReports bytes p → o ≡ p
reports_once bytes o p (f, m, ls, h, e, r) (g, n, ks, k, d, s) =
    let same = forests_once bytes f g m n ls ks h k in
    same_reports g n (commands_in ks) o p (rw (same.forests, same.others, same.commands) at r) s

not_both : (bytes : List ℕ) (o : Reports) (w : Unreadable) → HasReports bytes o
    → IsUnreadable bytes w → ⊥
not_both bytes o why.Utf8 (f, m, ls, (t, u, p, r, a), e, q) k = k p.0
not_both bytes o why.Parts (f, m, ls, (t, u, p, r, a), e, q) k = no_parts bytes t u ls k.1 p
not_both bytes o (why.Text w) (f, m, ls, h, e, q) (t, u, ms, p, s) =
    no_text bytes t u ms ls w f m p s h
not_both bytes o (why.Right w) (f, m, ls, h, e, q) (t, u, ms, g, p, r, s) =
    no_right bytes t u ms ls w f m p s h
not_both bytes o (why.Command n) (f, m, ls, h, e, q) (g, k, ms, i, d) =
    let same : None ≡ Some n = lines_once bytes f g m k ls ms None (Some n) h i e d in cc

prints_once : (bytes printed other : List ℕ) (status code : ℕ) → Prints bytes printed status
    → Prints bytes other code
    → (printed ≡ other) × (status ≡ code)
prints_once bytes printed other status code (inl (o, h, p, s)) (inl (o', h', p', s')) =
    let e = reports_once bytes o o' h h' in
    (cc, cc)
prints_once bytes printed other status code (inl (o, h, p, s)) (inr (w, k, q, t)) =
    absurd (not_both bytes o w h k)
prints_once bytes printed other status code (inr (w, k, q, t)) (inl (o, h, p, s)) =
    absurd (not_both bytes o w h k)
prints_once bytes printed other status code (inr (w, k, q, t)) (inr (w', k', q', t')) =
    let e = why_once bytes w w' k k' in
    (cc, cc)

pub prints_only : (bytes printed : List ℕ) (status : ℕ) → Prints bytes printed status
    → PrintsOnly bytes printed status
prints_only bytes printed status h other code k = prints_once bytes printed other status code h k

-- what comes of a run is what the program prints
pub serves_only : (read : Reading) (written : Writing) (bytes : List ℕ) (status : ℕ)
    (old new : Option (List ℕ))
    → Serves read written bytes status old new
    → ServesOnly read written bytes status old new
serves_only read written bytes status old new (inl (printed, mine, h, all, a)) other code k =
    let (same, codes) = prints_once bytes printed other mine code h k in
    inl (
      all,
      subst (λ text. GoesOut written text code status old new) same
          (subst (λ n. GoesOut written printed n status old new) codes a),
    )
serves_only read written bytes status old new (inr failed) other code k = inr failed

-- a run over bytes that were read is one of the source that was read whole
may_fail : (read : Reading) (written : Writing) (bytes : List ℕ) (status : ℕ)
    (old new : Option (List ℕ)) → read.whole bytes → Fails all_read written bytes status old new
    → Fails read written bytes status old new
may_fail read written bytes status old new whole (inl (all, told)) = inl (inl whole, told)
may_fail read written bytes status old new whole (inr (two, none, kept)) = absurd none

pub serves_read : (read : Reading) (written : Writing) (bytes : List ℕ) (status : ℕ)
    (old new : Option (List ℕ))
    → read.whole bytes → Serves all_read written bytes status old new
    → Serves read written bytes status old new
serves_read read written bytes status old new whole (inl (printed, code, h, all, a)) =
    inl (printed, code, h, whole, a)
serves_read read written bytes status old new whole (inr failed) =
    inr (may_fail read written bytes status old new whole failed)

-- what holds of the bytes that were read
pub known_read : (P : List ℕ → Type 0) (known : Option (List ℕ)) (read : List ℕ)
    → IfSome known (λ bytes. read ≡ bytes) → P read → IfSome known P
known_read P None read e h = tt
known_read P (Some bytes) read e h = subst P e h

-- what holds of all bytes
pub known_any : (P : List ℕ → Type 0) (known : Option (List ℕ)) → ((bytes : List ℕ) → P bytes)
    → IfSome known P
known_any P None h = tt
known_any P (Some bytes) h = h bytes
