use Rattle.std.proofs.Common.{◌≡◌, rules, refl}
use Rattle.syn_replay.specs.Meanings.{kind_of}
use Rattle.syn_replay.specs.Turns.{terminated, separated}
use Rattle.syn_replay.proofs.Walk.Lists.{list-read, list-refused}
use Rattle.syn_replay.proofs.session.lists.list_by.Goals.{in-Terminated+in_ok-list-in-Terminated}
use Rattle.syn_replay.proofs.session.lists.list_by.Goals.{in-Separated+in_ok-list-in-Separated}
use Rattle.syn_replay.proofs.session.lists.list_by.Goals as goal

pub returns-in_err-list-in-Terminated : goal.returns-in_err-list-in-Terminated
returns-in_err-list-in-Terminated g c =
    rw c.in-Terminated.is (list-refused g.row.K g.row.N (kind_of c.args.kind) _
    (λ f. f.0.now ≡ c.args.kind) (λ f h s t r i k. search rules) terminated c.args.text.now
    c.requires
    _ c.args.input.now _ _ _ refl c.in_err-list-in-Terminated.ensures.run (search rules))

pub returns-in_err-list-in-Separated : goal.returns-in_err-list-in-Separated
returns-in_err-list-in-Separated g c =
    rw c.in-Separated.is (list-refused g.row.K g.row.N (kind_of c.args.kind) _
    (λ f. f.0.now ≡ c.args.kind) (λ f h s t r i k. search rules) separated c.args.text.now
    c.requires
    _ c.args.input.now _ _ _ refl c.in_err-list-in-Separated.ensures.run (search rules))

pub returns : goal.returns
returns g c =
    elim c.match-form.branch [
      | in-Terminated+in_ok-list-in-Terminated w ↦
          rw (w.in-Terminated.is, w.input-is) (list-read g.row.K g.row.N (kind_of c.args.kind) _
          (λ f. f.0.now ≡ c.args.kind) (λ f h s t r i k. search rules) terminated c.args.text.now
          c.requires
          _ c.args.input.now _ _ c.in_ok-parts.field-0 refl w.in_ok-list-in-Terminated.ensures.run
          (rw w.list-is at (c.in_ok-parts.ensures {u = tt})))
      | in-Separated+in_ok-list-in-Separated w ↦
          rw (w.in-Separated.is, w.input-is) (list-read g.row.K g.row.N (kind_of c.args.kind) _
          (λ f. f.0.now ≡ c.args.kind) (λ f h s t r i k. search rules) separated c.args.text.now
          c.requires
          _ c.args.input.now _ _ c.in_ok-parts.field-0 refl w.in_ok-list-in-Separated.ensures.run
          (rw w.list-is at (c.in_ok-parts.ensures {u = tt})))
    ]
