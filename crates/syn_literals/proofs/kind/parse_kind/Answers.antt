use Rattle.std.proofs.lemmas.Grind.{common_steps}
use Rattle.std.proofs.Common.{arith, ◌≡◌, ◌∙◌, sym, ap, is_some, true}
use Rattle.syn_parse.specs.Reads.{does}
use Rattle.syn_parse.proofs.Reading.{reads_refused}
use Rattle.syn_literals.specs.Kinds.{read_literal_of}
use Rattle.syn_literals.proofs.KindReads.{kind_parsed, not_some}
use Rattle.syn_literals.proofs.kind.parse_kind.Goals as goal

pub returns-then-not-peek_kind : goal.returns-then-not-peek_kind
returns-then-not-peek_kind g c = grind (arith, common_steps, reads_refused, not_some)

pub returns : goal.returns
returns g c =
    let s = c.args.input.now in
    let some : is_some (read_literal_of g.K.Kind.accepts s.place) ≡ true =
    ap (λ p. is_some (read_literal_of g.K.Kind.accepts p)) (sym c.cursor.ensures)
    ∙ sym c.peek_kind.ensures ∙ c.if-not-peek_kind.false in
    kind_parsed g.K.Kind.accepts g.K.Kind.words s c.parse.new.self c.parse.result some
    (does _ _ _ _ c.parse.ensures.reads)
