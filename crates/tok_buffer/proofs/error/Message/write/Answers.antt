use Rattle.std.proofs.Common.{refl, ◌∙◌, ap, codes}
use Rattle.std.specs.Str.{chars}
use Rattle.unicode_ident.specs.Ident.{is_xid_start, is_xid_continue}
use Rattle.unicode_ident.proofs.Computing.{unicode_ident}
use Rattle.tok_core.specs.Forest.{concat}
use Rattle.tok_buffer.specs.CompileErrors.{segment, invocation}
use Rattle.tok_core.proofs.Appended.{then_forest}
use Rattle.tok_buffer.proofs.error.Message.write.Goals as goal

pub write_segment-requires : goal.write_segment-requires
unfolding chars is_xid_start is_xid_continue unicode_ident
write_segment-requires c = (refl, refl)

pub write_segment-requires-2 : goal.write_segment-requires-2
unfolding chars is_xid_start is_xid_continue unicode_ident
write_segment-requires-2 c = (refl, refl)

pub returns : goal.returns
returns c =
    let m = c.args.self.now in
    let a = segment (codes "core") m.start in
    let b = segment (codes "compile_error") m.start in
    let two = then_forest c.args.tokens.now c.write_segment.new.tokens
    c.write_segment-2.new.tokens a b c.in_ok-write_segment.ensures
    c.in_ok-write_segment-2.ensures in
    then_forest c.args.tokens.now c.write_segment-2.new.tokens c.write_invocation.new.tokens
    (concat a b) (invocation m.start m.end m.text) two
    (c.in_ok-write_invocation.ensures
    ∙ ap (λ t. concat c.write_segment-2.new.tokens (invocation m.start m.end t))
    c.as_str.ensures)
