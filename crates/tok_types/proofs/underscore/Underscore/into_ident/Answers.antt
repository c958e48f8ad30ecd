use Rattle.tok_types.proofs.Words.{underscore-identifier}
use Rattle.tok_types.proofs.underscore.Underscore.into_ident.Goals as goal

pub identifier-requires : goal.identifier-requires
identifier-requires c = underscore-identifier
