use Rattle.module.proofs.Spans.{spared}
use Rattle.module.proofs.rules.span_spared.Goals as goal

pub returns : goal.returns
returns c = λ s e h. spared c.args.row s c.args.span.first c.args.span.len _ _ _ e h c.from.ensures c.min.ensures c.min-2.ensures
