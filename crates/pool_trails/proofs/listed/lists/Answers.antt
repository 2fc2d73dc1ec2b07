use Rattle.pool_trails.proofs.Lists.{lists_tells}
use Rattle.pool_trails.proofs.listed.lists.Goals as goal

pub returns : goal.returns
returns c =
    lists_tells c.args.along.now c.args.gates.now c.args.lemmas.now c.args.read.now c.are_texts.result
    c.as_slice-lines.result.now (c.is_rowless.ensures.0 c.if-not-is_rowless.false)
    (c.has_nets.ensures.0 c.if-not-has_nets.false) (c.has_nets-2.ensures.0 c.if-not-has_nets-2.false)
    c.as_slice-lines.ensures (c.in_ok-are_listed.ensures.0 c.if-not-branch.false) c.are_texts.ensures
