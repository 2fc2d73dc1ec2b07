use Rattle.std.proofs.Common.{rules, ◌≡◌, Some, sym, subst}
use Rattle.bound_log.specs.Line.{FewOfEach, counts_in, end_in}
use Rattle.bound_log.proofs.Counts.{few_of_each}
use Rattle.bound_log.proofs.States.{counts_read, end_read}
use Rattle.bound_log.proofs.line.state_of_words.Goals as goal

pub counts-requires : goal.counts-requires
counts-requires c = subst FewOfEach (sym c.as_slice.ensures) (few_of_each _ c.kinds.invariant).0

pub counts-requires-2 : goal.counts-requires-2
counts-requires-2 c = subst FewOfEach (sym c.as_slice-2.ensures) (few_of_each _ c.kinds.invariant).1

pub is_valid-requires-clause-p_left : goal.is_valid-requires-clause-p_left
is_valid-requires-clause-p_left c =
    let read : Some c.in-Some.p_left ≡ counts_in c.args.kinds.now.p c.args.p_left.now = search rules in
    counts_read c.args.kinds.now.p c.args.p_left.now c.in-Some.p_left read

pub is_valid-requires-clause-n_left : goal.is_valid-requires-clause-n_left
is_valid-requires-clause-n_left c =
    let read : Some c.in-Some-2.n_left ≡ counts_in c.args.kinds.now.n c.args.n_left.now = search rules in
    counts_read c.args.kinds.now.n c.args.n_left.now c.in-Some-2.n_left read

pub is_valid-requires-clause-p_end : goal.is_valid-requires-clause-p_end
is_valid-requires-clause-p_end c =
    let read : Some c.in-Some-end.p_end ≡ end_in c.args.kinds.now.nets c.args.p_end.now = search rules in
    end_read c.args.kinds.now.nets c.args.p_end.now c.in-Some-end.p_end read

pub is_valid-requires-clause-n_end : goal.is_valid-requires-clause-n_end
is_valid-requires-clause-n_end c =
    let read : Some c.in-Some-end-2.n_end ≡ end_in c.args.kinds.now.nets c.args.n_end.now = search rules in
    end_read c.args.kinds.now.nets c.args.n_end.now c.in-Some-end-2.n_end read
