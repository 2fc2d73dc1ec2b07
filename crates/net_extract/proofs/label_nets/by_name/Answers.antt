use Rattle.std.proofs.Common.{rules}
use Rattle.std.specs.Cmp.Lexicographic.{slice_cmp, nat_list_cmp_total}
use Rattle.std.specs.Ordering.{nat_cmp, is_lt}
use Rattle.std.proofs.lemmas.List.Sorted.{answers_always, ranks_by}
use Rattle.net_extract.specs.declared.naming.NetLabel.{NetLabel}
use Rattle.net_extract.proofs.label_nets.by_name.Goals as goal

pub returns-clause-sorted : goal.returns-clause-sorted
returns-clause-sorted c = c.sort_unstable_by.ensures.sorted (λ (a b : NetLabel). is_lt (slice_cmp nat_cmp a.name b.name)) (ranks_by nat_list_cmp_total (λ (h : NetLabel). h.name)) (answers_always _ _ _ (λ f a r g h. search rules))
