use Rattle.std.proofs.Common.{Contains, subst, sym}
use Rattle.std.specs.List.Sorted.{IsStrictlyIncreasing}
use Rattle.std.proofs.lemmas.List.Filters.{dedup_is}
use Rattle.std.proofs.lemmas.List.Kept.{Contains-dedup_nat, Contains-from_dedup}
use Rattle.std.proofs.lemmas.List.Sorted.{Contains-permutation, IsPermutation-sym}
use Rattle.std.proofs.lemmas.Map.Keys.{IsStrictlyIncreasing-dedup}
use Rattle.cycle_search.proofs.order.sort.Goals as goal

pub returns-clause-rise : goal.returns-clause-rise
returns-clause-rise c = subst IsStrictlyIncreasing (sym (dedup_is _ c.sort_unstable.new.self.items c.dedup.new.self.items c.dedup.ensures.filtered)) (IsStrictlyIncreasing-dedup c.sort_unstable.new.self.items c.sort_unstable.ensures.sorted)

pub returns-clause-same : goal.returns-clause-same
returns-clause-same c = λ n. (
  λ there. Contains-permutation c.sort_unstable.new.self.items c.args.numbers.now.items n (IsPermutation-sym c.args.numbers.now.items c.sort_unstable.new.self.items c.sort_unstable.ensures.permutation)
      (Contains-from_dedup _ c.sort_unstable.new.self.items n (subst (λ xs. Contains xs n) (dedup_is _ c.sort_unstable.new.self.items c.dedup.new.self.items c.dedup.ensures.filtered) there)),
  λ there. subst (λ xs. Contains xs n) (sym (dedup_is _ c.sort_unstable.new.self.items c.dedup.new.self.items c.dedup.ensures.filtered))
      (Contains-dedup_nat c.sort_unstable.new.self.items n (Contains-permutation c.args.numbers.now.items c.sort_unstable.new.self.items n c.sort_unstable.ensures.permutation there)),
)
