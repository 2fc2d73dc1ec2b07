use Rattle.std.proofs.Common.{Contains, map, ap, subst, sym, true, ◌≡◌, ◌∙◌}
use Rattle.std.proofs.lemmas.List.Kept.{AllPairs-from_increasing}
use Rattle.row_cycles.specs.Fits.{is_in_order}
use Rattle.cycle_search.specs.Visit.{AreSame, pair_of}
use Rattle.cycle_search.proofs.Ordered.{rising_in_order, same_pairs}
use Rattle.cycle_search.proofs.order.in_order.Goals as goal

pub returns-clause-order : goal.returns-clause-order
returns-clause-order c = subst (λ r. is_in_order r ≡ true) (sym (c.from_vec.ensures ∙ c.in_ok-pairs.ensures ∙ ap (map pair_of) c.as_slice.ensures.value)) (rising_in_order c.sort.new.numbers.items (AllPairs-from_increasing c.sort.new.numbers.items c.sort.ensures.rise))

pub returns-clause-same : goal.returns-clause-same
returns-clause-same c = subst (AreSame c.args.above.now) (sym (c.from_vec.ensures ∙ c.in_ok-pairs.ensures ∙ ap (map pair_of) c.as_slice.ensures.value))
    (same_pairs c.args.above.now c.sort.new.numbers.items c.requires.nets
    (λ n there. (c.sort.ensures.same n).1 (subst (λ xs. Contains xs n) (sym c.in_ok-numbers.ensures) there))
    (λ n there. subst (λ xs. Contains xs n) c.in_ok-numbers.ensures ((c.sort.ensures.same n).0 there)))
