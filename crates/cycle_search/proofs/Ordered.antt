-- Pairs in order are the same pairs.
use Rattle.std.proofs.Common.{ℕ, ◌≡◌, ◌+◌, ◌*◌, ◌/◌, ◌%◌, ◌<◌, true, List, [], ◌∷◌, map, refl, sym, ap, subst, arith, All, Contains, ◌∙◌}
use Rattle.std.specs.List.{AllPairs}
use Rattle.std.proofs.lemmas.Bool.{and_from, lt-ltb}
use Rattle.std.proofs.lemmas.List.Elements.{All-contains}
use Rattle.cell_num.proofs.In.{Image, contains_map, in_map}
use Rattle.cell_num.proofs.Lists.{all_from_contains, contains_here}
use Rattle.cell_num.proofs.Pairs.{pairs_head, pairs_tail}
use Rattle.row_cycles.specs.declared.above.NetAbove.{NetAbove}
use Rattle.row_cycles.specs.Above.{HasNets}
use Rattle.row_cycles.specs.Fits.{above_rank, is_in_order}
use Rattle.cycle_search.specs.Visit.{AreSame, number_of, pair_of}

rank_is : (n : ℕ) → above_rank (pair_of n) ≡ n
rank_is n = omega arith

-- the pairs of numbers that rise are in order
pub rising_in_order : (ns : List ℕ) → AllPairs (λ (a b : ℕ). a < b) ns → is_in_order (map pair_of ns) ≡ true
rising_in_order [] h = refl
rising_in_order (n ∷ []) h = refl
rising_in_order (n ∷ m ∷ rest) h =
    let first : n < m = All-contains (λ (b : ℕ). n < b) (m ∷ rest) m (pairs_head (λ (a b : ℕ). a < b) n (m ∷ rest) h) (contains_here m rest) in
    let less : above_rank (pair_of n) < above_rank (pair_of m) = omega (arith, first, rank_is n, rank_is m) in
    and_from _ _ (lt-ltb (above_rank (pair_of n)) (above_rank (pair_of m)) less) (rising_in_order (m ∷ rest) (pairs_tail (λ (a b : ℕ). a < b) n (m ∷ rest) h))

upper_back : (u l : ℕ) → u < 256 → l < 256 → ((u % 256) * 256 + l % 256) / 256 ≡ u
upper_back u l a b = omega (arith, a, b)

lower_back : (u l : ℕ) → u < 256 → l < 256 → ((u % 256) * 256 + l % 256) % 256 ≡ l
lower_back u l a b = omega (arith, a, b)

pub pair_back : (a : NetAbove) → HasNets 256 a → pair_of (number_of a) ≡ a
pair_back a h =
    ap (λ (n : ℕ). record { upper = record { 0 = n }; lower = record { 0 = number_of a % 256 } }) (upper_back a.upper.0 a.lower.0 h.0 h.1)
    ∙ ap (λ (n : ℕ). record { upper = a.upper; lower = record { 0 = n } }) (lower_back a.upper.0 a.lower.0 h.0 h.1)

pub same_pairs : (above : List NetAbove) (ns : List ℕ) → All (HasNets 256) above → ((n : ℕ) → Contains (map number_of above) n → Contains ns n) → ((n : ℕ) → Contains ns n → Contains (map number_of above) n) → AreSame above (map pair_of ns)
same_pairs above ns nets to from = record {
  to = all_from_contains (Contains (map pair_of ns)) above (λ a there.
      subst (Contains (map pair_of ns)) (pair_back a (All-contains (HasNets 256) above a nets there)) (contains_map pair_of ns (number_of a) (to (number_of a) (contains_map number_of above a there))));
  from = all_from_contains (Contains above) (map pair_of ns) (λ b there.
      let i : Image pair_of ns b = in_map pair_of ns b there in
      let j : Image number_of above i.of = in_map number_of above i.of (from i.of i.listed) in
      subst (Contains above) (sym (pair_back j.of (All-contains (HasNets 256) above j.of nets j.listed)) ∙ ap pair_of j.is ∙ i.is) j.listed);
}
