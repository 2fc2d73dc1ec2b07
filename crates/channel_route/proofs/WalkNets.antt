-- Walks over wires whose keys are the numbers of their nets are walks over the nets.
use Rattle.std.proofs.Common.{ℕ, ◌≡◌, ◌≢◌, ◌<◌, List, [], ◌∷◌, map, length, refl, sym, ap, subst, arith, All}
use Rattle.std.specs.Bool.{⊤}
use Rattle.std.proofs.lemmas.List.Elements.{All-head, All-tail}
use Rattle.cell_num.specs.declared.net.NetNo.{NetNo}
use Rattle.cell_num.proofs.Lists.{all_map}
use Rattle.cell_num.proofs.Pairs.{pairs_map}
use Rattle.channel_route.specs.declared.routing.Above.{Above}
use Rattle.channel_route.specs.declared.cycle.Step.{Step}
use Rattle.channel_route.specs.Cycle.{nets}
use Rattle.channel_route.specs.Turn.{steps, above_of}
use Rattle.channel_route.specs.Walk.{next_key, IsWalk, IsCycleFrom, IsKeyCycleBelow}
use Rattle.channel_route.proofs.OneCycle.{cons_same}
use Rattle.channel_route.proofs.TrunkChannel.{net_of}

-- the net whose number is the key
abbrev pub named_of : Step → Above
named_of s = record { net = net_of s.wire.key; line = s.line }

walk_nets : (Over : ℕ → ℕ → ℕ → Type 0) (walk : List Step) (back : ℕ) → IsWalk steps Over walk back → IsWalk nets Over (map named_of walk) back
walk_nets Over [] back h = tt
walk_nets Over (a ∷ []) back h = (h.0, tt)
walk_nets Over (a ∷ b ∷ more) back h = (h.0, walk_nets Over (b ∷ more) back h.1)

begins_nets : (walk : List Step) (back : ℕ) → next_key steps walk back ≡ next_key nets (map named_of walk) back
begins_nets [] back = refl
begins_nets (a ∷ more) back = refl

some_left : (rest : List Step) → 0 < length rest → 0 < length (map named_of rest)
some_left [] h = absurd (omega (arith, h))
some_left (a ∷ more) h = omega arith

cycle_from : (Over : ℕ → ℕ → ℕ → Type 0) (first : Step) (rest : List Step) → IsCycleFrom steps Over first rest → IsCycleFrom nets Over (named_of first) (map named_of rest)
cycle_from Over first rest c = record {
  two = some_left rest c.two;
  differ = pairs_map (λ (a b : Step). a.wire.key ≢ b.wire.key) (λ _. ⊤) (λ (a b : Above). a.net.0 ≢ b.net.0) named_of (first ∷ rest) (λ x y _ _ d. d) (λ i d l. tt) c.differ;
  above = walk_nets Over (first ∷ rest) first.wire.key c.above;
  least = all_map (λ (a : Step). first.wire.key < a.wire.key) (λ (a : Above). first.wire.key < a.net.0) named_of rest (λ x less. less) c.least;
}

pub cycle_nets : (Over : ℕ → ℕ → ℕ → Type 0) (start : ℕ) (cycle : List Step) → IsKeyCycleBelow steps Over start cycle → IsKeyCycleBelow nets Over start (map named_of cycle)
cycle_nets Over start [] c = absurd c
cycle_nets Over start (first ∷ rest) (c, w) = (
  cycle_from Over first rest c,
  record { path = map named_of w.path; walk = walk_nets Over w.path first.wire.key w.walk; begins = subst (λ n. n ≡ start) (begins_nets w.path first.wire.key) w.begins },
)

entry_at : NetNo → ℕ → Above
entry_at net line = record { net = net; line = line }

entry_named : (s : Step) → s.wire.net ≡ net_of s.wire.key → named_of s ≡ above_of s
unfolding entry_at
entry_named s e = ap (λ n. entry_at n s.line) (sym e)

pub nets_named : (cycle : List Step) → All (λ (s : Step). s.wire.net ≡ net_of s.wire.key) cycle → map named_of cycle ≡ map above_of cycle
nets_named [] h = refl
nets_named (s ∷ more) h =
    cons_same (named_of s) (above_of s) (map named_of more) (map above_of more) (entry_named s (All-head (λ (s : Step). s.wire.net ≡ net_of s.wire.key) s more h)) (nets_named more (All-tail (λ (s : Step). s.wire.net ≡ net_of s.wire.key) s more h))
