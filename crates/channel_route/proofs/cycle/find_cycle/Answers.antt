use Rattle.std.proofs.Common.{ℕ, ◌≡◌, ◌++◌, ◌<◌, ◌≤◌, List, All, Contains, get_or, take, drop, length, refl, subst, sym, rules}
use Rattle.std.proofs.lemmas.List.Elements.{All-append, All-drop, All-take}
use Rattle.channel_route.specs.declared.cycle.Step.{Step}
use Rattle.channel_route.specs.Turn.{steps, IsDown}
use Rattle.channel_route.specs.Walk.{IsKeyCycleBelow}
use Rattle.channel_route.proofs.Turns.{rest_copied, rotated_at}
use Rattle.channel_route.proofs.cycle.find_cycle.Goals as goal

abbrev blank : Step
blank = record { wire = record { left = 0; key = 0; right = 0; net = record { 0 = 0 } }; line = 0 }

pub returns-clause-cycle : goal.returns-clause-cycle
returns-clause-cycle c =
    let at : ℕ = c.least_place-at.result in
    let turn : List Step = c.in_ok-turn.turn.items in
    let lent : c.deref-2.result.now ≡ turn = search rules in
    let lent-2 : c.deref-3.result.now ≡ turn = search rules in
    let first : c.extend_from_slice.new.self.items ≡ drop at turn = rest_copied c.extend_from_slice.new.self.items c.new-cycle.result.items turn c.deref-2.result.now at c.new-cycle.ensures.items lent c.in_ok-extend_from_slice.ensures.items in
    let second : c.extend_from_slice-2.new.self.items ≡ c.extend_from_slice.new.self.items ++ take at c.deref-3.result.now = c.in_ok-extend_from_slice-2.ensures.items in
    let whole : c.extend_from_slice-2.new.self.items ≡ drop at turn ++ take at turn = rw second (rw first (rw lent-2 refl)) in
    let below : at < length turn = search rules in
    let least : All (λ (a : Step). (get_or turn at blank).wire.key ≤ a.wire.key) turn = search rules in
    subst (λ cycle. IsKeyCycleBelow steps (IsDown c.args.left.now c.args.constraints.now) c.args.start.key cycle) (sym whole)
    (rotated_at steps (IsDown c.args.left.now c.args.constraints.now) c.args.start.key turn at blank below (λ upper lower line down. c.requires.differ (record { upper = upper; lower = lower; line = line }) down.over) c.in_ok-turn.ensures.turn least)

pub returns-clause-wires : goal.returns-clause-wires
returns-clause-wires c =
    let at : ℕ = c.least_place-at.result in
    let turn : List Step = c.in_ok-turn.turn.items in
    let lent : c.deref-2.result.now ≡ turn = search rules in
    let lent-2 : c.deref-3.result.now ≡ turn = search rules in
    let first : c.extend_from_slice.new.self.items ≡ drop at turn = rest_copied c.extend_from_slice.new.self.items c.new-cycle.result.items turn c.deref-2.result.now at c.new-cycle.ensures.items lent c.in_ok-extend_from_slice.ensures.items in
    let second : c.extend_from_slice-2.new.self.items ≡ c.extend_from_slice.new.self.items ++ take at c.deref-3.result.now = c.in_ok-extend_from_slice-2.ensures.items in
    let whole : c.extend_from_slice-2.new.self.items ≡ drop at turn ++ take at turn = rw second (rw first (rw lent-2 refl)) in
    subst (λ (cycle : List Step). All (λ (s : Step). Contains c.args.left.now s.wire) cycle) (sym whole)
    (All-append (λ (s : Step). Contains c.args.left.now s.wire) (drop at turn) (take at turn) (All-drop (λ (s : Step). Contains c.args.left.now s.wire) at turn c.in_ok-turn.ensures.wires) (All-take (λ (s : Step). Contains c.args.left.now s.wire) at turn c.in_ok-turn.ensures.wires))
