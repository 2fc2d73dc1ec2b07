use Rattle.std.proofs.Common.{◌≡◌, ◌++◌, ◌∷◌, [], ◌<◌, not, false, List, All, Contains, count_by, get_or, drop, length, sym, subst, rules}
use Rattle.std.proofs.lemmas.List.Elements.{All-push, All-drop}
use Rattle.channel_route.specs.declared.cycle.Step.{Step}
use Rattle.channel_route.specs.declared.wire.Wire.{Wire}
use Rattle.channel_route.specs.Turn.{steps, IsDown, passes, IsTurn}
use Rattle.channel_route.specs.Walk.{next_key, IsWalk}
use Rattle.cell_num.proofs.Pairs.{OneEach, one_each_push}
use Rattle.channel_route.proofs.Turns.{waits_there, key_there, walk_push, begins_more, fewer_left, turn_ends, rest_copied}
use Rattle.channel_route.proofs.cycle.turn.Goals as goal

pub next_below-next-requires-clause-waits : goal.next_below-next-requires-clause-waits
next_below-next-requires-clause-waits c = waits_there c.args.left.now c.args.constraints.now c.loop-next.here.key c.requires.stuck (key_there c.args.left.now c.loop-next.here c.loop-next.invariant.2)

abbrev blank : Step
blank = record { wire = record { left = 0; key = 0; right = 0; net = record { 0 = 0 } }; line = 0 }

pub loop-next-smaller : goal.loop-next-smaller
loop-next-smaller c =
    let entry : Step = record { wire = c.loop-next.here; line = c.next_below-next.result.line } in
    let pushed : c.push.new.self.items ≡ c.loop-next.path.items ++ entry ∷ [] = search rules in
    let new : passes steps c.loop-next.path.items c.loop-next.here.key ≡ false = search rules in
    subst (λ path. count_by (λ (w : Wire). not (passes steps path w.key)) c.args.left.now < count_by (λ (w : Wire). not (passes steps c.loop-next.path.items w.key)) c.args.left.now) (sym pushed)
    (fewer_left steps c.args.left.now c.loop-next.path.items entry (key_there c.args.left.now c.loop-next.here c.loop-next.invariant.2) new)

pub loop-next-preserved : goal.loop-next-preserved
loop-next-preserved c =
    let entry : Step = record { wire = c.loop-next.here; line = c.next_below-next.result.line } in
    let pushed : c.push.new.self.items ≡ c.loop-next.path.items ++ entry ∷ [] = search rules in
    let new : passes steps c.loop-next.path.items c.loop-next.here.key ≡ false = search rules in
    let key : c.wire_of_key-here.result.key ≡ c.next_below-next.result.lower = c.wire_of_key-here.ensures.is in (
      subst (λ path. IsWalk steps (IsDown c.args.left.now c.args.constraints.now) path c.wire_of_key-here.result.key) (sym pushed) (subst (λ k. IsWalk steps (IsDown c.args.left.now c.args.constraints.now) (c.loop-next.path.items ++ entry ∷ []) k) (sym key) (walk_push steps (IsDown c.args.left.now c.args.constraints.now) c.loop-next.path.items entry c.next_below-next.result.lower c.loop-next.invariant.0 c.next_below-next.ensures)),
      subst (λ path. OneEach steps.key path) (sym pushed) (one_each_push steps.key c.loop-next.path.items entry c.loop-next.invariant.1 new),
      c.wire_of_key-here.ensures.there,
      subst (λ path. next_key steps path c.wire_of_key-here.result.key ≡ c.args.start.key) (sym pushed) (begins_more steps c.loop-next.path.items entry c.wire_of_key-here.result.key c.args.start.key c.loop-next.invariant.3),
      subst (λ path. All (λ (s : Step). Contains c.args.left.now s.wire) path) (sym pushed) (All-push (λ (s : Step). Contains c.args.left.now s.wire) c.loop-next.path.items entry c.loop-next.invariant.4 c.loop-next.invariant.2),
    )

pub returns-clause-turn : goal.returns-clause-turn
returns-clause-turn c =
    let lent : c.deref-3.result.now ≡ c.loop-next.path.items = search rules in
    let whole : c.extend_from_slice.new.self.items ≡ drop c.place_in-at.result c.loop-next.path.items = rest_copied c.extend_from_slice.new.self.items c.new-turn.result.items c.loop-next.path.items c.deref-3.result.now c.place_in-at.result c.new-turn.ensures.items lent c.in_ok-extend_from_slice.ensures.items in
    let below : c.place_in-at.result < length c.loop-next.path.items = search rules in
    let is : (get_or c.loop-next.path.items c.place_in-at.result blank).wire.key ≡ c.loop-next.here.key = search rules in
    subst (λ turn. IsTurn steps (IsDown c.args.left.now c.args.constraints.now) c.args.start.key turn) (sym whole)
    (turn_ends steps (IsDown c.args.left.now c.args.constraints.now) c.loop-next.path.items c.loop-next.here.key c.args.start.key c.place_in-at.result blank below is c.loop-next.invariant.0 c.loop-next.invariant.1 c.loop-next.invariant.3)

pub returns-clause-wires : goal.returns-clause-wires
returns-clause-wires c =
    let lent : c.deref-3.result.now ≡ c.loop-next.path.items = search rules in
    let whole : c.extend_from_slice.new.self.items ≡ drop c.place_in-at.result c.loop-next.path.items = rest_copied c.extend_from_slice.new.self.items c.new-turn.result.items c.loop-next.path.items c.deref-3.result.now c.place_in-at.result c.new-turn.ensures.items lent c.in_ok-extend_from_slice.ensures.items in
    subst (λ (turn : List Step). All (λ (s : Step). Contains c.args.left.now s.wire) turn) (sym whole) (All-drop (λ (s : Step). Contains c.args.left.now s.wire) c.place_in-at.result c.loop-next.path.items c.loop-next.invariant.4)
