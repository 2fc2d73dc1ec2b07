use Rattle.std.proofs.Common.{◌≡◌, ◌++◌, ◌∷◌, [], true, false, get_or, refl, rules}
use Rattle.channel_route.specs.declared.wire.PlacedWire.{PlacedWire}
use Rattle.channel_route.specs.declared.wire.Wire.{Wire}
use Rattle.channel_route.specs.Graph.{has_room}
use Rattle.channel_route.proofs.Sweeps.{sweeps_begin, sweeps_put, sweeps_skip, sweeps_end, sweeps_stuck}
use Rattle.channel_route.proofs.sweep.fill_track.Goals as goal
use Rattle.channel_route.proofs.sweep.fill_track.Goals.{then-fits+in_ok-push, else-fits+in_ok-push-2}

pub loop-wire-init : goal.loop-wire-init
loop-wire-init c = sweeps_begin c.args.constraints.now c.args.left.now c.args.placed.now.items c.new-still.result.items c.args.track c.new-still.ensures.items

abbrev blank : Wire
blank = record { left = 0; key = 0; right = 0; net = record { 0 = 0 } }

pub loop-wire-preserved : goal.loop-wire-preserved
loop-wire-preserved c =
    let wire : Wire = get_or c.args.left.now c.loop-wire.wire-index blank in
    let trunk : PlacedWire = record { wire = wire; track = c.args.track } in
    elim c.if-fits.branch [
      | then-fits+in_ok-push w ↦
          let room : has_room c.args.left.now c.args.constraints.now c.loop-wire.last wire ≡ true = search rules in
          let pushed : c.if-fits.placed.items ≡ c.loop-wire.placed.items ++ trunk ∷ [] = search rules in
          let same : c.if-fits.still.items ≡ c.loop-wire.still.items = search rules in
          sweeps_put c.args.constraints.now c.args.left.now c.args.placed.now.items c.loop-wire.placed.items c.if-fits.placed.items c.loop-wire.still.items c.if-fits.still.items c.args.track c.loop-wire.last c.if-fits.last c.loop-wire.wire-index wire blank c.loop-wire-test.true refl room pushed same w.last-is c.loop-wire.invariant
      | else-fits+in_ok-push-2 w ↦
          let full : has_room c.args.left.now c.args.constraints.now c.loop-wire.last wire ≡ false = search rules in
          let same : c.if-fits.placed.items ≡ c.loop-wire.placed.items = search rules in
          let pushed : c.if-fits.still.items ≡ c.loop-wire.still.items ++ wire ∷ [] = search rules in
          sweeps_skip c.args.constraints.now c.args.left.now c.args.placed.now.items c.loop-wire.placed.items c.if-fits.placed.items c.loop-wire.still.items c.if-fits.still.items c.args.track c.loop-wire.last c.if-fits.last c.loop-wire.wire-index wire blank c.loop-wire-test.true refl full same pushed w.last-is c.loop-wire.invariant
    ]

pub returns-clause-filled : goal.returns-clause-filled
returns-clause-filled c = sweeps_end c.args.constraints.now c.args.left.now c.args.placed.now.items c.loop-wire.placed.items c.loop-wire.still.items c.args.track c.loop-wire.last c.loop-wire.wire-index (search rules) c.loop-wire.invariant

pub returns-clause-stuck : goal.returns-clause-stuck
returns-clause-stuck c = sweeps_stuck c.args.constraints.now c.args.left.now c.args.placed.now.items c.loop-wire.placed.items c.loop-wire.still.items c.args.track c.loop-wire.last c.loop-wire.wire-index (search rules) c.loop-wire.invariant
