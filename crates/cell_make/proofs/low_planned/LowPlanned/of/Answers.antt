use Rattle.std.proofs.Common.{IfOk, subst, sym}
use Rattle.std.specs.Option.{MatchOption}
use Rattle.std.proofs.lemmas.Result.{IfOk-weaker}
use Rattle.row_state.specs.Start.{AreKinds}
use Rattle.cell_inputs.specs.declared.style.Wiring.{Wiring}
use Rattle.cell_inputs.specs.declared.style.Wiring.TheVariants.{Straight, Doglegs}
use Rattle.cell_inputs.specs.Inputs.{Inputs}
use Rattle.cell_make.specs.declared.low_planned.LowPlanned.{LowPlanned}
use Rattle.cell_make.specs.Low.{IsLowPlanned}
use Rattle.cell_make.specs.LowRows.{CanBeRouted, IsRinged, IsWired}
use Rattle.cell_make.proofs.low_planned.LowPlanned.of.Goals as goal

pub ring_of-requires : goal.ring_of-requires
ring_of-requires c = c.requires.arranges

pub straight-requires-clause-ring : goal.straight-requires-clause-ring
straight-requires-clause-ring c = subst (λ (wiring : Wiring). MatchOption c.in_ok-ring.ring (IsWired wiring c.args.inputs.now c.args.row.now) (IsRinged wiring c.args.inputs.now c.args.row.now)) c.in-Straight.is c.in_ok-ring.ensures.ring

pub straight-requires-clause-kinds : goal.straight-requires-clause-kinds
straight-requires-clause-kinds c = subst (λ (i : Inputs). AreKinds i.fingers c.in_ok-kinds.kinds) c.inputs.view_is c.in_ok-kinds.ensures.kinds

pub by_pieces-requires-clause-ring : goal.by_pieces-requires-clause-ring
by_pieces-requires-clause-ring c = subst (λ (wiring : Wiring). MatchOption c.in_ok-ring.ring (IsWired wiring c.args.inputs.now c.args.row.now) (IsRinged wiring c.args.inputs.now c.args.row.now)) c.in-Doglegs.is c.in_ok-ring.ensures.ring

pub by_pieces-requires-clause-kinds : goal.by_pieces-requires-clause-kinds
by_pieces-requires-clause-kinds c = subst (λ (i : Inputs). AreKinds i.fingers c.in_ok-kinds.kinds) c.inputs.view_is c.in_ok-kinds.ensures.kinds

pub returns-in-Straight-clause-planned : goal.returns-in-Straight-clause-planned
returns-in-Straight-clause-planned c = subst (λ (wiring : Wiring). IfOk c.straight.result (IsLowPlanned wiring c.args.inputs.now c.args.row.now)) (sym c.in-Straight.is) c.straight.ensures

pub returns-clause-planned : goal.returns-clause-planned
returns-clause-planned c = subst (λ (wiring : Wiring). IfOk c.by_pieces.result (IsLowPlanned wiring c.args.inputs.now c.args.row.now)) (sym c.in-Doglegs.is) c.by_pieces.ensures

pub returns-in-Straight-clause-routed : goal.returns-in-Straight-clause-routed
returns-in-Straight-clause-routed c =
    IfOk-weaker c.straight.result (IsLowPlanned Straight c.args.inputs.now c.args.row.now) (λ (planned : LowPlanned). CanBeRouted c.args.wiring c.args.inputs.now c.args.row.now)
    (λ planned h. c.in_ok-ring.ensures.routed) c.straight.ensures

pub returns-clause-routed : goal.returns-clause-routed
returns-clause-routed c =
    IfOk-weaker c.by_pieces.result (IsLowPlanned Doglegs c.args.inputs.now c.args.row.now) (λ (planned : LowPlanned). CanBeRouted c.args.wiring c.args.inputs.now c.args.row.now)
    (λ planned h. c.in_ok-ring.ensures.routed) c.by_pieces.ensures
