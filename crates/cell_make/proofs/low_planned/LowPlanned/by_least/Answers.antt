use Rattle.std.proofs.Common.{[], List, subst, sym}
use Rattle.row_model.specs.declared.column.Column.{Column}
use Rattle.row_model.specs.Gaps.{gaps_of}
use Rattle.row_cycles.specs.declared.lemma.CycleLemma.{CycleLemma}
use Rattle.cell_inputs.specs.declared.style.Wiring.TheVariants.{Straight}
use Rattle.cell_make.specs.LowRows.{IsFirstLeastWired, IsLeastWired}
use Rattle.cell_make.specs.LowWired.{AreBelow}
use Rattle.cell_make.proofs.LowRows.{first_wired, least_wired}
use Rattle.cell_make.proofs.LowTracks.{least_below}
use Rattle.cell_make.proofs.low_planned.LowPlanned.by_least.Goals as goal

pub by_tracks-requires-clause-wired : goal.by_tracks-requires-clause-wired
by_tracks-requires-clause-wired c =
    subst (IsLeastWired Straight c.args.inputs.now) (sym c.in_ok-wired.ensures) (least_wired Straight c.args.inputs.now c.args.row.now c.requires.least c.requires.wired)

pub by_tracks-requires-clause-below : goal.by_tracks-requires-clause-below
by_tracks-requires-clause-below c =
    subst (λ (cycles : List CycleLemma). AreBelow c.args.inputs.now c.args.kinds.now (gaps_of c.in_ok-wired.wired) cycles) (sym c.new-cycles.ensures)
    (subst (λ (row : List Column). AreBelow c.args.inputs.now c.args.kinds.now (gaps_of row) []) (sym c.in_ok-wired.ensures) (least_below c.args.inputs.now c.args.kinds.now c.args.row.now c.requires.least))

pub returns : goal.returns
returns c =
    c.in_ok-planned.ensures c.args.row.now
    (λ first. subst (IsFirstLeastWired Straight c.args.inputs.now) (sym c.in_ok-wired.ensures) (first_wired Straight c.args.inputs.now c.args.row.now c.requires.wired first))
