use Rattle.std.proofs.Common.{◌≤◌, rules}
use Rattle.cell_num.specs.declared.length.TheConstants.{MOST_UNITS}
use Rattle.cell_num.proofs.Nearest.{not_far}
use Rattle.cell_num.proofs.length.snap.Goals as goal

pub returns-in-Some-2-clause-above : goal.returns-in-Some-2-clause-above
returns-in-Some-2-clause-above c =
    let few : c.in-Some-2.units ≤ MOST_UNITS = search rules in
    (λ e. cc, λ h. absurd (not_far c.args.value.now c.args.unit_pm MOST_UNITS c.in-Some-2.units c.in-Some-2.ensures.near few h))
