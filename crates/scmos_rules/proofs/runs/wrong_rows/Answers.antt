use Rattle.std.proofs.Common.{rules, ◌≡◌}
use Rattle.std.specs.List.{filter}
use Rattle.box_geom.specs.Regions.{AreBanded, SameCells}
use Rattle.scmos_rules.specs.Lengths.{is_wrong}
use Rattle.scmos_rules.proofs.RunLengths.{rows_wrong, some_blocks}
use Rattle.scmos_rules.proofs.runs.wrong_rows.Goals as goal

pub from_blocks-requires : goal.from_blocks-requires
from_blocks-requires c =
    let banded : AreBanded c.args.set.now = search rules in
    let e : c.as_slice.result.now ≡ filter (is_wrong c.args.measure c.args.value) c.args.set.now = search rules in
    some_blocks c.args.measure c.args.value c.args.set.now c.as_slice.result.now banded e

pub returns : goal.returns
returns c =
    let banded : AreBanded c.args.set.now = search rules in
    let e : c.as_slice.result.now ≡ filter (is_wrong c.args.measure c.args.value) c.args.set.now = search rules in
    let same : SameCells c.in_ok-region.region c.as_slice.result.now = search rules in
    rows_wrong c.args.measure c.args.value c.args.set.now c.as_slice.result.now c.in_ok-region.region banded e same
