use Rattle.std.proofs.Common.{rules, ◌≡◌, IsPermutation}
use Rattle.box_geom.specs.Ranges.{all_joined}
use Rattle.box_geom.specs.Sweeping.{all_slots, all_events}
use Rattle.box_geom.proofs.Events.{ranges_are}
use Rattle.box_geom.proofs.sweep.ranges.Goals as goal

pub returns : goal.returns
returns c =
    let a = c.args.first.now in
    let b = c.args.second.now in
    let sorted = c.sort.new.self.items in
    let moved : IsPermutation (all_events a b) sorted = search rules in
    let spans : c.in_ok-spans.spans.items ≡ all_slots c.args.operation sorted = search rules in
    let made : c.in_ok-made.made.items ≡ all_joined c.in_ok-spans.spans.items = search rules in
    ranges_are c.args.operation a b sorted c.in_ok-spans.spans.items c.in_ok-made.made.items moved c.in_ok-sort.ensures.sorted spans made
