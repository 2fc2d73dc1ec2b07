use Rattle.std.proofs.Common.{rules, ◌≡◌, ◌≤◌, ◌++◌, length, true, false}
use Rattle.std.specs.List.{filter}
use Rattle.std.specs.List.Sorted.{IsPartitionPoint}
use Rattle.box_geom.specs.Standing.{stands_at, ends_above}
use Rattle.box_geom.proofs.Rising.{begins_by, advanced_is}
use Rattle.box_geom.proofs.standing.advance.Goals as goal

pub returns : goal.returns
returns c =
    let bound : c.count_begun.result ≤ length c.args.rest.now = search rules in
    let parts : IsPartitionPoint (λ r. begins_by c.args.y r ≡ true) (λ r. begins_by c.args.y r ≡ false) c.args.rest.now c.count_begun.result = search rules in
    let gone : c.drop_ended.new.standing.items ≡ filter (ends_above c.args.y) c.args.standing.now.items = search rules in
    let add : c.add_begun.new.standing.items ≡ c.drop_ended.new.standing.items ++ filter (stands_at c.args.y) c.split_at.result.0.now = search rules in
    advanced_is c.args.rest.now c.args.standing.now.items c.drop_ended.new.standing.items c.add_begun.new.standing.items c.split_at.result.0.now c.split_at.result.1.now c.args.y c.count_begun.result bound parts c.split_at.ensures.front c.split_at.ensures.back gone add
