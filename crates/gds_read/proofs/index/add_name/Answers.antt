use Rattle.std.proofs.Common.{refl}
use Rattle.std.proofs.lemmas.Map.Text.{hash_map_updates_str}
use Rattle.gds_read.proofs.Indexed.{name_added}
use Rattle.gds_read.proofs.index.add_name.Goals as goal

pub returns : goal.returns
returns c =
    name_added c.args.index.now (record { names = c.insert.new.self; drawing = c.args.index.now.drawing }) c.args.name.now c.args.place c.looked_up.result c.once_more-found.result c.looked_up.ensures c.once_more-found.ensures
    (λ other. hash_map_updates_str c.args.name.now c.args.index.now.names c.insert.new.self _ c.in_ok-insert.ensures.updates other) refl
