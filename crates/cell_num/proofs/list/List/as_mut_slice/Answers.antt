use Rattle.std.proofs.Common.{refl, ◌≡◌, length, sym, ap, ◌∙◌}
use Rattle.cell_num.proofs.Written.{items_overwritten}
use Rattle.cell_num.proofs.list.List.as_mut_slice.Goals as goal

pub returns : goal.returns
returns g c =
    let value : c.as_mut_slice.result.now ≡ c.args.self.now = c.as_mut_slice.ensures.value ∙ c.self.view_is in
    let count : c.self.inside.items.len ≡ length c.args.self.now = sym c.as_mut_slice.ensures.len ∙ ap length value in
    ((refl {a = c.as_mut_slice.result.ghost_name}, λ w. items_overwritten c.self.inside.items.len c.self.inside.items.items c.args.self.now w c.self.view_is count), record { writes_back = tt; value = value })
