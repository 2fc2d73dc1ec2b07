use Rattle.std.proofs.Common.{rules, ◌≡◌, ◌++◌, false, [], ◌∷◌, refl}
use Rattle.row_abut.specs.Row.{is_rail, label_at}
use Rattle.row_abut.proofs.labels.add_label.Goals as goal

pub returns : goal.returns
returns c =
    let signal : is_rail c.args.cell.now c.args.label.now.name ≡ false = search rules in
    let added : c.push.new.self ≡ c.args.out.now ++ label_at c.args.number c.args.x c.args.label.now ∷ [] = search rules in
    rw (signal, added) refl
