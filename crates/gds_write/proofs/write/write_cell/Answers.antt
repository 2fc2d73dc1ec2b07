use Rattle.std.proofs.Common.{◌≡◌, List, ℕ, [], ◌∷◌, ◌++◌, sym, subst}
use Rattle.std.proofs.lemmas.List.{append-nil}
use Rattle.gds_record.specs.Records.{spelling}
use Rattle.gds_write.specs.Written.{cell_of, structure_records}
use Rattle.gds_write.proofs.Pieces.{library_joined}
use Rattle.gds_write.proofs.write.write_cell.Goals as goal

pub returns : goal.returns
returns c =
    let bytes : List ℕ = spelling (structure_records c.args.unit_nm (cell_of c.args.name.now c.args.shapes.now)) in
    let one : c.put_structure.new.out.items ≡ c.put_head.new.out.items ++ bytes =
    subst (λ z. c.put_structure.new.out.items ≡ c.put_head.new.out.items ++ spelling (structure_records c.args.unit_nm (cell_of z c.args.shapes.now))) c.as_slice.ensures c.in_ok-put_structure.ensures in
    let within : c.put_structure.new.out.items ≡ c.put_head.new.out.items ++ (bytes ++ []) =
    subst (λ z. c.put_structure.new.out.items ≡ c.put_head.new.out.items ++ z) (sym (append-nil bytes)) one in
    library_joined (cell_of c.args.name.now c.args.shapes.now ∷ []) c.args.unit_nm c.new-out.result.items c.put_head.new.out.items c.put_structure.new.out.items c.put_end.new.out.items c.new-out.ensures.items c.in_ok-put_head.ensures within c.in_ok-put_end.ensures
