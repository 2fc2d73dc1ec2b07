use Rattle.std.proofs.Common.{◌≡◌, ◌++◌, [], drop, take, map}
use Rattle.row_abut.specs.Structs.{first_uses, struct_of}
use Rattle.row_abut.proofs.structs.cell_structs.Given as goal

abbrev pub invariant-cells : goal.invariant-cells
invariant-cells l = l.structs ++ map struct_of (first_uses (take l.number l.cells) (drop l.number l.cells)) ≡ map struct_of (first_uses [] l.cells)
