use Rattle.std.proofs.Common.{rules, ◌≡◌, ◌+◌, ◌++◌, map, List, [], ◌∷◌, refl, arith}
use Rattle.row_abut.specs.Cells.{IsRowCell}
use Rattle.row_abut.specs.Row.{Standing, standing, standing_behind}
use Rattle.row_abut.specs.Structs.{ref_at}
use Rattle.row_abut.specs.declared.cell.RowCell.{RowCell}
use Rattle.row_abut.proofs.Loops.{one_more}
use Rattle.row_abut.proofs.structs.refs.Goals as goal

pub cells-preserved : goal.cells-preserved
cells-preserved c =
    let i = c.cells.cell-index in
    let x = c.cells.x in
    let cell = c.cell-item.result in
    let s : Standing = record { number = i; x = x; cell = cell } in
    let made : c.push.new.self ≡ c.cells.refs ++ ref_at s ∷ [] = search rules in
    let small : IsRowCell cell = search rules in
    let wide = small.width in
    let before = c.cells.invariant.1 in (
      one_more (λ (cs : List RowCell). map ref_at (standing_behind i x cs)) (λ (cs : List RowCell). map ref_at (standing_behind (i + 1) (x + cell.drawing.width) cs)) c.args.cells.now i cell cell (ref_at s ∷ []) c.cells.refs c.push.new.self (map ref_at (standing c.args.cells.now)) c.cells-test.true c.cell-item.is (λ rest. refl) made c.cells.invariant.0,
      omega (arith, wide, before),
    )
