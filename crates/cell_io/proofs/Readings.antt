-- Bytes in memory leave what is behind their position.
use Rattle.std.proofs.Common.{ℕ, ap, List, drop, Option, Some, option_map}
use Rattle.std.specs.Io.Cursor.{cursor_position, cursor_inner, cursor_remaining}
use Rattle.std.specs.declared.io.impls.Cursor.{Cursor}
use Rattle.cell_io.specs.Reading.{LeavesTheRest}

pub cursor_leaves_the_rest : {T : Type 0} (bytes : T → Option (List ℕ)) → LeavesTheRest (cursor_remaining bytes) (λ (c : Cursor T). Some (cursor_position c)) (λ (c : Cursor T). bytes (cursor_inner c))
cursor_leaves_the_rest bytes f at all p b = rw b (ap (λ (n : Option ℕ). option_map (λ (k : ℕ). drop k all) n) p)
