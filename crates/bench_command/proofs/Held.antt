-- A generated cell is read from its text.
use Rattle.std.proofs.Common.{ℕ, ◌≡◌, ◌<◌, ◌^◌, List, Result, Ok, Err, IsTrue, sym, subst, arith, ◌∙◌}
use Rattle.tech_file.specs.Technology.{Technology, plain}
use Rattle.spice_net.specs.declared.fault.SpiceFault.{SpiceFault}
use Rattle.spice_net.specs.declared.subckt.Subckt.{Subckt}
use Rattle.spice_net.specs.Subcircuit.{subcircuit}
use Rattle.finger_fold.specs.declared.folding.FoldFault.{FoldFault}
use Rattle.finger_fold.specs.Folding.{folded}
use Rattle.cell_num.specs.declared.finger.Fingers.{Fingers}
use Rattle.cell_num.specs.Names.{is_cell}
use Rattle.bench_command.specs.Text.{cell_name}
use Rattle.bench_command.specs.Read.{IsRead}
use Rattle.bench_command.proofs.Names.{name_is_cell as bench_name}
use Rattle.bench_command.proofs.CellsRead.{cell_is_read}
use Rattle.cell_inputs.specs.Inputs.{Inputs}
use Rattle.bench_command.specs.Bench.{AreInputsOf, HoldsCell}

-- what is read of the cell
pub is_read : (text : List ℕ) (cell : ℕ) (held : HoldsCell text cell) → IsRead held.number cell
is_read text cell held = cell_is_read held.number cell (omega (arith, held.few)) held.below

pub read_is : (text : List ℕ) (cell : ℕ) (held : HoldsCell text cell) → subcircuit text (cell_name cell) plain ≡ Ok (is_read text cell held).subckt
read_is text cell held = subst (λ (t : List ℕ). subcircuit t (cell_name cell) plain ≡ Ok (is_read text cell held).subckt) (sym held.is) (is_read text cell held).read

-- no refusal is told of it
pub own_read : (text name : List ℕ) (tech : Technology) (cell : ℕ) (read : Result Subckt SpiceFault) → name ≡ cell_name cell → tech ≡ plain → subcircuit text name tech ≡ read → subcircuit text (cell_name cell) plain ≡ read
own_read text name tech cell read named same is =
    subst (λ (t : Technology). subcircuit text (cell_name cell) t ≡ read) same (subst (λ (n : List ℕ). subcircuit text n tech ≡ read) named is)

pub never_refused : (text name : List ℕ) (tech : Technology) (cell : ℕ) (fault : SpiceFault) → HoldsCell text cell → name ≡ cell_name cell → tech ≡ plain → subcircuit text name tech ≡ Err fault → ⊥
never_refused text name tech cell fault held named same refused =
    let both : ◌≡◌ {A = Result Subckt SpiceFault} (Ok (is_read text cell held).subckt) (Err fault) = sym (read_is text cell held) ∙ own_read text name tech cell (Err fault) named same refused in
    cc

-- its fingers are those of what is read
own_folded : (text : List ℕ) (cell : ℕ) (subckt : Subckt) (held : HoldsCell text cell) → subcircuit text (cell_name cell) plain ≡ Ok subckt → folded plain subckt ≡ Ok (is_read text cell held).fingers
own_folded text cell subckt held read =
    let own = is_read text cell held in
    let both : ◌≡◌ {A = Result Subckt SpiceFault} (Ok own.subckt) (Ok subckt) = sym (read_is text cell held) ∙ read in
    let is : own.subckt ≡ subckt = cc in
    subst (λ (s : Subckt). folded plain s ≡ Ok own.fingers) is own.fold

pub never_unfolded : (text name : List ℕ) (tech : Technology) (cell : ℕ) (subckt : Subckt) (fault : FoldFault) → HoldsCell text cell → name ≡ cell_name cell → tech ≡ plain → subcircuit text name tech ≡ Ok subckt → folded tech subckt ≡ Err fault → ⊥
never_unfolded text name tech cell subckt fault held named same read refused =
    let told : folded plain subckt ≡ Err fault = subst (λ (t : Technology). folded t subckt ≡ Err fault) same refused in
    let both : ◌≡◌ {A = Result Fingers FoldFault} (Ok (is_read text cell held).fingers) (Err fault) = sym (own_folded text cell subckt held (own_read text name tech cell (Ok subckt) named same read)) ∙ told in
    cc

pub own_fingers : (text : List ℕ) (cell : ℕ) (inputs : Inputs) (held : HoldsCell text cell) → AreInputsOf text cell inputs → (is_read text cell held).fingers ≡ inputs.fingers
own_fingers text cell inputs held are =
    let own = is_read text cell held in
    let both : ◌≡◌ {A = Result Fingers FoldFault} (Ok own.fingers) (Ok inputs.fingers) = sym (own_folded text cell inputs.cell held are.read) ∙ are.fold in
    cc

-- ---- the name of the cell

pub name_is_cell : (name : List ℕ) (cell : ℕ) → cell < 2 ^ 32 → name ≡ cell_name cell → IsTrue (is_cell name)
name_is_cell name cell few is = subst (λ (n : List ℕ). IsTrue (is_cell n)) (sym is) (bench_name cell (omega (arith, few)))
