-- A SPICE file that is split into lines once, of which each subcircuit is read.
use Rattle.std.proofs.Common.{ℕ, ◌≡◌, ◌≢◌, ◌≤◌, List, [], ◌∷◌, Result, Ok, Err, ap, arith, length, refl, subst, ◌∙◌}
use Rattle.cell_num.specs.Steps.{◌>>=◌}
use Rattle.spice_text.specs.declared.logical.Line.{Line}
use Rattle.tech_file.specs.Technology.{Technology}
use Rattle.spice_net.specs.declared.fault.SpiceFault.{SpiceFault}
use Rattle.spice_net.specs.declared.fault.SpiceFault.TheVariants as spice
use Rattle.spice_net.specs.declared.subckt.Subckt.{Subckt}
use Rattle.spice_net.specs.Chosen.{lines_in}
use Rattle.spice_net.specs.Subcircuit.{subckt_in, subcircuit}
use Rattle.finger_fold.specs.Folding.{folded}
use Rattle.finger_fold.specs.declared.folding.FoldFault.{FoldFault}
use Rattle.finger_fold.specs.declared.folding.FoldFault.TheVariants as fold
use Rattle.cell_make.specs.RowInputs.{RowInputs, AreRowInputs}
use Rattle.cell_make.specs.RowSteps.{IsStop, Stops, fold_stop, spice_stop}
use Rattle.cell_make.proofs.Made.{none_made}
use Rattle.cell_make.proofs.Stops.{stops_here}

-- what is read of the lines of a file is what is read of the file
read_in : (bytes name : List ℕ) (tech : Technology) (lines : List Line) (read : Result Subckt SpiceFault) → lines_in bytes ≡ Ok lines → subckt_in name tech lines ≡ read → subcircuit bytes name tech ≡ read
read_in bytes name tech lines read split is = ap (λ (all : Result (List Line) SpiceFault). all >>= subckt_in name tech) split ∙ is

-- the same of a row's file and technology, as the code holds them
pub read_of_row : (r : RowInputs) (name : List ℕ) (tech : Technology) (lines held : List Line) (read : Result Subckt SpiceFault) → lines_in r.spice ≡ Ok lines → tech ≡ r.tech → held ≡ lines → subckt_in name tech held ≡ read → subcircuit r.spice name r.tech ≡ read
read_of_row r name tech lines held read split by same is =
    read_in r.spice name r.tech lines read split
    (subst (λ (ls : List Line). subckt_in name r.tech ls ≡ read) same (subst (λ (t : Technology). subckt_in name t held ≡ read) by is))

-- a cell that has a fault is not made
pub fault_stops : (r : RowInputs) (name : List ℕ) (f : SpiceFault) → (f ≢ spice.NoMemory → subcircuit r.spice name r.tech ≡ Err f) → IsStop r name (spice_stop f)
fault_stops r name (spice.NotAscii line) fault = fault (λ q. cc)
fault_stops r name spice.NoCell fault = fault (λ q. cc)
fault_stops r name spice.Unended fault = fault (λ q. cc)
fault_stops r name (spice.Element line) fault = fault (λ q. cc)
fault_stops r name (spice.Fields line) fault = fault (λ q. cc)
fault_stops r name (spice.Model line) fault = fault (λ q. cc)
fault_stops r name (spice.Number line) fault = fault (λ q. cc)
fault_stops r name (spice.Length line units) fault = fault (λ q. cc)
fault_stops r name (spice.Narrow line units) fault = fault (λ q. cc)
fault_stops r name (spice.Body line) fault = fault (λ q. cc)
fault_stops r name (spice.Rail line) fault = fault (λ q. cc)
fault_stops r name spice.NoRail fault = fault (λ q. cc)
fault_stops r name (spice.IdlePin pin) fault = fault (λ q. cc)
fault_stops r name spice.Empty fault = fault (λ q. cc)
fault_stops r name (spice.TooMany what count) fault = fault (λ q. cc)
fault_stops r name (spice.Multiple line) fault = fault (λ q. cc)
fault_stops r name spice.NoMemory fault = tt

-- nor is one whose transistors do not fold
pub fold_stops : (r : RowInputs) (name : List ℕ) (cell : Subckt) (f : FoldFault) → subcircuit r.spice name r.tech ≡ Ok cell → (f ≢ fold.NoMemory → folded r.tech cell ≡ Err f) → IsStop r name (fold_stop f)
fold_stops r name cell (fold.TooManyFingers count) read fault = (cell, read, fault (λ q. cc))
fold_stops r name cell (fold.TooManyColumns count) read fault = (cell, read, fault (λ q. cc))
fold_stops r name cell fold.NoMemory read fault = tt

-- where the file has no lines, the first cell is not made
pub split_stops : (r : RowInputs) (bytes : List ℕ) (f : SpiceFault) → AreRowInputs r → bytes ≡ r.spice → (f ≢ spice.NoMemory → lines_in bytes ≡ Err f) → Stops r (spice_stop f)
split_stops r bytes f are same fault = first r.names refl are.some
  where
    refused : (name : List ℕ) → f ≢ spice.NoMemory → subcircuit r.spice name r.tech ≡ Err f
    refused name other = ap (λ (all : Result (List Line) SpiceFault). all >>= subckt_in name r.tech) (subst (λ (text : List ℕ). lines_in text ≡ Err f) same (fault other))

    first : (names : List (List ℕ)) → r.names ≡ names → 1 ≤ length names → Stops r (spice_stop f)
    first [] is some = absurd (omega (arith, some))
    first (name ∷ later) is some = stops_here r [] [] name later (spice_stop f) (none_made r) is (fault_stops r name f (refused name))
