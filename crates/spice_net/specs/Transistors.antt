-- What a line inside a subcircuit says: a transistor, or its first fault.
use Rattle.std.specs.Prelude.{ℕ, ◌==◌, ◌&&◌, ◌||◌, not, nat_eq, nat_le, Bool, false, List, [], ◌∷◌, codes}
use Rattle.std.specs.Prelude.{bytes_eq, Option, Some, None, unwrap_or, Result, Ok, Err, if◌then◌else◌}
use Rattle.std.specs.List.{starts_with, list_all}
use Rattle.cell_num.specs.declared.finger.Row.{Row}
use Rattle.cell_num.specs.declared.finger.Row.TheVariants.{P, N}
use Rattle.cell_num.specs.Names.{is_name}
use Rattle.spice_text.specs.declared.logical.Line.{Line}
use Rattle.spice_text.specs.Numbers.{fixed_of}
use Rattle.spice_net.specs.Numbers.{units_of, count_of, least_width}
use Rattle.spice_net.specs.Parameters.{is_parameter, value_of}
use Rattle.tech_file.specs.Technology.{Technology}
use Rattle.spice_net.specs.declared.fault.SpiceFault.{SpiceFault}
use Rattle.spice_net.specs.declared.fault.SpiceFault.TheVariants as fault
use Rattle.spice_net.specs.Chosen.{first_is, has_name}
use Rattle.cell_num.specs.Steps.{require, or_fault, ◌>>=◌}

-- ---- the fields of a line

-- the words that count: nets, the model, and the values of parameters
pub record Fields : Type 0 where
  pub drain : List ℕ
  pub gate : List ℕ
  pub source : List ℕ
  pub bulk : List ℕ
  pub model : List ℕ
  pub width : List ℕ
  pub channel : List ℕ
  pub m : List ℕ
  pub nf : List ℕ

-- A transistor's name, drain, gate, source, bulk and model, and behind them parameters, a width and a
-- length among them.
abbrev pub fields_of : ℕ → List (List ℕ) → Result Fields SpiceFault
fields_of line (name ∷ drain ∷ gate ∷ source ∷ bulk ∷ model ∷ parameters) = do
  _ ← require (list_all is_name (name ∷ drain ∷ gate ∷ source ∷ bulk ∷ model ∷ [])) (fault.Fields line)
  _ ← require (list_all is_parameter parameters) (fault.Fields line)
  width ← or_fault (value_of (codes "w=") parameters) (fault.Fields line)
  channel ← or_fault (value_of (codes "l=") parameters) (fault.Fields line)
  Ok (record {
    drain = drain;
    gate = gate;
    source = source;
    bulk = bulk;
    model = model;
    width = width;
    channel = channel;
    m = unwrap_or (value_of (codes "m=") parameters) (codes "1");
    nf = unwrap_or (value_of (codes "nf=") parameters) (codes "1");
  })
fields_of line _ = Err (fault.Fields line)

-- ---- its numbers

-- the length of every channel
abbrev pub channel_units : ℕ
channel_units = 4

-- the channel's width and its length in units, and the counts that `m` and `nf` are
pub record Sizes : Type 0 where
  pub width : ℕ
  pub channel : ℕ
  pub copies : Option ℕ
  pub fingers : Option ℕ

abbrev pub sizes_of : Technology → ℕ → Fields → Result Sizes SpiceFault
sizes_of tech line fields = do
  width ← or_fault (units_of tech fields.width) (fault.Number line)
  channel ← or_fault (units_of tech fields.channel) (fault.Number line)
  m ← or_fault (fixed_of fields.m) (fault.Number line)
  nf ← or_fault (fixed_of fields.nf) (fault.Number line)
  Ok (record { width = width; channel = channel; copies = count_of m; fingers = count_of nf })

-- ---- the transistor

-- A line's transistor with its nets by their names, its width in units, and at least how many fingers it
-- is cut into. The line stands for so many equal ones.
pub record Transistor : Type 0 where
  pub copies : ℕ
  pub row : Row
  pub drain : List ℕ
  pub gate : List ℕ
  pub source : List ℕ
  pub width : ℕ
  pub fingers : ℕ

-- the row of a model
abbrev pub row_of : Technology → List ℕ → Option Row
row_of tech model =
    if has_name tech.p_models model then Some P else
    if has_name tech.n_models model then Some N else None

-- the rail at the bulk of a row's transistors
abbrev pub own_rail : Technology → Row → List ℕ
own_rail tech P = tech.vdd
own_rail tech N = tech.gnd

-- the rail at none of their ends
abbrev pub other_rail : Technology → Row → List ℕ
other_rail tech P = tech.gnd
other_rail tech N = tech.vdd

abbrev pub is_rail : Technology → List ℕ → Bool
is_rail tech net = bytes_eq net tech.vdd || bytes_eq net tech.gnd

-- the gate is no rail, and neither end is the other row's
abbrev pub rails_allowed : Technology → Row → Fields → Bool
rails_allowed tech row fields =
    not (is_rail tech fields.gate) && not (bytes_eq fields.drain (other_rail tech row))
    && not (bytes_eq fields.source (other_rail tech row))

-- The transistor of some fields, its channel 4 units long and at least 6 wide for each finger; or the
-- first of its faults, in this order.
abbrev pub transistor_with : Technology → ℕ → Fields → Result Transistor SpiceFault
transistor_with tech line fields = do
  row ← or_fault (row_of tech fields.model) (fault.Model line)
  sizes ← sizes_of tech line fields
  _ ← require (sizes.channel == channel_units) (fault.Length line sizes.channel)
  _ ← require (nat_le (least_width sizes.fingers) sizes.width) (fault.Narrow line sizes.width)
  _ ← require (bytes_eq fields.bulk (own_rail tech row)) (fault.Body line)
  _ ← require (rails_allowed tech row fields) (fault.Rail line)
  copies ← or_fault sizes.copies (fault.Multiple line)
  fingers ← or_fault sizes.fingers (fault.Multiple line)
  Ok (record {
    copies = copies;
    row = row;
    drain = fields.drain;
    gate = fields.gate;
    source = fields.source;
    width = sizes.width;
    fingers = fingers;
  })

abbrev pub transistor_of : Technology → ℕ → List (List ℕ) → Result Transistor SpiceFault
transistor_of tech line words = fields_of line words >>= transistor_with tech line

-- ---- the lines

-- the first word begins with an m
abbrev pub is_transistor : List (List ℕ) → Bool
is_transistor [] = false
is_transistor (first ∷ more) = starts_with nat_eq first (codes "m")

-- a line's transistor in front of those of the lines behind it
abbrev pub with_line : Technology → Line → Result (List Transistor) SpiceFault → Result (List Transistor) SpiceFault
with_line tech line behind =
    if is_transistor line.words
    then transistor_of tech line.number line.words >>= (λ transistor. behind >>= λ more. Ok (transistor ∷ more))
    else require (first_is (codes ".global") line.words) (fault.Element line.number) >>= λ _. behind

-- the transistors of lines, or the first fault of the first line that is refused
abbrev pub transistors_of : Technology → List Line → Result (List Transistor) SpiceFault
transistors_of tech [] = Ok []
transistors_of tech (line ∷ lines) = with_line tech line (transistors_of tech lines)
