-- Fingers of which those of one row on some gates are left out.
use Rattle.std.specs.Prelude.{ℕ, ◌-◌, ◌==◌, Bool, not, List, Option, Some, None}
use Rattle.std.specs.List.{filter, list_any}
use Rattle.cell_num.specs.declared.net.NetNo.{NetNo}
use Rattle.cell_num.specs.declared.finger.Row.{Row}
use Rattle.cell_num.specs.declared.finger.Row.TheVariants.{P, N}
use Rattle.cell_num.specs.declared.finger.Finger.{Finger}
use Rattle.cell_num.specs.declared.finger.Fingers.{Fingers}
use Rattle.cell_num.specs.Fingers.{columns_of}
use Rattle.fewer_fingers.specs.declared.fewer.LeftOut.{LeftOut}

abbrev pub is_out : LeftOut → ℕ → Bool
is_out out gate = list_any (λ (g : NetNo). g.0 == gate) out.gates

-- the fingers of the row that are on none of the gates
abbrev pub staying_in : LeftOut → List Finger → List Finger
staying_in out fingers = filter (λ (x : Finger). not (is_out out x.gate.0)) fingers

abbrev pub without_in : Row → LeftOut → Fingers → Fingers
without_in P out f = record { nets = f.nets; p = staying_in out f.p; n = f.n }
without_in N out f = record { nets = f.nets; p = f.p; n = staying_in out f.n }

-- the fingers that stay
abbrev pub without : LeftOut → Fingers → Fingers
without out f = without_in out.row out f

-- the fingers that stay, where any are left out
abbrev pub staying : Option LeftOut → Fingers → Fingers
staying None f = f
staying (Some out) f = without out f

-- how many columns less the others need: those on which no finger stays
abbrev pub columns_lost : Fingers → Fingers → ℕ
columns_lost f others = columns_of f - columns_of others
