-- Why a channel is not routed.
use Rattle.cell_num.specs.declared.net.Pins.{Pins}
use Rattle.row_place.specs.declared.placement.Placement.{Placement}
use Rattle.cell_inputs.specs.declared.style.Wiring.{Wiring}
use Rattle.cell_make.specs.declared.channel.ChannelStop.{ChannelStop}
use Rattle.cell_make.specs.declared.channel.ChannelStop.TheVariants.{Ring, NoMemory}
use Rattle.cell_make.specs.Style.{IsToldRing}

-- a cycle is reported, or memory ran out
abbrev pub TellsRing : Wiring → Placement → Pins → ChannelStop → Type 0
TellsRing wiring placement pins (Ring ring) = IsToldRing wiring placement pins ring
TellsRing wiring placement pins NoMemory = Unit {0}
