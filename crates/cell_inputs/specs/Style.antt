-- How a cell is made.
use Rattle.cell_inputs.specs.declared.style.Style.{Style}
use Rattle.cell_inputs.specs.declared.style.Wiring.TheVariants.{Straight}
use Rattle.cell_inputs.specs.declared.style.Taps.TheVariants.{Without}

-- straight trunks, and no taps
abbrev pub plain_style : Style
plain_style = record { wiring = Straight; taps = Without }
