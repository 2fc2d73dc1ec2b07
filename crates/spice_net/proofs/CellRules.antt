-- What holds of every subcircuit that is read.
use Rattle.spice_net.proofs.Sound.{sound, some_devices, pins, few_pins, few_devices, all_directed}
use Rattle.spice_net.proofs.Spelled.{named, name_kept}
use Rattle.spice_net.proofs.Told.{never_in}

pub ruleset cell_rules =
    (sound, some_devices, pins, few_pins, few_devices, all_directed, named, name_kept, never_in)
