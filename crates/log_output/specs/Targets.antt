-- Where a text goes.
use Rattle.std.specs.Prelude.{Some, None}
use Rattle.cell_io.specs.Output.{Place}
use Rattle.log_output.specs.declared.target.Target.{Target}
use Rattle.log_output.specs.declared.target.Target.TheVariants.{File, Report}

abbrev pub place_of : Target → Place
place_of (File name) = Some name.now
place_of Report = None
