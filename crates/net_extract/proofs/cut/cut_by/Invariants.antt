use Rattle.std.proofs.Common.{◌≡◌, take}
use Rattle.std.specs.List.{flat_map}
use Rattle.net_extract.specs.Cuts.{carved}
use Rattle.net_extract.proofs.cut.cut_by.Given as goal

abbrev pub invariant-loop-part : goal.invariant-loop-part
invariant-loop-part l = l.out ≡ flat_map (carved l.rect) (take l.part-index l.parts)
