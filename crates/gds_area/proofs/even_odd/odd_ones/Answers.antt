use Rattle.std.proofs.Common.{◌≡◌, IfOk, None, ap, subst, ◌∙◌}
use Rattle.gds_area.specs.EvenOdd.{odd_ones}
use Rattle.gds_area.specs.Sweep.{unpaired}
use Rattle.gds_area.proofs.Unpaired.{unpaired_is}
use Rattle.gds_area.proofs.even_odd.odd_ones.Goals as goal

pub returns : goal.returns
returns c =
    let e : unpaired None c.as_slice.result.now ≡ odd_ones c.args.xs.items = ap (unpaired None) c.as_slice.ensures.value ∙ unpaired_is c.args.xs.items c.sort_unstable.new.self.items c.sort_unstable.ensures.permutation c.sort_unstable.ensures.sorted in
    subst (λ one. IfOk c.unpaired.result (λ v. v.items ≡ one)) e c.unpaired.ensures
