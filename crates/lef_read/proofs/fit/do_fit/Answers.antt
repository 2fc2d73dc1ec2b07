use Rattle.std.proofs.Common.{rules, ◌≡◌, not, is_some, subst, sym, ◌∙◌}
use Rattle.net_extract.specs.NetMaps.{AreCellsOf}
use Rattle.lef_read.proofs.Runs.{fit_decides}
use Rattle.lef_read.proofs.fit.do_fit.Goals as goal

pub returns : goal.returns
returns c =
    let b : c.is_none.result ≡ not (is_some c.in_ok-bare.bare) = search rules in
    fit_decides c.args.map.now c.args.first.now c.args.more.now c.as_slice.result.now c.as_slice-2.result.now c.in_ok-bare.bare c.requires.alike (subst (AreCellsOf c.args.map.now c.args.first.now.net c.args.first.now.layer) (sym c.as_slice-2.ensures.value) c.in_ok-pieces.ensures.cells) (c.as_slice.ensures.value ∙ c.in_ok-blocks.ensures.same) c.in_ok-bare.ensures.some c.in_ok-bare.ensures.none c.is_none.result b
