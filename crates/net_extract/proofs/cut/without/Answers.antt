use Rattle.std.proofs.Common.{ap, ◌∙◌}
use Rattle.net_extract.specs.Cuts.{left_of_pieces}
use Rattle.net_extract.proofs.Extracting.{if_ok}
use Rattle.net_extract.proofs.cut.without.Goals as goal

pub returns : goal.returns
returns c = if_ok _ _ c.cut_pieces.result (λ ps is. is ∙ ap (λ ss. left_of_pieces ss c.args.pieces.now) (c.as_slice.ensures ∙ c.in_ok-shapes.ensures)) c.cut_pieces.ensures
