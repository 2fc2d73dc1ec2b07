use Rattle.std.proofs.Common.{◌↔◌, IfOk, IsTrue, subst, sym}
use Rattle.std.specs.List.{All}
use Rattle.std.proofs.lemmas.List.Sorted.{All-permutation}
use Rattle.lef_read.specs.Lookups.{Fits, HasBlock}
use Rattle.lef_read.proofs.Runs.{answer_same}
use Rattle.lef_read.proofs.fit.all_fit.Goals as goal

pub runs_fit-requires : goal.runs_fit-requires
runs_fit-requires c = subst (All HasBlock) (sym c.as_slice.ensures.value) (All-permutation HasBlock c.args.claims.now c.in_ok-sorted.sorted.items c.in_ok-sorted.ensures c.requires)

pub returns : goal.returns
returns c = answer_same (Fits c.args.map.now) c.args.claims.now c.in_ok-sorted.sorted.items c.runs_fit.result c.in_ok-sorted.ensures (subst (λ ys. IfOk c.runs_fit.result (λ b. IsTrue b ↔ All (Fits c.args.map.now) ys)) c.as_slice.ensures.value c.runs_fit.ensures)
