use Rattle.std.proofs.Common.{◌≡◌, ◌++◌}
use Rattle.std.specs.Prelude.{take}
use Rattle.std.specs.List.{flat_map}
use Rattle.order_log.specs.Text.{lemma_line}
use Rattle.order_log.proofs.write.put_lemmas.Given as goal

abbrev pub invariant-loop-lemma : goal.invariant-loop-lemma
invariant-loop-lemma g l = l.out ≡ l.fn.out ++ flat_map (lemma_line g.L.LemmaText.fields) (take l.lemma-index l.lemmas)
