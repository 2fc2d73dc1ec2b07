use Rattle.std.proofs.Common.{◌≡◌, take, option_map}
use Rattle.spice_net.specs.Parameters.{value_of}
use Rattle.spice_net.proofs.parameters.value_of.Given as goal

abbrev pub invariant-loop-word : goal.invariant-loop-word
invariant-loop-word l = option_map (λ v. v.now) l.found ≡ value_of l.key (take l.word-index l.words)
