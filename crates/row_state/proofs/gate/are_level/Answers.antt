use Rattle.std.proofs.Common.{rules, ◌≡◌, ◌==◌, sym, ◌∙◌}
use Rattle.std.specs.List.{list_all, zip}
use Rattle.row_state.specs.declared.kind.Kind.{Kind}
use Rattle.row_state.proofs.Level.{level_left}
use Rattle.row_state.proofs.gate.are_level.Goals as goal

pub returns-then-eq : goal.returns-then-eq
returns-then-eq c =
    let same : c.args.state.now.p_left ≡ c.args.state.now.n_left = search rules in
    let gates : c.are_same_gates.result ≡ list_all (λ (pair : Kind × Kind). pair.0.gate.0 == pair.1.gate.0) (zip c.args.kinds.now.p c.args.kinds.now.n) = search rules in
    λ yes. level_left c.args.kinds.now c.args.state.now c.requires.p_fits c.requires.n_fits same (sym gates ∙ yes)
