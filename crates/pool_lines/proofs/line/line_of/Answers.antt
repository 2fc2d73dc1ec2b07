use Rattle.pool_lines.proofs.Along.{line_back}
use Rattle.pool_lines.proofs.Texts.{text_back}
use Rattle.trail_pools.specs.Leveled.{levels_of}
use Rattle.pool_lines.proofs.line.line_of.Goals as goal

pub returns-clause-back : goal.returns-clause-back
returns-clause-back c = λ f opened order ok is_order are after.
    line_back f opened order c.args.pools.now c.args.bound c.args.done c.args.state.now c.in_ok-line.line
    c.in_ok-line.ensures ok is_order are after

pub returns-clause-text : goal.returns-clause-text
returns-clause-text c = λ f opened order ok is_order are after.
    text_back c.args.pools.now (levels_of f opened order) c.args.bound c.args.done c.args.state.now c.in_ok-line.line
    c.in_ok-line.ensures
    (line_back f opened order c.args.pools.now c.args.bound c.args.done c.args.state.now c.in_ok-line.line
    c.in_ok-line.ensures ok is_order are after)
